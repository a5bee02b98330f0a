-- The code's names of what a record holds, in the words of the header's records.
use Rattle.mapset.specs.Header.{Content, count, tenths, epoch, axis, program, mapping, observables, system}
use Rattle.mapset.specs.Judged.{line}
use Rattle.head_said.specs.declared.content.Numbers.{Numbers}
use Rattle.head_said.specs.declared.content.Numbers.TheVariants as N
use Rattle.head_said.specs.declared.content.Content.{Content as Holds}
use Rattle.head_said.specs.declared.content.Content.TheVariants as H

abbrev pub numbers_of : Numbers → Content
numbers_of (N.Count low high) = count low high
numbers_of (N.Tenths low high) = tenths low high
numbers_of N.Epoch = epoch
numbers_of (N.Axis l) = axis (line l)

abbrev pub content_of : Holds → Content
content_of (H.Numbers n) = numbers_of n
content_of H.Program = program
content_of H.Mapping = mapping
content_of H.Observables = observables

-- what a record of one number holds
abbrev pub OneNumber : Content → Type 0
OneNumber (count low high) = Unit {0}
OneNumber (tenths low high) = Unit {0}
OneNumber epoch = ⊥
OneNumber (axis l) = ⊥
OneNumber program = ⊥
OneNumber mapping = ⊥
OneNumber observables = ⊥
OneNumber system = ⊥

abbrev pub AnAxis : Content → Type 0
AnAxis (axis l) = Unit {0}
AnAxis (count low high) = ⊥
AnAxis (tenths low high) = ⊥
AnAxis epoch = ⊥
AnAxis program = ⊥
AnAxis mapping = ⊥
AnAxis observables = ⊥
AnAxis system = ⊥

-- records of numbers
abbrev pub OfNumbers : Content → Type 0
OfNumbers (count low high) = Unit {0}
OfNumbers (tenths low high) = Unit {0}
OfNumbers epoch = Unit {0}
OfNumbers (axis l) = Unit {0}
OfNumbers system = Unit {0}
OfNumbers program = ⊥
OfNumbers mapping = ⊥
OfNumbers observables = ⊥
