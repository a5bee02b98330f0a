-- A record's columns 1 to 60 as the code hands them on, and what a record says.
use Rattle.std.specs.Prelude.{List, [], ◌∷◌, ℕ, take, ℤ, nat_abs, Option, Result, Ok, Err}
use Rattle.kit.specs.Answer.{Answer, ok, refused, need, bind, amap}
use Rattle.kit.specs.Range.{natural?}
use Rattle.forms.specs.Form as form
use Rattle.forms.specs.Read.{read_field}
use Rattle.forms.specs.Columns.{columns}
use Rattle.mapset.specs.declared.Axis.{Axis}
use Rattle.mapset.specs.declared.axes.Misfit.{Misfit}
use Rattle.mapset.specs.declared.axes.Misfit.TheVariants.{First, Last, Step, Together}
use Rattle.mapset.specs.Header.{Content, count, tenths, epoch, axis, program, mapping, observables, system as a_system, Said, number, along, words, counts}
use Rattle.layout.specs.Records.{F, X}
use Rattle.layout.specs.Labels.{system, items}
use Rattle.reading.specs.declared.Fault.{Fault}
use Rattle.reading.specs.Feed.{fault}
use Rattle.reading.specs.Fields.{number as on_number, scan, fields, blank_to, unless}
use Rattle.reading.specs.Head.{meant}
use Rattle.head_said.specs.declared.Value.{Value}

-- ---- the numbers of a record; ill-formed is 6

abbrev pub told_axis : Result Axis Fault → Answer Fault (ℤ × ℤ × ℤ)
told_axis (Ok a) = ok (a.first, a.last, a.step)
told_axis (Err f) = refused f

-- F8.1,52X
unfoldable pub tenths_in : List ℕ → Answer Fault (ℤ × Unit {0})
tenths_in r = scan 1 (items (tenths 0 0)) (take 60 r)

-- the version record's F8.1,12X
unfoldable pub version_in : List ℕ → Answer Fault (ℤ × Unit {0})
version_in r = scan 1 (F 8 ∷ X 12 ∷ []) (take 60 r)

-- 5X,A1,I6,I6,42X
unfoldable pub system_in : List ℕ → Answer Fault (ℤ × ℤ)
system_in r = amap (λ v. (v.1.0, v.1.1.0)) (fields system r)

-- 2X,3F6.1,40X, whichever axis it is
unfoldable pub axis_in : List ℕ → Answer Fault (ℤ × ℤ × ℤ)
axis_in r = amap (λ v. (v.0, v.1.0, v.1.1.0)) (scan 1 (X 2 ∷ F 6 ∷ F 6 ∷ F 6 ∷ X 40 ∷ []) (take 60 r))

-- ---- what a record says

-- by what it holds
unfoldable pub entry : Content → List ℕ → Answer Fault Said
entry k r = bind (scan 1 (items k) (take 60 r)) (meant k)

-- as the code has it, for records of numbers
abbrev pub says : Content → Value → Said
says (count low high) v = number v.number
says (tenths low high) v = number v.number
says epoch v = number v.second
says (axis l) v = along v.axis
says a_system v = counts v.number v.satellites
says program v = words []
says mapping v = words []
says observables v = words []

abbrev pub told_heard : Content → Result Value Fault → Answer Fault Said
told_heard k (Ok v) = ok (says k v)
told_heard k (Err f) = refused f

-- ---- what the code looks at

-- two counts, and blanks
abbrev pub two_in : Option ℤ → Option ℤ → Option ℕ → Answer Fault (ℤ × ℤ)
two_in x y g = on_number x 7 (λ a. on_number y 13 (λ b. unless g (ok (a, b))))

-- the counts of a system
abbrev pub counts_after : List ℕ → Answer Fault (ℤ × ℤ)
counts_after line = two_in (read_field form.I (columns line 6 6)) (read_field form.I (columns line 12 6)) (blank_to line 18 60)

-- 7 where a number is out of its range
unfoldable pub in_range : ℕ → ℕ → ℤ → Answer Fault Said
in_range low high z = need (natural? low high z) (fault 7 1) (ok (number (nat_abs z)))

unfoldable pub ranged_in : ℕ → ℕ → Answer Fault (ℤ × Unit {0}) → Answer Fault Said
ranged_in low high x = bind x (λ v. in_range low high v.0)

-- an axis as it is judged
abbrev pub judged_as : Result (Unit {0}) Misfit → Axis → Answer Fault Said
judged_as (Err First) a = refused (fault 7 3)
judged_as (Err Last) a = refused (fault 7 9)
judged_as (Err Step) a = refused (fault 7 15)
judged_as (Err Together) a = refused (fault 7 0)
judged_as (Ok u) a = ok (along a)
