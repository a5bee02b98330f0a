-- What a record of the maps does, as the code has it: `reading`'s step without what is handed back.
use Rattle.std.specs.Prelude.{◌≡◌, Bool, true, false, List, [], ◌∷◌, ℕ, length, drop, Option, Some, None, Result, Ok, Err}
use Rattle.kit.specs.Answer.{ok, refused}
use Rattle.mapset.specs.declared.Header.{Header}
use Rattle.layout.specs.Layout.{Force}
use Rattle.reading.specs.Maps.{Step}
use Rattle.reading.specs.declared.Place.{Place}
use Rattle.reading.specs.declared.Place.TheVariants.{Ended, Between, Early, Inside}
use Rattle.maps_bounds.specs.declared.Past.{Past}
use Rattle.maps_bounds.specs.declared.Next.{Next}
use Rattle.reading.specs.declared.Fault.{Fault}

-- what is in force, with these epochs
abbrev pub force_of : Past → List ℕ → Force
force_of p es = record { exponent = p.exponent; epochs = es; rms = p.rms; height = p.height }

abbrev pub past_of : Force → Past
past_of p = record { exponent = p.exponent; rms = p.rms; height = p.height }

-- the epoch that is to be remembered, if any
abbrev pub first_of : List ℕ → Option ℕ
first_of [] = None
first_of (e ∷ es) = Some e

-- with the epochs es before it
unfoldable pub moved : {q : Place} → List ℕ → Step q → Result Next Fault
moved es (ok x) = Ok (record { to = x.to; past = past_of x.force; due = x.due; epoch = first_of (drop (length es) x.force.epochs) })
moved es (refused f) = Err f

-- whatever the header and the epochs
abbrev pub Always : {q : Place} → Result Next Fault → (Header → List ℕ → Step q) → Type 0
Always r s = (h : Header) (es : List ℕ) → r ≡ moved es (s h es)

abbrev pub ended : Place → Bool
ended Ended = true
ended Between = false
ended Early = false
ended (Inside o) = false
