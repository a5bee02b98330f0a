-- What is told of a text before areas are lent: what each needs, or why the text is refused.
use Rattle.std.specs.Prelude.{◌≡◌, List, ℕ, Result, Ok, Err}
use Rattle.kit.specs.Answer.{ok, refused}
use Rattle.mapset.specs.MapSet.{MapSet}
use Rattle.reading.specs.declared.Why.{Why}
use Rattle.reading.specs.Read.{read}
use Rattle.areas.specs.Flat.{areas}
use Rattle.read_needs.specs.Needs.{lengths}
use Rattle.read_needs.specs.declared.Elements.{Elements}
use Rattle.read_outcome.specs.Outcome.{at_place, told_reason}
use Rattle.read_outcome.specs.declared.Reason.{Reason}

-- the text t is read as a map set, and its lists have these lengths; or it is refused, with this number, line and column
abbrev pub Measures : List ℕ → Result Elements Reason → Type 0
Measures t (Ok n) = (m : MapSet) × ((read t ≡ ok m) × (n ≡ lengths (areas m)))
Measures t (Err w) = (y : Why) × ((read t ≡ refused y) × (told_reason w ≡ at_place y.number y.line y.column))
