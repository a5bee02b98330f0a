-- The tests of two headers, told by what they compare.
use mathlib.Core.Path.{◌≡◌}
use Prim.Native.Nat.{ℕ}
use native.Mathlib.Decide.{dec_le}
use Rattle.kit.specs.Answer.{×_dec}
use Rattle.kit.specs.Truth.{truth, dec_by}
use Rattle.kit.proofs.TruthLaws.{truth_same}
use Rattle.mapset.specs.Grid.{Limits}
use Rattle.mapset.specs.Decisions.{limits?}
use Rattle.mapset.specs.declared.Grid.{Grid}
use Rattle.join.specs.Join.{in_limits?}

-- a decision of the parts is one of the whole
pub by_parts : {P Q : Type 0} (f : P → Q) (g : Q → P) (d : Dec P) → truth d ≡ truth (dec_by f g d)
by_parts f g d = truth_same d (dec_by f g d) f g

-- rows, columns and layers are the later set's, which is in its limits
pub limits_told : (m n : ℕ) (g : Grid) → Limits m g → truth (×_dec (dec_le n 300) (limits? n g)) ≡ truth (in_limits? n g)
limits_told m n g l =
    truth_same (×_dec (dec_le n 300) (limits? n g)) (in_limits? n g) (λ h. (h.0, h.1.3)) (λ h. (h.0, (l.0, l.1, l.2, h.1)))
