-- What the parts of a node's value answer, and where they look.
use Rattle.std.specs.Prelude.{List, ℕ, zero, suc, ◌*◌, ◌≤◌, ◌<◌, ℤ, pos, negsuc, nat_abs, length, get_or, Option as Maybe, Some, None}
use Rattle.std.proofs.Math.Option.{Option, none, some}
use Rattle.kit.specs.Answer.{pick}
use Rattle.mapset.specs.Areas.{Present}
use Rattle.ask_nodes.specs.Value.{thousandths, is_value?, kind_of, block, number_at, exponent_at}
use Rattle.ask_nodes.specs.declared.Weighed.{Weighed}
use Rattle.ask_nodes.specs.declared.Shape.{Shape}

-- 10 ^ (k + 3) for k from -3 to 0
abbrev pub power_of : ℤ → Maybe ℤ
power_of (pos zero) = Some (pos 1000)
power_of (pos (suc k)) = None
power_of (negsuc zero) = Some (pos 100)
power_of (negsuc (suc zero)) = Some (pos 10)
power_of (negsuc (suc (suc zero))) = Some (pos 1)
power_of (negsuc (suc (suc (suc k)))) = None

-- a number under an exponent, of a map that is there
unfoldable pub plain : ℤ → ℤ → Option ℤ
plain v k = pick (is_value? v k) (some (thousandths v k)) none

-- a node whose number, exponent and mark stand in the areas
pub record Reached (values exponents : List ℤ) (marks : List ℕ) (s : Shape) (n : Weighed) : Type 0 where
  pub mark : n.map < length marks
  pub exponent : exponent_at s n < length exponents
  pub number : Present (kind_of s.kind) (get_or marks n.map 0) → number_at s n < length values
  pub block : block s n < 2_000_000
  pub column : n.column < s.columns
  pub columns : s.columns ≤ 721
  pub rows : 1 ≤ s.rows
  pub layer_blocks : s.layers * s.rows ≤ 2_000_000
  pub blocks : s.maps * (s.layers * s.rows) ≤ 2_000_000
  pub kind : s.kind < 3

abbrev pub Small : Option ℤ → Type 0
Small none = Unit {0}
Small (some v) = nat_abs v ≤ 99_999_000
