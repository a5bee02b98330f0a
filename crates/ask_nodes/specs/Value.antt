-- The value of a node.
use Rattle.std.specs.Prelude.{◌≡◌, List, ℕ, zero, suc, ◌+◌, ◌*◌, ◌^◌, ℤ, pos, negsuc, nat_abs, ◌+ℤ◌, ◌*ℤ◌, get_or}
use Rattle.std.proofs.Math.Option.{Option, none, some}
use Rattle.kit.specs.Answer.{pick, ×_dec, ¬_dec}
use Rattle.kit.specs.Truth.{dec_by}
use Rattle.kit.specs.Integer.{int?, Between, between?}
use Rattle.mapset.specs.Areas.{present?, first_of}
use Rattle.mapset.specs.declared.Kind.{Kind}
use Rattle.mapset.specs.declared.Kind.TheVariants.{Tec as tec, Rms as rms, Height as height}
use Rattle.ask_nodes.specs.declared.Weighed.{Weighed}
use Rattle.ask_nodes.specs.declared.Shape.{Shape}

-- ---- a node's value

-- a number under an exponent is a value: from -9999 to 99999 and not 9999, under -3 to 0
pub record IsValue (v k : ℤ) : Type 0 where
  pub number : Between (negsuc 9998) (pos 99999) v
  pub given : ¬ (v ≡ pos 9999)
  pub exponent : Between (negsuc 2) (pos 0) k

-- v·10^(k+3) thousandths
abbrev pub thousandths : ℤ → ℤ → ℤ
thousandths v k = pos (10 ^ nat_abs (k +ℤ pos 3)) *ℤ v

unfoldable pub is_value? : (v k : ℤ) → Dec (IsValue v k)
unfolding dec_by ×_dec ¬_dec
is_value? v k =
    dec_by (λ h. record { number = h.0; given = h.1.0; exponent = h.1.1 }) (λ i. (i.number, (i.given, i.exponent)))
    (×_dec (between? (negsuc 9998) (pos 99999) v) (×_dec (¬_dec (int? v (pos 9999))) (between? (negsuc 2) (pos 0) k)))

-- the thousandths of a node in a map with a mark, or none
unfoldable pub worth : Kind → ℕ → ℤ → ℤ → Option ℤ
worth kind mark v k = pick (×_dec (present? kind mark) (is_value? v k)) (some (thousandths v k)) none

-- ---- where a node's number, exponent and mark stand

abbrev pub kind_of : ℕ → Kind
kind_of zero = tec
kind_of (suc zero) = rms
kind_of (suc (suc k)) = height

-- values map by map, layer, row, column; exponents per block, the three kinds one after the other
abbrev pub block : Shape → Weighed → ℕ
block s n = (n.map * s.layers + s.layer) * s.rows + n.row

abbrev pub number_at : Shape → Weighed → ℕ
number_at s n = block s n * s.columns + n.column

abbrev pub exponent_at : Shape → Weighed → ℕ
exponent_at s n = first_of (kind_of s.kind) (s.maps * (s.layers * s.rows)) + block s n

unfoldable pub value : Shape → List ℤ → List ℤ → List ℕ → Weighed → Option ℤ
value s values exponents marks n =
    worth (kind_of s.kind) (get_or marks n.map 0) (get_or values (number_at s n) (pos 0)) (get_or exponents (exponent_at s n) (pos 0))

-- a node of a map with a weight
abbrev pub corner : ℕ → ℕ → ℕ → ℕ → Weighed
corner weight map row column = record { weight = weight; map = map; row = row; column = column }

abbrev pub or_zero : Option ℤ → ℤ
or_zero none = pos 0
or_zero (some v) = v
