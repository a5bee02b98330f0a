-- A node's value is small, and it is what the parts answer.
use mathlib.Core.Path.{◌≡◌, refl, sym, ap, ◌∙◌}
use mathlib.Core.Logic.{⊎_elim}
use mathlib.Core.List.{List}
use mathlib.Core.Option.{Option, none, some}
use Prim.Native.Nat.{ℕ, zero, suc, ◌^◌, ◌≤◌, ◌<◌}
use native.Mathlib.Nat.{mul-le-mul}
use native.Mathlib.Omega.{arith}
use lib.IntN.{ℤ, pos, negsuc, nat_abs, ◌+ℤ◌, ◌*ℤ◌}
use Rattle.kit.proofs.Parts.{parts_le, le_parts, abs_parts, abs_scale, one_zero}
use Rattle.kit.specs.Answer.{pick, ×_dec}
use Rattle.kit.proofs.AnswerLaws.{pick_yes, pick_no, pick_elim}
use Rattle.kit.specs.Integer.{Between}
use Rattle.mapset.specs.Areas.{Present, present?}
use Rattle.mapset.specs.declared.Kind.{Kind}
use Rattle.mapset.specs.declared.Kind.TheVariants.{Tec as tec, Rms as rms, Height as height}
use Rattle.ask_nodes.specs.Value.{IsValue, thousandths, is_value?, worth, kind_of, value}
use Rattle.ask_nodes.specs.Nodes.{power_of, plain, Small}
use Rattle.ask_nodes.specs.Units.{in_node, bare}
use Rattle.ask_nodes.specs.declared.Shape.{Shape}
use Rattle.ask_nodes.specs.declared.Weighed.{Weighed}
use Rattle.ask_nodes.specs.declared.Value.TheVariants as V
use Rattle.std.specs.Prelude.{Option as Maybe, Some, None}

-- ---- powers of ten
some_is : {x y : ℤ} → Some x ≡ Some y → x ≡ y
some_is {x} {y} e = ap value_or_zero e
  where
    value_or_zero : Maybe ℤ → ℤ
    value_or_zero (Some z) = z
    value_or_zero None = pos 0

no_power : (k : ℤ) → power_of k ≡ None → ¬ Between (negsuc 2) (pos 0) k
no_power (pos zero) e b = let z : ◌≡◌ {A = ℕ} 0 1 = cc in omega arith
no_power (pos (suc k)) e b = omega (arith, parts_le (pos (suc k)) (pos 0) b.to)
no_power (negsuc zero) e b = let z : ◌≡◌ {A = ℕ} 0 1 = cc in omega arith
no_power (negsuc (suc zero)) e b = let z : ◌≡◌ {A = ℕ} 0 1 = cc in omega arith
no_power (negsuc (suc (suc zero))) e b = let z : ◌≡◌ {A = ℕ} 0 1 = cc in omega arith
no_power (negsuc (suc (suc (suc k)))) e b = omega (arith, parts_le (negsuc 2) (negsuc (suc (suc (suc k)))) b.from)

-- the exponents that have one, and which
record Powered (k p : ℤ) : Type 0 where
  exponent : Between (negsuc 2) (pos 0) k
  small : nat_abs p ≤ 1000
  power : p ≡ pos (10 ^ nat_abs (k +ℤ pos 3))

powered : (k p : ℤ) → power_of k ≡ Some p → Powered k p
powered (pos zero) p e = record { exponent = record { from = le_parts (negsuc 2) (pos 0) (omega arith); to = le_parts (pos 0) (pos 0) (omega arith) }; small = rw (← some_is e) (omega arith); power = sym (some_is e) }
powered (pos (suc k)) p e = let z : ◌≡◌ {A = ℕ} 0 1 = cc in absurd (omega arith)
powered (negsuc zero) p e = record { exponent = record { from = le_parts (negsuc 2) (negsuc 0) (omega arith); to = le_parts (negsuc 0) (pos 0) (omega arith) }; small = rw (← some_is e) (omega arith); power = sym (some_is e) }
powered (negsuc (suc zero)) p e = record { exponent = record { from = le_parts (negsuc 2) (negsuc 1) (omega arith); to = le_parts (negsuc 1) (pos 0) (omega arith) }; small = rw (← some_is e) (omega arith); power = sym (some_is e) }
powered (negsuc (suc (suc zero))) p e = record { exponent = record { from = le_parts (negsuc 2) (negsuc 2) (omega arith); to = le_parts (negsuc 2) (pos 0) (omega arith) }; small = rw (← some_is e) (omega arith); power = sym (some_is e) }
powered (negsuc (suc (suc (suc k)))) p e = let z : ◌≡◌ {A = ℕ} 0 1 = cc in absurd (omega arith)

-- each of them has one
has_power : (k : ℤ) → Between (negsuc 2) (pos 0) k → (p : ℤ) × (power_of k ≡ Some p)
has_power (pos zero) b = (pos 1000, refl)
has_power (pos (suc k)) b = absurd (no_power (pos (suc k)) refl b)
has_power (negsuc zero) b = (pos 100, refl)
has_power (negsuc (suc zero)) b = (pos 10, refl)
has_power (negsuc (suc (suc zero))) b = (pos 1, refl)
has_power (negsuc (suc (suc (suc k)))) b = absurd (no_power (negsuc (suc (suc (suc k)))) refl b)

-- ---- a number under an exponent
pub plain_none : (v k : ℤ) → ¬ IsValue v k → none ≡ plain v k
unfolding plain
plain_none v k n = sym (pick_no (is_value? v k) _ _ n)

pub plain_no_power : (v k : ℤ) → power_of k ≡ None → none ≡ plain v k
plain_no_power v k e = plain_none v k (λ i. no_power k e i.exponent)

pub plain_some : (v k p : ℤ) → Between (negsuc 9998) (pos 99999) v → ¬ (v ≡ pos 9999) → power_of k ≡ Some p → some (p *ℤ v) ≡ plain v k
unfolding plain
plain_some v k p b g e =
    let q = powered k p e in
    ap (λ (w : ℤ). some (w *ℤ v)) q.power ∙ sym (pick_yes (is_value? v k) _ _ (record { number = b; given = g; exponent = q.exponent }))

number_size : (v : ℤ) → Between (negsuc 9998) (pos 99999) v → nat_abs v ≤ 99999
number_size v b =
    let l = parts_le (negsuc 9998) v b.from in
    let h = parts_le v (pos 99999) b.to in
    ⊎_elim (λ o. omega (arith, abs_parts v)) (λ o. omega (arith, abs_parts v)) (one_zero v)

pub power_size : (v k p : ℤ) → Between (negsuc 9998) (pos 99999) v → power_of k ≡ Some p → nat_abs (p *ℤ v) ≤ 99_999_000
power_size v k p b e =
    let q = powered k p e in
    rw q.power (omega (arith, abs_scale (10 ^ nat_abs (k +ℤ pos 3)) v, mul-le-mul (rw q.power at q.small) (number_size v b)))

-- ---- a node of a map with a mark
pub worth_absent : (kind : Kind) (mark : ℕ) (v k : ℤ) → ¬ Present kind mark → none ≡ worth kind mark v k
unfolding worth
worth_absent kind mark v k n = sym (pick_no (×_dec (present? kind mark) (is_value? v k)) _ _ (λ h. n h.0))

pub worth_present : (kind : Kind) (mark : ℕ) (v k : ℤ) → Present kind mark → plain v k ≡ worth kind mark v k
unfolding worth plain
worth_present kind mark v k p =
    pick_elim (λ (o : Option ℤ). o ≡ pick (×_dec (present? kind mark) (is_value? v k)) (some (thousandths v k)) none) (is_value? v k)
    (λ i. sym (pick_yes (×_dec (present? kind mark) (is_value? v k)) _ _ (p, i)))
    (λ n. sym (pick_no (×_dec (present? kind mark) (is_value? v k)) _ _ (λ h. n h.1)))

small_thousandths : (v k : ℤ) → IsValue v k → nat_abs (thousandths v k) ≤ 99_999_000
small_thousandths v k i =
    let h = has_power k i.exponent in
    rw (← (powered k h.0 h.1).power) (power_size v k h.0 i.number h.1)

pub small_plain : (v k : ℤ) → Small (plain v k)
unfolding plain
small_plain v k = pick_elim Small (is_value? v k) (small_thousandths v k) (λ n. tt)

small_worth : (kind : Kind) (mark : ℕ) (v k : ℤ) → Small (worth kind mark v k)
unfolding worth
small_worth kind mark v k = pick_elim Small (×_dec (present? kind mark) (is_value? v k)) (λ h. small_thousandths v k h.1) (λ n. tt)

pub small_value : (s : Shape) (vs ks : List ℤ) (ms : List ℕ) (n : Weighed) → Small (value s vs ks ms n)
unfolding value
small_value s vs ks ms n = small_worth _ _ _ _

-- ---- units
pub other_kind : (k : ℕ) → ¬ (k ≡ 0) → ¬ (k ≡ 1) → kind_of k ≡ height
other_kind zero m n = absurd (m refl)
other_kind (suc zero) m n = absurd (n refl)
other_kind (suc (suc k)) m n = refl

pub tecu_node : (kind : ℕ) (v : ℤ) → kind < 2 → Some (V.Tecu (record { 0 = v })) ≡ in_node (kind_of kind) (some v)
tecu_node zero v h = refl
tecu_node (suc zero) v h = refl
tecu_node (suc (suc k)) v h = absurd (omega arith)

pub km_node : (kind : ℕ) (v : ℤ) → 2 ≤ kind → Some (V.Km (record { 0 = v })) ≡ in_node (kind_of kind) (some v)
km_node zero v h = absurd (omega arith)
km_node (suc zero) v h = absurd (omega arith)
km_node (suc (suc k)) v h = refl

-- ---- the unit taken off
pub bare_node : (k : Kind) (o : Option ℤ) → bare (in_node k o) ≡ o
bare_node k none = refl
bare_node tec (some v) = refl
bare_node rms (some v) = refl
bare_node height (some v) = refl
