-- An axis is judged fine exactly when the rules of Grid accept it; and what the tests on the way say of those rules.
use mathlib.Core.Path.{◌≡◌, refl, sym, ap, ap₂, ◌∙◌}
use mathlib.Core.Bool.{Bool, true, false, ◌&&◌}
use mathlib.Core.Logic.{◌⊎◌, inl, inr, ⊎_elim}
use Rattle.std.specs.Prelude.{Result, Ok, IsTrue, ◌↔◌}
use Prim.Native.Nat.{ℕ, ◌*◌, ◌%◌, ◌≤◌, ◌<◌}
use native.Mathlib.Nat.{mod-zero, div-zero}
use native.Mathlib.Omega.{arith}
use borrow.Author.Tests.{eqb-true, eqb-false, leb-true, leb-false}
use lib.Dec.{eqb, leb}
use lib.IntN.{ℤ, pos, nat_abs, ◌-ℤ◌}
use lib.Signed.{lt_z, le_z, ◌<ℤ◌, ◌≤ℤ◌}
use mir.Syntax.{w32}
use mir.Val.{of_z, SFits}
use Rattle.kit.specs.Integer.{up, dn, int?, between?}
use Rattle.kit.proofs.Parts.{sub_parts2, abs_parts, eq_parts, one_zero, le_parts, parts_le, from_bits}
use Rattle.kit.proofs.Order.{parts_lt}
use Rattle.kit.proofs.AnswerLaws.{pick_yes, pick_elim}
use Rattle.kit.specs.Truth.{truth}
use Rattle.kit.proofs.TruthLaws.{holds, fails, tells, truth_same, and_true, is_true}
use Rattle.mapset.specs.Grid.{Line, heights, latitudes, longitudes, AxisRules, layers, rows, columns, nodes}
use Rattle.mapset.specs.Judged.{Ends, ends?, toward?, judged}
use Rattle.mapset.specs.Decisions.{end?, step?, multiple?, together?, dimension?, limits?}
use Rattle.mapset.specs.declared.Axis.{Axis}
use Rattle.mapset.specs.declared.Grid.{Grid}
use Rattle.mapset.specs.declared.axes.Misfit.{Misfit}

pub fine : (l : Line) (a : Axis) → AxisRules l a → judged l a ≡ Ok tt
unfolding judged
fine l a r = rw (pick_yes (end? l a.first) _ _ r.first, pick_yes (end? l a.last) _ _ r.last, pick_yes (step? l a.step) _ _ r.step, pick_yes (together? l a) _ _ r.together) refl

-- a judgement that is fine only where the rules hold
abbrev Says : Line → Axis → Result (Unit {0}) Misfit → Type 0
Says l a j = j ≡ Ok tt → AxisRules l a

pub rules : (l : Line) (a : Axis) → judged l a ≡ Ok tt → AxisRules l a
unfolding judged
rules l a =
    pick_elim (Says l a) (end? l a.first)
    (λ p. pick_elim (Says l a) (end? l a.last)
    (λ q. pick_elim (Says l a) (step? l a.step)
    (λ s. pick_elim (Says l a) (together? l a) (λ t e. record { first = p; last = q; step = s; together = t }) (λ n e. cc))
    (λ n e. cc))
    (λ n e. cc))
    (λ n e. cc)

-- ---- numbers, as code tests them
pub le_holds : (x y : ℤ) → le_z x y ≡ true → x ≤ℤ y
le_holds x y e = record { le = rw e tt }

pub le_fails : (x y : ℤ) → le_z x y ≡ false → ¬ (x ≤ℤ y)
le_fails x y e h = rw e at h.le

pub lt_holds : (x y : ℤ) → lt_z x y ≡ true → x <ℤ y
lt_holds x y e = record { lt = rw e tt }

pub lt_fails : (x y : ℤ) → lt_z x y ≡ false → ¬ (x <ℤ y)
lt_fails x y e h = rw e at h.lt

module _ (low high x : ℤ) where
  pub from_low : le_z low x ≡ true → le_z x high ≡ truth (between? low high x)
  from_low u = tells (le_z x high) (between? low high x) (λ e. record { from = le_holds low x u; to = le_holds x high e }) (λ e b. le_fails x high e b.to)

  pub below_low : le_z low x ≡ false → le_z low x ≡ truth (between? low high x)
  below_low u = u ∙ fails (between? low high x) (λ b. le_fails low x u b.from)

pub between_tells : (low high x : ℤ) → (le_z low x && le_z x high) ≡ truth (between? low high x)
between_tells low high x =
    tells (le_z low x && le_z x high) (between? low high x)
    (λ e. let h = and_true (le_z low x) (le_z x high) e in record { from = le_holds low x h.0; to = le_holds x high h.1 })
    (λ e b. let n = ap₂ ◌&&◌ (is_true (le_z low x) b.from.le) (is_true (le_z x high) b.to.le) in cc)

-- no bit is set in 0 alone
pub none : (x : ℤ) → SFits w32 x → of_z w32 x ≡ 0 → x ≡ pos 0
none x f e = from_bits w32 x 0 f e

pub multiple_tells : (d x : ℤ) (r : Bool) {m n : ℕ} → IsTrue r ↔ (m % n ≡ 0) → m ≡ nat_abs x → n ≡ nat_abs d → r ≡ truth (multiple? d x)
unfolding multiple?
multiple_tells d x true t e f = holds (multiple? d x) (rw (e, f) at (t.0 refl))
multiple_tells d x false t e f = fails (multiple? d x) (λ z. let y = t.1 (rw (e, f) z) in cc)

-- ---- an axis' steps
pub still : (d : ℤ) → d ≡ pos 0 → false ≡ truth (step? latitudes d)
still d e = fails (step? latitudes d) (λ s. omega (arith, s.0, ap nat_abs e))

pub stepped : (d : ℤ) → ¬ (d ≡ pos 0) → leb (nat_abs d) 150 ≡ truth (step? latitudes d)
stepped d n =
    let z : ¬ (nat_abs d ≡ 0) = λ e. n (eq_parts d (pos 0) (omega (arith, abs_parts d))) in
    tells (leb (nat_abs d) 150) (step? latitudes d) (λ e. (omega arith, leb-true (nat_abs d) 150 e)) (λ e s. omega (arith, leb-false (nat_abs d) 150 e, s.1))

module _ (a : Axis) where
  -- ---- the direction
  pub rising : pos 0 <ℤ a.step → le_z a.first a.last ≡ truth (toward? a)
  rising s =
      tells (le_z a.first a.last) (toward? a)
      (λ e. inl (s, le_holds a.first a.last e))
      (λ e t. ⊎_elim (λ h. le_fails a.first a.last e h.1) (λ h. omega (arith, parts_lt (pos 0) a.step s, parts_lt a.step (pos 0) h.0)) t)

  pub falling : a.step <ℤ pos 0 → le_z a.last a.first ≡ truth (toward? a)
  falling s =
      tells (le_z a.last a.first) (toward? a)
      (λ e. inr (s, le_holds a.last a.first e))
      (λ e t. ⊎_elim (λ h. omega (arith, parts_lt a.step (pos 0) s, parts_lt (pos 0) a.step h.0)) (λ h. le_fails a.last a.first e h.1) t)

  pub unmoved : ¬ (pos 0 <ℤ a.step) → ¬ (a.step <ℤ pos 0) → false ≡ truth (toward? a)
  unmoved u v = fails (toward? a) (⊎_elim (λ h. u h.0) (λ h. v h.0))

  -- ---- heights
  abbrev span : ℤ
  span = a.last -ℤ a.first

  span_none : nat_abs span ≡ 0 → a.first ≡ a.last
  span_none e = eq_parts a.first a.last (omega (arith, sub_parts2 a.last a.first, abs_parts span))

  -- 0 divides no span above 0
  no_zero_step : a.step ≡ pos 0 → a.first <ℤ a.last → nat_abs span % nat_abs a.step ≡ 0 → ⊥
  no_zero_step e l m =
      let z : nat_abs span ≡ 0 = sym (mod-zero (nat_abs span)) ∙ (rw e at m) in
      let f = span_none z in
      omega (arith, parts_lt a.first a.last l, ap up f, ap dn f)

  pub one_height : a.step ≡ pos 0 → truth (int? a.first a.last) ≡ truth (together? heights a)
  one_height e =
      truth_same (int? a.first a.last) (together? heights a)
      (λ s. inl (e, s))
      (⊎_elim (λ h. h.1) (λ h. absurd (no_zero_step e h.0 h.1)))

  pub many_heights : a.first <ℤ a.last → truth (multiple? a.step span) ≡ truth (together? heights a)
  many_heights l =
      truth_same (multiple? a.step span) (together? heights a)
      (λ m. inr (l, m))
      (⊎_elim (λ h. absurd (omega (arith, parts_lt a.first a.last l, ap up h.1, ap dn h.1))) (λ h. h.1))

  pub no_heights : ¬ (a.step ≡ pos 0) → ¬ (a.first <ℤ a.last) → false ≡ truth (together? heights a)
  no_heights n u = fails (together? heights a) (⊎_elim (λ h. n h.0) (λ h. u h.0))

  -- ---- latitudes
  pub latitudes_toward : Ends a → truth (toward? a) ≡ truth (together? latitudes a)
  latitudes_toward e = truth_same (toward? a) (together? latitudes a) (λ t. (e.0, e.1, t)) (λ h. h.2)

  pub latitudes_loose : ¬ Ends a → false ≡ truth (together? latitudes a)
  latitudes_loose n = fails (together? latitudes a) (λ h. n (h.0, h.1))

  -- ---- longitudes
  pub backward : ¬ (a.first ≤ℤ a.last) → false ≡ truth (together? longitudes a)
  backward n =
      fails (together? longitudes a) (λ h. n (le_parts a.first a.last (omega (arith, parts_le (pos 0) span h.2.from, sub_parts2 a.last a.first))))

  pub too_far : 3600 < nat_abs span → false ≡ truth (together? longitudes a)
  too_far u = fails (together? longitudes a) (λ h. ⊎_elim (λ o. omega (arith, parts_le span (pos 3600) h.2.to, abs_parts span)) (λ o. omega (arith, parts_le (pos 0) span h.2.from, abs_parts span)) (one_zero span))

  pub round_earth : a.first ≤ℤ a.last → nat_abs span ≤ 3600 → truth (ends? a) ≡ truth (together? longitudes a)
  round_earth u s =
      let l = parts_le a.first a.last u in
      let d = sub_parts2 a.last a.first in
      let n = abs_parts span in
      truth_same (ends? a) (together? longitudes a)
      (λ h. (
        h.0,
        h.1,
        record {
          from = le_parts (pos 0) span (⊎_elim (λ o. omega arith) (λ o. omega arith) (one_zero span));
          to = le_parts span (pos 3600) (omega arith);
        },
      ))
      (λ h. (h.0, h.1))

  -- ---- how many
  pub one_node : a.step ≡ pos 0 → 1 ≡ nodes a
  one_node e = rw (e, div-zero (nat_abs span)) refl

  -- ---- the dimension
  pub flat : (d : ℕ) → a.step ≡ pos 0 → eqb d 2 ≡ truth (dimension? d a)
  flat d e =
      tells (eqb d 2) (dimension? d a) (λ s. inl (eqb-true d 2 s, e)) (λ s. ⊎_elim (λ h. eqb-false d 2 s h.0) (λ h. h.1 e))

  pub solid : (d : ℕ) → ¬ (a.step ≡ pos 0) → eqb d 3 ≡ truth (dimension? d a)
  solid d n =
      tells (eqb d 3) (dimension? d a) (λ s. inr (eqb-true d 3 s, n)) (λ s. ⊎_elim (λ h. n h.1) (λ h. eqb-false d 3 s h.0))

-- ---- the limits
module _ (n : ℕ) (g : Grid) where
  pub too_large : (361 < rows g) ⊎ ((721 < columns g) ⊎ (64 < layers g)) → false ≡ truth (limits? n g)
  too_large h = fails (limits? n g) (λ l. ⊎_elim (λ r. omega (arith, l.0)) (⊎_elim (λ c. omega (arith, l.1)) (λ k. omega (arith, l.2))) h)

  pub within_limits : rows g ≤ 361 → columns g ≤ 721 → layers g ≤ 64 → leb (n * layers g * rows g * columns g) 2000000 ≡ truth (limits? n g)
  within_limits r c l =
      tells (leb (n * layers g * rows g * columns g) 2000000) (limits? n g) (λ e. (r, c, l, leb-true _ 2000000 e)) (λ e h. omega (arith, leb-false (n * layers g * rows g * columns g) 2000000 e, h.3))
