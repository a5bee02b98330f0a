-- Laws of soundness, as the code that judges it meets them.
use mathlib.Core.Path.{◌≡◌, refl, sym, ap, ◌∙◌}
use mathlib.Core.Bool.{Bool, true, false, not, ◌&&◌}
use mathlib.Core.List.{List, [], ◌∷◌}
use Rattle.std.specs.Prelude.{Result, Ok, Err, is_ok}
use Prim.Native.Nat.{ℕ, suc, ◌+◌, ◌*◌, ◌≤◌, ◌<◌}
use native.Mathlib.Nat.{mul_assoc, mul-le-mul_left}
use native.Mathlib.Omega.{arith}
use native.Mathlib.Numerals.{add-one}
use borrow.Author.Tests.{eqb-true, eqb-false}
use lib.Dec.{eqb}
use lib.ListN.{length, drop, get_or, drop_of_length-le}
use lib.Seq.{drop-cons}
use Rattle.std.specs.List.{list_all}
use Rattle.kit.specs.Answer.{all_dec, ¬_dec, ×_dec}
use Rattle.kit.specs.Range.{within?}
use Rattle.kit.specs.Truth.{truth}
use Rattle.kit.proofs.TruthLaws.{holds, fails, tells, both, truth_same, and_assoc, all_end}
use Rattle.mapset.specs.Grid.{Line, Limits, nodes, layers, rows, columns}
use Rattle.mapset.specs.Areas.{Follows}
use Rattle.mapset.specs.Judged.{judged}
use Rattle.mapset.proofs.JudgedLaws.{fine, rules}
use Rattle.mapset.specs.SoundDecided.{written?, axis?, run?}
use Rattle.mapset.specs.declared.Axis.{Axis}
use Rattle.mapset.specs.declared.Grid.{Grid}
use Rattle.mapset.specs.declared.axes.Misfit.{Misfit}

-- ---- epochs, from an index on, after `before`
module _ (interval last before : ℕ) (es : List ℕ) (i : ℕ) where
  pub run_next : i < length es → Follows interval before (get_or es i 0) → truth (run? interval last before (drop i es)) ≡ truth (run? interval last (get_or es i 0) (drop (i + 1) es))
  run_next h f =
      rw (add-one, drop-cons es i 0 h)
      (truth_same (run? interval last before (get_or es i 0 ∷ drop (suc i) es)) (run? interval last (get_or es i 0) (drop (suc i) es)) (λ r. r.1) (λ r. (f, r)))

  pub run_stop : i < length es → ¬ Follows interval before (get_or es i 0) → truth (run? interval last before (drop i es)) ≡ false
  run_stop h n = rw (drop-cons es i 0 h) (sym (fails (run? interval last before (get_or es i 0 ∷ drop (suc i) es)) (λ r. n r.0)))

  pub run_end : length es ≤ i → truth (run? interval last before (drop i es)) ≡ eqb before last
  run_end h = rw (drop_of_length-le es h) (sym (tells (eqb before last) (run? interval last before []) (eqb-true before last) (eqb-false before last)))

-- ---- an axis that fits
pub fit : (l : Line) (a : Axis) (j : Result (Unit {0}) Misfit) → j ≡ judged l a → is_ok j ≡ truth (axis? l a)
fit l a (Ok u) e = holds (axis? l a) (rules l a (sym e))
fit l a (Err m) e = fails (axis? l a) (λ r. let z = e ∙ fine l a r in cc)

-- ---- room: the blocks and values of a header within its limits are few
pub some_nodes : (a : Axis) → 1 ≤ nodes a
some_nodes a = omega arith

module _ (n : ℕ) (g : Grid) (l : Limits n g) where
  pub few_values : n * (layers g * rows g) * columns g ≤ 2000000
  few_values = rw (← mul_assoc n (layers g) (rows g)) l.3

  pub few_blocks : n * (layers g * rows g) ≤ 2000000
  few_blocks = omega (arith, few_values, mul-le-mul_left (n * (layers g * rows g)) (some_nodes g.longitudes))

-- ---- a text whose length is its field's
pub written : (w : ℕ) (t : List ℕ) {b : Bool} → length t ≡ w → b ≡ truth (all_dec (within? 32 126) t) → b ≡ truth (written? w t)
unfolding written?
written w t l e = e ∙ truth_same (all_dec (within? 32 126) t) (written? w t) (λ a. (l, a)) (λ h. h.1)

-- ---- a test of each of a list
pub not_tells : {P : Type 0} (d : Dec P) → not (truth d) ≡ truth (¬_dec d)
unfolding truth ¬_dec
not_tells (yes p) = refl
not_tells (no n) = refl

pub all_tests : {A : Type 0} {P : A → Type 0} (d : (x : A) → Dec (P x)) (test : A → Bool) → ((x : A) → test x ≡ truth (d x)) → (xs : List A) → list_all test xs ≡ truth (all_dec d xs)
unfolding truth all_dec
all_tests d test e [] = refl
all_tests d test e (x ∷ xs) = both (d x) (all_dec d xs) (e x) (all_tests d test e xs)

-- ---- a loop that looks at each of a list, and tells at the end
and_true : (a : Bool) → (a && true) ≡ a
and_true true = refl
and_true false = refl

module _ {A : Type 0} {P : A → Type 0} (z : A) (d : (x : A) → Dec (P x)) (s : List A) (i : ℕ) where
  abbrev from : ℕ → Bool
  from k = truth (all_dec d (drop k s))

  here_and_on : i < length s → {b : Bool} → b ≡ truth (d (get_or s i z)) → from i ≡ (b && from (i + 1))
  here_and_on h e =
      let x = get_or s i z in
      let r = drop (suc i) s in
      rw (add-one, drop-cons s i z h)
      (sym (both (d x) (all_dec d r) e refl ∙ truth_same (×_dec (d x) (all_dec d r)) (all_dec d (x ∷ r)) (λ a. (a.0, a.1)) (λ a. (a.0, a.1))))

  pub each_next : i < length s → (fits : Bool) {b : Bool} → b ≡ truth (d (get_or s i z)) → (fits && from i) ≡ ((fits && b) && from (i + 1))
  each_next h fits {b} e = ap (λ c. fits && c) (here_and_on h e) ∙ and_assoc fits b (from (i + 1))

  pub each_end : length s ≤ i → (fits : Bool) → (fits && from i) ≡ fits
  each_end h fits = ap (λ c. fits && c) (all_end z d s i h) ∙ and_true fits
