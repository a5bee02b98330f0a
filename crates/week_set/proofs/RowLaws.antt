-- Rows of five numbers, one more at a time, and how many there are.
use mathlib.Core.Path.{◌≡◌, refl, ◌∙◌}
use mathlib.Core.List.{List, ◌++◌}
use Prim.Native.Nat.{ℕ, suc, ◌+◌, ◌*◌, ◌-◌, ◌≤◌, ◌<◌}
use native.Mathlib.Omega.{arith}
use lib.IntN.{ℤ}
use lib.ListN.{length, length-append}
use lib.Seq.{sets}
use Rattle.mapset.specs.Areas.{Areas}
use Rattle.mapset.specs.declared.Header.{Header}
use Rattle.areas.specs.Lists.{flat, tab}
use Rattle.c_header.proofs.SetLaws.{sets_append}
use Rattle.week_tally.specs.Rows.{row}
use Rattle.week_tally.specs.declared.Tally.{Tally}
use Rattle.week_set.specs.SetFigures.{map_figures, kind_figures, kind_rows, set_rows, rows_need}
use Rattle.week_set.proofs.TabLaws.{length_flat_tab}

-- ---- stored from a place on
module _ (at n i : ℕ) (g : ℕ → Tally) (l : List ℤ) where
  pub rows_next : i < n
      → sets (sets l (at + 5 * i) (row (g i))) (at + 5 * (i + 1)) (flat (tab (i + 1) (n - (i + 1)) (λ j. row (g j)))) ≡ sets l (at + 5 * i) (flat (tab i (n - i) (λ j. row (g j))))
  rows_next h =
      let e : n - i ≡ suc (n - (i + 1)) = omega arith in
      let f : i + 1 ≡ suc i = omega arith in
      let p : at + 5 * suc i ≡ at + 5 * i + 5 = omega arith in
      rw (e, f) (sets_append (row (g i)) (flat (tab (suc i) (n - suc i) (λ j. row (g j)))) l (at + 5 * i) (at + 5 * suc i) p)

  pub rows_end : n ≤ i → sets l (at + 5 * i) (flat (tab i (n - i) (λ j. row (g j)))) ≡ l
  rows_end h = let e : n - i ≡ 0 = omega arith in rw e refl

-- ---- how many
pub rows_length : (n : ℕ) (g : ℕ → Tally) → length (flat (tab 0 n (λ j. row (g j)))) ≡ n * 5
rows_length n g = length_flat_tab 5 0 n (λ j. row (g j)) (λ j. refl)

behind_rows : (n : ℕ) (g : ℕ → Tally) (t : Tally) → length (flat (tab 0 n (λ j. row (g j))) ++ row t) ≡ 5 * (n + 1)
behind_rows n g t = length-append (flat (tab 0 n (λ j. row (g j)))) (row t) ∙ omega (arith, rows_length n g)

module _ (h : Header) (a : Areas) where
  pub kind_rows_length : (k : ℕ) → length (kind_rows k h a) ≡ 5 * (h.times.maps + 1)
  unfolding kind_rows
  kind_rows_length k = behind_rows h.times.maps (λ i. map_figures k h a i) (kind_figures k h a)

  pub set_rows_length : length (set_rows h a) ≡ rows_need h
  unfolding set_rows
  set_rows_length =
      simp length-append (omega (arith, kind_rows_length 0, kind_rows_length 1, kind_rows_length 2))
