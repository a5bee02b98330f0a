-- The nodes of a map are those of its blocks.
use mathlib.Core.Path.{◌≡◌, refl, sym, ap, ◌∙◌}
use mathlib.Core.List.{List, map, ◌++◌}
use mathlib.Core.Option.{Option, none}
use Prim.Native.Nat.{ℕ, zero, suc, ◌+◌, ◌*◌, ◌≤◌, ◌<◌}
use native.Mathlib.Nat.{mul-le-mul, le_refl}
use native.Mathlib.Omega.{arith}
use lib.IntN.{ℤ, pos}
use lib.ListN.{length, get_or, take, drop, replicate}
use lib.Seq.{drop-cons, drop-drop}
use Rattle.kit.proofs.AnswerLaws.{pick_yes, pick_no}
use Rattle.mapset.specs.Grid.{layers, rows, columns}
use Rattle.mapset.specs.Areas.{Areas, Present, present?, blocks, first_of}
use Rattle.mapset.specs.declared.Header.{Header}
use Rattle.areas.specs.Lists.{flat, tab}
use Rattle.areas.specs.Valid.{values_in}
use Rattle.ask_nodes.specs.Value.{kind_of, value, worth}
use Rattle.ask_nodes.specs.Nodes.{plain}
use Rattle.ask_nodes.proofs.NodeLaws.{worth_present, worth_absent}
use Rattle.week_tally.specs.Figures.{figures, empty}
use Rattle.week_tally.proofs.FigureLaws.{figures_empty}
use Rattle.week_set.specs.SetFigures.{map_nodes, map_figures}
use Rattle.week_set.specs.Parts.{blocks_nodes, part_nodes}
use Rattle.week_set.proofs.TabLaws.{tab_grid, tab_same, tab_part, flat_replicate, tab_replicate}

-- ---- blocks one after the other, from the block j of those whose exponents start at F
module _ (C F : ℕ) (vs es : List ℤ) where
  blocks_from : (j B : ℕ) → F + j + B ≤ length es
      → flat (tab j B (λ j'. map (λ v. plain v (get_or es (F + j') (pos 0))) (take C (drop (j' * C) vs)))) ≡ blocks_nodes C (drop (j * C) vs) (take B (drop (F + j) es))
  unfolding blocks_nodes
  blocks_from j zero h = refl
  blocks_from j (suc B) h =
      let p : F + j < length es = omega arith in
      let q : j * C + C ≡ suc j * C = omega arith in
      let n : F + suc j ≡ suc (F + j) = omega arith in
      rw (drop-cons es (F + j) (pos 0) p, drop-drop C (j * C) vs, q)
      (ap (map (λ v. plain v (get_or es (F + j) (pos 0))) (take C (drop (j * C) vs)) ++◌)
      (blocks_from (suc j) B (omega arith) ∙ ap (λ (m : ℕ). blocks_nodes C (drop (suc j * C) vs) (take B (drop m es))) n))

-- ---- a map by its blocks
module _ (k : ℕ) (h : Header) (a : Areas) (i : ℕ) where
  abbrev L : ℕ
  L = layers h.grid

  abbrev R : ℕ
  R = rows h.grid

  abbrev C : ℕ
  C = columns h.grid

  abbrev vs : List ℤ
  vs = values_in (kind_of k) a

  abbrev mark : ℕ
  mark = get_or a.marks i 0

  -- the kind's exponents start there
  abbrev F : ℕ
  F = first_of (kind_of k) (blocks h)

  -- block j of the kind
  abbrev block_nodes : ℕ → List (Option ℤ)
  block_nodes j = tab 0 C (λ c. worth (kind_of k) mark (get_or vs (j * C + c) (pos 0)) (get_or a.exponents (F + j) (pos 0)))

  by_blocks : map_nodes k h a i ≡ flat (tab (i * (L * R)) (L * R) block_nodes)
  unfolding map_nodes value
  by_blocks = tab_grid (i * L) 0 L R block_nodes ∙ ap (λ (n : ℕ). flat (tab n (L * R) block_nodes)) (omega arith)

  -- ---- an absent map
  absent_nodes : ¬ Present (kind_of k) mark → map_nodes k h a i ≡ replicate (L * R * C) none
  absent_nodes n =
      by_blocks
      ∙ ap flat (tab_same (i * (L * R)) (L * R) block_nodes (λ _. replicate C none)
      (λ j p q. (λ x. tab 0 C (λ c. sym (worth_absent (kind_of k) mark (get_or vs (j * C + c) (pos 0)) (get_or a.exponents (F + j) (pos 0)) n) x)) ∙ tab_replicate 0 C none))
      ∙ flat_replicate (i * (L * R)) (L * R) C none

  pub absent_figures : ¬ Present (kind_of k) mark → map_figures k h a i ≡ empty (L * R * C)
  absent_figures n = ap figures (absent_nodes n) ∙ figures_empty (L * R * C)

  -- ---- a map that is there
  present_nodes : Present (kind_of k) mark → (i * (L * R) + L * R) * C ≤ length vs → F + i * (L * R) + L * R ≤ length a.exponents
      → map_nodes k h a i ≡ blocks_nodes C (drop (i * (L * R) * C) vs) (take (L * R) (drop (F + i * (L * R)) a.exponents))
  present_nodes p v e =
      by_blocks
      ∙ ap flat (tab_same (i * (L * R)) (L * R) block_nodes (λ j. map (λ x. plain x (get_or a.exponents (F + j) (pos 0))) (take C (drop (j * C) vs)))
      (λ j f t. (λ x. tab 0 C (λ c. sym (worth_present (kind_of k) mark (get_or vs (j * C + c) (pos 0)) (get_or a.exponents (F + j) (pos 0)) p) x))
      ∙ tab_part (λ x. plain x (get_or a.exponents (F + j) (pos 0))) vs (pos 0) (j * C) C (let g : suc j * C ≤ (i * (L * R) + L * R) * C = mul-le-mul t (le_refl C) in omega arith)))
      ∙ blocks_from C F vs a.exponents (i * (L * R)) (L * R) e

  -- ---- what the code looks at
  pub map_part : (Present (kind_of k) mark → (i * (L * R) + L * R) * C ≤ length vs) → F + i * (L * R) + L * R ≤ length a.exponents
      → part_nodes k i (L * R) C mark vs (drop F a.exponents) ≡ map_nodes k h a i
  unfolding part_nodes
  map_part v e = by (present? (kind_of k) mark)
    where
      at : i * (L * R) * C ≡ i * (L * R * C)
      at = omega arith

      by : Dec (Present (kind_of k) mark) → part_nodes k i (L * R) C mark vs (drop F a.exponents) ≡ map_nodes k h a i
      by (yes p) = pick_yes (present? (kind_of k) mark) _ _ p ∙ (λ x. blocks_nodes C (drop (sym at x) vs) (take (L * R) (drop-drop (i * (L * R)) F a.exponents x))) ∙ sym (present_nodes p (v p) e)
      by (no n) = pick_no (present? (kind_of k) mark) _ _ n ∙ sym (absent_nodes n)
