-- The figures of blocks and of maps, one more at a time.
use mathlib.Core.Path.{◌≡◌, sym, ap, ◌∙◌}
use mathlib.Core.List.{List, [], ◌∷◌, map}
use mathlib.Core.Option.{Option, none}
use Prim.Native.Nat.{ℕ, zero, suc, ◌+◌, ◌*◌, ◌-◌, ◌≤◌, ◌<◌}
use native.Mathlib.Numerals.{add-one}
use native.Mathlib.Omega.{arith}
use lib.IntN.{ℤ, pos}
use native.Mathlib.Nat.{mul-le-mul, le_refl}
use lib.ListN.{length, get_or, take, drop, replicate, drop_of_length-le, length-append, length-map, length-drop, length-replicate}
use lib.Seq.{drop-cons, drop-drop, length-take-le}
use Rattle.kit.specs.Answer.{All}
use Rattle.kit.proofs.AnswerLaws.{pick_elim}
use Rattle.kit.proofs.ListLaws.{all_append}
use Rattle.mapset.specs.Areas.{present?}
use Rattle.areas.specs.Lists.{flat, tab}
use Rattle.ask_nodes.specs.Value.{kind_of}
use Rattle.ask_nodes.specs.Nodes.{plain, Small}
use Rattle.week_tally.specs.Figures.{figures, joined, nodes_in, Bounded, Ready}
use Rattle.week_tally.proofs.FigureLaws.{figures_none, figures_append, joined_assoc, none_joined, small_numbers, bounded_figures, nodes_figures}
use Rattle.week_tally.specs.declared.Tally.{Tally}
use Rattle.week_set.specs.Parts.{blocks_nodes, part_nodes, parts_nodes, MapHolds, KindHolds}
use Rattle.week_set.proofs.TabLaws.{length_flat_within, all_flat_tab}

module _ (C : ℕ) (vs es : List ℤ) (t : Tally) (at j : ℕ) where
  pub blocks_next : j < length es
      → joined (joined t (figures (map (λ v. plain v (get_or es j (pos 0))) (take C (drop at vs))))) (figures (blocks_nodes C (drop (at + C) vs) (drop (j + 1) es)))
      ≡ joined t (figures (blocks_nodes C (drop at vs) (drop j es)))
  unfolding blocks_nodes
  blocks_next h =
      rw (add-one, drop-cons es j (pos 0) h, drop-drop C at vs)
      (joined_assoc t (figures (map (λ v. plain v (get_or es j (pos 0))) (take C (drop at vs)))) (figures (blocks_nodes C (drop (at + C) vs) (drop (suc j) es)))
      ∙ ap (joined t) (sym (figures_append (map (λ v. plain v (get_or es j (pos 0))) (take C (drop at vs))) (blocks_nodes C (drop (at + C) vs) (drop (suc j) es)))))

  pub blocks_end : length es ≤ j → joined t (figures (blocks_nodes C (drop at vs) (drop j es))) ≡ t
  unfolding blocks_nodes
  blocks_end h = rw (drop_of_length-le es h, figures_none) (none_joined t)

-- maps from number i on, of n
module _ (n i : ℕ) (g : ℕ → List (Option ℤ)) (t : Tally) where
  pub maps_next : i < n → joined (joined t (figures (g i))) (figures (flat (tab (i + 1) (n - (i + 1)) g))) ≡ joined t (figures (flat (tab i (n - i) g)))
  maps_next h =
      let e : n - i ≡ suc (n - (i + 1)) = omega arith in
      let f : i + 1 ≡ suc i = omega arith in
      rw (e, f) (joined_assoc t (figures (g i)) (figures (flat (tab (suc i) (n - suc i) g))) ∙ ap (joined t) (sym (figures_append (g i) (flat (tab (suc i) (n - suc i) g)))))

  pub maps_end : n ≤ i → joined t (figures (flat (tab i (n - i) g))) ≡ t
  maps_end h = let e : n - i ≡ 0 = omega arith in rw (e, figures_none) (none_joined t)

-- ---- how many nodes, and how large their sum
small_blocks : (C : ℕ) (vs es : List ℤ) → All Small (blocks_nodes C vs es)
unfolding blocks_nodes
small_blocks C vs [] = tt
small_blocks C vs (e ∷ es) = all_append Small (map (λ v. plain v e) (take C vs)) (blocks_nodes C (drop C vs) es) (small_numbers e (take C vs)) (small_blocks C (drop C vs) es)

small_none : (n : ℕ) → All Small (replicate n none)
small_none zero = tt
small_none (suc n) = (tt, small_none n)

small_part : (k i B C m : ℕ) (vs es : List ℤ) → All Small (part_nodes k i B C m vs es)
unfolding part_nodes
small_part k i B C m vs es = pick_elim (All Small) (present? (kind_of k) m) (λ _. small_blocks C (drop (i * (B * C)) vs) (take B (drop (i * B) es))) (λ _. small_none (B * C))

pub part_bounded : (k i B C m : ℕ) (vs es : List ℤ) → Bounded (figures (part_nodes k i B C m vs es))
part_bounded k i B C m vs es = bounded_figures (part_nodes k i B C m vs es) (small_part k i B C m vs es)

length_blocks : (C : ℕ) (vs es : List ℤ) → length es * C ≤ length vs → length (blocks_nodes C vs es) ≡ length es * C
unfolding blocks_nodes
length_blocks C vs [] h = omega arith
length_blocks C vs (e ∷ es) h =
    omega (
      arith,
      length-append (map (λ v. plain v e) (take C vs)) (blocks_nodes C (drop C vs) es),
      length-map (take C vs) (λ v. plain v e),
      length-take-le C vs (omega arith),
      length_blocks C (drop C vs) es (omega (arith, length-drop C vs)),
    )

length_part : (k i B C m : ℕ) (vs es : List ℤ) → MapHolds k i B C m vs es → length (part_nodes k i B C m vs es) ≡ B * C
unfolding part_nodes
length_part k i B C m vs es h =
    pick_elim (λ (ns : List (Option ℤ)). length ns ≡ B * C) (present? (kind_of k) m)
    (λ p. let n = length-take-le B (drop (i * B) es) (omega (arith, length-drop (i * B) es, h.exponents)) in
    let e : length (take B (drop (i * B) es)) * C ≡ B * C = ap (λ (b : ℕ). b * C) n in
    length_blocks C (drop (i * (B * C)) vs) (take B (drop (i * B) es)) (omega (arith, e, length-drop (i * (B * C)) vs, h.values p)) ∙ e)
    (λ _. length-replicate (B * C) none)

pub part_count : (k i B C m : ℕ) (vs es : List ℤ) → MapHolds k i B C m vs es → nodes_in (figures (part_nodes k i B C m vs es)) ≡ B * C
part_count k i B C m vs es h = nodes_figures (part_nodes k i B C m vs es) ∙ length_part k i B C m vs es h

-- a map of a kind
pub kind_map : (k B C : ℕ) (ms : List ℕ) (vs es : List ℤ) (i : ℕ) → KindHolds k B C ms vs es → i < length ms → MapHolds k i B C (get_or ms i 0) vs es
kind_map k B C ms vs es i h l =
    let n : suc i * (B * C) ≤ length ms * (B * C) = mul-le-mul l (le_refl (B * C)) in
    let m : suc i * B ≤ length ms * B = mul-le-mul l (le_refl B) in
    record {
      map = omega (arith, h.maps);
      blocks = h.blocks;
      columns = h.columns;
      nodes = omega (arith, h.nodes);
      values = λ p. omega (arith, h.values i l p);
      exponents = omega (arith, h.exponents);
    }

-- all maps of a kind
pub parts_ready : (k B C : ℕ) (ms : List ℕ) (vs es : List ℤ) → KindHolds k B C ms vs es → Ready (figures (parts_nodes k B C ms vs es))
parts_ready k B C ms vs es h =
    let g : ℕ → List (Option ℤ) = λ i. part_nodes k i B C (get_or ms i 0) vs es in
    let n : length (parts_nodes k B C ms vs es) ≡ length ms * (B * C) = length_flat_within (B * C) 0 (length ms) g (λ j p q. length_part k j B C (get_or ms j 0) vs es (kind_map k B C ms vs es j h (omega arith))) in (
      bounded_figures (parts_nodes k B C ms vs es) (all_flat_tab Small 0 (length ms) g (λ j. small_part k j B C (get_or ms j 0) vs es)),
      omega (arith, nodes_figures (parts_nodes k B C ms vs es), n, h.nodes),
    )
