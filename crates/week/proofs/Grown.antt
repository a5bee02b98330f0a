-- The figures of a kind, of areas that are long enough, from the parts that the code hands on.
use mathlib.Core.Path.{◌≡◌, refl, ap, ap₂, ◌∙◌}
use mathlib.Core.List.{List, ◌++◌}
use Prim.Native.Nat.{ℕ, suc, ◌+◌, ◌*◌, ◌≤◌, ◌<◌}
use native.Mathlib.Nat.{mul-le-mul, le_refl}
use native.Mathlib.Omega.{arith}
use lib.IntN.{ℤ}
use lib.ListN.{length, get_or, take, drop, length-drop}
use lib.Seq.{length-take-le, get_or-take}
use Rattle.kit.proofs.AnswerLaws.{pick_no}
use Rattle.kit.proofs.ListLaws.{all_in}
use Rattle.mapset.specs.Grid.{columns}
use Rattle.mapset.specs.Areas.{Areas, Present, nowhere?, blocks, first_of}
use Rattle.mapset.specs.declared.Header.{Header}
use Rattle.mapset.proofs.FirstLaws.{first_within}
use Rattle.layout.specs.Layout.{per_map}
use Rattle.areas.specs.Lists.{flat, tab}
use Rattle.areas.specs.Valid.{values_in}
use Rattle.ask_nodes.specs.Value.{kind_of}
use Rattle.valid.specs.Groups.{kind_need, Long}
use Rattle.valid.proofs.Whole.{kind_holds, few_blocks}
use Rattle.week_tally.specs.Figures.{figures}
use Rattle.week_tally.specs.Rows.{row}
use Rattle.week_set.specs.SetFigures.{map_nodes, map_figures, kind_nodes, kind_rows}
use Rattle.week_set.specs.Parts.{part_nodes, parts_nodes, part_row, parts_rows, KindHolds}
use Rattle.week_set.proofs.PartLaws.{map_part}
use Rattle.week_set.proofs.TabLaws.{tab_same}

module _ (h : Header) (a : Areas) (l : Long h a) (k : ℕ) where
  abbrev n : ℕ
  n = h.times.maps

  abbrev ms : List ℕ
  ms = take n a.marks

  abbrev vs : List ℤ
  vs = values_in (kind_of k) a

  abbrev B : ℕ
  B = per_map h

  abbrev C : ℕ
  C = columns h.grid

  -- the kind's exponents start there
  abbrev F : ℕ
  F = first_of (kind_of k) (blocks h)

  count : length ms ≡ n
  count = length-take-le n a.marks l.marks

  behind : F + n * B ≤ length a.exponents
  behind = omega (arith, first_within (kind_of k) (blocks h), l.lengths.1.1.1)

  -- where a map is there, the area holds all of the kind
  held : (i : ℕ) → i < length ms → Present (kind_of k) (get_or ms i 0) → length ms * (B * C) ≤ length vs
  held i u p =
      let e : kind_need (kind_of k) B C ms ≡ length ms * B * C = pick_no (nowhere? (kind_of k) ms) 0 (length ms * B * C) (λ all. all_in (λ m. ¬ Present (kind_of k) m) ms i 0 u all p) in
      omega (arith, e, (kind_holds h a l (kind_of k) B C refl refl).values)

  pub kind_ready : KindHolds k B C ms vs (drop F a.exponents)
  kind_ready =
      record {
        maps = omega (arith, count, l.maps);
        blocks = few_blocks h a l;
        columns = l.limits.1;
        nodes = omega (arith, ap (λ (m : ℕ). m * (B * C)) count, l.limits.3);
        values = held;
        exponents = omega (arith, ap (λ (m : ℕ). m * B) count, length-drop F a.exponents, behind);
      }

  -- map i as the code looks at it
  one : (i : ℕ) → 0 ≤ i → i < 0 + n → part_nodes k i B C (get_or ms i 0) vs (drop F a.exponents) ≡ map_nodes k h a i
  one i z u =
      let g : get_or ms i 0 ≡ get_or a.marks i 0 = get_or-take n a.marks i 0 (omega arith) in
      let v : suc i * (B * C) ≤ n * (B * C) = let s : suc i ≤ n = omega arith in mul-le-mul s (le_refl (B * C)) in
      let w : suc i * B ≤ n * B = let s : suc i ≤ n = omega arith in mul-le-mul s (le_refl B) in
      ap (λ (m : ℕ). part_nodes k i B C m vs (drop F a.exponents)) g
      ∙ map_part k h a i (λ p. omega (arith, ap (λ (m : ℕ). m * (B * C)) count, held i (omega (arith, count)) (rw g p))) (omega (arith, behind))

  pub kind_parts : parts_nodes k B C ms vs (drop F a.exponents) ≡ kind_nodes k h a
  unfolding kind_nodes
  kind_parts =
      ap (λ (m : ℕ). flat (tab 0 m (λ i. part_nodes k i B C (get_or ms i 0) vs (drop F a.exponents)))) count
      ∙ ap flat (tab_same 0 n (λ i. part_nodes k i B C (get_or ms i 0) vs (drop F a.exponents)) (map_nodes k h a) one)

  pub kind_parts_rows : parts_rows k B C ms vs (drop F a.exponents) ≡ kind_rows k h a
  unfolding parts_rows kind_rows
  kind_parts_rows =
      ap₂ ◌++◌
      (ap (λ (m : ℕ). flat (tab 0 m (part_row k B C ms vs (drop F a.exponents)))) count
      ∙ ap flat (tab_same 0 n (part_row k B C ms vs (drop F a.exponents)) (λ i. row (map_figures k h a i)) (λ i z u. ap (λ ns. row (figures ns)) (one i z u))))
      (ap (λ ns. row (figures ns)) kind_parts)
