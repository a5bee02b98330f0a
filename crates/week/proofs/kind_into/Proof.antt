-- `week::kind_into` meets its contract.
use borrow.Author.Rules.{rules}
use mathlib.Core.Path.{◌≡◌, sym, ap, ◌∙◌}
use mathlib.Core.List.{List}
use native.Mathlib.Omega.{arith}
use native.Mathlib.Nat.{mul-le-mul, le_refl}
use Prim.Native.Nat.{ℕ, suc, ◌+◌, ◌*◌, ◌-◌, ◌≤◌}
use lib.IntN.{ℤ}
use lib.ListN.{length, take, drop, length-drop}
use lib.Seq.{sets, take_all, length-take-le}
use Rattle.mapset.specs.Grid.{columns}
use Rattle.mapset.specs.Areas.{blocks, first_of}
use Rattle.mapset.proofs.FirstLaws.{first_within}
use Rattle.layout.specs.Layout.{per_map}
use Rattle.ask_nodes.specs.Value.{kind_of}
use Rattle.week_tally.specs.Figures.{figures, joined}
use Rattle.week_tally.specs.declared.Tally.{Tally}
use Rattle.week_set.specs.Parts.{parts_nodes, parts_rows, KindHolds}
use Rattle.week_set.proofs.LoopLaws.{parts_ready}
use Rattle.week.specs.Takes.{taken, stored}
use Rattle.week.proofs.kind_into.Statement.{statement}
use Rattle.week.proofs.kind_into.Tie as tie

-- the exponents from the kind's first on, and blocks, columns and that first as the calls told them
module _ (k B C F : ℕ) (ms : List ℕ) (vs es : List ℤ) where
  rest : take (length es - F) (drop F es) ≡ drop F es
  rest = take_all (length es - F) (drop F es) (omega (arith, length-drop F es))

  hold : {B' C' F' : ℕ} → B' ≡ B → C' ≡ C → F' ≡ F → KindHolds k B C ms vs (drop F es) → KindHolds k B' C' ms vs (take (length es - F') (drop F' es))
  hold p q f h = rw (p, q, f, rest) h

  figure : {B' C' F' : ℕ} {r : Tally} → B' ≡ B → C' ≡ C → F' ≡ F → r ≡ figures (parts_nodes k B' C' ms vs (take (length es - F') (drop F' es))) → r ≡ figures (parts_nodes k B C ms vs (drop F es))
  figure p q f e = rw (p, q, f, rest) at e

  row : (at : ℕ) (l : List ℤ) {B' C' F' : ℕ} {r : List ℤ} → B' ≡ B → C' ≡ C → F' ≡ F → r ≡ sets l at (parts_rows k B' C' ms vs (take (length es - F') (drop F' es))) → r ≡ sets l at (parts_rows k B C ms vs (drop F es))
  row at l p q f e = rw (p, q, f, rest) at e

module _ (c : tie.After-nodes-columns) where
  abbrev s : tie.Start
  s = c.before.before.before.before.before.before

  abbrev es : List ℤ
  es = s.args.exponents.now

  abbrev all : ℕ
  all = blocks s.args.header

  few : all ≤ 300 * (64 * 361)
  few = mul-le-mul s.requires.maps (mul-le-mul s.requires.limits.2 s.requires.limits.0)

  all_is : s.args.header.times.maps * c.per_map-blocks.result ≡ all
  all_is = ap (λ (b : ℕ). s.args.header.times.maps * b) c.per_map-blocks.ensures

  -- the kind's rows
  abbrev each : ℕ
  each = 5 * (s.args.header.times.maps + 1)

  room : s.args.kind * each + each ≤ length s.args.rows.now
  room = let k : suc s.args.kind * each ≤ 3 * each = mul-le-mul s.requires.kind (le_refl each) in omega (arith, s.requires.rows, k)

  marks_length : length (take s.args.header.times.maps s.args.marks.now) ≡ s.args.header.times.maps
  marks_length = length-take-le _ _ s.requires.marks

-- the kind's exponents
module _ (f : tie.After-blocks_before-first) where
  abbrev n : tie.After-nodes-columns
  n = f.before.before

  first_is : f.blocks_before-first.result ≡ first_of (kind_of (s n).args.kind) (all n)
  first_is = f.blocks_before-first.ensures ∙ (λ i. first_of (f.kind_of.ensures i) (all_is n i))

  low : f.blocks_before-first.result ≤ 3 * all n
  low = omega (arith, first_is, first_within (kind_of (s n).args.kind) (all n))

  inside : f.blocks_before-first.result ≤ length (es n)
  inside = omega (arith, low, (s n).requires.exponents)

told : (c : tie.After-kind_rows-u) → let m = n c.before.before.before in
    c.kind_rows-u.result ≡ figures (parts_nodes (s m).args.kind (per_map (s m).args.header) (columns (s m).args.header.grid) (take (s m).args.header.times.maps (s m).args.marks.now) (s m).args.values.now (drop (first_of (kind_of (s m).args.kind) (all m)) (es m)))
told c =
    let f = c.before.before.before.before in
    let m = n c.before.before.before in
    figure (s m).args.kind (per_map (s m).args.header) (columns (s m).args.header.grid) _ (take (s m).args.header.times.maps (s m).args.marks.now) (s m).args.values.now (es m)
    m.per_map-blocks.ensures m.nodes-columns.ensures (first_is c.before.before.before) c.kind_rows-u.ensures.0

cast-maps : tie.Need-overflow_cast-maps
cast-maps c = search rules

per-map-requires : tie.Need-per_map-blocks-requires
per-map-requires c κs = search rules

nodes-requires : tie.Need-nodes-columns-requires
nodes-requires c κs = search rules

kind-of-requires : tie.Need-kind_of-requires
kind-of-requires c κs = search rules

mul-blocks-before : tie.Need-overflow_mul-maps
mul-blocks-before c = let m = c.before in omega (arith, all_is m, few m)

blocks-before-requires : tie.Need-blocks_before-first-requires
blocks-before-requires c κs = let m = c.before in omega (arith, all_is m, few m)

add_at : tie.Need-overflow_add-at
add_at c = search rules

mul_at : tie.Need-overflow_mul-at
mul_at c = search rules

mul-at-2 : tie.Need-overflow_mul-at-2
mul-at-2 c = let m = n c in let g = (s m).well_formed in omega (arith, room m)

slice-aggregate-kind-rows : tie.Need-slice_bounds-kind_rows-end
slice-aggregate-kind-rows c = sym (marks_length (n c))

mul-kind-rows : tie.Need-offset_bounds-exponents-first
mul-kind-rows c = let f = c.before in omega (arith, low c, few (n c))

sub-kind-rows : tie.Need-slice_bounds-kind_rows-count
sub-kind-rows c = inside c

part-kind-rows-start : tie.Need-slice_bounds-kind_rows-start
part-kind-rows-start c = let h = inside c in search rules

part-kind-rows-end : tie.Need-slice_bounds-kind_rows-end-2
part-kind-rows-end c = search rules

kind-rows-requires : tie.Need-kind_rows-u-requires
kind-rows-requires c κs =
    let f = c.before.before.before in
    let m = n c.before.before in (
      hold (s m).args.kind (per_map (s m).args.header) (columns (s m).args.header.grid) _ (take (s m).args.header.times.maps (s m).args.marks.now) (s m).args.values.now (es m)
          m.per_map-blocks.ensures m.nodes-columns.ensures (first_is c.before.before) (s m).requires.holds,
      omega (arith, room m, marks_length m),
    )

join-requires : tie.Need-join-requires
join-requires c κs =
    let m = n c.before.before.before.before in
    ((s m).requires.ready, rw (told c.before) (parts_ready _ _ _ _ _ _ (s m).requires.holds))

same_length : tie.Need-shape_of-rows
same_length c = search rules

returns : tie.Need-returns
unfolding taken stored
returns c =
    let k = c.before.before in
    let f = k.before.before.before.before in
    let m = n k.before.before.before in (
      c.join.ensures ∙ ap (joined (s m).args.t) (told k),
      row (s m).args.kind (per_map (s m).args.header) (columns (s m).args.header.grid) _ (take (s m).args.header.times.maps (s m).args.marks.now) (s m).args.values.now (es m)
          ((s m).args.kind * each m) (s m).args.rows.now m.per_map-blocks.ensures m.nodes-columns.ensures (first_is k.before.before.before) k.kind_rows-u.ensures.1,
    )

pub kind_into_spec : {M : Type 1} → statement M
kind_into_spec = tie.close (tie.spec cast-maps per-map-requires nodes-requires kind-of-requires mul-blocks-before blocks-before-requires add_at mul_at mul-at-2 slice-aggregate-kind-rows mul-kind-rows sub-kind-rows part-kind-rows-start part-kind-rows-end kind-rows-requires join-requires same_length returns)
