-- `week_set::map_tally` meets its contract.
use mathlib.Core.Bool.{not}
use borrow.Author.Rules.{rules}
use mathlib.Core.Path.{◌≡◌, sym, ap, ◌∙◌}
use mathlib.Core.List.{List}
use native.Mathlib.Omega.{arith}
use borrow.Author.Tests.{not-true, not-false}
use Prim.Native.Nat.{ℕ, ◌+◌, ◌*◌, ◌-◌, ◌≤◌}
use lib.IntN.{ℤ}
use lib.ListN.{length, take, drop, length-drop}
use lib.Seq.{take_all, length-take-le}
use Rattle.kit.proofs.AnswerLaws.{pick_yes, pick_no}
use Rattle.kit.proofs.TruthLaws.{truth_true, truth_false}
use Rattle.mapset.specs.Areas.{Present, present?}
use Rattle.ask_nodes.specs.Value.{kind_of}
use Rattle.week_tally.specs.Figures.{empty, figures}
use Rattle.week_tally.proofs.FigureLaws.{figures_empty}
use Rattle.week_set.specs.Parts.{part_nodes, BlocksHold}
use Rattle.week_set.proofs.map_tally.Statement.{statement}
use Rattle.week_set.proofs.map_tally.Tie as tie

-- a map that is there
module _ (c : tie.Else-not-is_present) where
  abbrev s : tie.Start
  s = c.before.before

  abbrev B : ℕ
  B = s.args.blocks

  abbrev C : ℕ
  C = s.args.columns

  abbrev at : ℕ
  at = s.args.map * (B * C)

  abbrev first : ℕ
  first = s.args.map * B

  abbrev vs : List ℤ
  vs = s.args.values.now

  abbrev es : List ℤ
  es = s.args.exponents.now

  is_there : Present (kind_of s.args.kind) s.args.mark
  is_there = truth_true _ (sym c.is_present.ensures ∙ not-false _ (ap not c.if-not-is_present.false))

  inside : at + B * C ≤ length vs
  inside = s.requires.values is_there

  rest : take (length vs - at) (drop at vs) ≡ drop at vs
  rest = take_all (length vs - at) (drop at vs) (omega (arith, length-drop at vs))

  span : first + B - first ≡ B
  span = omega arith

  exponents_length : length (take B (drop first es)) ≡ B
  exponents_length = length-take-le B (drop first es) (omega (arith, length-drop first es, s.requires.exponents))

  holds : BlocksHold C (drop at vs) (take B (drop first es))
  holds =
      let e : length (take B (drop first es)) * C ≡ B * C = ap (λ (n : ℕ). n * C) exponents_length in
      record { values = omega (arith, e, inside, length-drop at vs); nodes = omega (arith, e, s.requires.nodes) }

mul_wide : tie.Need-overflow_mul-wide
mul_wide c = search rules

is-present-requires : tie.Need-is_present-requires
is-present-requires c κs = search rules

empty-requires : tie.Need-empty-requires
empty-requires c κs = search rules

returns : tie.Need-returns-then-not-is_present
unfolding part_nodes
returns c =
    let s = c.before.before.before in
    let n = truth_false _ (sym c.is_present.ensures ∙ not-true _ (ap not c.if-not-is_present.true)) in
    let all_lack : c.empty.result ≡ empty (s.args.blocks * s.args.columns) = c.empty.ensures in
    all_lack ∙ sym (figures_empty (s.args.blocks * s.args.columns)) ∙ ap figures (sym (pick_no (present? (kind_of s.args.kind) s.args.mark) _ _ n))

mul_at : tie.Need-overflow_mul-at
mul_at c = omega (arith, inside c)

mul-first : tie.Need-overflow_mul-first
mul-first c = search rules

add-last : tie.Need-overflow_add-last
add-last c = search rules

mul-blocks-tally : tie.Need-offset_bounds-values-at
mul-blocks-tally c = omega (arith, inside c)

sub-blocks-tally : tie.Need-slice_bounds-blocks_tally-count
sub-blocks-tally c = omega (arith, inside c)

part-blocks-tally-start : tie.Need-slice_bounds-blocks_tally-start
part-blocks-tally-start c = let h = inside c in search rules

part-blocks-tally-end : tie.Need-slice_bounds-blocks_tally-end
part-blocks-tally-end c = search rules

mul-blocks-tally-2 : tie.Need-offset_bounds-exponents-first
mul-blocks-tally-2 c = search rules

sub-blocks-tally-2 : tie.Need-slice_bounds-blocks_tally-count-2
sub-blocks-tally-2 c = search rules

part-blocks-tally-start-2 : tie.Need-slice_bounds-blocks_tally-start-2
part-blocks-tally-start-2 c = search rules

part-blocks-tally-end-2 : tie.Need-slice_bounds-blocks_tally-end-2
part-blocks-tally-end-2 c = search rules

blocks-tally-requires : tie.Need-blocks_tally-requires
blocks-tally-requires c κs = let d = c.before.before in rw (rest d, span d) (holds d)

returns-2 : tie.Need-returns
unfolding part_nodes
returns-2 c =
    let d = c.before.before.before in
    (rw (rest d, span d) at c.blocks_tally.ensures) ∙ ap figures (sym (pick_yes (present? (kind_of (s d).args.kind) (s d).args.mark) _ _ (is_there d)))

pub map_tally_spec : {M : Type 1} → statement M
map_tally_spec = tie.close (tie.spec mul_wide is-present-requires empty-requires returns mul_at mul-first add-last mul-blocks-tally sub-blocks-tally part-blocks-tally-start part-blocks-tally-end mul-blocks-tally-2 sub-blocks-tally-2 part-blocks-tally-start-2 part-blocks-tally-end-2 blocks-tally-requires returns-2)
