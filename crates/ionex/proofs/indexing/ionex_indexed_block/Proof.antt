use Rattle.c_index.specs.Crossed as crossed
use Rattle.c_index.proofs.CrossLaws.{same_number, same_bounds, ordered}
use mathlib.Core.Path.{ap, ◌∙◌}
use native.Mathlib.Omega.{arith}
use Prim.Native.Nat.{◌≤◌}
use lib.ListN.{length}
use Rattle.kit.specs.Lists.{front}
use Rattle.c_answers.proofs.OwnLaws.{none, fit}
use borrow.Author.Rules.{rules}
use Rattle.ionex.proofs.indexing.ionex_indexed_block.Statement.{statement}
use Rattle.ionex.proofs.indexing.ionex_indexed_block.Tie as tie

too-short-requires : tie.Need-too_short-short-requires
too-short-requires c κs = search rules

returns : tie.Need-returns-then-short-gt0
returns c = crossed.BlockCrosses.short _ c.too_short-short.ensures (omega (arith, c.if-short-gt0.true))

header-in-requires : tie.Need-header_in-h-requires
header-in-requires c κs = let s = c.before.before.before.before.before.before.before in (fit (length s.args.header.now) (length s.args.texts.now) (length s.args.bounds.now) 2 c.too_short-short.ensures (omega (arith, c.if-short-gt0.false))).header

texts-in-requires : tie.Need-texts_in-x-requires
texts-in-requires c κs = let s = c.before.before.before.before.before.before.before.before in (fit (length s.args.header.now) (length s.args.texts.now) (length s.args.bounds.now) 2 c.too_short-short.ensures (omega (arith, c.if-short-gt0.false))).texts

-- the texts reach to the end of the description
long : (c : tie.After-texts_in-x) → 1324 ≤ length c.args.texts.now
long c = let s = c.before.before.before.before.before.before.before.before.before in (fit (length s.args.header.now) (length s.args.texts.now) (length s.args.bounds.now) 2 c.too_short-short.ensures (omega (arith, c.if-short-gt0.false))).texts

sub-indexed-node : tie.Need-slice_bounds-indexed_node-count
sub-indexed-node c = search rules

part-indexed-node-start : tie.Need-slice_bounds-indexed_node-start
part-indexed-node-start c = omega (arith, long c)

part-indexed-node-end : tie.Need-slice_bounds-indexed_node-end
part-indexed-node-end c = omega (arith, long c)

indexed-node-requires : tie.Need-indexed_node-reply-requires
indexed-node-requires c κs = search rules

put-block-requires : tie.Need-put_block-requires
put-block-requires c κs =
    let s = c.before.before.before.before.before.before.before.before.before.before.before.before in
    let f = fit (length s.args.header.now) (length s.args.texts.now) (length s.args.bounds.now) 2 c.too_short-short.ensures (omega (arith, c.if-short-gt0.false)) in
    (f.result, ordered s.args.text.now c.indexed_node-reply.result c.indexed_node-reply.ensures.inside)

same_length : tie.Need-shape_of-bounds
same_length c = search rules

returns-2 : tie.Need-returns
returns-2 c =
    let s = c.before.before.before.before.before.before.before.before.before.before.before.before.before.before.before in
    let r = c.indexed_node-reply.result in
    let a = rw (c.header_in-h.ensures, c.texts_in-x.ensures) at c.indexed_node-reply.ensures in
    let p = c.put_block.ensures in
    rw (p.0 ∙ same_number s.args.text.now r, p.1 ∙ ap (λ y. front y s.args.bounds.now) (same_bounds s.args.text.now _ r a.inside a.starts)) (crossed.BlockCrosses.answered (none (length s.args.header.now) (length s.args.texts.now) (length s.args.bounds.now) 2 c.too_short-short.ensures (omega (arith, c.if-short-gt0.false))) _ a.replies)

pub ionex_indexed_block_spec : {M : Type 1} → statement M
ionex_indexed_block_spec = tie.close (tie.spec too-short-requires returns header-in-requires texts-in-requires sub-indexed-node part-indexed-node-start part-indexed-node-end indexed-node-requires put-block-requires same_length returns-2)
