use mathlib.Core.Path.{ap}
use mathlib.Core.Bool.{not}
use native.Mathlib.Omega.{arith}
use borrow.Author.Tests.{not-true, not-false}
use Rattle.read_lines.proofs.Parts.{stands, row_in, row_end, row_fits}
use Rattle.index_block.proofs.OpenLaws.{from_behind, from_over, from_bad, from_skip, from_other, from_row}
use borrow.Author.Rules.{rules}
use Rattle.index_block.proofs.block_from.Goals as goal

pub returns-then-text-at : goal.returns-then-text-at
returns-then-text-at c =
    let b = c.before.before in
    from_behind b.args.header b.args.d b.args.text.now b.args.at c.if-text-at.true

pub overflow_add-e : goal.overflow_add-e
overflow_add-e c =
    let l = c.before in
    let b = l.before.before.before.before in
    let t = b.args.text.now in
    let h = stands t b.args.at _ _ l.line_in.ensures c.in-Row.is in
    let e = row_end t b.args.at (omega arith) _ _ h in
    omega arith

pub slice_bounds-opens-end : goal.slice_bounds-opens-end
slice_bounds-opens-end c =
    let l = c.before in
    let b = l.before.before.before.before in
    let t = b.args.text.now in
    let h = stands t b.args.at _ _ l.line_in.ensures c.in-Row.is in
    let e = row_end t b.args.at (omega arith) _ _ h in
    search rules

pub opens-requires : goal.opens-requires
opens-requires c =
    let l = c.before.before in
    let b = l.before.before.before.before in
    let t = b.args.text.now in
    let h = stands t b.args.at _ _ l.line_in.ensures c.in-Row.is in
    (row_fits t b.args.at (omega arith) _ _ h, (b.requires.0, b.requires.1.0))

pub returns-then-not-opens : goal.returns-then-not-opens
returns-then-not-opens c =
    let l = c.before.before.before.before in
    let b = l.before.before.before.before in
    let t = b.args.text.now in
    let h = stands t b.args.at _ _ l.line_in.ensures c.in-Row.is in
    from_other b.args.header b.args.d t b.args.at _ _ h c.opens.result c.opens.ensures (not-true _ (ap not c.if-not-opens.true))

pub overflow_add-at : goal.overflow_add-at
overflow_add-at c =
    let l = c.before.before.before.before.before in
    let b = l.before.before in
    let t = b.args.text.now in
    let h = stands t b.args.at _ _ l.line_in.ensures c.in-Row.is in
    let e = row_in t b.args.at (omega arith) _ _ h in
    omega arith

pub values_from-requires : goal.values_from-requires
values_from-requires c =
    let l = c.before.before.before.before.before in
    let b = l.before.before in
    let t = b.args.text.now in
    let h = stands t b.args.at _ _ l.line_in.ensures c.in-Row.is in
    (row_in t b.args.at (omega arith) _ _ h, rw c.nodes-count.ensures b.requires.1.1)

pub returns-in-Over : goal.returns-in-Over
returns-in-Over c =
    let l = c.before in
    let b = l.before.before.before.before in
    let t = b.args.text.now in
    let h = stands t b.args.at _ _ l.line_in.ensures c.in-Over.is in
    from_over b.args.header b.args.d t b.args.at h

pub returns-in-Bad : goal.returns-in-Bad
returns-in-Bad c =
    let l = c.before in
    let b = l.before.before.before.before in
    let t = b.args.text.now in
    let h = stands t b.args.at _ _ l.line_in.ensures c.in-Bad.is in
    from_bad b.args.header b.args.d t b.args.at _ h

pub returns-in-Skip : goal.returns-in-Skip
returns-in-Skip c =
    let l = c.before in
    let b = l.before.before.before.before in
    let t = b.args.text.now in
    let h = stands t b.args.at _ _ l.line_in.ensures c.in-Skip.is in
    from_skip b.args.header b.args.d t b.args.at _ h

pub returns-else-not-opens : goal.returns-else-not-opens
returns-else-not-opens c =
    let l = c.before.before.before.before.before.before in
    let b = l.before.before in
    let t = b.args.text.now in
    let h = stands t b.args.at _ _ l.line_in.ensures c.in-Row.is in
    from_row b.args.header b.args.d t b.args.at _ _ h b.args.column _ c.nodes-count.ensures c.opens.result c.opens.ensures (not-false _ (ap not c.if-not-opens.false)) c.values_from.result c.values_from.ensures
