use native.Mathlib.Omega.{arith}
use Rattle.read_lines.proofs.Parts.{stands, skip_in, row_in, row_end, row_fits}
use Rattle.index_fill.proofs.RowsAhead.{over_rows, bad_rows}
use Rattle.index_fill.proofs.ScanLaws.{turned_over, turned_skip, turned_value, turned_row}
use borrow.Author.Rules.{rules}
use Rattle.index_fill.proofs.step_at.Goals as goal

pub overflow_add-at : goal.overflow_add-at
overflow_add-at c = let b = c.before.before.before.before in
    let t = b.args.text.now in
    let at = b.args.at in
    let h = stands t at _ _ c.line_in.ensures c.in-Skip.is in
    let e = skip_in t at (omega (arith, b.requires.0)) _ h in
    omega arith

pub overflow_add-at-then-values-gt0 : goal.overflow_add-at-then-values-gt0
overflow_add-at-then-values-gt0 c = let b = c.before.before.before.before.before in
    let t = b.args.text.now in
    let at = b.args.at in
    let h = stands t at _ _ c.line_in.ensures c.in-Row.is in
    let e = row_in t at (omega (arith, b.requires.0)) _ _ h in
    omega arith

pub returns-then-values-gt0 : goal.returns-then-values-gt0
returns-then-values-gt0 c = let b = c.before.before.before.before.before.before.before in
    let t = b.args.text.now in
    let at = b.args.at in
    let h = stands t at _ _ c.line_in.ensures c.in-Row.is in
    rw c.passed-then-values-gt0.ensures (turned_value t at b.args.values b.args.s b.args.columns b.requires.0 _ _ h _ c.if-values-gt0.true c.saturating_sub.ensures)

pub overflow_add-e : goal.overflow_add-e
overflow_add-e c = let b = c.before.before.before.before.before in
    let t = b.args.text.now in
    let at = b.args.at in
    let h = stands t at _ _ c.line_in.ensures c.in-Row.is in
    let e = row_end t at (omega (arith, b.requires.0)) _ _ h in
    omega arith

pub slice_bounds-brought_by-end : goal.slice_bounds-brought_by-end
slice_bounds-brought_by-end c = let b = c.before.before.before.before.before in
    let t = b.args.text.now in
    let at = b.args.at in
    let h = stands t at _ _ c.line_in.ensures c.in-Row.is in
    let e = row_end t at (omega (arith, b.requires.0)) _ _ h in
    search rules

pub brought_by-b-requires : goal.brought_by-b-requires
brought_by-b-requires c = let b = c.before.before.before.before.before.before in
    let t = b.args.text.now in
    let at = b.args.at in
    let h = stands t at _ _ c.line_in.ensures c.in-Row.is in
    (row_fits t at (omega (arith, b.requires.0)) _ _ h, b.requires.1)

pub overflow_add-result : goal.overflow_add-result
overflow_add-result c = let b = c.before.before.before.before.before.before.before.before in
    let t = b.args.text.now in
    let at = b.args.at in
    let h = stands t at _ _ c.line_in.ensures c.in-Row.is in
    let e = row_in t at (omega (arith, b.requires.0)) _ _ h in
    omega arith

pub returns-in-Over : goal.returns-in-Over
returns-in-Over c = let b = c.before.before.before.before.before in
    let t = b.args.text.now in
    let at = b.args.at in
    let h = stands t at _ _ c.line_in.ensures c.in-Over.is in
    rw c.passed.ensures (turned_over t at b.args.values b.args.s b.args.columns b.requires.0 (over_rows t at h))

pub returns-in-Bad : goal.returns-in-Bad
returns-in-Bad c = let b = c.before.before.before.before.before in
    let t = b.args.text.now in
    let at = b.args.at in
    let h = stands t at _ _ c.line_in.ensures c.in-Bad.is in
    rw c.passed-in-Bad.ensures (turned_over t at b.args.values b.args.s b.args.columns b.requires.0 (bad_rows t at _ h))

pub returns-in-Skip : goal.returns-in-Skip
returns-in-Skip c = let b = c.before.before.before.before.before in
    let t = b.args.text.now in
    let at = b.args.at in
    let h = stands t at _ _ c.line_in.ensures c.in-Skip.is in
    rw c.passed-in-Skip.ensures (turned_skip t at b.args.values b.args.s b.args.columns b.requires.0 _ h)

pub returns-else-values-gt0 : goal.returns-else-values-gt0
returns-else-values-gt0 c = let b = c.before.before.before.before.before.before.before.before.before in
    let t = b.args.text.now in
    let at = b.args.at in
    let h = stands t at _ _ c.line_in.ensures c.in-Row.is in
    turned_row t at b.args.values b.args.s b.args.columns b.requires.0 _ _ h _ _ _ (omega (arith, c.if-values-gt0.false)) c.due_of.ensures c.brought_by-b.ensures
