use native.Mathlib.Omega.{arith}
use Rattle.read_lines.proofs.Parts.{stands, skip_in, row_in, row_end, row_fits}
use Rattle.index_fill.proofs.RowsAhead.{over_rows, bad_rows}
use mir.Facts.{to_z-of_z}
use Rattle.index_fill.proofs.HeadLaws.{walk_over, walk_skip, walk_row}
use borrow.Author.Rules.{rules}
use Rattle.index_fill.proofs.walk_at.Goals as goal

pub overflow_add-result : goal.overflow_add-result
overflow_add-result c = let b = c.before.before.before.before in
    let t = b.args.text.now in
    let at = b.args.at in
    let h = stands t at _ _ c.line_in.ensures c.in-Skip.is in
    let e = skip_in t at (omega (arith, b.requires)) _ h in
    omega arith

pub overflow_add-e : goal.overflow_add-e
overflow_add-e c = let b = c.before.before.before.before in
    let t = b.args.text.now in
    let at = b.args.at in
    let h = stands t at _ _ c.line_in.ensures c.in-Row.is in
    let e = row_end t at (omega (arith, b.requires)) _ _ h in
    omega arith

pub slice_bounds-past_row-end : goal.slice_bounds-past_row-end
slice_bounds-past_row-end c = let b = c.before.before.before.before in
    let t = b.args.text.now in
    let at = b.args.at in
    let h = stands t at _ _ c.line_in.ensures c.in-Row.is in
    let e = row_end t at (omega (arith, b.requires)) _ _ h in
    search rules

pub past_row-p-requires : goal.past_row-p-requires
past_row-p-requires c = let b = c.before.before.before.before.before in
    let t = b.args.text.now in
    let at = b.args.at in
    let h = stands t at _ _ c.line_in.ensures c.in-Row.is in
    row_fits t at (omega (arith, b.requires)) _ _ h

pub overflow_add-result-in-Row : goal.overflow_add-result-in-Row
overflow_add-result-in-Row c = let b = c.before.before.before.before.before.before in
    let t = b.args.text.now in
    let at = b.args.at in
    let h = stands t at _ _ c.line_in.ensures c.in-Row.is in
    let e = row_in t at (omega (arith, b.requires)) _ _ h in
    omega arith

pub returns-in-Over : goal.returns-in-Over
returns-in-Over c = let b = c.before.before.before.before in
    let t = b.args.text.now in
    let at = b.args.at in
    let h = stands t at _ _ c.line_in.ensures c.in-Over.is in
    walk_over t at b.requires b.args.aux b.args.exponent (over_rows t at h) _ (to_z-of_z b.ranges.exponent)

pub returns-in-Bad : goal.returns-in-Bad
returns-in-Bad c = let b = c.before.before.before.before in
    let t = b.args.text.now in
    let at = b.args.at in
    let h = stands t at _ _ c.line_in.ensures c.in-Bad.is in
    walk_over t at b.requires b.args.aux b.args.exponent (bad_rows t at _ h) _ (to_z-of_z b.ranges.exponent)

pub returns-in-Skip : goal.returns-in-Skip
returns-in-Skip c = let b = c.before.before.before.before in
    let t = b.args.text.now in
    let at = b.args.at in
    let h = stands t at _ _ c.line_in.ensures c.in-Skip.is in
    walk_skip t at b.requires b.args.aux b.args.exponent _ h _ (to_z-of_z b.ranges.exponent)

pub returns-in-Row : goal.returns-in-Row
returns-in-Row c = let b = c.before.before.before.before.before.before.before in
    let t = b.args.text.now in
    let at = b.args.at in
    let h = stands t at _ _ c.line_in.ensures c.in-Row.is in
    walk_row t at b.requires b.args.aux b.args.exponent _ _ h c.past_row-p.result (rw (to_z-of_z b.ranges.exponent) at c.past_row-p.ensures) _ (search rules)
