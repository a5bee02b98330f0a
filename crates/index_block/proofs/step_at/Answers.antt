use native.Mathlib.Omega.{arith}
use Rattle.read_lines.proofs.Parts.{stands, skip_in, row_in, row_end}
use Rattle.index_block.proofs.HitLaws.{at_over, at_bad, at_skip, at_wrong, at_row}
use Rattle.index_block.proofs.step_at.Goals as goal

pub overflow_add-result : goal.overflow_add-result
overflow_add-result c =
    let l = c.before in
    let b = l.before.before.before in
    let t = b.args.text.now in
    let h = stands t b.args.at _ _ l.line_in.ensures c.in-Skip.is in
    let e = skip_in t b.args.at (omega arith) _ h in
    omega arith

pub row_at-requires : goal.row_at-requires
row_at-requires c =
    let l = c.before.before in
    let b = l.before.before.before in
    let t = b.args.text.now in
    let h = stands t b.args.at _ _ l.line_in.ensures c.in-Row.is in
    (row_end t b.args.at (omega arith) _ _ h, (h.fits, (omega arith, b.requires.1.1)))

pub overflow_add-result-in-Ok : goal.overflow_add-result-in-Ok
overflow_add-result-in-Ok c =
    let l = c.before.before.before.before in
    let b = l.before.before.before in
    let t = b.args.text.now in
    let h = stands t b.args.at _ _ l.line_in.ensures c.in-Row.is in
    let e = row_end t b.args.at (omega arith) _ _ h in
    omega arith

pub overflow_add-result-in-Ok-2 : goal.overflow_add-result-in-Ok-2
overflow_add-result-in-Ok-2 c =
    let l = c.before.before.before.before in
    let b = l.before.before.before in
    let t = b.args.text.now in
    let h = stands t b.args.at _ _ l.line_in.ensures c.in-Row.is in
    let e = row_in t b.args.at (omega arith) _ _ h in
    omega arith

pub returns-in-Over : goal.returns-in-Over
returns-in-Over c =
    let l = c.before in
    let b = l.before.before.before in
    let t = b.args.text.now in
    let h = stands t b.args.at _ _ l.line_in.ensures c.in-Over.is in
    at_over t b.args.at _ (omega arith) h

pub returns-in-Bad : goal.returns-in-Bad
returns-in-Bad c =
    let l = c.before in
    let b = l.before.before.before in
    let t = b.args.text.now in
    let h = stands t b.args.at _ _ l.line_in.ensures c.in-Bad.is in
    at_bad t b.args.at _ (omega arith) _ h

pub returns-in-Skip : goal.returns-in-Skip
returns-in-Skip c =
    let l = c.before in
    let b = l.before.before.before in
    let t = b.args.text.now in
    let h = stands t b.args.at _ _ l.line_in.ensures c.in-Skip.is in
    at_skip t b.args.at _ (omega arith) _ h

pub returns-in-Err : goal.returns-in-Err
returns-in-Err c =
    let a = c.args in
    at_wrong a.text.now a.at _ c.requires.0 _ _ (stands a.text.now a.at _ _ c.line_in.ensures c.in-Row.is) _ c.on_row.ensures _ c.in-Err.ensures

pub returns-in-Ok : goal.returns-in-Ok
returns-in-Ok c =
    let a = c.args in
    at_row a.text.now a.at _ c.requires.0 _ _ (stands a.text.now a.at _ _ c.line_in.ensures c.in-Row.is) _ c.on_row.ensures c.in-Ok.ensures
