use mathlib.Core.Path.{◌≡◌, ◌∙◌, sym, ap}
use native.Mathlib.Omega.{arith}
use Prim.Native.Nat.{◌+◌}
use borrow.Author.Rules.{rules}
use Rattle.std.proofs.lemmas.Result.{err_from_is_err_and}
use Rattle.kit.specs.Answer.{refused}
use Rattle.reading.specs.declared.Fault.{Fault}
use Rattle.reading.specs.declared.Why.{Why}
use Rattle.reading.specs.Feed.{why}
use Rattle.read_blocks.proofs.BlockLaws.{step_over, step_bad, step_skip, step_wrong, step_row, short_at, mapped_ok, mapped_err}
use Rattle.read_lines.proofs.Parts.{stands}
use Rattle.read_blocks.proofs.any_step_at.Goals as goal

pub returns-in-Over : goal.returns-in-Over
returns-in-Over c =
    let a = c.args in
    let h = stands a.text.now a.at _ _ c.line_in.ensures c.in-Over.is in
    step_over a.text.now a.at _ _ (omega arith) h ∙ short_at a.lines (omega arith)

pub returns-in-Bad : goal.returns-in-Bad
returns-in-Bad c =
    let a = c.args in
    let h = stands a.text.now a.at _ _ c.line_in.ensures c.in-Bad.is in
    step_bad a.text.now a.at _ _ (omega arith) _ h ∙ ap refused (sym c.on.ensures)

pub returns-in-Skip : goal.returns-in-Skip
returns-in-Skip c =
    let a = c.args in
    let h = stands a.text.now a.at _ _ c.line_in.ensures c.in-Skip.is in
    step_skip a.text.now a.at _ _ (omega arith) (omega arith) (omega arith) _ h

pub returns-in_err-map_err-in-Row : goal.returns-in_err-map_err-in-Row
returns-in_err-map_err-in-Row c =
    let a = c.args in
    let h = stands a.text.now a.at _ _ c.line_in.ensures c.in-Row.is in
    let r = err_from_is_err_and c.from_residual.result c.from_residual.ensures.1 in
    let (f, is, p) = mapped_err {T = Unit {0}} {E = Fault} {D = Why} _ c.row_at.result c.map_err.result c.map_err.ensures.cases c.in_err-map_err-in-Row.was in
    let q : c.in_err-map_err-in-Row.field-0.0 ≡ why f.number (a.lines + 1) f.column = search rules in
    rw (r.1, r.2, q) (step_wrong a.text.now a.at _ _ (omega arith) (omega arith) (omega arith) _ _ h _ c.on_row-m.ensures f _ c.row_at.ensures is)

pub returns-in_ok-map_err-in-Row : goal.returns-in_ok-map_err-in-Row
returns-in_ok-map_err-in-Row c =
    let a = c.args in
    let h = stands a.text.now a.at _ _ c.line_in.ensures c.in-Row.is in
    let e = mapped_ok {T = Unit {0}} {E = Fault} {D = Why} _ c.row_at.result c.map_err.result c.map_err.ensures.cases c.in_ok-map_err-in-Row.was in
    step_row a.text.now a.at _ _ (omega arith) (omega arith) (omega arith) _ _ h _ c.on_row-m.ensures _ c.row_at.ensures e
