use mathlib.Core.Path.{◌≡◌}
use Prim.Native.Nat.{◌+◌}
use borrow.Author.Rules.{rules}
use Rattle.std.proofs.lemmas.Result.{err_from_is_err_and}
use Rattle.std.specs.Prelude.{Option}
use Rattle.reading.specs.declared.Fault.{Fault}
use Rattle.reading.specs.declared.Why.{Why}
use Rattle.reading.specs.Feed.{why}
use Rattle.mapset.specs.declared.Header.{Header}
use Rattle.head.proofs.OpenedLaws.{mapped_ok, mapped_err}
use Rattle.head.proofs.PastLaws.{past_over, past_bad, past_on, past_no}
use Rattle.head.proofs.opening.pass.Goals as goal

pub returns-in-Over : goal.returns-in-Over
returns-in-Over c =
    let a = c.args in
    let o = c.in-Over.ensures in
    rw c.ended_after.ensures (past_over a.text.now a.version a.s.now a.lines.now a.from a.passed o.at o.n o.past c.in-Over.n o.leads.on)

pub returns-in-Bad : goal.returns-in-Bad
returns-in-Bad c =
    let a = c.args in
    let o = c.in-Bad.ensures in
    past_bad a.text.now a.version a.s.now a.lines.now a.from a.passed o.at o.n o.past c.in-Bad.why o.leads

pub returns-in_ok-header-in-Row : goal.returns-in_ok-header-in-Row
returns-in_ok-header-in-Row c =
    let a = c.args in
    let o = c.in-Row.ensures in
    past_on a.text.now a.version a.s.now a.lines.now a.from a.passed o.at o.n o.past _ _ _ _ o.leads c.requires.2 _ _ c.step.result c.step.ensures _
    (mapped_ok {T = Option Header} {E = Fault} {D = Why} _ c.step.result c.map_err.result c.map_err.ensures.cases c.in_ok-header-in-Row.was)

pub returns-in_err-header-in-Row : goal.returns-in_err-header-in-Row
returns-in_err-header-in-Row c =
    let a = c.args in
    let o = c.in-Row.ensures in
    let (f, is, p) = mapped_err {T = Option Header} {E = Fault} {D = Why} _ c.step.result c.map_err.result c.map_err.ensures.cases c.in_err-header-in-Row.was in
    let w : c.in_err-header-in-Row.field-0.0 ≡ why f.number (c.in-Row.n + 1) f.column = search rules in
    let r = err_from_is_err_and c.from_residual.result c.from_residual.ensures.1 in
    rw (r.1, r.2, w) (past_no a.text.now a.version a.s.now a.lines.now a.from a.passed o.at o.n o.past _ _ _ _ o.leads c.requires.2 _ _ c.step.result c.step.ensures f is)
