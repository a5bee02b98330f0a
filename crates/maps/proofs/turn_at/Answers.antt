use mathlib.Core.Path.{◌≡◌, sym, ap, subst, ◌∙◌}
use Rattle.std.specs.Prelude.{Err}
use Prim.Native.Nat.{◌+◌}
use borrow.Author.Rules.{rules}
use Rattle.reading.specs.Feed.{why}
use Rattle.reading.specs.declared.Fault.{Fault}
use Rattle.reading.specs.declared.Why.{Why}
use Rattle.maps_bounds.specs.declared.Next.{Next}
use Rattle.maps.specs.Turns.{Turned}
use Rattle.maps.proofs.TurnLaws.{handed, mapped_ok, mapped_err, turn_over, turn_bad, turn_stop, turn_go}
use Rattle.maps.proofs.turn_at.Goals as goal

pub returns-in-Over : goal.returns-in-Over
returns-in-Over c =
    let a = c.args in
    turn_over a.header a.place a.past a.epochs.now a.text.now a.at a.lines _ c.in-Over.ensures

pub returns-in-Bad : goal.returns-in-Bad
returns-in-Bad c =
    let a = c.args in
    turn_bad a.header a.place a.past a.epochs.now a.text.now a.at a.lines _ c.in-Bad.ensures

pub returns-in_ok-x-in-Row : goal.returns-in_ok-x-in-Row
returns-in_ok-x-in-Row c =
    let a = c.args in
    turn_go a.header a.place a.past a.epochs.now a.text.now a.at a.lines _ _ _ _ c.in-Row.ensures _ c.step.ensures _ (mapped_ok {T = Next} {E = Fault} {D = Why} _ c.step.result c.map_err.result c.map_err.ensures.cases c.in_ok-x-in-Row.was) c.values_after.result c.values_after.ensures

pub returns-in_err-x-in-Row : goal.returns-in_err-x-in-Row
returns-in_err-x-in-Row c =
    let a = c.args in
    let (f, is, p) = mapped_err {T = Next} {E = Fault} {D = Why} _ c.step.result c.map_err.result c.map_err.ensures.cases c.in_err-x-in-Row.was in
    let q : c.in_err-x-in-Row.field-0.0 ≡ why f.number (c.in-Row.n + 1) f.column = search rules in
    subst (Turned a.header a.place a.past a.epochs.now a.text.now a.at a.lines) (sym (handed _ c.from_residual.ensures))
    (turn_stop a.header a.place a.past a.epochs.now a.text.now a.at a.lines _ _ _ _ c.in-Row.ensures _ c.step.ensures f is ∙ ap Err (sym q))
