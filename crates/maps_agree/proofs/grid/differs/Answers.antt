use Rattle.std.proofs.Common.{rules, ap, w32, of_z}
use mir.Val.{SFits}
use Rattle.maps_agree.proofs.GridLaws.{same_number, first_differs, last_differs, step_differs, none_differs}
use Rattle.maps_agree.proofs.grid.differs.Goals as goal

pub returns-then-first-a : goal.returns-then-first-a
returns-then-first-a c = first_differs _ _ _ _ (λ e. c.if-first-a.true (ap (of_z w32) e))

pub returns-then-last-a : goal.returns-then-last-a
returns-then-last-a c =
    let f : SFits w32 c.args.a.first = search rules in
    last_differs _ _ _ _ (same_number c.ranges.first f c.if-first-a.false) (λ e. c.if-last-a.true (ap (of_z w32) e))

pub returns-then-step-a : goal.returns-then-step-a
returns-then-step-a c =
    let f : SFits w32 c.args.a.first = search rules in
    let l : SFits w32 c.args.a.last = search rules in
    step_differs _ _ _ _ (same_number c.ranges.first f c.if-first-a.false) (same_number c.ranges.last l c.if-last-a.false) (λ e. c.if-step-a.true (ap (of_z w32) e))

pub returns : goal.returns
returns c =
    let f : SFits w32 c.args.a.first = search rules in
    let l : SFits w32 c.args.a.last = search rules in
    let s : SFits w32 c.args.a.step = search rules in
    none_differs _ _ _ _ (same_number c.ranges.first f c.if-first-a.false) (same_number c.ranges.last l c.if-last-a.false) (same_number c.ranges.step s c.if-step-a.false)
