use borrow.Author.Rules.{rules}
use mathlib.Core.Path.{ap}
use mir.Syntax.{w32}
use mir.Val.{of_z, SFits}
use Rattle.mapset.proofs.JudgedLaws.{none, flat, solid}
use Rattle.mapset.proofs.axes.dimension_agrees.Goals as goal

pub returns-then-a-eq0 : goal.returns-then-a-eq0
returns-then-a-eq0 c =
    let s : SFits w32 c.args.a.step = search rules in
    flat c.args.a c.args.dimension (none c.args.a.step s c.if-a-eq0.true)

pub returns-else-a-eq0 : goal.returns-else-a-eq0
returns-else-a-eq0 c = solid c.args.a c.args.dimension (λ e. c.if-a-eq0.false (ap (of_z w32) e))
