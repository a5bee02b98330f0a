use borrow.Author.Rules.{rules}
use mathlib.Core.Path.{◌≡◌, ◌∙◌}
use mir.Syntax.{w32}
use mir.Val.{to_z, of_z}
use Rattle.mapset.proofs.JudgedLaws.{lt_holds, lt_fails, rising, falling, unmoved}
use Rattle.mapset.proofs.axes.toward.Goals as goal

pub returns-then-a-gt0 : goal.returns-then-a-gt0
returns-then-a-gt0 c =
    let s : to_z w32 (of_z w32 c.args.a.step) ≡ c.args.a.step = search rules in
    let f : to_z w32 (of_z w32 c.args.a.first) ≡ c.args.a.first = search rules in
    let l : to_z w32 (of_z w32 c.args.a.last) ≡ c.args.a.last = search rules in
    rw (f, l) (rising c.args.a (lt_holds _ _ (rw s at c.if-a-gt0.true)))

pub returns-then-a-lt0 : goal.returns-then-a-lt0
returns-then-a-lt0 c =
    let s : to_z w32 (of_z w32 c.args.a.step) ≡ c.args.a.step = search rules in
    let f : to_z w32 (of_z w32 c.args.a.first) ≡ c.args.a.first = search rules in
    let l : to_z w32 (of_z w32 c.args.a.last) ≡ c.args.a.last = search rules in
    rw (f, l) (falling c.args.a (lt_holds _ _ (rw s at c.if-a-lt0.true)))

pub returns-else-a-lt0 : goal.returns-else-a-lt0
returns-else-a-lt0 c =
    let s : to_z w32 (of_z w32 c.args.a.step) ≡ c.args.a.step = search rules in
    c.if-a-lt0.false ∙ unmoved c.args.a (lt_fails _ _ (rw s at c.if-a-gt0.false)) (lt_fails _ _ (rw s at c.if-a-lt0.false))
