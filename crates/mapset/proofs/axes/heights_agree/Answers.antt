use borrow.Author.Rules.{rules}
use mathlib.Core.Path.{◌≡◌, ap, ◌∙◌}
use mir.Syntax.{w32}
use mir.Val.{to_z, of_z, SFits}
use lib.IntN.{◌-ℤ◌}
use Rattle.kit.proofs.IntegerLaws.{same_bits}
use Rattle.mapset.proofs.JudgedLaws.{none, multiple_tells, lt_holds, lt_fails, one_height, many_heights, no_heights}
use Rattle.mapset.proofs.axes.heights_agree.Goals as goal

pub returns-then-a-eq0 : goal.returns-then-a-eq0
returns-then-a-eq0 c =
    let s : SFits w32 c.args.a.step = search rules in
    let f : SFits w32 c.args.a.first = search rules in
    let l : SFits w32 c.args.a.last = search rules in
    same_bits w32 c.args.a.first c.args.a.last f l ∙ one_height c.args.a (none c.args.a.step s c.if-a-eq0.true)

pub returns-then-a : goal.returns-then-a
returns-then-a c =
    let a = c.args.a in
    let s : to_z w32 (of_z w32 c.args.a.step) ≡ c.args.a.step = search rules in
    let f : to_z w32 (of_z w32 c.args.a.first) ≡ c.args.a.first = search rules in
    let l : to_z w32 (of_z w32 c.args.a.last) ≡ c.args.a.last = search rules in
    multiple_tells a.step (a.last -ℤ a.first) _ c.is_multiple_of.ensures (rw (l, f) at c.abs_diff.ensures) (rw s at c.unsigned_abs.ensures.value)
    ∙ many_heights a (lt_holds _ _ (rw (f, l) at c.if-a.true))

pub returns-else-a : goal.returns-else-a
returns-else-a c =
    let f : to_z w32 (of_z w32 c.args.a.first) ≡ c.args.a.first = search rules in
    let l : to_z w32 (of_z w32 c.args.a.last) ≡ c.args.a.last = search rules in
    c.if-a.false ∙ no_heights c.args.a (λ e. c.if-a-eq0.false (ap (of_z w32) e)) (lt_fails _ _ (rw (f, l) at c.if-a.false))
