use Rattle.std.proofs.Common.{List, ℤ, ap, ◌∙◌}
use Rattle.std.proofs.Math.Seq.{paste}
use Rattle.join_lists.specs.Lists.{or_absent}
use Rattle.join_lists.proofs.Copy.{two_copies, or_absent_length}
use Rattle.join_lists.proofs.join_values.Goals as goal

pub returns : goal.returns
returns c =
    let x = c.args in
    let y = or_absent x.late x.n x.b.now in
    let some = c.if-not-some.false in
    rw some (c.put_values-2.ensures ∙ ap (λ (d : List ℤ). paste d x.m y x.n) c.put_values.ensures
    ∙ two_copies (or_absent x.early x.m x.a.now) y x.out.now x.m x.n (or_absent_length x.early x.m x.a.now c.requires.0) (or_absent_length x.late x.n x.b.now c.requires.1) (rw some at c.requires.2))
