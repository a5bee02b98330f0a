use mathlib.Core.Path.{sym, ap, ◌∙◌}
use Prim.Native.Nat.{min}
use Rattle.kit.specs.Range.{lesser}
use Rattle.kit.proofs.LesserLaws.{lesser_is}
use Rattle.c_answers.proofs.shortest.Goals as goal

pub returns : goal.returns
returns c =
    let a = c.args in
    c.min-2.ensures ∙ ap (min a.a) c.min.ensures ∙ sym (lesser_is a.a (lesser a.b a.c) ∙ ap (min a.a) (lesser_is a.b a.c))
