-- `sound_header::descriptions_fit` meets its contract.
use mathlib.Core.Path.{◌∙◌}
use mathlib.Core.Logic.{⊎_elim}
use Prim.Native.Nat.{◌*◌}
use Rattle.kit.specs.Answer.{all_dec}
use Rattle.kit.specs.Range.{within?}
use Rattle.kit.specs.Truth.{truth}
use Rattle.kit.proofs.ListLaws.{rest_of}
use Rattle.sound_header.proofs.LineLaws.{too_many, not_whole, looked_at}
use Rattle.sound_header.proofs.descriptions_fit.Goals as goal

pub returns-then-n-gt20 : goal.returns-then-n-gt20
returns-then-n-gt20 c =
    let a = c.args in
    ⊎_elim (λ h. too_many a.n a.lines.now h) (λ h. not_whole a.n a.lines.now h.1) c.then-n-gt20.either

pub returns : goal.returns
returns c =
    let a = c.args in
    looked_at a.n a.lines.now c.if-n-gt20.false c.if-lines-ne1200.false c.all_within.ensures
    (c.all_within-2.ensures ∙ (λ i. truth (all_dec (within? 32 32) (rest_of a.lines.now (60 * a.n) i))))
