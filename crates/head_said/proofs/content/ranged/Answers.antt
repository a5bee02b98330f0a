use mathlib.Core.Path.{◌≡◌, sym, ap, ◌∙◌}
use mir.Facts.{to_z-of_z}
use Prim.Native.Nat.{ℕ}
use lib.IntN.{nat_abs}
use Rattle.kit.specs.Answer.{ok}
use Rattle.kit.specs.Range.{natural?}
use Rattle.kit.proofs.AnswerLaws.{need_yes, need_no}
use Rattle.kit.proofs.TruthLaws.{truth_true, truth_false}
use Rattle.mapset.specs.Header.{number}
use Rattle.head_said.specs.Records.{in_range}
use Rattle.head_said.proofs.content.ranged.Goals as goal

pub returns-then-not-natural : goal.returns-then-not-natural
unfolding in_range
returns-then-not-natural c =
    let j = rw (to_z-of_z c.ranges.z) at c.natural.ensures in
    sym (need_no (natural? _ _ _) _ _ (truth_false _ (sym j ∙ c.if-not-natural.true)))

pub returns : goal.returns
unfolding in_range
returns c =
    let j = rw (to_z-of_z c.ranges.z) at c.natural.ensures in
    let n : c.unsigned.result ≡ nat_abs c.args.z = rw (to_z-of_z c.ranges.z) at c.unsigned.ensures in
    ap (λ (m : ℕ). ok (number m)) n ∙ sym (need_yes (natural? _ _ _) _ _ (truth_true _ (sym j ∙ c.if-not-natural.false)))
