-- `valid::there_or` meets its contract.
use mathlib.Core.Path.{◌≡◌, sym, ◌∙◌}
use mathlib.Core.Logic.{inl, inr, ⊎_elim}
use lib.IntN.{ℤ}
use mir.Facts.{to_z-of_z}
use Rattle.kit.specs.Answer.{⊎_dec, all_dec}
use Rattle.kit.specs.Integer.{int?}
use Rattle.kit.specs.Truth.{truth}
use Rattle.kit.proofs.TruthLaws.{truth_true, truth_false, truth_same, holds}
use Rattle.mapset.specs.Areas.{present?}
use Rattle.valid.proofs.there_or.Goals as goal

pub returns-then-present : goal.returns-then-present
returns-then-present c = c.if-present.true ∙ holds (⊎_dec (present? c.args.kind c.args.mark) _) (inl (truth_true _ (sym c.present.ensures ∙ c.if-present.true)))

pub returns-else-present : goal.returns-else-present
returns-else-present c =
    let a = c.args in
    let d = all_dec (λ (x : ℤ). int? x a.v) a.values.now in
    let r : c.all_same.result ≡ truth d = rw (to_z-of_z c.ranges.v) at c.all_same.ensures in
    r ∙ truth_same d (⊎_dec (present? a.kind a.mark) d) (λ p. inr p) (⊎_elim (λ p. absurd (truth_false _ (sym c.present.ensures ∙ c.if-present.false) p)) (λ p. p))
