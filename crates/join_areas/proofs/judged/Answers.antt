use Rattle.std.proofs.Common.{rules, true, ◌≡◌, sym, ◌∙◌}
use Rattle.kit.specs.Truth.{truth}
use Rattle.join.specs.Join.{meet?}
use Rattle.kit.proofs.TruthLaws.{truth_true, truth_false}
use Rattle.join.proofs.IntoExactly.{may_lent, not_valid, not_alike, not_met, too_many, lent_once}
use Rattle.join_areas.proofs.StoreLaws.{maps_of}
use Rattle.join_areas.proofs.judged.Goals as goal

pub returns-then-not-valid : goal.returns-then-not-valid
returns-then-not-valid c = lent_once _ _ (not_valid (λ h. truth_false _ (sym c.valid.ensures ∙ c.if-not-valid.true) h.0))

pub returns-then-not-valid-2 : goal.returns-then-not-valid-2
returns-then-not-valid-2 c = lent_once _ _ (not_valid (λ h. truth_false _ (sym c.valid-2.ensures ∙ c.if-not-valid-2.true) h.1))

pub returns-then-not-alike : goal.returns-then-not-alike
returns-then-not-alike c =
    let p = truth_true _ (sym c.valid.ensures ∙ c.if-not-valid.false) in
    let q = truth_true _ (sym c.valid-2.ensures ∙ c.if-not-valid-2.false) in
    lent_once _ _ (not_alike p q (truth_false _ (sym c.alike.ensures ∙ c.if-not-alike.true)))

pub returns-then-not-meet : goal.returns-then-not-meet
returns-then-not-meet c =
    let p = truth_true _ (sym c.valid.ensures ∙ c.if-not-valid.false) in
    let q = truth_true _ (sym c.valid-2.ensures ∙ c.if-not-valid-2.false) in
    let r = truth_true _ (sym c.alike.ensures ∙ c.if-not-alike.false) in
    lent_once _ _ (not_met p q r (truth_false _ (sym c.meet.ensures ∙ c.if-not-meet.true)))

pub in_limits-requires : goal.in_limits-requires
in_limits-requires c =
    let p = truth_true _ (sym c.valid.ensures ∙ c.if-not-valid.false) in
    let q = truth_true _ (sym c.valid-2.ensures ∙ c.if-not-valid-2.false) in
    let m = maps_of _ p in
    (m.0, m.1, (maps_of _ q).1, q.sound.header.limits)

pub returns-then-not-in_limits : goal.returns-then-not-in_limits
returns-then-not-in_limits c =
    let p = truth_true _ (sym c.valid.ensures ∙ c.if-not-valid.false) in
    let q = truth_true _ (sym c.valid-2.ensures ∙ c.if-not-valid-2.false) in
    let r = truth_true _ (sym c.alike.ensures ∙ c.if-not-alike.false) in
    let passed : truth (meet? c.args.early c.args.late) ≡ true = search rules in
    let m = truth_true _ passed in
    lent_once _ _ (too_many p q r m (truth_false _ (sym c.in_limits.ensures ∙ c.if-not-in_limits.true)))

pub returns : goal.returns
returns c =
    let p = truth_true _ (sym c.valid.ensures ∙ c.if-not-valid.false) in
    let q = truth_true _ (sym c.valid-2.ensures ∙ c.if-not-valid-2.false) in
    let r = truth_true _ (sym c.alike.ensures ∙ c.if-not-alike.false) in
    let m = truth_true _ (sym c.meet.ensures ∙ c.if-not-meet.false) in
    may_lent _ _ p q r m (truth_true _ (sym c.in_limits.ensures ∙ c.if-not-in_limits.false))
