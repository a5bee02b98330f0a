use mathlib.Core.Path.{◌≡◌, refl, sym, ap, ◌∙◌}
use lib.IntN.{nat_abs}
use mir.Facts.{to_z-of_z}
use Rattle.std.proofs.lemmas.Result.{err_from_is_err_and}
use Rattle.kit.proofs.AnswerLaws.{need_yes, need_no}
use Rattle.kit.specs.Answer.{get, same}
use Rattle.kit.specs.Range.{natural?}
use Rattle.kit.proofs.TruthLaws.{truth_true, truth_false}
use Rattle.forms.proofs.Options.{was_some, was_none}
use Rattle.mapset.specs.Decisions.{takes_code?}
use Rattle.reading.specs.Read.{versioned}
use Rattle.labels.specs.Letters.{found}
use Rattle.head_version.proofs.VersionLaws.{type_yes, type_no}
use Rattle.head_version.proofs.judged.Goals as goal

pub returns-then-not-natural : goal.returns-then-not-natural
unfolding versioned
returns-then-not-natural c =
    let j = rw (to_z-of_z c.ranges.version) at c.natural.ensures in
    sym (need_no (natural? _ _ _) _ _ (truth_false _ (sym j ∙ c.if-not-natural.true)))

pub returns-then-kind-ne73 : goal.returns-then-kind-ne73
unfolding versioned
returns-then-kind-ne73 c =
    let j = rw (to_z-of_z c.ranges.version) at c.natural.ensures in
    rw (need_yes (natural? _ _ _) _ _ (truth_true _ (sym j ∙ c.if-not-natural.false)), need_no (same _ _) _ _ (type_no _ (λ e. c.if-kind-ne73.true (c.byte_at-kind.ensures ∙ e)))) refl

pub returns-in_err-code : goal.returns-in_err-code
unfolding versioned get
returns-in_err-code c =
    let j = rw (to_z-of_z c.ranges.version) at c.natural.ensures in
    let n = was_none c.code_place.result _ c.ok_or.result c.ok_or.ensures.value c.in_err-code.was in
    let p = err_from_is_err_and c.from_residual.result c.from_residual.ensures.1 in
    rw (p.1, p.2, n.1, need_yes (natural? _ _ _) _ _ (truth_true _ (sym j ∙ c.if-not-natural.false)), need_yes (same _ _) _ _ (type_yes _ (sym c.byte_at-kind.ensures ∙ c.if-kind-ne73.false)), sym c.code_place.ensures.place ∙ ap found n.0) refl

pub returns-then-not-takes_code : goal.returns-then-not-takes_code
unfolding versioned get
returns-then-not-takes_code c =
    let j = rw (to_z-of_z c.ranges.version) at c.natural.ensures in
    let t : c.unsigned-tenths.result ≡ nat_abs c.args.version = rw (to_z-of_z c.ranges.version) at c.unsigned-tenths.ensures in
    let s = was_some c.code_place.result _ c.ok_or.result c.ok_or.ensures.value c.in_ok-code.was in
    rw (need_yes (natural? _ _ _) _ _ (truth_true _ (sym j ∙ c.if-not-natural.false)), need_yes (same _ _) _ _ (type_yes _ (sym c.byte_at-kind.ensures ∙ c.if-kind-ne73.false)), sym c.code_place.ensures.place ∙ ap found s, ← t, need_no (takes_code? _ _) _ _ (truth_false _ (sym c.takes_code.ensures ∙ c.if-not-takes_code.true))) refl

pub returns : goal.returns
unfolding versioned get
returns c =
    let j = rw (to_z-of_z c.ranges.version) at c.natural.ensures in
    let t : c.unsigned-tenths.result ≡ nat_abs c.args.version = rw (to_z-of_z c.ranges.version) at c.unsigned-tenths.ensures in
    let s = was_some c.code_place.result _ c.ok_or.result c.ok_or.ensures.value c.in_ok-code.was in
    rw (need_yes (natural? _ _ _) _ _ (truth_true _ (sym j ∙ c.if-not-natural.false)), need_yes (same _ _) _ _ (type_yes _ (sym c.byte_at-kind.ensures ∙ c.if-kind-ne73.false)), sym c.code_place.ensures.place ∙ ap found s, ← t, need_yes (takes_code? _ _) _ _ (truth_true _ (sym c.takes_code.ensures ∙ c.if-not-takes_code.false)), c.if-kind-ne73.false) refl
