use mathlib.Core.Path.{◌≡◌, refl, sym, ap₂, ◌∙◌}
use Prim.Native.Nat.{ℕ}
use lib.IntN.{nat_abs}
use mir.Syntax.{w32}
use mir.Val.{to_z, of_z}
use borrow.Author.Rules.{rules}
use Rattle.std.proofs.lemmas.Result.{err_from_is_err_and}
use Rattle.kit.specs.Answer.{ok, bind}
use Rattle.kit.specs.Range.{natural?}
use Rattle.kit.proofs.AnswerLaws.{need_yes, need_no}
use Rattle.kit.proofs.TruthLaws.{truth_true, truth_false}
use Rattle.mapset.specs.Header.{counts}
use Rattle.head_said.proofs.RecordLaws.{system_says, counted_in}
use Rattle.head_said.proofs.content.hear_system.Goals as goal

pub returns-in_err-stations : goal.returns-in_err-stations
unfolding bind
returns-in_err-stations c =
    let p = err_from_is_err_and c.from_residual.result c.from_residual.ensures.1 in
    rw (p.1, p.2, ← (system_says _), sym c.system_record.ensures, c.in_err-stations.was) refl

pub returns-then-not-natural : goal.returns-then-not-natural
unfolding counted_in bind
returns-then-not-natural c =
    let x : to_z w32 (of_z w32 c.in_ok-stations.stations) ≡ c.in_ok-stations.stations = search rules in
    let j = rw x at c.natural.ensures in
    rw (← (system_says _), sym c.system_record.ensures, c.in_ok-stations.was)
    (sym (need_no (natural? _ _ _) _ _ (truth_false _ (sym j ∙ c.if-not-natural.true))))

pub returns-then-not-natural-2 : goal.returns-then-not-natural-2
unfolding counted_in bind
returns-then-not-natural-2 c =
    let x : to_z w32 (of_z w32 c.in_ok-stations.stations) ≡ c.in_ok-stations.stations = search rules in
    let y : to_z w32 (of_z w32 c.in_ok-stations.satellites) ≡ c.in_ok-stations.satellites = search rules in
    let j = rw x at c.natural.ensures in
    let k = rw y at c.natural-2.ensures in
    rw (← (system_says _), sym c.system_record.ensures, c.in_ok-stations.was)
    (sym (need_yes (natural? _ _ _) _ _ (truth_true _ (sym j ∙ c.if-not-natural.false)) ∙ need_no (natural? _ _ _) _ _ (truth_false _ (sym k ∙ c.if-not-natural-2.true))))

pub returns : goal.returns
unfolding counted_in bind
returns c =
    let x : to_z w32 (of_z w32 c.in_ok-stations.stations) ≡ c.in_ok-stations.stations = search rules in
    let y : to_z w32 (of_z w32 c.in_ok-stations.satellites) ≡ c.in_ok-stations.satellites = search rules in
    let j = rw x at c.natural.ensures in
    let k = rw y at c.natural-2.ensures in
    let n : c.unsigned.result ≡ nat_abs c.in_ok-stations.stations = rw x at c.unsigned.ensures in
    let m : c.unsigned-2.result ≡ nat_abs c.in_ok-stations.satellites = rw y at c.unsigned-2.ensures in
    rw (← (system_says _), sym c.system_record.ensures, c.in_ok-stations.was)
    (ap₂ (λ (a b : ℕ). ok (counts a b)) n m
    ∙ sym (need_yes (natural? _ _ _) _ _ (truth_true _ (sym j ∙ c.if-not-natural.false)) ∙ need_yes (natural? _ _ _) _ _ (truth_true _ (sym k ∙ c.if-not-natural-2.false))))
