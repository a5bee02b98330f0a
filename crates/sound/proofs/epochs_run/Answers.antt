-- `sound::epochs_run` meets its contract.
use mathlib.Core.Path.{sym, ◌∙◌}
use Rattle.kit.proofs.TruthLaws.{truth_true, truth_false}
use Rattle.mapset.proofs.SoundLaws.{run_next, run_stop, run_end}
use Rattle.sound.proofs.epochs_run.Goals as goal

pub returns-then-not-follows : goal.returns-then-not-follows
returns-then-not-follows c =
    let l = c.loop-epoch in
    sym (run_stop _ _ l.before _ l.epoch-index c.loop-epoch-test.true (truth_false _ (sym c.follows.ensures ∙ c.if-not-follows.true))) ∙ l.invariant

pub loop-epoch-preserved : goal.loop-epoch-preserved
loop-epoch-preserved c =
    let l = c.loop-epoch in
    sym (run_next _ _ l.before _ l.epoch-index c.loop-epoch-test.true (truth_true _ (sym c.follows.ensures ∙ c.if-not-follows.false))) ∙ l.invariant

pub returns : goal.returns
returns c =
    let l = c.loop-epoch in
    sym (run_end _ _ l.before _ l.epoch-index c.loop-epoch-test.false) ∙ l.invariant
