use native.Mathlib.Omega.{arith}
use mir.Facts.{to_z-of_z}
use Rattle.ask_delay.specs.AskDelay.{no_delay}
use Rattle.ask_delay.proofs.AskDelayLaws.{turns}
use Rattle.ask_delay.proofs.ask_delay.Goals as goal

pub returns-then-kind-eq2 : goal.returns-then-kind-eq2
returns-then-kind-eq2 c = no_delay (omega (arith, c.if-kind-eq2.true))

pub returns : goal.returns
returns c =
    let a = rw (to_z-of_z c.ranges.lat, to_z-of_z c.ranges.lon) at c.ask-asked.ensures in
    turns _ _ (λ e. omega (arith, e, c.if-kind-eq2.false)) _ a _ c.turned.ensures
