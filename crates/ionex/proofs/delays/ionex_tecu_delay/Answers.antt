use native.Mathlib.Omega.{arith}
use mir.Facts.{to_z-of_z}
use Rattle.delay.specs.Delay.{milli, told, Delays}
use Rattle.c_answers.specs.DelayExported.{area_short, answered}
use Rattle.ionex.proofs.delays.ionex_tecu_delay.Goals as goal

pub returns-then-out-lt3 : goal.returns-then-out-lt3
returns-then-out-lt3 c = record { outcome = area_short (omega (arith, c.if-out-lt3.true)) }

pub returns : goal.returns
returns c = record {
  outcome =
      let s = c.before.before.before.before.before.before.before in
      let d = c.before.before.before.before in
      let w = c.put_delay.ensures in
      let a : Delays (milli s.args.x) s.args.carrier (told d.tecu_delay-answer.result) = rw (to_z-of_z s.ranges.x) at d.tecu_delay-answer.ensures.outcome in
      rw (w.0, w.1) (answered (omega (arith, c.if-out-lt3.false)) _ a);
}
