use native.Mathlib.Omega.{arith}
use mir.Facts.{to_z-of_z}
use Rattle.calendar.specs.Calendar.{told_when, The}
use Rattle.c_answers.specs.MoveExported.{Moves, area_short, answered}
use Rattle.ionex.proofs.moving.ionex_moved.Goals as goal

pub returns-then-moved-lt1 : goal.returns-then-moved-lt1
returns-then-moved-lt1 c = record { outcome = area_short (omega (arith, c.if-moved-lt1.true)) }

pub returns : goal.returns
returns c = record {
  outcome =
      let s = c.before.before.before.before.before.before.before in
      let m = c.before.before.before.before in
      let w = c.put_moved.ensures in
      let a : The (Moves s.args.second s.args.by) (told_when m.moved_second-when.result) = rw (to_z-of_z s.ranges.by) at m.moved_second-when.ensures.outcome in
      rw (w.0, w.1) (answered (omega (arith, c.if-moved-lt1.false)) (told_when m.moved_second-when.result) a);
}
