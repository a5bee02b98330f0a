use native.Mathlib.Omega.{arith}
use mathlib.Core.Path.{sym}
use lib.Seq.{length-take-le}
use Rattle.read_lines.proofs.Firsts.{stand_over, stand_bad, stand_skip, stand_row}
use Rattle.read_lines.proofs.Nearby.{stand_long}
use Rattle.read_lines.proofs.any_line_in.Goals as goal

pub returns-then-text-eq0 : goal.returns-then-text-eq0
returns-then-text-eq0 c =
    stand_over _ c.if-text-eq0.true

pub returns-then-e-ge82 : goal.returns-then-e-ge82
returns-then-e-ge82 c =
    stand_long _ (c.near_lf-e.ensures.far c.if-e-ge82.true)

pub span_in-s-requires : goal.span_in-s-requires
span_in-s-requires c = (omega arith, c.near_lf-e.ensures.is (omega arith))

pub slice_bounds-look_at-end : goal.slice_bounds-look_at-end
slice_bounds-look_at-end c =
    let h = c.span_in-s.ensures in sym (length-take-le _ _ (omega (arith, h.inside, h.within)))

pub returns-in-Err : goal.returns-in-Err
returns-in-Err c =
    stand_bad _ _ c.span_in-s.ensures _ (cc)

pub returns-in-Ok-Blank : goal.returns-in-Ok-Blank
returns-in-Ok-Blank c =
    stand_skip _ _ c.span_in-s.ensures (cc)

pub returns-in-Ok-Full : goal.returns-in-Ok-Full
returns-in-Ok-Full c =
    stand_row _ _ c.span_in-s.ensures (cc)
