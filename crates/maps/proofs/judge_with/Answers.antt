use Rattle.std.specs.Prelude.{Ok}
use mathlib.Core.Path.{refl, sym, ap, ◌∙◌}
use native.Mathlib.Omega.{arith}
use lib.Seq.{length-take-le}
use mir.Syntax.{w32}
use mir.Val.{to_z, of_z}
use mir.Facts.{to_z-of_z}
use borrow.Author.Rules.{rules}
use Rattle.maps.proofs.TurnLaws.{told_start, handed, turned, ended_as, run_fits, run_more}
use Rattle.maps.proofs.judge_with.Goals as goal

pub loop-passed-init : goal.loop-passed-init
loop-passed-init c = record { within = omega arith; small = omega arith; upto = omega arith; sized = refl; room = omega arith; on = refl }

pub slice_bounds-turn_at-end : goal.slice_bounds-turn_at-end
slice_bounds-turn_at-end c = let i = c.loop-passed.invariant in let u = i.upto in let z = i.sized in search rules

pub slice_bounds-turn_at-end-in-loop-passed : goal.slice_bounds-turn_at-end-in-loop-passed
slice_bounds-turn_at-end-in-loop-passed c = let i = c.loop-passed.invariant in let u = i.upto in let z = i.sized in sym (length-take-le _ _ (omega arith))

pub turn_at-requires : goal.turn_at-requires
turn_at-requires c = let i = c.loop-passed.invariant in ((i.within, i.small), c.requires.1.1)

pub returns-in_err-passed : goal.returns-in_err-passed
returns-in_err-passed c =
    let i = c.loop-passed.invariant in
    handed _ c.from_residual.ensures
    ∙ (rw (to_z-of_z c.ranges.exponent) at (sym (sym (told_start (record { exponent = to_z w32 (of_z w32 c.args.exponent); rms = 0; height = 0 }) refl refl _) ∙ i.on ∙ c.in_err-passed.ensures)))

pub finish_at-requires : goal.finish_at-requires
finish_at-requires c =
    let g = turned _ _ _ _ _ _ _ _ _ c.in_ok-passed.ensures (ap Ok c.in-Over.is) in
    omega (arith, g.0)

pub returns-in-Over : goal.returns-in-Over
returns-in-Over c =
    let i = c.loop-passed.invariant in
    let g = turned _ _ _ _ _ _ _ _ _ c.in_ok-passed.ensures (ap Ok c.in-Over.is) in
    let e = c.finish_at.ensures ∙ ended_as _ _ _ _ in
    rw (to_z-of_z c.ranges.exponent) at (e ∙ sym (sym (told_start (record { exponent = to_z w32 (of_z w32 c.args.exponent); rms = 0; height = 0 }) refl refl _) ∙ i.on ∙ g.1))

pub keep-k-requires : goal.keep-k-requires
keep-k-requires c =
    let i = c.loop-passed.invariant in
    let g = turned _ _ _ _ _ _ _ _ _ c.in_ok-passed.ensures (ap Ok c.in-On.is) in
    run_fits _ _ _ _ _ _ c.requires.1.0 _ _ _ _ _ _ i _ _ _ g

pub loop-passed-smaller : goal.loop-passed-smaller
loop-passed-smaller c =
    let g = turned _ _ _ _ _ _ _ _ _ c.in_ok-passed.ensures (ap Ok c.in-On.is) in
    let a = g.ahead in
    let w = g.within in
    omega arith

pub loop-passed-preserved : goal.loop-passed-preserved
loop-passed-preserved c =
    let i = c.loop-passed.invariant in
    let g = turned _ _ _ _ _ _ _ _ _ c.in_ok-passed.ensures (ap Ok c.in-On.is) in
    run_more _ _ _ _ _ _ c.requires.1.0 _ _ _ _ _ _ i _ _ _ g _ _ c.keep-k.ensures
