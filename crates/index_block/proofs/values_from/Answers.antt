use Prim.Native.Nat.{◌-◌}
use native.Mathlib.Omega.{arith}
use mathlib.Core.Path.{◌≡◌, refl}
use Rattle.std.specs.Prelude.{None}
use borrow.Author.Rules.{rules}
use Rattle.index_block.proofs.HitLaws.{going_none, going_nothing, going_skip, going_row, going_done}
use Rattle.index_block.proofs.values_from.Goals as goal

pub loop-left-init : goal.loop-left-init
loop-left-init c = let b = c.before in going_none _ _ _ _ _ b.requires.0 b.requires.1

pub step_at-requires : goal.step_at-requires
step_at-requires c = let i = c.loop-left.invariant in (i.within, (omega arith, refl))

pub returns-in_err-to : goal.returns-in_err-to
returns-in_err-to c =
    let e : c.from_residual.result ≡ None = search rules in
    rw e (going_nothing c.loop-left.invariant c.in_err-to.ensures)

pub loop-left-smaller-in-Skip : goal.loop-left-smaller-in-Skip
loop-left-smaller-in-Skip c =
    let h = rw c.in-Skip.is at c.in_ok-to.ensures in
    let a = h.ahead in
    let w = h.within in
    omega arith

pub loop-left-preserved-in-Skip : goal.loop-left-preserved-in-Skip
loop-left-preserved-in-Skip c = going_skip c.loop-left.invariant _ (rw c.in-Skip.is at c.in_ok-to.ensures)

pub overflow_sub-count : goal.overflow_sub-count
overflow_sub-count c =
    let m = c.loop-left.invariant.most in
    omega arith

pub spot_of-spot-requires : goal.spot_of-spot-requires
spot_of-spot-requires c =
    let w = c.loop-left.invariant.within in
    omega arith

pub returns-then-left-le16 : goal.returns-then-left-le16
returns-then-left-le16 c = going_done c.loop-left.invariant _ _ (rw c.in-Row.is at c.in_ok-to.ensures) _ c.spot_of-spot.ensures (omega arith) c.requires.1

pub loop-left-smaller : goal.loop-left-smaller
loop-left-smaller c =
    let h = rw c.in-Row.is at c.in_ok-to.ensures in
    let a = h.ahead in
    let w = h.within in
    omega arith

pub loop-left-preserved : goal.loop-left-preserved
loop-left-preserved c = going_row c.loop-left.invariant _ _ (rw c.in-Row.is at c.in_ok-to.ensures) _ c.spot_of-spot.ensures (omega arith)

pub returns : goal.returns
returns c = let i = c.loop-left.invariant.some_left in absurd (omega arith)
