-- `bias_scan::fresh` meets its contract.
use native.Mathlib.Omega.{arith}
use Rattle.bias_scan.proofs.HeldLaws.{stood_first, clear_none}
use Rattle.bias_scan.proofs.fresh.Goals as goal

pub chunk-c-requires : goal.chunk-c-requires
chunk-c-requires c = let t = c.args.text.now in (stood_first t, clear_none t _, omega arith)

pub loop-c-init : goal.loop-c-init
loop-c-init c = let z = c.chunk-c.ensures in (z.stood, z.good, z.bound, z.clear)

pub chunk-c-requires-in-loop-c : goal.chunk-c-requires-in-loop-c
chunk-c-requires-in-loop-c c = let i = c.loop-c.invariant in (i.0, i.3 c.loop-c-test.true, i.2)

pub loop-c-smaller : goal.loop-c-smaller
loop-c-smaller c = omega (arith, c.chunk-c-in-loop-c.ensures.less)

pub loop-c-preserved : goal.loop-c-preserved
loop-c-preserved c = let z = c.chunk-c-in-loop-c.ensures in (z.stood, z.good, z.bound, z.clear)

pub returns : goal.returns
returns c = c.loop-c.invariant.1
