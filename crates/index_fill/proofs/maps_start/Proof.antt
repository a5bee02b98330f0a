use mathlib.Core.Path.{◌≡◌}
use mir.Syntax.{w32}
use mir.Val.{to_z, of_z}
use borrow.Author.Rules.{rules}
use Rattle.index_fill.specs.Enter.{Walks}
use mathlib.Core.Path.{refl}
use Prim.Native.Nat.{◌-◌}
use native.Mathlib.Omega.{arith}
use lib.ListN.{length}
use Rattle.index_fill.proofs.HeadLaws.{Heading, heading_more, heading_stop, heading_end}
use Rattle.index_fill.proofs.maps_start.Statement.{statement}
use Rattle.index_fill.proofs.maps_start.Tie as tie

abbrev invariant-loop : tie.invariant-loop-w
invariant-loop text w₀ w = Heading text w

abbrev decreases-loop : tie.decreases-loop-w
decreases-loop text w₀ w = length text - w.at

w_is : (c : tie.After-struct_told-1 invariant-loop decreases-loop) → to_z w32 (of_z w32 c.loop-w.w.exponent) ≡ c.loop-w.w.exponent
w_is c = search rules

walked : (c : tie.After-walk_at-w invariant-loop decreases-loop) → let w = c.loop-w.w in Walks c.args.text.now w.at w.aux w.exponent c.walk_at-w.result
walked c = rw (w_is c.before) at c.walk_at-w.ensures

loop-holds : tie.Need-loop-w-init invariant-loop decreases-loop
loop-holds c = record { within = omega arith; goal = refl }

walk-at-requires : tie.Need-walk_at-w-requires invariant-loop decreases-loop
walk-at-requires c κs = omega (arith, c.loop-w-test.true)

returns : tie.Need-returns-then-w invariant-loop decreases-loop
returns c = let l = c.before.before.before.before.before in heading_stop l.args.text.now l.loop-w.w l.loop-w.invariant c.walk_at-w.result (walked c.before) c.if-w.true

loop-less : tie.Need-loop-w-smaller invariant-loop decreases-loop
loop-less c = let l = c.before.before.before.before.before in omega (arith, c.walk_at-w.ensures.ahead, c.walk_at-w.ensures.within)

loop-again : tie.Need-loop-w-preserved invariant-loop decreases-loop
loop-again c = let l = c.before.before.before.before.before in heading_more l.args.text.now l.loop-w.w l.loop-w.invariant c.walk_at-w.result (walked c.before) c.if-w.false

returns-2 : tie.Need-returns invariant-loop decreases-loop
returns-2 c = let l = c.before.before in heading_end l.args.text.now l.loop-w.w l.loop-w.invariant (omega (arith, c.loop-w-test.false))

pub maps_start_spec : {M : Type 1} → statement M
maps_start_spec = tie.close (tie.spec invariant-loop decreases-loop loop-holds walk-at-requires returns loop-less loop-again returns-2)
