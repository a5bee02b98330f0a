use mathlib.Core.Path.{◌≡◌, ap, ◌∙◌}
use Prim.Native.Nat.{◌-◌, ◌<◌}
use native.Mathlib.Omega.{arith}
use lib.ListN.{length}
use mir.Syntax.{w32}
use mir.Val.{to_z}
use mir.Facts.{to_z-of_z}
use borrow.Author.Rules.{rules}
use Rattle.mapset.specs.declared.Kind.{Kind}
use Rattle.index.specs.Index.{Entries, entries}
use Rattle.index.specs.Made.{placed_from}
use Rattle.index_fill.specs.Enter.{enters, entered_from}
use Rattle.index_fill.proofs.ScanLaws.{Going, Sized, going_start, going_sized, going_next, going_more, going_done, as_long, as_found, ahead}
use Prim.Native.Nat.{ℕ}
use Rattle.index_fill.proofs.scan.Statement.{statement}
use Rattle.index_fill.proofs.scan.Tie as tie

abbrev invariant-loop : tie.invariant-loop-at
invariant-loop text from exponent size positions₀ exponents₀ marks₀ s₀ at₀ due₀ positions exponents marks s at due =
    (N : Kind → ℕ) × Going size.maps size.blocks size.columns N text (entered_from size.maps size.blocks size.columns (to_z w32 exponent) (placed_from text from) (entries positions₀ exponents₀ marks₀)) at due s (entries positions exponents marks)

abbrev decreases-loop : tie.decreases-loop-at
decreases-loop text from exponent size positions₀ exponents₀ marks₀ s₀ at₀ due₀ positions exponents marks s at due = length text - at

sizes : (c : tie.At-loop-at invariant-loop decreases-loop) → let a = c.args in Sized (entries c.loop-at.positions c.loop-at.exponents c.loop-at.marks) (entries a.positions.now a.exponents.now a.marks.now)
sizes c = as_found _ _ _ _ _ _ (going_sized _ _ _ _ _ _ _ _ _ _ c.loop-at.invariant.1)

loop-holds : tie.Need-loop-at-init invariant-loop decreases-loop
loop-holds c = let b = c.before.before.before in (_, going_start _ _ _ b.args.text.now b.args.exponent _ _ _ (to_z-of_z b.ranges.exponent) b.requires.0 b.requires.1)

step-at-requires : tie.Need-step_at-step-requires invariant-loop decreases-loop
step-at-requires c κs =
    let b = c.before.before.before.before.before in
    let g = c.loop-at.invariant.1 in
    let x : length b.args.marks.now < 9223372036854775808 = search rules in
    let y : length b.args.exponents.now < 9223372036854775808 = search rules in
    (c.loop-at-test.true, (omega (arith, g.small.0, b.requires.1.room.marks, x), omega (arith, g.small.1, b.requires.1.room.exponents, y)))

enter-requires : tie.Need-enter-requires invariant-loop decreases-loop
enter-requires c κs = let l = c.before.before.before.before.before in ((going_next _ _ _ _ _ _ _ _ _ _ l.loop-at.invariant.1 _ c.step_at-step.ensures).stays, as_long (sizes l) l.requires.1.room)

-- a block is entered where its opening line starts
at_opening : (d : tie.After-step_at-step invariant-loop decreases-loop) {y : Entries} → let l = d.before.before in
    let a = l.args in
    y ≡ enters a.size.maps a.size.blocks d.step_at-step.result.event l.loop-at.at (entries l.loop-at.positions l.loop-at.exponents l.loop-at.marks)
    → y ≡ enters a.size.maps a.size.blocks d.step_at-step.result.event l.loop-at.at (entries l.loop-at.positions l.loop-at.exponents l.loop-at.marks)
at_opening d e = e

loop-less : tie.Need-loop-at-smaller invariant-loop decreases-loop
loop-less c = omega (arith, ahead c.step_at-step.ensures, c.loop-at-test.true)

loop-again : tie.Need-loop-at-preserved invariant-loop decreases-loop
loop-again c = (_, going_more _ _ _ _ _ _ _ _ _ _ c.loop-at.invariant.1 _ c.step_at-step.ensures _ (at_opening c.before.before.before.before.before.before.before.before.before.before c.enter.ensures))

same_length : tie.Need-shape_of-positions invariant-loop decreases-loop
same_length c = (sizes c.before).positions

same-length-2 : tie.Need-shape_of-exponents invariant-loop decreases-loop
same-length-2 c = (sizes c.before).exponents

same-length-3 : tie.Need-shape_of-marks invariant-loop decreases-loop
same-length-3 c = (sizes c.before).marks

returns : tie.Need-returns invariant-loop decreases-loop
returns c =
    let b = c.before.before.before.before.before in
    going_done _ _ _ _ _ _ _ _ _ _ c.loop-at.invariant.1 (omega (arith, c.loop-at-test.false))
    ∙ ap (λ e. entered_from b.args.size.maps b.args.size.blocks b.args.size.columns e (placed_from b.args.text.now b.args.from) (entries b.args.positions.now b.args.exponents.now b.args.marks.now)) (to_z-of_z b.ranges.exponent)

pub scan_spec : {M : Type 1} → statement M
scan_spec = tie.close (tie.spec invariant-loop decreases-loop loop-holds step-at-requires enter-requires loop-less loop-again same_length same-length-2 same-length-3 returns)
