use mathlib.Core.Path.{ap}
use mathlib.Core.Bool.{not}
use borrow.Author.Tests.{not-false}
use borrow.Author.Rules.{rules}
use native.Mathlib.Omega.{arith}
use lib.ListN.{length-take, length-drop}
use Rattle.read_lines.proofs.QuickLines.{ahead_none, ahead_more}
use Rattle.read_lines.proofs.sixteens_in.Goals as goal

pub loop-i-init : goal.loop-i-init
loop-i-init c = ahead_none _

pub overflow_sub-text : goal.overflow_sub-text
overflow_sub-text c = omega arith

pub overflow_add-e : goal.overflow_add-e
overflow_add-e c = omega arith

pub slice_bounds-all_printable-count : goal.slice_bounds-all_printable-count
slice_bounds-all_printable-count c = omega arith

pub slice_bounds-all_printable-start : goal.slice_bounds-all_printable-start
slice_bounds-all_printable-start c = let w = c.loop-i.invariant.within in search rules

pub slice_bounds-all_printable-end : goal.slice_bounds-all_printable-end
slice_bounds-all_printable-end c = let w = c.loop-i.invariant.within in search rules

pub all_printable-ok-requires : goal.all_printable-ok-requires
all_printable-ok-requires c =
    let w = c.loop-i.invariant.within in
    simp (length-take, length-drop) (omega arith)

pub returns-then-not-ok : goal.returns-then-not-ok
returns-then-not-ok c = c.loop-i.invariant

pub loop-i-smaller : goal.loop-i-smaller
loop-i-smaller c = omega arith

pub loop-i-preserved : goal.loop-i-preserved
loop-i-preserved c =
    let l = c.before.before.before.before in
    ahead_more l.args.text.now l.loop-i.i l.loop-i.invariant (omega arith) c.all_printable-ok.result c.all_printable-ok.ensures (not-false _ (ap not c.if-not-ok.false))

pub returns : goal.returns
returns c = c.loop-i.invariant
