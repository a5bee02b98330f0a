use mathlib.Core.Path.{◌≡◌, sym, ap, ◌∙◌}
use mathlib.Core.Bool.{false, not, ◌||◌}
use native.Mathlib.Omega.{arith}
use borrow.Author.Tests.{not-true, not-false}
use borrow.Author.Rules.{rules}
use lib.ListN.{length, get_or}
use Rattle.mapset.specs.Header.{starred}
use Rattle.head_state.proofs.GotLaws.{next_stands, is_lacking, none_left, complete_all}
use Rattle.head_state.proofs.complete.Goals as goal

pub returns-then-not-i-is_some : goal.returns-then-not-i-is_some
returns-then-not-i-is_some c =
    let s = c.args.s.now in
    let n : length s.values ≡ 22 = search rules in
    let e = not-true (get_or starred c.loop-i.i false || c.is_some.result) (ap not c.if-not-i-is_some.true) in
    sym (is_lacking s.values n c.loop-i.i (omega arith) (ap (λ b. get_or starred c.loop-i.i false || b) (sym c.is_some.ensures) ∙ e)) ∙ c.loop-i.invariant ∙ complete_all s n

pub loop-i-preserved : goal.loop-i-preserved
loop-i-preserved c =
    let s = c.args.s.now in
    let n : length s.values ≡ 22 = search rules in
    let e = not-false (get_or starred c.loop-i.i false || c.is_some.result) (ap not c.if-not-i-is_some.false) in
    sym (next_stands s.values n c.loop-i.i (omega arith) (ap (λ b. get_or starred c.loop-i.i false || b) (sym c.is_some.ensures) ∙ e)) ∙ c.loop-i.invariant

pub returns : goal.returns
returns c =
    let s = c.args.s.now in
    let n : length s.values ≡ 22 = search rules in
    sym (none_left s.values n c.loop-i.i (omega arith)) ∙ c.loop-i.invariant ∙ complete_all s n
