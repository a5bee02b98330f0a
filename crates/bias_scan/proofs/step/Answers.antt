-- `bias_scan::step` meets its contract.
use mathlib.Core.Path.{◌≡◌, sym, subst}
use Rattle.std.specs.Prelude.{Err}
use Rattle.bias_scan.specs.Judged.{Passes}
use Rattle.bias_scan.proofs.JudgedLaws.{halted, ended, skipped}
use borrow.Author.Rules.{rules}
use Rattle.bias_scan.proofs.step.Goals as goal

pub returns-in_err-next_row : goal.returns-in_err-next_row
returns-in_err-next_row c =
    let h = halted c.args.text.now c.args.s c.requires.1 _ c.in_err-next_row.ensures in
    let e : c.from_residual.result ≡ Err c.in_err-next_row.field-0.0 = search rules in
    subst (Passes c.args.text.now c.args.s) (sym e) h

pub returns-in-Last : goal.returns-in-Last
returns-in-Last c =
    let o = rw c.in-Last.is at c.in_ok-next_row.ensures in
    ended c.args.text.now c.args.s c.requires.1 o.0 o.1 o.2 o.3

pub returns-in-Skip : goal.returns-in-Skip
returns-in-Skip c =
    let o = rw c.in-Skip.is at c.in_ok-next_row.ensures in
    rw c.past_row.ensures (skipped c.args.text.now c.args.s c.requires.1 o.0 _ _ _ o.1, o.1.ahead)
