use native.Mathlib.Omega.{arith}
use Rattle.read_lines.proofs.Passing.{printable_counted}
use Rattle.read_lines.proofs.Firsts.{look_long, look_odd, look_full, look_blank}
use Rattle.read_lines.proofs.look_at.Goals as goal

pub returns-then-line-gt80 : goal.returns-then-line-gt80
returns-then-line-gt80 c =
    look_long _ (omega arith)

pub returns-then-p-line : goal.returns-then-p-line
returns-then-p-line c =
    look_odd _ (omega arith) _ (printable_counted _ _ c.printable_in-p.ensures) (omega arith)

pub returns-then-b-line : goal.returns-then-b-line
returns-then-b-line c =
    look_full _ (omega arith) _ (printable_counted _ _ c.printable_in-p.ensures) (omega arith) _ c.blanks_in-b.ensures (omega arith)

pub returns : goal.returns
returns c =
    look_blank _ (omega arith) _ (printable_counted _ _ c.printable_in-p.ensures) (omega arith) _ c.blanks_in-b.ensures (omega arith)
