-- `fields::byte_at` meets its contract.
use mathlib.Core.Path.{sym}
use lib.ListN.{get_or-eq_default}
use Rattle.fields.proofs.Lines.{there}
use Rattle.fields.proofs.byte_at.Goals as goal

pub returns-then-i-line : goal.returns-then-i-line
returns-then-i-line c = there c.args.line.now _ c.if-i-line.true

pub returns : goal.returns
returns c = sym (get_or-eq_default c.args.line.now 32 c.if-i-line.false)
