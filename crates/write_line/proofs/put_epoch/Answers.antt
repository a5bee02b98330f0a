-- `write_line::put_epoch` meets its contract.
use native.Mathlib.Omega.{arith}
use Rattle.layout.specs.Names.{names}
use Rattle.canonical.specs.Canon.{row_of}
use Rattle.write_row.specs.Rows.{row_at}
use Rattle.write_line.proofs.put_epoch.Goals as goal

pub put_dated-requires : goal.put_dated-requires
unfolding row_at row_of names
put_dated-requires c = let s = c.before.before in (omega arith, s.requires)

pub returns : goal.returns
unfolding row_at row_of names
returns c = c.put_dated.ensures
