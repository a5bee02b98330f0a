-- `ask_cells::cell_of` meets its contract.
use mir.Facts.{to_z-of_z}
use Rattle.ask_cells.proofs.cell_of.Goals as goal

pub returns-in_err-row : goal.returns-in_err-row
returns-in_err-row c = rw c.from_residual.ensures (λ d i. (rw (to_z-of_z c.ranges.lat) at c.in_err-row.ensures) d.row d.down i.row)

pub returns-in_err-column : goal.returns-in_err-column
returns-in_err-column c = rw c.from_residual-in_err-column.ensures (λ d i. (rw (to_z-of_z c.ranges.lon) at c.in_err-column.ensures) d.column d.right d.across i.column)

pub returns : goal.returns
returns c =
    record {
      row = rw (to_z-of_z c.ranges.lat) at c.in_ok-row.ensures;
      tall = c.step_of.ensures;
      column = rw (to_z-of_z c.ranges.lon) at c.in_ok-column.ensures;
      wide = c.step_of-2.ensures;
    }
