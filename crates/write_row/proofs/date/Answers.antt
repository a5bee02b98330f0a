-- `write_row::date` meets its contract.
use Rattle.write_row.proofs.NumberLaws.{date_found, date_refused}
use Rattle.write_row.proofs.date.Goals as goal

pub returns-in-Some : goal.returns-in-Some
returns-in-Some c = date_found _ _ c.at_second.ensures _ c.in-Some.is

pub returns-in-None : goal.returns-in-None
returns-in-None c = date_refused _ _ c.at_second.ensures c.in-None.is
