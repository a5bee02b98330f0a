-- `write_head_row::observables_row` meets its contract.
use Rattle.write_head_row.proofs.observables_row.Goals as goal

pub returns : goal.returns
returns c = c.sixty_row.ensures
