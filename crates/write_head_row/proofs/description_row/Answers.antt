-- `write_head_row::description_row` meets its contract.
use Rattle.write_head_row.proofs.description_row.Goals as goal

pub returns : goal.returns
returns c = c.sixty_row.ensures
