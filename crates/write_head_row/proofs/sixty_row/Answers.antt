-- `write_head_row::sixty_row` meets its contract.
use mathlib.Core.List.{[]}
use lib.ListN.{get_or}
use Rattle.layout.specs.Names.{names}
use Rattle.write_row.specs.Rows.{row_at}
use Rattle.write_head_row.proofs.Laws.{sixty_filled}
use Rattle.write_head_row.proofs.sixty_row.Goals as goal

pub returns : goal.returns
unfolding row_at
returns c =
    let s = c.before.before.before.before.before in
    sixty_filled (get_or names s.args.k []) _ c.blank_row-row.ensures _ s.args.text.now s.requires.1 c.put_text.ensures
