-- `index_node::find_block` meets its contract.
use mathlib.Core.Path.{refl}
use Rattle.std.specs.Prelude.{Ok, Err}
use Rattle.index_node.specs.Told.{told}
use Rattle.index_node.proofs.find_block.Goals as goal

pub returns-in-Ok : goal.returns-in-Ok
returns-in-Ok c = (told c.args.text.now (Ok c.in-Ok.found), (c.in-Ok.ensures.replies, refl))

pub returns-in-Err : goal.returns-in-Err
returns-in-Err c = (told c.args.text.now (Err _), (c.in-Err.ensures.replies, refl))
