use Rattle.index_block.proofs.OpenLaws.{opening_tells}
use Rattle.index_block.proofs.is_opening.Goals as goal

pub returns : goal.returns
returns c = let b = c.before.before in opening_tells b.args.line.now b.requires _ c.label_of.ensures
