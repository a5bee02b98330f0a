-- `ask::has_layer` meets its contract.
use Rattle.kit.proofs.TruthLaws.{lt_tells}
use Rattle.ask.proofs.has_layer.Goals as goal

pub returns : goal.returns
returns c = lt_tells _ _
