-- `c_why::too_short` meets its contract.
use Rattle.c_why.specs.ExplainExported.{explain_short}
use Rattle.c_why.proofs.too_short.Goals as goal

pub returns : goal.returns
unfolding explain_short
returns c = c.too_short_two.ensures
