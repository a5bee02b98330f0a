use mathlib.Core.Path.{subst}
use Rattle.read_values.specs.Values.{Values}
use Rattle.read_values.proofs.ValueLaws.{judged}
use Rattle.read_values.proofs.cells_in.Goals as goal

pub returns : goal.returns
returns c = judged c.args.line.now c.args.m (subst (Values c.args.line.now c.args.m) c.in_ok-values_in.was c.values_in.ensures) c.rest_in.result c.rest_in.ensures
