-- `bias_line::number` meets its contract.
use mathlib.Core.Path.{ap, ◌∙◌}
use Rattle.reading.specs.Feed.{answer_of}
use Rattle.bias_line.proofs.LineLaws.{number_ok_or}
use Rattle.bias_line.proofs.number.Goals as goal

pub returns : goal.returns
returns c = ap answer_of c.ok_or.ensures.value ∙ number_ok_or c.args.field c.args.column
