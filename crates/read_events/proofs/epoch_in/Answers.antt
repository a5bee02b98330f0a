use mathlib.Core.Path.{◌∙◌}
use Rattle.read_events.proofs.FieldLaws.{date_is}
use Rattle.read_events.proofs.epoch_in.Goals as goal

pub returns : goal.returns
returns c = c.unwrap_or.ensures ∙ date_is _ _ c.epoch_in.ensures
