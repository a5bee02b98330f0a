use Rattle.std.specs.Prelude.{Option, ℤ}
use mathlib.Core.Path.{sym, ap, ◌∙◌}
use Rattle.head_said.proofs.RecordLaws.{tenths_is}
use Rattle.reading.specs.Fields.{blank_to}
use Rattle.maps_records.specs.Records.{one_of}
use Rattle.head_said.proofs.content.tenths_record.Goals as goal

pub returns : goal.returns
returns c = c.alone.ensures ∙ ap (λ (z : Option ℤ). one_of z (blank_to c.args.line.now 8 60)) c.tenths_at.ensures ∙ sym (tenths_is c.args.line.now c.requires)
