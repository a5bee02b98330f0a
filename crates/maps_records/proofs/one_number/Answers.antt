use Rattle.std.specs.Prelude.{Option, ℤ}
use mathlib.Core.Path.{sym, ap, ◌∙◌}
use Rattle.maps_records.proofs.RecordLaws.{one_is}
use Rattle.reading.specs.Fields.{blank_to}
use Rattle.maps_records.specs.Records.{one_of}
use Rattle.maps_records.proofs.one_number.Goals as goal

pub returns : goal.returns
returns c = c.alone.ensures ∙ ap (λ (z : Option ℤ). one_of z (blank_to c.args.line.now 6 60)) c.int_at.ensures ∙ sym (one_is c.args.line.now c.requires)
