-- `sound_header::axis_fits` meets its contract.
use mathlib.Core.Path.{◌∙◌}
use Rattle.mapset.specs.Judged.{line}
use Rattle.mapset.proofs.SoundLaws.{fit}
use Rattle.sound_header.proofs.axis_fits.Goals as goal

pub returns : goal.returns
returns c = c.is_ok.ensures.value ∙ fit (line c.args.which) c.args.a c.judge.result c.judge.ensures
