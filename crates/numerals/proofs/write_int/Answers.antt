-- `numerals::write_int` meets its contract.
use mathlib.Core.Path.{◌∙◌}
use lib.ListN.{length}
use mir.Facts.{to_z-of_z}
use Rattle.numerals.proofs.Written.{minus_test, int_shown}
use Rattle.numerals.proofs.write_int.Goals as goal

pub returns : goal.returns
returns c = c.write_whole.ensures ∙ rw (c.unsigned_abs.ensures.value, to_z-of_z c.ranges.z, minus_test c.args.z) (int_shown (length c.args.out.now) c.args.z)
