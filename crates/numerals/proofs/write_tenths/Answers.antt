-- `numerals::write_tenths` meets its contract.
use mathlib.Core.Path.{ap, ◌∙◌}
use native.Mathlib.Omega.{arith}
use lib.IntN.{ℤ, pos, nat_abs}
use lib.Signed.{lt_z}
use mir.Facts.{to_z-of_z}
use Rattle.numerals.proofs.Written.{minus_test, tenths_stored}
use Rattle.numerals.proofs.write_tenths.Goals as goal

pub returns : goal.returns
returns c =
    let e = to_z-of_z c.ranges.z in
    let w = c.write_whole in
    tenths_stored c.args.out.now w.new.out c.args.z _ c.unsigned_abs-n.result (omega arith) w.auto.out w.ensures
    (ap (λ (z : ℤ). lt_z z (pos 0)) e ∙ minus_test c.args.z)
    (c.unsigned_abs-n.ensures.value ∙ ap nat_abs e)
