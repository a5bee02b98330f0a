-- `sound_header::version_fits` meets its contract.
use native.Mathlib.Decide.{ℕ_discrete}
use Rattle.kit.specs.Answer.{×_dec}
use Rattle.kit.specs.Range.{within?}
use Rattle.kit.proofs.TruthLaws.{both, eq_tells}
use Rattle.mapset.specs.Decisions.{takes_code?}
use Rattle.mapset.specs.Sound.{version?}
use Rattle.sound_header.proofs.version_fits.Goals as goal

pub returns : goal.returns
unfolding version?
returns c =
    let v = c.args.v in
    both (within? 10 11 v.tenths) (×_dec (ℕ_discrete v.kind 73) (takes_code? v.tenths v.code)) c.within.ensures
    (both (ℕ_discrete v.kind 73) (takes_code? v.tenths v.code) (eq_tells _ _) c.takes_code.ensures)
