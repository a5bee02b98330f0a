-- `mapset::present` meets its contract.
use native.Mathlib.Decide.{ℕ_discrete}
use Rattle.kit.proofs.TruthLaws.{holds, either, eq_tells}
use Rattle.mapset.specs.Areas.{present?}
use Rattle.mapset.specs.declared.Kind.TheVariants.{Tec as tec}
use Rattle.mapset.proofs.present.Goals as goal

pub returns-in-Tec : goal.returns-in-Tec
returns-in-Tec c = rw c.in-Tec.is (holds (present? tec _) tt)

pub returns-in-Rms : goal.returns-in-Rms
unfolding present?
returns-in-Rms c = let m = c.args.mark in rw c.in-Rms.is (either (ℕ_discrete m 1) (ℕ_discrete m 3) (eq_tells m 1) (eq_tells m 3))

pub returns-in-Height : goal.returns-in-Height
unfolding present?
returns-in-Height c = let m = c.args.mark in rw c.in-Height.is (either (ℕ_discrete m 2) (ℕ_discrete m 3) (eq_tells m 2) (eq_tells m 3))
