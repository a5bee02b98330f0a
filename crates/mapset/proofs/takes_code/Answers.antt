-- `mapset::takes_code` meets its contract.
use native.Mathlib.Decide.{ℕ_discrete, dec_lt}
use Rattle.kit.specs.Answer.{×_dec}
use Rattle.kit.proofs.TruthLaws.{both, either, eq_tells, lt_tells}
use Rattle.mapset.proofs.takes_code.Goals as goal

pub returns : goal.returns
returns c =
    let a = c.args in
    either (dec_lt a.code 9) (×_dec (ℕ_discrete a.tenths 10) (dec_lt a.code 11)) (lt_tells _ _)
    (both (ℕ_discrete a.tenths 10) (dec_lt a.code 11) (eq_tells _ _) (lt_tells _ _))
