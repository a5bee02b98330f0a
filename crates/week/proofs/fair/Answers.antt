use Rattle.std.proofs.Common.{◌≡◌, ◌*◌, leb, ap, ◌∙◌, arith, rules, w64, SFits}
use Rattle.std.specs.Prelude.{nat_abs}
use Rattle.std.proofs.Math.Decide.{dec_le}
use Rattle.std.proofs.lemmas.Int.{to_z-of_z}
use Rattle.kit.specs.Answer.{×_dec}
use Rattle.kit.proofs.TruthLaws.{fails, both, truth_same, le_tells}
use Rattle.week.specs.Sane.{fit?, fair?}
use Rattle.week.proofs.fair.Goals as goal

pub returns-then-most-t : goal.returns-then-most-t
returns-then-most-t c = fails (fair? c.args.sets c.args.t) (λ h. omega (arith, h.0, c.if-most-t.true))

pub returns-then-most-t-2 : goal.returns-then-most-t-2
returns-then-most-t-2 c = fails (fair? c.args.sets c.args.t) (λ h. omega (arith, h.0, c.if-most-t-2.true))

pub returns : goal.returns
returns c =
    let t = c.args.t in
    let most = t.given * 99_999_000 in
    let f : SFits w64 t.sum = search rules in
    let u : c.unsigned_abs.result ≡ nat_abs t.sum = simp to_z-of_z at c.unsigned_abs.ensures.value in
    both (dec_le (nat_abs t.sum) most) (fit? t.given t.range) (ap (λ n. leb n most) u ∙ le_tells (nat_abs t.sum) most) c.fits.ensures
    ∙ truth_same (×_dec (dec_le (nat_abs t.sum) most) (fit? t.given t.range)) (fair? c.args.sets t) (λ h. (omega arith, h)) (λ h. h.1)
