use Rattle.std.proofs.Common.{rules, w32, SFits}
use Rattle.std.proofs.lemmas.Int.{to_z-of_z}
use Rattle.week.proofs.SaneLaws.{fit_none, fit_some}
use Rattle.week.proofs.fits.Goals as goal

pub returns-in-None : goal.returns-in-None
returns-in-None c = rw c.in-None.is (fit_none c.args.given)

pub returns-in-Some : goal.returns-in-Some
returns-in-Some c =
    let r = c.in-Some.r in
    let a : SFits w32 r.smallest = search rules in
    let b : SFits w32 r.largest = search rules in
    rw c.in-Some.is (simp to_z-of_z (fit_some c.args.given r))
