use Rattle.std.proofs.Common.{refl, rules, arith, w64, SFits, ◌+ℤ◌}
use Rattle.std.proofs.lemmas.Int.{to_z-of_z}
use Rattle.kit.proofs.Parts.{size_fits}
use Rattle.week_tally.specs.Figures.{joined}
use Rattle.week_tally.proofs.FigureLaws.{abs_add, same}
use Rattle.week_tally.proofs.join.Goals as goal

pub returns : goal.returns
unfolding joined
returns c =
    let t = c.args.t.sum in
    let u = c.args.u.sum in
    let a : SFits w64 t = search rules in
    let b : SFits w64 u = search rules in
    let f : SFits w64 (t +ℤ u) = size_fits w64 _ (omega (arith, abs_add t u, c.requires)) in
    same refl refl c.hull.ensures (simp to_z-of_z refl)
