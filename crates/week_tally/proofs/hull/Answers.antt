use Rattle.std.proofs.Common.{◌≡◌, ap₂, ◌∙◌, rules, w32, SFits}
use Rattle.std.proofs.lemmas.Int.{to_z-of_z}
use Rattle.week_tally.specs.Figures.{from, smaller, larger}
use Rattle.week_tally.proofs.ExtremeLaws.{min_smaller, max_larger}
use Rattle.week_tally.proofs.hull.Goals as goal

pub returns-in-Some-Some : goal.returns-in-Some-Some
returns-in-Some-Some c =
    let k = c.in-Some-Some in
    let a : SFits w32 k.a.smallest = search rules in
    let b : SFits w32 k.b.smallest = search rules in
    let d : SFits w32 k.a.largest = search rules in
    let e : SFits w32 k.b.largest = search rules in
    let low : c.min.result ≡ smaller k.a.smallest k.b.smallest = (simp to_z-of_z at c.min.ensures.value) ∙ min_smaller _ _ in
    let high : c.max.result ≡ larger k.a.largest k.b.largest = (simp to_z-of_z at c.max.ensures.value) ∙ max_larger _ _ in
    rw (k.is-0, k.is-1) (ap₂ from (to_z-of_z w32 _ (search rules) ∙ low) (to_z-of_z w32 _ (search rules) ∙ high))
