use borrow.Author.Rules.{rules}
use mathlib.Core.Path.{◌≡◌, ◌∙◌}
use mir.Syntax.{w32}
use mir.Val.{to_z, of_z}
use borrow.Author.Tests.{lt-leb, both_ways}
use mathlib.Core.Logic.{⊎_elim}
use Rattle.mapset.proofs.axes.longitudes_agree.Goals.{then-a, else-a}
use Rattle.mapset.proofs.JudgedLaws.{le_holds, le_fails, backward, too_far, round_earth}
use Rattle.mapset.proofs.axes.longitudes_agree.Goals as goal

pub returns-then-span-le3600 : goal.returns-then-span-le3600
returns-then-span-le3600 c =
    let f : to_z w32 (of_z w32 c.args.a.first) ≡ c.args.a.first = search rules in
    let l : to_z w32 (of_z w32 c.args.a.last) ≡ c.args.a.last = search rules in
    let d = rw (l, f) at c.abs_diff-span.ensures in
    c.ends_divide.ensures ∙ round_earth c.args.a (le_holds _ _ (rw (f, l) at c.if-span-le3600.true.0)) (rw d at c.if-span-le3600.true.1)

pub returns-else-span-le3600 : goal.returns-else-span-le3600
returns-else-span-le3600 c =
    let f : to_z w32 (of_z w32 c.args.a.first) ≡ c.args.a.first = search rules in
    let l : to_z w32 (of_z w32 c.args.a.last) ≡ c.args.a.last = search rules in
    let d = rw (l, f) at c.abs_diff-span.ensures in
    elim c.if-a.branch [
      | then-a w ↦ w.t-4-is ∙ ⊎_elim (λ h. lt-leb _ 3600 h.1 ∙ too_far c.args.a (rw d at h.1)) (λ h. absurd (both_ways _ h w.if-a.true)) c.if-span-le3600.either
      | else-a w ↦ w.t-4-is ∙ w.if-a.false ∙ backward c.args.a (le_fails _ _ (rw (f, l) at w.if-a.false))
    ]
