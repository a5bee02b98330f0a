use Rattle.std.proofs.Common.{◌≡◌, pos, ◌+◌, get_or, ap, ◌∙◌, rules, w64, to_z, of_z}
use Rattle.week_tally.proofs.FigureLaws.{same}
use Rattle.c_week.specs.WeekNumbers.{count_of, range_of}
use Rattle.c_week.proofs.tally_in.Goals as goal

pub returns : goal.returns
returns c =
    let l = c.args.n.now in
    let i = c.args.i in
    let x : to_z w64 (of_z w64 (get_or l i (pos 0))) ≡ get_or l i (pos 0) = search rules in
    let y : to_z w64 (of_z w64 (get_or l (i + 1) (pos 0))) ≡ get_or l (i + 1) (pos 0) = search rules in
    let a : to_z w64 (of_z w64 (get_or l (i + 2) (pos 0))) ≡ get_or l (i + 2) (pos 0) = search rules in
    let b : to_z w64 (of_z w64 (get_or l (i + 3) (pos 0))) ≡ get_or l (i + 3) (pos 0) = search rules in
    let z : to_z w64 (of_z w64 (get_or l (i + 4) (pos 0))) ≡ get_or l (i + 4) (pos 0) = search rules in
    let g = c.held-given.ensures ∙ ap count_of x in
    let h = c.held.ensures ∙ ap count_of y in
    let r = c.range_in.ensures ∙ (λ j. range_of (g j) (a j) (b j)) in
    same g h r z
