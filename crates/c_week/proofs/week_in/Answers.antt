use Rattle.std.proofs.Common.{◌≡◌, pos, get_or, ap, ◌∙◌, rules, w64, to_z, of_z}
use Rattle.week.proofs.WeekLaws.{same}
use Rattle.c_week.specs.WeekNumbers.{count_of, tally_at}
use Rattle.c_week.proofs.WeekLaws.{week_broken, week_plain}
use Rattle.c_week.proofs.week_in.Goals as goal

pub returns-then-n-lt0 : goal.returns-then-n-lt0
returns-then-n-lt0 c =
    let x : to_z w64 (of_z w64 (get_or c.args.n.now 0 (pos 0))) ≡ get_or c.args.n.now 0 (pos 0) = search rules in
    week_broken c.args.n.now (rw x at c.if-n-lt0.true) c.broken.ensures

-- where each kind's five numbers begin
pub returns : goal.returns
returns c =
    let l = c.args.n.now in
    let x : to_z w64 (of_z w64 (get_or l 0 (pos 0))) ≡ get_or l 0 (pos 0) = search rules in
    let tec : c.tally_in.result ≡ tally_at l 1 = c.tally_in.ensures in
    let rms : c.tally_in-2.result ≡ tally_at l 6 = c.tally_in-2.ensures in
    let height : c.tally_in-3.result ≡ tally_at l 11 = c.tally_in-3.ensures in
    week_plain l (rw x at c.if-n-lt0.false) (same (c.held.ensures ∙ ap count_of x) tec rms height)
