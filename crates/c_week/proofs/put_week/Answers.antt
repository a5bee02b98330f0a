use Rattle.std.proofs.Common.{◌≡◌, ℤ, List, ◌∷◌, ◌++◌, pos, set, ap, ◌∙◌, rules, w64, SFits, to_z, of_z}
use lib.Seq.{sets}
use Rattle.std.proofs.lemmas.Int.{to_z-of_z}
use Rattle.c_header.proofs.SetLaws.{sets_front}
use Rattle.week_tally.specs.Rows.{row}
use Rattle.c_week.specs.WeekNumbers.{week_numbers}
use Rattle.c_week.proofs.put_week.Goals as goal

pub returns : goal.returns
returns c =
    let w = c.args.w in
    let o = c.args.out.now in
    let f : SFits w64 c.count.result = search rules in
    let n : to_z w64 (of_z w64 c.count.result) ≡ pos w.sets = to_z-of_z w64 _ f ∙ c.count.ensures in
    let e : c.put_row.new.out ≡ sets o 0 (pos w.sets ∷ row w.tec.0) = c.put_row.ensures ∙ (λ i. sets (set o 0 (n i)) 1 (row w.tec.0)) in
    let g : c.put_row-2.new.out ≡ sets o 0 (pos w.sets ∷ (row w.tec.0 ++ row w.rms.0)) = c.put_row-2.ensures ∙ ap (λ (l : List ℤ). sets l 6 (row w.rms.0)) e in
    let h : c.put_row-3.new.out ≡ sets o 0 (week_numbers w) = c.put_row-3.ensures ∙ ap (λ (l : List ℤ). sets l 11 (row w.height.0)) g in
    h ∙ sets_front (week_numbers w) o c.requires.0
