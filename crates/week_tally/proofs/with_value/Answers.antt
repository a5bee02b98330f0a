-- `week_tally::with_value` meets its contract.
use Rattle.std.proofs.Common.{◌≡◌, sym, ◌∙◌, rules, arith, w32, w64, SFits, to_z, of_z, ◌+ℤ◌}
use lib.IntN.{+ℤ_idr}
use Rattle.std.specs.Int.{int_min, int_max}
use Rattle.std.proofs.lemmas.Int.{to_z-of_z}
use Rattle.kit.proofs.Parts.{size_fits}
use Rattle.week_tally.specs.Figures.{joined, figures, given, lacking, range, sum}
use Rattle.week_tally.proofs.FigureLaws.{abs_add}
use Rattle.week_tally.proofs.SeenLaws.{spans_more}
use Rattle.week_tally.proofs.with_value.Goals as goal

pub returns : goal.returns
unfolding joined figures given lacking range sum
returns c =
    let s = c.args.s in
    let v = c.args.v in
    let a : SFits w32 v = search rules in
    let b : SFits w64 v = search rules in
    let d : SFits w64 s.sum = search rules in
    let f : SFits w64 (s.sum +ℤ v) = size_fits w64 _ (omega (arith, abs_add s.sum v, c.requires)) in
    let x : SFits w32 s.smallest = search rules in
    let y : SFits w32 s.largest = search rules in
    let low : to_z w32 (of_z w32 c.min.result) ≡ int_min s.smallest v = to_z-of_z w32 _ (search rules) ∙ (simp to_z-of_z at c.min.ensures.value) in
    let high : to_z w32 (of_z w32 c.max.result) ≡ int_max s.largest v = to_z-of_z w32 _ (search rules) ∙ (simp to_z-of_z at c.max.ensures.value) in
    λ t h. (omega (arith, h.0), (simp to_z-of_z (λ i. h.1.0 i +ℤ sym (+ℤ_idr v) i), rw (low, high) (spans_more t.range v s.smallest s.largest c.requires.1 h.1.1)))
