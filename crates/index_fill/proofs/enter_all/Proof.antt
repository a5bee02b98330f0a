use mathlib.Core.Path.{◌≡◌, ◌∙◌}
use mir.Syntax.{w32}
use mir.Val.{to_z, of_z}
use Rattle.index.specs.Index.{entries}
use Rattle.index_fill.specs.Enter.{entered_from}
use Rattle.index_fill.proofs.ScanLaws.{steady_cleared}
use borrow.Author.Rules.{rules}
use Rattle.index_fill.proofs.enter_all.Statement.{statement}
use Rattle.index_fill.proofs.enter_all.Tie as tie

e_is : (c : tie.After-struct_told-1) → to_z w32 (of_z w32 c.maps_start-w.result.exponent) ≡ c.maps_start-w.result.exponent
e_is c = search rules

maps-start-requires : tie.Need-maps_start-w-requires
maps-start-requires c κs = search rules

prefill-requires : tie.Need-prefill-requires
prefill-requires c κs = search rules

scan-requires : tie.Need-scan-requires
scan-requires c κs =
    let b = c.before.before.before.before.before.before.before.before.before.before.before.before.before.before.before.before.before in
    let w = c.before.before.before.before.before.before.before.before.before.before.before.before.before in
    (w.maps_start-w.ensures.within, rw (e_is c) (steady_cleared b.args.size.maps b.args.size.blocks b.args.size.columns b.args.text.now (entries b.args.positions.now b.args.exponents.now b.args.marks.now) _ w.maps_start-w.result b.requires w.maps_start-w.ensures c.prefill.ensures))

same_length : tie.Need-shape_of-positions
same_length c = search rules

same-length-2 : tie.Need-shape_of-exponents
same-length-2 c = search rules

same-length-3 : tie.Need-shape_of-marks
same-length-3 c = search rules

returns : tie.Need-returns
returns c =
    let b = c.before.before.before.before.before.before.before.before.before.before.before.before.before.before.before.before.before.before.before.before.before.before.before in
    let w = c.before.before.before.before.before.before.before.before.before.before.before.before.before.before.before.before.before.before.before in
    let s = rw (e_is c.before.before.before.before.before.before) at c.scan.ensures in
    s ∙ (λ i. entered_from b.args.size.maps b.args.size.blocks b.args.size.columns (w.maps_start-w.ensures.maps i).0 (w.maps_start-w.ensures.maps i).1 (c.prefill.ensures i))

pub enter_all_spec : {M : Type 1} → statement M
enter_all_spec = tie.close (tie.spec maps-start-requires prefill-requires scan-requires same_length same-length-2 same-length-3 returns)
