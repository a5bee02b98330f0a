-- `write_head::put_axis` meets its contract.
use mir.Syntax.{w32}
use mir.Val.{SFits}
use mir.Facts.{to_z-of_z}
use borrow.Author.Rules.{rules}
use Rattle.write_head.proofs.put_axis.Statement.{statement}
use Rattle.write_head.proofs.put_axis.Tie as tie

module _ (s : tie.Start) where
  first_fits : SFits w32 s.args.a.first
  first_fits = search rules

  last_fits : SFits w32 s.args.a.last
  last_fits = search rules

  step_fits : SFits w32 s.args.a.step
  step_fits = search rules

three-row-requires : tie.Need-three_row-row-requires
three-row-requires c κs = search rules

slice-aggregate-put-line : tie.Need-slice_bounds-put_line-end
slice-aggregate-put-line c = search rules

put-line-requires : tie.Need-put_line-requires
put-line-requires c κs =
    let s = c.before.before.before.before.before.before.before in
    rw (c.three_row-row.ensures, to_z-of_z (first_fits s), to_z-of_z (last_fits s), to_z-of_z (step_fits s)) s.requires.1

same_length : tie.Need-shape_of-out
same_length c = search rules

returns : tie.Need-returns
returns c =
    let s = c.before.before.before.before.before.before.before.before.before.before in
    rw (c.three_row-row.ensures, to_z-of_z (first_fits s), to_z-of_z (last_fits s), to_z-of_z (step_fits s)) at c.put_line.ensures

pub put_axis_spec : {M : Type 1} → statement M
put_axis_spec = tie.close (tie.spec three-row-requires slice-aggregate-put-line put-line-requires same_length returns)
