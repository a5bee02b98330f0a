-- `write_row::epoch_row` meets its contract.
-- the numbers of the date fit
use mathlib.Core.List.{[]}
use lib.ListN.{get_or}
use mir.Syntax.{w32}
use mir.Facts.{to_z_pos}
use borrow.Author.Rules.{rules}
use Rattle.layout.specs.Names.{names}
use Rattle.write_row.specs.Rows.{row_at}
use Rattle.write_row.proofs.RowLaws.{six_filled}
use Rattle.write_row.proofs.NumberLaws.{Small, date_small}
use Rattle.write_row.proofs.epoch_row.Statement.{statement}
use Rattle.write_row.proofs.epoch_row.Tie as tie

small : (c : tie.After-date-e) → Small c.date-e.result
small c = rw (← c.date-e.ensures) at (date_small c.args.second)

date-requires : tie.Need-date-e-requires
date-requires c κs = search rules

blank-row-requires : tie.Need-blank_row-row-requires
blank-row-requires c κs = search rules

slice-aggregate-put-int : tie.Need-slice_bounds-put_int-end
slice-aggregate-put-int c = search rules

cast-put-int : tie.Need-overflow_cast-e
cast-put-int c = record { sfits = (small c.before.before.before).year }

put-int-requires : tie.Need-put_int-requires
put-int-requires c κs = search rules

slice-aggregate-put-int-2 : tie.Need-slice_bounds-put_int-end-2
slice-aggregate-put-int-2 c = search rules

cast-put-int-2 : tie.Need-overflow_cast-e-2
cast-put-int-2 c = record { sfits = (small c.before.before.before.before.before.before.before).month }

put-int-requires-2 : tie.Need-put_int-requires-2
put-int-requires-2 c κs = search rules

slice-aggregate-put-int-3 : tie.Need-slice_bounds-put_int-end-3
slice-aggregate-put-int-3 c = search rules

cast-put-int-3 : tie.Need-overflow_cast-e-3
cast-put-int-3 c = record { sfits = (small c.before.before.before.before.before.before.before.before.before.before.before).day }

put-int-requires-3 : tie.Need-put_int-requires-3
put-int-requires-3 c κs = search rules

slice-aggregate-put-int-4 : tie.Need-slice_bounds-put_int-end-4
slice-aggregate-put-int-4 c = search rules

cast-put-int-4 : tie.Need-overflow_cast-e-4
cast-put-int-4 c = record { sfits = (small c.before.before.before.before.before.before.before.before.before.before.before.before.before.before.before).hour }

put-int-requires-4 : tie.Need-put_int-requires-4
put-int-requires-4 c κs = search rules

slice-aggregate-put-int-5 : tie.Need-slice_bounds-put_int-end-5
slice-aggregate-put-int-5 c = search rules

cast-put-int-5 : tie.Need-overflow_cast-e-5
cast-put-int-5 c = record { sfits = (small c.before.before.before.before.before.before.before.before.before.before.before.before.before.before.before.before.before.before.before).minute }

put-int-requires-5 : tie.Need-put_int-requires-5
put-int-requires-5 c κs = search rules

slice-aggregate-put-int-6 : tie.Need-slice_bounds-put_int-end-6
slice-aggregate-put-int-6 c = search rules

cast-put-int-6 : tie.Need-overflow_cast-e-6
cast-put-int-6 c = record { sfits = (small c.before.before.before.before.before.before.before.before.before.before.before.before.before.before.before.before.before.before.before.before.before.before.before).second }

put-int-requires-6 : tie.Need-put_int-requires-6
put-int-requires-6 c κs = search rules

returns : tie.Need-returns
unfolding row_at
returns c =
    let s = c.before.before.before.before.before.before.before.before.before.before.before.before.before.before.before.before.before.before.before.before.before.before.before.before.before.before in
    let t = c.before.before.before.before.before.before.before.before.before.before.before.before.before.before.before.before.before.before.before.before.before.before.before.before.before in
    let d = small t in
    let e1 = rw (to_z_pos w32 d.year) at c.put_int.ensures in
    let e2 = rw (to_z_pos w32 d.month) at c.put_int-2.ensures in
    let e3 = rw (to_z_pos w32 d.day) at c.put_int-3.ensures in
    let e4 = rw (to_z_pos w32 d.hour) at c.put_int-4.ensures in
    let e5 = rw (to_z_pos w32 d.minute) at c.put_int-5.ensures in
    let e6 = rw (to_z_pos w32 d.second) at c.put_int-6.ensures in
    rw (← t.date-e.ensures) (six_filled (get_or names s.args.k []) _ c.blank_row-row.ensures _ _ _ _ _ _ _ _ _ _ _ _ e1 e2 e3 e4 e5 e6)

pub epoch_row_spec : {M : Type 1} → statement M
epoch_row_spec = tie.close (tie.spec date-requires blank-row-requires slice-aggregate-put-int cast-put-int put-int-requires slice-aggregate-put-int-2 cast-put-int-2 put-int-requires-2 slice-aggregate-put-int-3 cast-put-int-3 put-int-requires-3 slice-aggregate-put-int-4 cast-put-int-4 put-int-requires-4 slice-aggregate-put-int-5 cast-put-int-5 put-int-requires-5 slice-aggregate-put-int-6 cast-put-int-6 put-int-requires-6 returns)
