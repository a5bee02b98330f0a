use mathlib.Core.Path.{◌≡◌, sym, ◌∙◌}
use mir.Facts.{to_z-of_z}
use Rattle.calendar.specs.Calendar.{dated}
use Rattle.calendar.proofs.Once.{take_dated}
use Rattle.reading.specs.Maps.{on_date}
use borrow.Author.Rules.{rules}
use Rattle.maps_records.proofs.second_of.Statement.{statement}
use Rattle.maps_records.proofs.second_of.Tie as tie

taken : (c : tie.After-take) → c.take.result ≡ dated c.args.year c.args.month c.args.day c.args.hour c.args.minute c.args.second
taken c =
    let s = c.before in
    rw (to_z-of_z s.ranges.year, to_z-of_z s.ranges.month, to_z-of_z s.ranges.day, to_z-of_z s.ranges.hour, to_z-of_z s.ranges.minute, to_z-of_z s.ranges.second) at (take_dated _ _ _ _ _ _ c.take.result c.take.ensures)

take-requires : tie.Need-take-requires
take-requires c κs = search rules

enum-known-t : tie.Need-enum_known-t
enum-known-t c = search rules

enum-known-column : tie.Need-enum_known-column
enum-known-column c = search rules

returns : tie.Need-returns-in-Ok
unfolding on_date
returns c = rw (sym (taken c.before) ∙ c.in-Ok.is)

returns-2 : tie.Need-returns-in-Err
unfolding on_date
returns-2 c = rw (sym (taken c.before) ∙ c.in-Err.is)

pub second_of_spec : {M : Type 1} → statement M
second_of_spec = tie.close (tie.spec take-requires enum-known-t enum-known-column returns returns-2)
