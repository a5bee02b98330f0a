-- `write_head::put_first` meets its contract.
use native.Mathlib.Omega.{arith}
use Rattle.mapset.proofs.Groups.{takes_known}
use Rattle.write_line.proofs.PutLaws.{room_first, room_next, put_next}
use Rattle.write_head.specs.Header.{first_rows}
use Rattle.write_head.proofs.put_first.Goals as goal

pub version_row-version-requires : goal.version_row-version-requires
version_row-version-requires c = let v = c.requires.0 in (omega (arith, v.0.1), takes_known v.1.1)

pub put_line-a-requires : goal.put_line-a-requires
unfolding first_rows
put_line-a-requires c = rw c.version_row-version.ensures (room_first c.requires.1)

pub put_line-requires : goal.put_line-requires
unfolding first_rows
put_line-requires c =
    let p1 = rw c.version_row-version.ensures at c.put_line-a.ensures in
    rw c.program_row-program.ensures (room_first (room_next c.requires.1 p1))

pub returns : goal.returns
unfolding first_rows
returns c =
    let p1 = rw c.version_row-version.ensures at c.put_line-a.ensures in
    let p2 = rw c.program_row-program.ensures at c.put_line.ensures in
    put_next p1 p2
