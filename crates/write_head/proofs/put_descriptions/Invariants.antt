use Prim.Native.Nat.{◌-◌, ◌*◌}
use lib.ListN.{drop}
use Rattle.mapset.specs.Described.{line_width}
use Rattle.write_line.specs.Put.{PutsOn}
use Rattle.write_head.specs.Header.{lines_rows}
use Rattle.write_head.proofs.put_descriptions.Given as goal

abbrev pub invariant-loop-i : goal.invariant-loop-i
invariant-loop-i l = PutsOn l.initial.out l.at (lines_rows l.n l.lines) l.out l.next (lines_rows (l.n - l.i) (drop (line_width * l.i) l.lines))
