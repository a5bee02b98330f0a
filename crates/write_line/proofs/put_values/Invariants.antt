use lib.ListN.{length}
use Rattle.canonical.specs.Canon.{value_rows}
use Rattle.write_line.specs.Put.{PutsOn}
use Rattle.write_line.proofs.put_values.Given as goal

abbrev pub invariant-loop-rest : goal.invariant-loop-rest
invariant-loop-rest l = PutsOn l.initial.out l.at (value_rows (length l.values) l.values) l.out l.next (value_rows (length l.rest) l.rest)

abbrev pub decreases-loop-rest : goal.decreases-loop-rest
decreases-loop-rest l = length l.rest
