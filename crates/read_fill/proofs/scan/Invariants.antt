use Rattle.areas.specs.Stores.{lengths}
use Rattle.areas.specs.Scan.{at_first, brought}
use Rattle.read_fill.specs.Rows.{rows_from}
use Rattle.mapset.specs.Areas.{six}
use Rattle.read_fill.proofs.Going.{Going, weight}
use Rattle.read_fill.proofs.scan.Given as goal

abbrev pub invariant-loop-at : goal.invariant-loop-at
invariant-loop-at l =
    Going l.size.maps l.size.blocks l.size.columns (lengths (six l.initial.tec l.initial.rms l.initial.height l.initial.exponents l.initial.epochs l.initial.marks)) l.text (brought l.size.columns (at_first l.exponent) 0 (rows_from l.text l.from)) (six l.initial.tec l.initial.rms l.initial.height l.initial.exponents l.initial.epochs l.initial.marks) l.at l.s (six l.tec l.rms l.height l.exponents l.epochs l.marks)

abbrev pub decreases-loop-at : goal.decreases-loop-at
decreases-loop-at l =
    weight l.text l.at
