use Rattle.std.proofs.Common.{map, take}
use Rattle.ask_nodes.specs.Nodes.{plain}
use Rattle.week_tally.specs.Figures.{figures}
use Rattle.week_tally.specs.Seen.{Holds}
use Rattle.week_tally.proofs.tally_of.Given as goal

abbrev pub invariant-loop-value : goal.invariant-loop-value
invariant-loop-value l = Holds (figures (map (λ v. plain v l.fn.exponent) (take l.value-index l.values))) l.s
