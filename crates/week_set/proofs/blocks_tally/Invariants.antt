use Rattle.std.proofs.Common.{◌≡◌, ◌*◌, ◌≤◌, drop}
use Rattle.week_tally.specs.Figures.{Bounded, nodes_in, figures, joined}
use Rattle.week_set.specs.Parts.{blocks_nodes}
use Rattle.week_set.proofs.blocks_tally.Given as goal

abbrev pub invariant-loop-exponent : goal.invariant-loop-exponent
invariant-loop-exponent l =
    (l.at ≡ l.exponent-index * l.columns) × Bounded l.t × (nodes_in l.t ≤ l.exponent-index * l.columns)
    × (joined l.t (figures (blocks_nodes l.columns (drop l.at l.values) (drop l.exponent-index l.exponents))) ≡ figures (blocks_nodes l.columns l.values l.exponents))
