-- `ask::mean::value_of` meets its contract.
use mathlib.Core.Path.{ap, ◌∙◌}
use Rattle.ask_nodes.specs.Value.{kind_of}
use Rattle.ask_sums.specs.Mean.{spread, terms}
use Rattle.ask.specs.Summed.{told_sum}
use Rattle.ask_sums.proofs.SumLaws.{ready_terms}
use Rattle.ask.proofs.MeanLaws.{sum_told}
use Rattle.ask.proofs.mean.value_of.Goals as goal

pub mean_of-requires : goal.mean_of-requires
mean_of-requires c =
    let a = c.args in
    rw c.sum_of.ensures (ready_terms a.s a.values.now a.exponents.now a.marks.now (spread a.shares a.first a.second) c.requires.1 c.requires.0.weights)

pub returns : goal.returns
returns c =
    let a = c.args in
    c.mean_of.ensures ∙ ap told_sum c.sum_of.ensures ∙ sum_told (kind_of a.s.kind) (terms a.s a.values.now a.exponents.now a.marks.now (spread a.shares a.first a.second))
