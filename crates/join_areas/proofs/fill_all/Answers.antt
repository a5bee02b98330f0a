use Rattle.mapset.specs.Areas.{six}
use Rattle.join_areas.specs.Joined.{all_beside}
use Rattle.join_areas.proofs.fill_all.Goals as goal

pub returns : goal.returns
unfolding all_beside
returns c = λ i. six (c.join_values.ensures i) (c.join_kind.ensures i) (c.join_kind-2.ensures i) (c.join_exponents.ensures i) (c.join_epochs.ensures i) (c.join_marks.ensures i)
