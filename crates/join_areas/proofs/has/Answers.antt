use Rattle.join_areas.proofs.StoreLaws.{has_told}
use Rattle.join_areas.proofs.has.Goals as goal

pub returns : goal.returns
returns c = has_told c.args.kind c.args.marks.now c.need.ensures
