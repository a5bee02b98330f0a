-- `join_head::meet` meets its contract.
use Rattle.kit.proofs.TruthLaws.{eq_tells}
use Rattle.join.specs.Join.{meet?}
use Rattle.join_head.proofs.meet.Goals as goal

pub returns : goal.returns
unfolding meet?
returns c = let a = c.args in eq_tells a.a.times.last a.b.times.first
