-- `join_head::alike` meets its contract.
use mathlib.Core.Path.{◌∙◌}
use native.Mathlib.Decide.{ℕ_discrete}
use Rattle.kit.specs.Answer.{×_dec}
use Rattle.kit.proofs.TruthLaws.{both, eq_tells}
use Rattle.join.specs.Join.{grid?, alike?}
use Rattle.join_head.proofs.Told.{by_parts}
use Rattle.join_head.proofs.alike.Goals as goal

pub returns : goal.returns
unfolding alike?
returns c =
    let a = c.args.a in
    let z = c.args.b in
    let d1 = grid? a.grid z.grid in
    let d2 = ℕ_discrete a.model.dimension z.model.dimension in
    let d3 = ℕ_discrete a.model.radius z.model.radius in
    both d1 (×_dec d2 d3) c.same_grid.ensures (both d2 d3 (eq_tells a.model.dimension z.model.dimension) (eq_tells a.model.radius z.model.radius))
    ∙ by_parts _ _ (×_dec d1 (×_dec d2 d3))
