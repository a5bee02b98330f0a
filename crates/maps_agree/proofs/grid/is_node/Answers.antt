use mathlib.Core.Path.{ap, ◌∙◌}
use lib.IntN.{ℤ}
use mir.Syntax.{w64}
use mir.Facts.{to_z-of_z, sfits_widen}
use Rattle.kit.specs.Integer.{int?}
use Rattle.kit.specs.Truth.{truth}
use Rattle.kit.proofs.IntegerLaws.{same_bits}
use Rattle.maps_agree.proofs.grid.is_node.Goals as goal

pub overflow_cast-result : goal.overflow_cast-result
overflow_cast-result c = rw (to_z-of_z c.ranges.x) (sfits_widen tt c.ranges.x)

pub returns : goal.returns
returns c =
    let s = c.before in
    rw (to_z-of_z s.ranges.x) (same_bits w64 s.args.x c.node.result (sfits_widen tt s.ranges.x) (record { sfits = c.node.type_inv }) ∙ ap (λ (y : ℤ). truth (int? s.args.x y)) c.node.ensures)
