-- `valid::all_same` meets its contract.
use mathlib.Core.Path.{◌≡◌, ◌∙◌}
use mir.Syntax.{w32}
use mir.Val.{to_z, of_z}
use mir.Facts.{to_z-of_z}
use Rattle.valid.proofs.Judging.{sames_between}
use Rattle.valid.proofs.all_same.Goals as goal

pub returns : goal.returns
returns c =
    let e : to_z w32 (of_z w32 c.args.v) ≡ c.args.v = to_z-of_z c.ranges.v in
    (rw e at c.all_between.ensures) ∙ sames_between c.args.v c.args.values.now
