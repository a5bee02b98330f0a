-- `ask_cells::turned` meets its contract.
use borrow.Author.Rules.{rules}
use lib.IntN.{pos, nat_abs}
use mathlib.Core.Path.{◌≡◌, ap}
use mir.Syntax.{w64}
use mir.Val.{to_z, of_z}
use Rattle.std.specs.Int.{int_rem_euclid}
use Rattle.ask_cells.proofs.PlaceLaws.{euclid}
use Rattle.ask_cells.proofs.turned.Goals as goal

pub returns : goal.returns
returns c =
    let e : to_z w64 (of_z w64 c.rem_euclid.result) ≡ int_rem_euclid c.args.x (pos c.args.turn) = search rules in
    rw (ap nat_abs e) (euclid c.args.turn c.args.x c.requires.0)
