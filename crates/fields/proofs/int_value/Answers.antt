use Rattle.std.specs.Prelude.{Some}
-- `fields::int_value` meets its contract.
use mir.Syntax.{w32}
use mathlib.Core.Path.{ap, ◌∙◌}
use mir.Facts.{to_z-of_z}
use Rattle.fields.proofs.Judged.{int_number, int_below}
use Rattle.fields.proofs.int_value.Goals as goal

pub signed_of-requires : goal.signed_of-requires
signed_of-requires c =
    let s = c.before.before.before in
    rw c.numeral_of.ensures (int_below s.args.f.now s.requires.1 s.requires.0)

pub returns : goal.returns
returns c =
    let s = c.before.before.before.before in
    ap Some (to_z-of_z {w = w32} (record { sfits = c.signed_of.type_inv }) ∙ c.signed_of.ensures ∙ (rw (c.has_minus.ensures, c.numeral_of.ensures)))
    ∙ int_number s.args.f.now s.requires.1
