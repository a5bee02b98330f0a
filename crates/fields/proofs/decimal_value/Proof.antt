-- `fields::decimal_value` meets its contract.
use mir.Syntax.{w32}
use mathlib.Core.Path.{◌≡◌, ap, ◌∙◌}
use Prim.Native.Nat.{ℕ}
use mir.Facts.{to_z-of_z}
use borrow.Author.Rules.{rules}
use Rattle.forms.specs.Form.{signed, numeral}
use Rattle.forms.specs.Bytes.{has_minus}
use Rattle.fields.proofs.decimal_value.Statement.{statement}
use Rattle.fields.proofs.decimal_value.Tie as tie

numeral-of-requires : tie.Need-numeral_of-whole-requires
numeral-of-requires c κs = search rules

has-minus-requires : tie.Need-has_minus-requires
has-minus-requires c κs = search rules

numeral-of-requires-2 : tie.Need-numeral_of-requires
numeral-of-requires-2 c κs = search rules

signed-of-requires : tie.Need-signed_of-requires
signed-of-requires c κs =
    let s = c.before.before.before.before.before in
    rw (c.numeral_of.ensures, c.numeral_of-whole.ensures) s.requires.all

-- the sign is that of the bytes before the point
sign_in_front : (c : tie.After-has_minus) → c.has_minus.result ≡ has_minus c.args.front.now
sign_in_front c = c.has_minus.ensures

returns : tie.Need-returns
returns c =
    let h = c.before.before in
    let n = h.before in
    let p = n.args.part.now in
    let number = c.numeral_of.ensures ∙ ap (λ (w : ℕ). numeral w p) n.numeral_of-whole.ensures in
    to_z-of_z {w = w32} (record { sfits = c.signed_of.type_inv }) ∙ c.signed_of.ensures ∙ (λ i. signed (sign_in_front h i) (number i))

pub decimal_value_spec : {M : Type 1} → statement M
decimal_value_spec = tie.close (tie.spec numeral-of-requires has-minus-requires numeral-of-requires-2 signed-of-requires returns)
