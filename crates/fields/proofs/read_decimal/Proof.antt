use Rattle.std.specs.Prelude.{Some}
-- `fields::read_decimal` meets its contract.
use mir.Syntax.{w32}
use mathlib.Core.Path.{◌≡◌, sym, ap, ◌∙◌}
use mathlib.Core.Bool.{true}
use Prim.Native.Nat.{◌<◌}
use native.Mathlib.Omega.{arith}
use lib.ListN.{length}
use lib.Seq.{length-take-le}
use mir.Facts.{to_z-of_z}
use borrow.Author.Rules.{rules}
use Rattle.kit.proofs.ListLaws.{rest_of}
use Rattle.forms.specs.Form.{decimal}
use Rattle.forms.specs.Read.{read_field, is_number}
use Rattle.fields.proofs.Judged.{bad_of}
use Rattle.fields.proofs.Point.{decimal_long, decimal_number, decimal_small}
use Rattle.fields.proofs.read_decimal.Statement.{statement}
use Rattle.fields.proofs.read_decimal.Tie as tie

module _ (c : tie.Then-is_decimal) where
  number : is_number (read_field (decimal c.args.after) c.args.f.now) ≡ true
  number = sym c.is_decimal.ensures ∙ c.if-is_decimal.true

  long : c.args.after < length c.args.f.now
  long = decimal_long _ c.requires.0 _ number

is-decimal-requires : tie.Need-is_decimal-requires
is-decimal-requires c κs = search rules

returns : tie.Need-returns-then-is_decimal
returns c =
    let i = c.before.before.before in
    let s = i.before.before in
    ap Some (to_z-of_z {w = w32} (record { sfits = c.decimal_value.type_inv }) ∙ (rw rest_of at c.decimal_value.ensures)) ∙ decimal_number _ s.requires.0 s.args.f.now (number c.before.before)

sub-k : tie.Need-overflow_sub-k
sub-k c = let h = long c in omega arith

sub-k-2 : tie.Need-overflow_sub-k-then-is_decimal
sub-k-2 c = let h = long c in omega arith

add-p : tie.Need-overflow_add-p
add-p c = search rules

slice-aggregate-decimal-value : tie.Need-slice_bounds-decimal_value-end
slice-aggregate-decimal-value c = sym (length-take-le _ _ (let h = long c in omega arith))

sub-decimal-value : tie.Need-slice_bounds-decimal_value-count
sub-decimal-value c = let h = long c in omega arith

part-decimal-value-start : tie.Need-slice_bounds-decimal_value-start
part-decimal-value-start c = let h = long c in search rules

part-decimal-value-end : tie.Need-slice_bounds-decimal_value-end-then-is_decimal
part-decimal-value-end c = search rules

decimal-value-requires : tie.Need-decimal_value-requires
decimal-value-requires c κs =
    let i = c.before.before in
    let s = i.before.before in
    rw rest_of (decimal_small _ s.requires.0 s.args.f.now (number c.before) s.requires.1)

returns-2 : tie.Need-returns-else-is_decimal
returns-2 c = bad_of _ (sym c.is_decimal.ensures ∙ c.if-is_decimal.false)

pub read_decimal_spec : {M : Type 1} → statement M
read_decimal_spec = tie.close (tie.spec is-decimal-requires sub-k sub-k-2 add-p slice-aggregate-decimal-value sub-decimal-value part-decimal-value-start part-decimal-value-end decimal-value-requires returns returns-2)
