-- `write_line::put_exponent` meets its contract.
use mathlib.Core.Path.{◌≡◌, sym, ◌∙◌}
use mathlib.Core.Bool.{true, false}
use native.Mathlib.Omega.{arith}
use borrow.Author.Tests.{eq-eqb, apart_eqb}
use mir.Syntax.{w32}
use mir.Facts.{to_z-of_z}
use Rattle.kit.specs.Integer.{int?}
use Rattle.kit.specs.Truth.{truth}
use Rattle.kit.proofs.IntegerLaws.{same_bits}
use Rattle.write_line.proofs.PutLaws.{put_none}
use Rattle.write_line.proofs.BlockLaws.{exponent_none, exponent_one}
use Rattle.write_line.proofs.put_exponent.Goals as goal

-- the exponent in force is compared with the block's
pub returns-then-in_force-exponent : goal.returns-then-in_force-exponent
returns-then-in_force-exponent c =
    let s = c.args in
    let e : truth (int? s.in_force s.exponent) ≡ true = sym (same_bits w32 s.in_force s.exponent c.ranges.in_force c.ranges.exponent) ∙ eq-eqb _ _ c.if-in_force-exponent.true in
    rw (exponent_none s.in_force s.exponent e) put_none

pub put_number-requires : goal.put_number-requires
put_number-requires c =
    let s = c.args in
    let e : truth (int? s.in_force s.exponent) ≡ false = sym (same_bits w32 s.in_force s.exponent c.ranges.in_force c.ranges.exponent) ∙ apart_eqb _ _ c.if-in_force-exponent.false in
    (omega arith, rw (to_z-of_z c.ranges.exponent, ← exponent_one s.in_force s.exponent e) c.requires)

pub returns : goal.returns
returns c =
    let s = c.args in
    let e : truth (int? s.in_force s.exponent) ≡ false = sym (same_bits w32 s.in_force s.exponent c.ranges.in_force c.ranges.exponent) ∙ apart_eqb _ _ c.if-in_force-exponent.false in
    rw (exponent_one s.in_force s.exponent e) (rw (to_z-of_z c.ranges.exponent) at c.put_number.ensures)
