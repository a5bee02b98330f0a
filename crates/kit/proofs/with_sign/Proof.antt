-- `kit::with_sign` meets its contract.
use borrow.Author.Rules.{rules}
use native.Mathlib.Omega.{arith}
use mathlib.Core.Path.{◌≡◌, refl, ◌∙◌}
use lib.IntN.{pos, neg_ℤ, ◌-ℤ◌, +ℤ_idl}
use mir.Syntax.{w64}
use mir.Val.{to_z, SFits}
use mir.Facts.{to_z-of_z, to_z_pos}
use Rattle.kit.proofs.Parts.{fits_parts, neg_up, neg_dn}
use Rattle.kit.proofs.with_sign.Statement.{statement}
use Rattle.kit.proofs.with_sign.Tie as tie

cast-result : tie.Need-overflow_cast-result
cast-result c = search rules

module _ (c : tie.Then-below) where
  read : pos 0 -ℤ to_z w64 c.args.m ≡ neg_ℤ (pos c.args.m)
  read = rw (to_z_pos w64 c.requires) (+ℤ_idl _)

  fits : SFits w64 (pos 0 -ℤ to_z w64 c.args.m)
  fits = rw read (fits_parts _ (omega (arith, neg_up (pos c.args.m))) (omega (arith, neg_dn (pos c.args.m))))

sub-result : tie.Need-overflow_sub-result
sub-result c = fits c

cast-result-2 : tie.Need-overflow_cast-result-else-below
cast-result-2 c = search rules

returns : tie.Need-returns-then-below
returns c = to_z-of_z (fits c) ∙ read c ∙ (rw c.if-below.true refl)

returns-2 : tie.Need-returns-else-below
returns-2 c = to_z_pos w64 c.requires ∙ (rw c.if-below.false refl)

pub with_sign_spec : {M : Type 1} → statement M
with_sign_spec = tie.close (tie.spec cast-result sub-result cast-result-2 returns returns-2)
