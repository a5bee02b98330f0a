-- `bias_scan::compare` meets its contract.
use mathlib.Core.Path.{◌≡◌, refl, sym, ◌∙◌, subst}
use Prim.Native.Nat.{◌+◌, ◌-◌}
use native.Mathlib.Omega.{arith}
use Rattle.std.specs.declared.cmp.Ordering.{Ordering}
use Rattle.std.specs.declared.cmp.Ordering.TheVariants.{Equal}
use Rattle.std.specs.Ordering.{ordering_then}
use Rattle.bias_scan.proofs.compare.Goals as goal

then_equal : (o p : Ordering) → Equal ≡ o → p ≡ ordering_then o p
then_equal o p e = subst (λ (q : Ordering). p ≡ ordering_then q p) e refl

pub returns-in-Equal : goal.returns-in-Equal
returns-in-Equal c =
    let a = c.args in
    let m : (a.a + 26) - (a.a + 6) ≡ 20 = omega arith in
    let n : (a.b + 26) - (a.b + 6) ≡ 20 = omega arith in
    rw (rw (m, n) at c.cmp-in-Equal.ensures) (then_equal _ _ (sym c.in-Equal.is ∙ (rw (c.seed_of.ensures, c.seed_of-2.ensures) at c.cmp.ensures)))
