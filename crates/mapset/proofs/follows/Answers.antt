-- `mapset::follows` meets its contract.
use mathlib.Core.Path.{◌∙◌}
use mathlib.Core.Logic.{inl, inr, ⊎_elim}
use native.Mathlib.Omega.{arith}
use Prim.Native.Nat.{◌-◌}
use borrow.Author.Tests.{eqb-true, eqb-false, eq-eqb, lt-leb}
use lib.Dec.{eqb}
use Rattle.kit.proofs.TruthLaws.{holds, fails, tells}
use Rattle.mapset.specs.Decisions.{follows?}
use Rattle.mapset.proofs.follows.Goals as goal

pub returns-then-epoch-before : goal.returns-then-epoch-before
returns-then-epoch-before c = fails (follows? _ _ _) (λ f. omega (arith, f.0.0, c.if-epoch-before.true))

pub returns-then-interval-eq0 : goal.returns-then-interval-eq0
returns-then-interval-eq0 c = eq-eqb _ 0 c.if-interval-eq0.true ∙ (holds (follows? _ _ _) ((omega (arith, c.if-epoch-before.false), omega (arith, c.if-gap-le21600.true)), inl c.if-interval-eq0.true))

pub returns-else-interval-eq0 : goal.returns-else-interval-eq0
returns-else-interval-eq0 c =
    let s = c.args in
    let g = s.epoch - s.before in
    tells (eqb g s.interval) (follows? s.interval s.before s.epoch)
    (λ e. ((omega (arith, c.if-epoch-before.false), omega (arith, c.if-gap-le21600.true)), inr (omega (arith, eqb-true g s.interval e, c.if-epoch-before.false))))
    (λ e f. ⊎_elim c.if-interval-eq0.false (λ h. eqb-false g s.interval e (omega arith)) f.1)

pub returns-else-gap-le21600 : goal.returns-else-gap-le21600
returns-else-gap-le21600 c = lt-leb _ 21600 c.if-gap-le21600.false ∙ fails (follows? _ _ _) (λ f. omega (arith, f.0.1, c.if-gap-le21600.false, c.if-epoch-before.false))
