use mathlib.Core.Path.{ap, ◌∙◌}
use native.Mathlib.Omega.{arith}
use Prim.Native.Nat.{ℕ}
use Rattle.kit.specs.Truth.{truth}
use Rattle.mapset.specs.Decisions.{follows?}
use Rattle.maps_agree.proofs.TimeLaws.{after_first, after_next}
use Rattle.maps_agree.proofs.times.is_after.Goals as goal

pub returns-in-None : goal.returns-in-None
returns-in-None c = let a = c.args in after_first a.header a.epochs.now a.e (omega (arith, c.in-None.ensures.item.3))

pub returns-in-Some : goal.returns-in-Some
returns-in-Some c =
    let a = c.args in
    let i = c.in-Some.ensures.item.3 in
    c.follows.ensures
    ∙ ap (λ (x : ℕ). truth (follows? a.header.times.interval x a.e)) (i.1 0)
    ∙ after_next a.header a.epochs.now a.e (λ z. omega (arith, i.0))
