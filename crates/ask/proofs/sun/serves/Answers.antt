-- `ask::sun::serves` meets its contract.
use borrow.Author.Rules.{rules}
use native.Mathlib.Omega.{arith}
use mathlib.Core.Path.{◌≡◌, sym, ap, ◌∙◌}
use mathlib.Core.Bool.{Bool, true, false}
use mathlib.Core.Logic.{inl, inr}
use mathlib.Core.List.{List}
use Prim.Native.Nat.{ℕ, ◌≤◌}
use lib.IntN.{nat_abs}
use mir.Syntax.{w32}
use mir.Val.{to_z, of_z}
use Rattle.kit.proofs.TruthLaws.{truth_true, truth_false}
use Rattle.kit.specs.Truth.{Says}
use Rattle.mapset.specs.declared.Axis.{Axis}
use Rattle.ask_cells.specs.Place.{GoesRound}
use Rattle.ask_cells.specs.Found.{goes_round?}
use Rattle.ask_spans.specs.Time.{Close}
use Rattle.ask.specs.Sun.{Turns, Serves}
use Rattle.ask.proofs.sun.serves.Goals as goal

-- not served by a method that turns
module _ (m : ℕ) (h : 2 ≤ m) (a : Axis) (es : List ℕ) where
  refuse : ¬ Turns a es → ¬ Serves m a es
  refuse n (inl k) = omega arith
  refuse n (inr t) = n t

  -- the last test decides
  by_close : GoesRound a → nat_abs a.step ≤ 50 → (b : Bool) → Says b (Close 7200 es) → Says b (Serves m a es)
  by_close r k true s = inr (record { round = r; step = k; close = s })
  by_close r k false s = refuse (λ t. s t.close)

pub returns-then-not-goes_round : goal.returns-then-not-goes_round
returns-then-not-goes_round c =
    refuse c.args.method c.if-method-lt2.false c.args.a c.args.epochs.now (λ t. truth_false (goes_round? c.args.a) (sym c.goes_round.ensures ∙ c.if-not-goes_round.true) t.round)

-- the test of the step is not cited, since its name holds the number 50: `omega` reads it, and the goal where it fails is found alone
pub returns : goal.returns
returns c =
    let e : to_z w32 (of_z w32 c.args.a.step) ≡ c.args.a.step = search rules in
    by_close c.args.method c.if-method-lt2.false c.args.a c.args.epochs.now
    (truth_true (goes_round? c.args.a) (sym c.goes_round.ensures ∙ c.if-not-goes_round.false))
    (omega (arith, ap nat_abs e)) c.is_close.result c.is_close.ensures
