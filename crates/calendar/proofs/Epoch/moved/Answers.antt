-- `calendar::Epoch::moved` meets its contract.
use mathlib.Core.Path.{refl, sym, ap, ◌∙◌}
use Prim.Native.Nat.{ℕ}
use lib.IntN.{pos, ◌+ℤ◌}
use mir.Facts.{to_z-of_z}
use Rattle.calendar.proofs.DateLaws.{dated_below}
use Rattle.calendar.proofs.Epoch.moved.Goals as goal

pub shifted-requires : goal.shifted-requires
shifted-requires c = dated_below _ _ _ _ _ _ _ (rw c.in_ok-s.was at c.seconds.ensures)

pub returns-in_err-t : goal.returns-in_err-t
returns-in_err-t c =
    let s = rw c.in_ok-s.was at c.seconds.ensures in
    let none = rw (to_z-of_z c.ranges.by, c.in_err-t.was) at c.shifted.ensures in
    rw c.from_residual-in_err-t.ensures (refl, λ f l. none.1 l.to (dated_below _ _ _ _ _ _ l.to l.ends, l.later ∙ ap (λ (n : ℕ). pos n +ℤ c.args.by) (sym l.starts.at ∙ s.at)))
