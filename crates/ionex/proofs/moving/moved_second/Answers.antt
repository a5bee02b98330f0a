-- `ionex::moving::moved_second` meets its contract.
use mathlib.Core.Path.{refl, subst}
use Prim.Native.Nat.{ℕ}
use lib.IntN.{ℤ}
use mir.Facts.{to_z-of_z}
use Rattle.kit.specs.Answer.{Answer, ok, refused}
use Rattle.calendar.specs.Calendar.{DateAt, Later, Refusal, told_found, told_when, The}
use Rattle.calendar.proofs.DateLaws.{date_once}
use Rattle.calendar.specs.declared.Epoch.{Epoch}
use Rattle.c_answers.specs.MoveExported.{Moves}
use Rattle.ionex.proofs.moving.moved_second.Goals as goal

-- the second of the date that comes later
ended : {s : ℕ} {by : ℤ} {e f : Epoch} → DateAt e s → Later e by f → (a : Answer Refusal ℕ) → The (DateAt f) a → The (Moves s by) a
ended {e = e} {f = f} p l (ok t) d = record { from = e; to = f; starts = p; later = l; ends = d }
ended p l (refused w) n = (n.0, λ t m. n.1 l.to l.ends)

pub returns-in_err-from : goal.returns-in_err-from
returns-in_err-from c =
    let none = rw c.in_err-from.was at c.at_second.ensures in
    rw c.from_residual.ensures (record { outcome = (refl, λ t m. none.1 m.from m.starts) })

pub returns-in_err-to : goal.returns-in_err-to
returns-in_err-to c =
    let here = rw c.in_ok-from.was at c.at_second.ensures in
    let none = rw (to_z-of_z c.ranges.by, c.in_err-to.was) at c.moved.ensures in
    rw c.from_residual-in_err-to.ensures
    (record { outcome = (refl, λ t m. none.1 m.to (subst (λ e. Later e c.args.by m.to) (date_once _ _ _ m.starts here) m.later)) })

pub returns : goal.returns
returns c =
    let here = rw c.in_ok-from.was at c.at_second.ensures in
    let there = rw (to_z-of_z c.ranges.by, c.in_ok-to.was) at c.moved.ensures in
    record { outcome = ended here there (told_when c.seconds.result) c.seconds.ensures }
