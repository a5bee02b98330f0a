-- `ask::sun::cells_at` meets its contract.
use native.Mathlib.Omega.{arith}
use mathlib.Core.Path.{refl}
use mathlib.Core.Logic.{inl, inr, ⊎_elim}
use mir.Facts.{to_z-of_z}
use Rattle.ask.proofs.Strip.{plain_cells}
use Rattle.ask.proofs.sun.cells_at.Goals as goal
use Rattle.ask.proofs.sun.cells_at.Goals.{then-shares-eq0-via-then-shares-eq0, then-shares-eq0-via-else-shares-eq0+then-method-lt2}

pub returns-in_err-first : goal.returns-in_err-first
returns-in_err-first c = rw c.from_residual.ensures (_, rw (to_z-of_z c.ranges.lat, to_z-of_z c.ranges.lon) at c.in_err-first.ensures)

pub returns-then-shares-eq0 : goal.returns-then-shares-eq0
returns-then-shares-eq0 c =
    let a = c.args in
    let f = rw (to_z-of_z c.ranges.lat, to_z-of_z c.ranges.lon) at c.in_ok-first.ensures in
    elim c.then-shares-eq0.branch [
      | then-shares-eq0-via-then-shares-eq0 w ↦ record { first_in = f; second_in = inl (w.if-shares-eq0.true, refl) }
      | then-shares-eq0-via-else-shares-eq0+then-method-lt2 w ↦ plain_cells a.method w.if-method-lt2.true a.g a.lat a.lon a.second a.epochs.now a.shares c.in_ok-first.first f
    ]

pub cell_at-requires-2 : goal.cell_at-requires-2
cell_at-requires-2 c =
    let p = c.requires in
    (p.rows, p.columns, p.second, p.epochs _ (⊎_elim (λ z. absurd (c.if-shares-eq0.false z)) (λ h. h) p.next))

pub returns-in_err-other : goal.returns-in_err-other
returns-in_err-other c = rw c.from_residual-in_err-other.ensures (_, rw (to_z-of_z c.ranges.lat, to_z-of_z c.ranges.lon) at c.in_err-other.ensures)

pub returns : goal.returns
returns c =
    record {
      first_in = rw (to_z-of_z c.ranges.lat, to_z-of_z c.ranges.lon) at c.in_ok-first.ensures;
      second_in = inr (omega (arith, c.if-shares-eq0.false), rw (to_z-of_z c.ranges.lat, to_z-of_z c.ranges.lon) at c.in_ok-other.ensures);
    }
