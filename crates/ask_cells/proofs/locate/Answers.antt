-- `ask_cells::locate` meets its contract.
use native.Mathlib.Omega.{arith}
use mathlib.Core.Path.{◌≡◌, ap, ◌∙◌}
use lib.Arith.{digits_div, digits_mod}
use mathlib.Core.Logic.{⊎_elim}
use Prim.Native.Nat.{ℕ, ◌/◌, ◌%◌, ◌+◌, ◌*◌, ◌<◌}
use Rattle.ask_cells.specs.Place.{Sits}
use Rattle.ask_cells.specs.Found.{after}
use Rattle.ask_cells.proofs.locate.Goals as goal

-- nothing but the quotient and the remainder can be the cell
only : (x step n i j f : ℕ) → 0 < step → Sits step n x i j f → (x / step ≡ i) × (x % step ≡ f)
only x step n i j f h a =
    let e : x ≡ i * step + f = omega (arith, a.place) in
    (ap (λ (k : ℕ). k / step) e ∙ digits_div i a.less, ap (λ (k : ℕ). k % step) e ∙ digits_mod i a.less)

pub returns-else-next-n : goal.returns-else-next-n
returns-else-next-n c i f a =
    let o = only _ _ _ i (after c.args.around c.args.n i) f c.requires a in
    let e = c.next_of-next.ensures ∙ ap (after c.args.around c.args.n) o.0 in
    ⊎_elim (λ z. c.if-past-eq0.false (o.1 ∙ z)) (λ z. omega (arith, c.if-next-n.false, e)) a.next
