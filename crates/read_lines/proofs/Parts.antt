-- The line that starts at a place of a text, where it is handed on as a part of it.
use mathlib.Core.Path.{◌≡◌, subst}
use Prim.Native.Nat.{ℕ, ◌+◌, ◌-◌, ◌≤◌}
use native.Mathlib.Omega.{arith}
use mathlib.Core.List.{List}
use lib.ListN.{length, take, drop, length-drop, length-take}
use Rattle.kit.proofs.ListLaws.{rest_of}
use Rattle.read_lines.specs.Lines.{Stands, Skips, Rows}
use Rattle.read_lines.specs.declared.Line.{Line}

pub stands : (t : List ℕ) (at : ℕ) (r o : Line) → Stands (take (length t - at) (drop at t)) r → r ≡ o → Stands (drop at t) o
stands t at r o h e = subst (Stands (drop at t)) e (subst (λ (x : List ℕ). Stands x r) (rest_of t at) h)

module _ (t : List ℕ) (at : ℕ) (inside : at ≤ length t) where
  pub skip_in : (next : ℕ) → Skips (drop at t) next → at + next ≤ length t
  skip_in next h = let w : next ≤ length t - at = rw length-drop at h.within in omega arith

  pub row_in : (w next : ℕ) → Rows (drop at t) w next → at + next ≤ length t
  row_in w next h = let w : next ≤ length t - at = rw length-drop at h.within in omega arith

  pub row_end : (w next : ℕ) → Rows (drop at t) w next → at + w ≤ length t
  row_end w next h = let i = h.inside in let w : next ≤ length t - at = rw length-drop at h.within in omega arith

  pub row_fits : (w next : ℕ) → Rows (drop at t) w next → length (take (at + w - at) (drop at t)) ≤ 80
  row_fits w next h = let i = h.fits in simp (length-take, length-drop) (omega arith)
