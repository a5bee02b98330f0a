-- No second answer fits.
use mathlib.Core.Path.{◌≡◌, sym, ◌∙◌}
use mathlib.Core.List.{List}
use Prim.Native.Nat.{ℕ}
use lib.IntN.{ℤ}
use Rattle.mapset.specs.Areas.{Areas}
use Rattle.c_answers.specs.ReadExported.{Crossed, read_crossed}

-- no second answer
pub ionex_read_once : (t : List ℕ) (l : Areas) (h : List ℤ) (x p : List ℕ) (a b : Crossed) → a ≡ read_crossed t l h x p → b ≡ read_crossed t l h x p → a ≡ b
ionex_read_once t l h x p a b e f = e ∙ sym f
