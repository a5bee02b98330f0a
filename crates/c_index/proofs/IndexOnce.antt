-- No second answer fits.
use mathlib.Core.Path.{◌≡◌, sym, ◌∙◌}
use mathlib.Core.List.{List}
use Prim.Native.Nat.{ℕ}
use lib.IntN.{ℤ}
use Rattle.index.specs.Index.{Entries}
use Rattle.c_index.specs.IndexExported.{Crossed, index_crossed}

-- no second answer
pub ionex_index_once : (t : List ℕ) (l : Entries) (h : List ℤ) (x p : List ℕ) (a b : Crossed) → a ≡ index_crossed t l h x p → b ≡ index_crossed t l h x p → a ≡ b
ionex_index_once t l h x p a b e f = e ∙ sym f
