-- No second answer fits.
use mathlib.Core.Path.{◌≡◌, sym, ◌∙◌}
use mathlib.Core.List.{List}
use Prim.Native.Nat.{ℕ}
use lib.IntN.{ℤ}
use Rattle.mapset.specs.Areas.{Areas}
use Rattle.c_answers.specs.ReadExported.{Crossed}
use Rattle.c_answers.specs.JoinExported.{join_crossed}

-- no second answer
pub ionex_join_once : (f : List ℤ) (s : List ℕ) (a : Areas) (g : List ℤ) (t : List ℕ) (b l : Areas) (h : List ℤ) (x p : List ℕ) (c d : Crossed)
    → c ≡ join_crossed f s a g t b l h x p → d ≡ join_crossed f s a g t b l h x p → c ≡ d
ionex_join_once f s a g t b l h x p c d e i = e ∙ sym i
