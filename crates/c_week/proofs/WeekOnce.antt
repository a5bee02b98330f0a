-- No second answer fits.
use mathlib.Core.Path.{◌≡◌, sym, ◌∙◌}
use mathlib.Core.List.{List}
use Prim.Native.Nat.{ℕ}
use lib.IntN.{ℤ}
use Rattle.mapset.specs.Areas.{Areas}
use Rattle.c_week.specs.WeekExported.{Crossed, week_crossed}

-- no second number and no second content fits
pub ionex_week_add_once : (w h : List ℤ) (x : List ℕ) (a : Areas) (r : List ℤ) (p : List ℕ) (c d : Crossed) → c ≡ week_crossed w h x a r p → d ≡ week_crossed w h x a r p → c ≡ d
ionex_week_add_once w h x a r p c d e f = e ∙ sym f
