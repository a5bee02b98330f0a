-- No second answer fits.
use mathlib.Core.Path.{◌≡◌, sym, ◌∙◌}
use mathlib.Core.List.{List}
use Prim.Native.Nat.{ℕ}
use lib.IntN.{ℤ}
use Rattle.mapset.specs.Areas.{Areas}
use Rattle.c_answers.specs.WriteExported.{Crossed, write_crossed}

-- no second number and no second content fits
pub ionex_write_once : (h : List ℤ) (x : List ℕ) (a : Areas) (o c : List ℕ) (p q : Crossed) → p ≡ write_crossed h x a o c → q ≡ write_crossed h x a o c → p ≡ q
ionex_write_once h x a o c p q e f = e ∙ sym f
