-- Biases as they stand in the three areas, number by number.
use mathlib.Core.Path.{◌≡◌, refl}
use mathlib.Core.List.{[], ◌∷◌, ◌++◌}
use lib.IntN.{pos, negsuc}
use Rattle.layout.specs.Labels.{bytes}
use Rattle.biases.proofs.Vectors.{told}
use Rattle.bias_fill.specs.Flat.{lent, flat}

-- system, number, bias, RMS of each satellite; system, bias, RMS of each station; their names
pub told_flat : flat told
    ≡ lent
    (pos 71 ∷ pos 1 ∷ negsuc 1249 ∷ pos 4 ∷ pos 71 ∷ pos 2 ∷ pos 0 ∷ pos 10 ∷ pos 82 ∷ pos 1 ∷ pos 12345 ∷ pos 100 ∷ pos 71 ∷ pos 99 ∷ pos 1000 ∷ pos 0 ∷ [])
    (pos 71 ∷ negsuc 0 ∷ pos 999999999 ∷ pos 82 ∷ pos 3000 ∷ pos 20 ∷ [])
    (bytes "BRUS 13101M004      " ++ bytes "BRUS 13101M004      ")
unfolding told
told_flat = refl
