-- The figures of four nodes, one of them without a value; and of one without.
use mathlib.Core.Path.{◌≡◌, refl}
use mathlib.Core.List.{[], ◌∷◌}
use mathlib.Core.Option.{none, some}
use lib.IntN.{pos, negsuc}
use Rattle.kit.specs.Answer.{pick}
use Rattle.kit.specs.Integer.{le?}
use Rattle.week_tally.specs.Figures.{given, lacking, range, sum, figures, from}
use Rattle.std.specs.Prelude.{None}

pub four_nodes : (figures (some (pos 5) ∷ none ∷ some (negsuc 2) ∷ some (pos 4) ∷ []) ≡ record { given = 3; lacking = 1; range = from (negsuc 2) (pos 5); sum = pos 6 })
    × (figures (none ∷ []) ≡ record { given = 0; lacking = 1; range = None; sum = pos 0 })
unfolding figures given lacking range sum le? pick
four_nodes = (refl, refl)
