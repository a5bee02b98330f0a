-- The rows of two maps of one row and two columns, added up by hand: 5 and no value, then -3 and 4, under -1; no RMS map, then 7 and 8 under -2; no height map.
use mathlib.Core.Path.{◌≡◌, refl}
use mathlib.Core.List.{[], ◌∷◌}
use native.Mathlib.Decide.{ℕ_discrete}
use lib.IntN.{pos, negsuc}
use Rattle.kit.specs.Answer.{pick, ×_dec, ⊎_dec, ¬_dec}
use Rattle.kit.specs.Integer.{le?, int?, between?}
use Rattle.kit.specs.Truth.{dec_by}
use Rattle.mapset.specs.Areas.{Areas, six, present?}
use Rattle.mapset.specs.declared.Header.{Header}
use Rattle.mapset.specs.Said.{axis_of}
use Rattle.mapset.specs.Samples.{plain_header}
use Rattle.ask_nodes.specs.Value.{is_value?, worth, value}
use Rattle.week_tally.specs.Figures.{given, lacking, range, sum, figures}
use Rattle.week_set.specs.SetFigures.{map_nodes, kind_nodes, kind_rows, set_rows}

unfoldable pub header : Header
header = plain_header (record { first = 0; last = 3600; interval = 3600; maps = 2 }) (axis_of (pos 50) (pos 50) (pos 50)) (axis_of (pos 0) (pos 50) (pos 50))

unfoldable pub held : Areas
held =
    six (pos 5 ∷ pos 9999 ∷ negsuc 2 ∷ pos 4 ∷ []) (pos 9999 ∷ pos 9999 ∷ pos 7 ∷ pos 8 ∷ []) []
    (negsuc 0 ∷ negsuc 0 ∷ negsuc 0 ∷ negsuc 1 ∷ negsuc 0 ∷ negsuc 0 ∷ []) (0 ∷ 3600 ∷ []) (0 ∷ 1 ∷ [])

-- kind by kind, a row for each map and then one for the kind: with a value, without, the smallest, the largest, the sum
pub rows_added : set_rows header held
    ≡ pos 1 ∷ pos 1 ∷ pos 500 ∷ pos 500 ∷ pos 500
    ∷ pos 2 ∷ pos 0 ∷ negsuc 299 ∷ pos 400 ∷ pos 100
    ∷ pos 3 ∷ pos 1 ∷ negsuc 299 ∷ pos 500 ∷ pos 600
    ∷ pos 0 ∷ pos 2 ∷ pos 0 ∷ pos 0 ∷ pos 0
    ∷ pos 2 ∷ pos 0 ∷ pos 70 ∷ pos 80 ∷ pos 150
    ∷ pos 2 ∷ pos 2 ∷ pos 70 ∷ pos 80 ∷ pos 150
    ∷ pos 0 ∷ pos 2 ∷ pos 0 ∷ pos 0 ∷ pos 0
    ∷ pos 0 ∷ pos 2 ∷ pos 0 ∷ pos 0 ∷ pos 0
    ∷ pos 0 ∷ pos 4 ∷ pos 0 ∷ pos 0 ∷ pos 0
    ∷ []
unfolding header held set_rows kind_rows map_nodes kind_nodes figures given lacking range sum value worth is_value? between? present? pick ×_dec ⊎_dec ¬_dec dec_by le? int? ℕ_discrete
rows_added = refl
