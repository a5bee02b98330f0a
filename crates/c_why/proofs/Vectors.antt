-- An explanation and a node without a value, number by number, in the order of `include/ionex.h`.
use mathlib.Core.Path.{◌≡◌, refl}
use mathlib.Core.List.{[], ◌∷◌}
use lib.IntN.{pos, negsuc}
use Rattle.std.specs.Prelude.{Some, Ok}
use Rattle.ask_nodes.specs.declared.Value.TheVariants as V
use Rattle.ask_why.specs.declared.Cause.TheVariants as C
use Rattle.c_why.specs.ExplainExported.{numbers, lacking_numbers, cause_number}

-- how many nodes, the common denominator, the answer; then of each node its map, layer, row, column, value and weight
pub nodes_in_numbers : numbers (record {
  answer = Ok (V.Tecu (record { 0 = negsuc 249 }));
  count = 1;
  denominator = 1000;
  nodes = record { map = 2; layer = 3; row = 4; column = 5; value = Some (V.Tecu (record { 0 = negsuc 249 })); weight = 1000 } ∷ [];
}) (negsuc 249) ≡ pos 1 ∷ pos 1000 ∷ negsuc 249 ∷ pos 2 ∷ pos 3 ∷ pos 4 ∷ pos 5 ∷ negsuc 249 ∷ pos 1000 ∷ []
nodes_in_numbers = refl

-- map, layer, row, column, cause; and the four causes
pub lacking_in_numbers : (lacking_numbers (record { map = 2; layer = 3; row = 4; column = 5; cause = C.MapAbsent }) ≡ 2 ∷ 3 ∷ 4 ∷ 5 ∷ 1 ∷ [])
    × (cause_number C.Exponent ≡ 2) × (cause_number C.Number ≡ 3) × (cause_number C.Is9999 ≡ 4)
lacking_in_numbers = (refl, refl, refl, refl)
