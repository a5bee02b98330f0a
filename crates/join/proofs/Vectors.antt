-- 42's two limits, and one more of each; 31 before 40, 40 before 41, 41 before 42; whose header it is, and INTERVAL where both have the same.
use mathlib.Core.Path.{◌≡◌, refl}
use mathlib.Core.Bool.{true, false}
use mathlib.Core.List.{[], ◌∷◌}
use Prim.Native.Nat.{ℕ, ◌+◌, ◌-◌}
use native.Mathlib.Decide.{dec_le}
use lib.IntN.{pos}
use Rattle.kit.specs.Answer.{ok, refused, ×_dec}
use Rattle.kit.specs.Truth.{truth}
use Rattle.mapset.specs.declared.Grid.{Grid}
use Rattle.mapset.specs.MapSet.{TecMap, MapSet}
use Rattle.mapset.specs.Samples.{nodes_of}
use Rattle.areas.specs.Lists.{tab}
use Rattle.areas.specs.Nest.{a_block}
use Rattle.join.specs.Join.{in_limits?, joined, join}
use Rattle.join.proofs.Sample.{whole_join, a_set}

abbrev sized : ℕ → ℕ → ℕ → Grid
sized l r c = record { heights = nodes_of l; latitudes = nodes_of r; longitudes = nodes_of c }

pub limits_at : (truth (in_limits? 300 (sized 1 1 1)) ≡ true) × (truth (in_limits? 301 (sized 1 1 1)) ≡ false)
    × (truth (in_limits? 8 (sized 10 250 100)) ≡ true) × (truth (in_limits? 8 (sized 10 250 101)) ≡ false)
unfolding truth in_limits? ×_dec dec_le
limits_at = (refl, refl, refl, refl)

-- a map of one node, 1
abbrev at_second : ℕ → TecMap
at_second e = record { epoch = e; blocks = a_block (pos 0) (pos 1 ∷ []) ∷ [] }

abbrev one_map : (radius second n : ℕ) → MapSet
one_map radius second n = a_set [] radius 0 second second n (at_second second ∷ []) []

-- n maps of one node, a second apart from `first` on, where the number of maps is told as `told`
abbrev many : (told first n : ℕ) → MapSet
many told first n = a_set [] 63710 1 first (first + n - 1) told (tab first n at_second) []

-- a set that says two maps and has one, with another radius and another epoch; the same with one map; the same radius
pub refusals_in_order : (join (one_map 63710 0 1) (one_map 63711 900 2) ≡ refused 31)
    × (join (one_map 63710 0 1) (one_map 63711 900 1) ≡ refused 40)
    × (join (one_map 63710 0 1) (one_map 63710 900 1) ≡ refused 41)
unfolding whole_join
refusals_in_order = (refl, refl, refl)

-- 150 maps and 152 that meet them are 301, which is 42; 41 where they do not meet
pub too_many : (join (many 150 0 150) (many 152 149 152) ≡ refused 42) × (join (many 150 0 150) (many 152 150 152) ≡ refused 41)
unfolding whole_join
too_many = (refl, refl)

-- INTERVAL is kept when both are equal
pub interval_kept : join (many 2 0 2) (many 3 1 3) ≡ ok (many 4 0 4)
unfolding whole_join
interval_kept = refl

-- the header is the later set's, but for the first epoch, INTERVAL and n; and so are the texts
pub later_header : (a b : MapSet)
    → ((joined a b).header.version ≡ b.header.version) × ((joined a b).header.model ≡ b.header.model) × ((joined a b).header.grid ≡ b.header.grid)
    × ((joined a b).header.stations ≡ b.header.stations) × ((joined a b).header.satellites ≡ b.header.satellites) × ((joined a b).header.systems ≡ b.header.systems)
    × ((joined a b).header.descriptions ≡ b.header.descriptions) × ((joined a b).texts ≡ b.texts)
    × ((joined a b).header.times.first ≡ a.header.times.first) × ((joined a b).header.times.last ≡ b.header.times.last)
later_header a b = (refl, refl, refl, refl, refl, refl, refl, refl, refl, refl)
