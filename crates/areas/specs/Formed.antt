-- What holds of every map set that some text has, said without texts.
use Rattle.std.specs.Prelude.{◌≡◌, List, [], ◌∷◌, map, ℕ, ◌≤◌, ◌<◌, length}
use Rattle.kit.specs.Answer.{All}
use Rattle.mapset.specs.Grid.{columns}
use Rattle.mapset.specs.Header.{HeaderRules}
use Rattle.mapset.specs.MapSet.{Block, OtherMap, Maps, MapSet}
use Rattle.mapset.specs.Areas.{EpochRules}
use Rattle.layout.specs.Layout.{Exponent, per_map}
use Rattle.areas.specs.Value.{Value}

-- C values, under an exponent
pub record BlockRules (C : ℕ) (b : Block) : Type 0 where
  pub width : length b.values ≡ C
  pub exponent : Exponent b.exponent
  pub values : All Value b.values

-- B blocks
pub record MapRules (B C : ℕ) (bs : List Block) : Type 0 where
  pub count : length bs ≡ B
  pub blocks : All (BlockRules C) bs

-- RMS or height maps above the number `last`, in rising order, up to n
abbrev pub Rising : (n B C last : ℕ) → List OtherMap → Type 0
Rising n B C last [] = Unit {0}
Rising n B C last (x ∷ xs) = (last < x.of) × (x.of ≤ n) × MapRules B C x.blocks × Rising n B C x.of xs

-- n TEC maps, and at most one RMS and one height map for each
pub record MapsRules (n B C : ℕ) (m : Maps) : Type 0 where
  pub count : length m.tec ≡ n
  pub tec : All (λ t. MapRules B C t.blocks) m.tec
  pub rms : Rising n B C 0 m.rms
  pub height : Rising n B C 0 m.height

pub record Formed (m : MapSet) : Type 0 where
  pub header : HeaderRules m.header m.texts
  pub epochs : EpochRules m.header (map (λ t. t.epoch) m.maps.tec)
  pub maps : MapsRules m.header.times.maps (per_map m.header) (columns m.header.grid) m.maps
