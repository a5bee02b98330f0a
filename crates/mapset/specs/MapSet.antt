-- The map set as the text rules have it: the header record with its texts, and the maps.
use Rattle.std.specs.Prelude.{List, ℕ, ℤ}
use Rattle.mapset.specs.declared.Header.{Header}
use Rattle.mapset.specs.Described.{FullTexts}

-- the values of a row of nodes, and the exponent they stand under
pub record Block : Type 0 where
  pub exponent : ℤ
  pub values : List ℤ

pub record TecMap : Type 0 where
  pub epoch : ℕ
  pub blocks : List Block

-- an RMS or height map, and the number of its TEC map
pub record OtherMap : Type 0 where
  pub of : ℕ
  pub blocks : List Block

pub record Maps : Type 0 where
  pub tec : List TecMap
  pub rms : List OtherMap
  pub height : List OtherMap

pub record MapSet : Type 0 where
  pub header : Header
  pub texts : FullTexts
  pub maps : Maps
