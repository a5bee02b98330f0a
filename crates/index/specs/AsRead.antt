-- 02, Ask 8: a node by an index is what the full reading has.
use Rattle.std.specs.Prelude.{List, ℕ, drop}
use Rattle.mapset.specs.MapSet.{MapSet}
use Rattle.areas.specs.Flat.{areas}
use Rattle.index.specs.Stands.{Stands}
use Rattle.index.specs.Index.{Index, Node, done, block_in, number_in, exponent_in, given, position, Replies}

-- what is answered by the index x is what the areas of m hold: number and exponent; the lines handed back are those of a block that stands in the text, of the
-- areas' values
pub record AsRead (m : MapSet) (t : List ℕ) (x : Index) (q : Node) : Type 0 where
  pub lines : List ℕ
  pub stands : Stands m.header (done m.header q) (drop (position x q) t) (block_in m.header (areas m) q) lines
  pub replies : Replies x t q (given (number_in m.header (areas m) q) (exponent_in m.header (areas m) q) lines)
