-- A block's values from a line's start on, and what the code finds of them.
use Rattle.std.specs.Prelude.{◌≡◌, Bool, true, false, List, [], ◌∷◌, ℕ, ◌+◌, ◌-◌, ◌*◌, ◌≤◌, ◌<◌, ℤ, pos, length, get_or, take, drop, Option, Some, None}
use Rattle.std.proofs.Math.Option.{none, some}
use Rattle.std.proofs.Math.Decide.{dec_le}
use Rattle.kit.specs.Answer.{ok, pick}
use Rattle.forms.specs.Form.{I}
use Rattle.forms.specs.Read.{read_field}
use Rattle.layout.specs.Text.{pad}
use Rattle.mapset.specs.declared.Header.{Header}
use Rattle.layout.specs.Records.{Vals}
use Rattle.layout.specs.Labels.{name, block, layout}
use Rattle.layout.specs.Layout.{Opens}
use Rattle.reading.specs.Fields.{fields, cells}
use Rattle.reading.specs.Maps.{on_row}
use Rattle.read_lines.specs.Cuts.{Cut, cuts}
use Rattle.index.specs.Found.{BlockFound, in_front, values_at, block_at}
use Rattle.index_block.specs.declared.Step.{Step}
use Rattle.index_block.specs.declared.Step.TheVariants.{Skip, Row}
use Rattle.index_block.specs.declared.Hit.{Hit}

-- the bytes of a text from one position to another
abbrev pub between : List ℕ → ℕ → ℕ → List ℕ
between t a b = take (b - a) (drop a t)

-- the next c values from a line's start
abbrev pub values_from : List ℕ → (at c : ℕ) → BlockFound
values_from t at c = values_at c (cuts (drop at t))

-- a blank line, up to `to`
pub record Skips (t : List ℕ) (at c to : ℕ) : Type 0 where
  pub ahead : at < to
  pub within : to ≤ length t
  pub on : values_from t at c ≡ in_front [] (between t at to) (values_from t to c)

-- a row of values up to `end`; the next line starts at `to`
pub record Holds (t : List ℕ) (at c end to : ℕ) : Type 0 where
  pub ahead : at < to
  pub within : to ≤ length t
  pub starts : at ≤ end
  pub ends : end ≤ to
  pub fits : end - at ≤ 80
  pub have : List ℤ
  pub row : cells 1 (on_row c) (pad (between t at end)) ≡ ok have
  pub on : values_from t at c ≡ pick (dec_le c 16) (some (have, between t at end)) (in_front have (between t at to) (values_from t to (c - 16)))

abbrev pub Stepped : List ℕ → (at c : ℕ) → Option Step → Type 0
Stepped t at c (Some (Skip to)) = Skips t at c to
Stepped t at c (Some (Row end to)) = Holds t at c end to
Stepped t at c None = values_from t at c ≡ none

-- where the five columns of a value stand, if it is one of the row's after `done` others, else where they stood before
unfoldable pub spot_of : (at done column spot : ℕ) → ℕ
spot_of at done column spot = pick (dec_le done column) (pick (dec_le (column - done) 15) (at + (column - done) * 5) spot) spot

-- five columns hold z
pub record Reads (t : List ℕ) (spot : ℕ) (z : ℤ) : Type 0 where
  pub within : spot + 5 ≤ length t
  pub five : read_field I (between t spot (spot + 5)) ≡ Some z

-- the values are found: the last one's line ends at `end`, and the one in a column stands at `spot`
pub record At (t : List ℕ) (from column end spot : ℕ) (f : BlockFound) : Type 0 where
  pub ahead : from ≤ end
  pub within : end ≤ length t
  pub have : List ℤ
  pub found : f ≡ some (have, between t from end)
  pub reads : Reads t spot (get_or have column (pos 0))

abbrev pub Hits : List ℕ → (from column : ℕ) → BlockFound → Option Hit → Type 0
Hits t from column f (Some h) = At t from column h.end h.spot f
Hits t from column f None = f ≡ none

-- ---- the opening line

-- a line opens the block after d others of its map, or no block is found that starts with it
abbrev pub OpensAs : Header → (d : ℕ) → List ℕ → Bool → Type 0
OpensAs h d l true = (v : Vals (layout block)) × ((drop 60 (pad l) ≡ name block) × ((fields block (pad l) ≡ ok v) × Opens h d v))
OpensAs h d l false = (e : List ℕ) (cs : List Cut) → block_at h d ((l, e) ∷ cs) ≡ none

-- the block that is found at a position
abbrev pub block_from : Header → (d : ℕ) → List ℕ → (at : ℕ) → BlockFound
block_from h d t at = block_at h d (cuts (drop at t))
