-- What the second scan is asked to do, and what comes of it.
use Rattle.std.specs.Prelude.{◌≡◌, List, [], ℕ, ◌*◌, ◌≤◌, length, ℤ}
use Rattle.kit.specs.Answer.{ok}
use Rattle.mapset.specs.Grid.{columns}
use Rattle.mapset.specs.MapSet.{MapSet}
use Rattle.mapset.specs.Areas.{Areas}
use Rattle.layout.specs.Layout.{per_map, begins}
use Rattle.reading.specs.Feed.{split, feed}
use Rattle.reading.specs.Maps.{run}
use Rattle.reading.specs.declared.Place.TheVariants.{Between}
use Rattle.areas.specs.Flat.{areas}
use Rattle.areas.specs.Formed.{Formed}
use Rattle.areas.specs.Fronts.{fronts}

-- with e in force, the text from END OF HEADER on is read as the maps of m: n of B blocks of C values. Its RMS and height values need r and t elements
pub record Accepted (n B C r t : ℕ) (e : ℤ) (text : List ℕ) (m : MapSet) : Type 0 where
  pub formed : Formed m
  pub maps : m.header.times.maps ≡ n
  pub blocks : per_map m.header ≡ B
  pub columns : columns m.header.grid ≡ C
  pub line : ℕ
  pub read : run m.header Between (begins e) 0 (feed line (split text)) ≡ ok ([], m.maps)
  pub rms : length (areas m).rms ≡ r
  pub height : length (areas m).height ≡ t

abbrev pub Readable : (n B C r t : ℕ) → ℤ → List ℕ → Type 0
Readable n B C r t e text = (m : MapSet) × Accepted n B C r t e text m

-- each area is as long as its need
pub record Enough (n B C r t : ℕ) (l : Areas) : Type 0 where
  pub tec : n * B * C ≤ length l.tec
  pub rms : r ≤ length l.rms
  pub height : t ≤ length l.height
  pub exponents : 3 * (n * B) ≤ length l.exponents
  pub epochs : n ≤ length l.epochs
  pub marks : n ≤ length l.marks

-- the areas l have become l': the lists of the text's map set in front, and behind them what was there
abbrev pub Filled : (n B C r t : ℕ) → ℤ → List ℕ → (l l' : Areas) → Type 0
Filled n B C r t e text l l' = (m : MapSet) → Accepted n B C r t e text m → l' ≡ fronts (areas m) l
