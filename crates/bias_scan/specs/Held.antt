-- Rows whose station no row before gave, found among stations held in order.
use Rattle.std.specs.Prelude.{◌≡◌, List, ◌∷◌, ℕ, ◌+◌, ◌-◌, ◌≤◌, ◌<◌, length, get_or, take, drop, Option, Some, None}
use Rattle.std.specs.Cmp.Lexicographic.{slice_cmp}
use Rattle.std.specs.Ordering.{nat_cmp}
use Rattle.std.specs.declared.cmp.Ordering.TheVariants.{Less}
use Rattle.std.proofs.Math.Decide.{ℕ_discrete}
use Rattle.kit.specs.Answer.{Answer, ok, pick}
use Rattle.reading.specs.declared.Fault.{Fault}
use Rattle.biases.specs.Biases.{Biases}
use Rattle.biases.specs.declared.Station.{Station}
use Rattle.biases.specs.declared.Place.{Place}
use Rattle.bias_scan.specs.Walk.{first, with_station, after, walked}
use Rattle.bias_scan.specs.Turns.{from, Unheard}
use Rattle.bias_scan.specs.declared.Search.{Search}
use Rattle.bias_scan.specs.declared.Cursor.{Cursor}
use Rattle.bias_scan.specs.declared.Slot.{Slot}
use Rattle.bias_scan.specs.declared.Peeked.{Peeked}

-- ---- the system and the name of a station, in order

-- the system of a letter, where it has one
unfoldable pub seed : ℕ → ℕ
seed b = pick (ℕ_discrete b 82) 82 71

abbrev pub who : Station → List ℕ
who x = x.system ∷ x.name

-- of the record that starts at a place, where it is a station's
abbrev pub id : List ℕ → ℕ → List ℕ
id t o = seed (get_or t (o + 3) 0) ∷ take 20 (drop (o + 6) t)

abbrev pub Before : List ℕ → List ℕ → Type 0
Before x y = slice_cmp nat_cmp x y ≡ Less

-- records that start at these places, in order
pub record Table (t : List ℕ) (l : List ℕ) : Type 0 where
  pub within : (i : ℕ) → i < length l → get_or l i 0 + 26 ≤ length t
  pub sorted : (i j : ℕ) → i < j → j < length l → Before (id t (get_or l i 0)) (id t (get_or l j 0))

pub record Splits (t : List ℕ) (l : List ℕ) (s p : ℕ) : Type 0 where
  pub inside : p ≤ length l
  pub low : (i : ℕ) → i < p → Before (id t (get_or l i 0)) (id t s)
  pub high : (i : ℕ) → p ≤ i → i < length l → Before (id t s) (id t (get_or l i 0))

abbrev pub Places : List ℕ → List ℕ → ℕ → Option ℕ → Type 0
Places t l s None = Unit {0}
Places t l s (Some p) = Splits t l s p

-- none of these is w
pub record Apart (t : List ℕ) (l w : List ℕ) : Type 0 where
  pub apart : (i : ℕ) → i < length l → ¬ (id t (get_or l i 0) ≡ w)

pub record Inserted (l k : List ℕ) (p n o : ℕ) : Type 0 where
  pub long : length k ≡ length l
  pub before : (i : ℕ) → i < p → get_or k i 0 ≡ get_or l i 0
  pub here : get_or k p 0 ≡ o
  pub behind : (i : ℕ) → p < i → i ≤ n → get_or k i 0 ≡ get_or l (i - 1) 0

-- ---- rows

-- the row after j rows gives y
abbrev pub RowGives : List ℕ → ℕ → Station → Type 0
RowGives t j y = (walked (j + 1) (first t)).given.stations ≡ y ∷ (walked j (first t)).given.stations

-- the row after j rows gives no station of the first j rows
pub record New (t : List ℕ) (j : ℕ) : Type 0 where
  pub new : (y : Station) → RowGives t j y → Unheard y (walked j (first t)).given

-- none of the first l rows gives a station of the rows before it
pub record Good (t : List ℕ) (l : ℕ) : Type 0 where
  pub new : (j : ℕ) → j < l → New t j

-- none of the first l rows gives a station of the first b rows that came before it
pub record Clear (t : List ℕ) (b l : ℕ) : Type 0 where
  pub new : (j k : ℕ) → j < l → k ≤ j → k ≤ b → (y : Station) → RowGives t j y → Unheard y (walked k (first t)).given

-- of the rows from b to l, one that gives a station of the first b rows is one of these
pub record Fence (t : List ℕ) (b l : ℕ) (k : List ℕ) : Type 0 where
  pub new : (j : ℕ) → b ≤ j → j < l → (y : Station) → RowGives t j y → Apart t k (who y) → Unheard y (walked b (first t)).given

-- the row after j rows comes at a line's start, after n lines
pub record Stood (t : List ℕ) (j at n : ℕ) (p : Place) : Type 0 where
  pub within : at ≤ length t
  pub lines : n ≤ at
  pub place : (walked j (first t)).place ≡ p
  pub rest : (walked j (first t)).rest ≡ from t at n

abbrev pub StoodAt : List ℕ → ℕ → Cursor → Type 0
StoodAt t j c = Stood t j c.at c.lines c.place

-- the first rows of r are all new; where as many stations as there is room for were held, up to its limit none of theirs comes again
pub record Chunked (t : List ℕ) (s r : Search) : Type 0 where
  pub stood : StoodAt t r.rows r.cursor
  pub good : Good t r.rows
  pub bound : r.rows ≤ r.limit
  pub clear : 2048 ≤ r.count → Clear t r.rows r.limit
  pub less : (r.limit - r.rows) + r.count < (s.limit - s.rows) + 2048

-- ---- the next row

-- one row on, which gives no station
pub record Plain (t : List ℕ) (at n : ℕ) (p : Place) (q : Place) (next m : ℕ) : Type 0 where
  pub ahead : at < next
  pub within : next ≤ length t
  pub passed : m ≤ next
  pub place : (g : Biases) → (after p g (from t at n)).place ≡ q
  pub rest : (g : Biases) → (after p g (from t at n)).rest ≡ from t next m
  pub same : (g : Biases) → (after p g (from t at n)).given.stations ≡ g.stations

-- one row on, which gives none, or that of the record at o
pub record Named (t : List ℕ) (at n : ℕ) (p q : Place) (next m o : ℕ) : Type 0 where
  pub ahead : at < next
  pub within : next ≤ length t
  pub passed : m ≤ next
  pub place : (g : Biases) → (after p g (from t at n)).place ≡ q
  pub rest : (g : Biases) → (after p g (from t at n)).rest ≡ from t next m
  pub said : Answer Fault Station
  pub given : (g : Biases) → (after p g (from t at n)).given ≡ with_station said g
  pub whose : (y : Station) → said ≡ ok y → id t o ≡ who y
  pub whole : o + 26 ≤ length t

-- the row is passed, with its station, if it gives one
abbrev pub Peeks : List ℕ → ℕ → ℕ → Place → List ℕ → Cursor → Option Slot → Type 0
Peeks t at n p l q None = Plain t at n p q.place q.at q.lines
Peeks t at n p l q (Some s) = Named t at n p q.place q.at q.lines s.start × Splits t l s.start s.index

abbrev pub Passed : List ℕ → ℕ → ℕ → Place → List ℕ → Option Peeked → Type 0
Passed t at n p l None = Unit {0}
Passed t at n p l (Some r) = Peeks t at n p l r.next r.slot
