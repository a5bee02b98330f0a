-- What the scan that makes an index does with the lent areas: it clears what is needed, and then stores block by block.
use Rattle.std.specs.Prelude.{◌≡◌, Bool, cond, List, [], ◌∷◌, ℕ, ◌+◌, ◌-◌, ◌*◌, ◌≤◌, ◌<◌, ℤ, negsuc, length, get_or, set}
use Rattle.kit.specs.Answer.{All}
use Rattle.mapset.specs.declared.Kind.{Kind}
use Rattle.layout.specs.Layout.{plain, aux, mode}
use Rattle.areas.specs.Events as event
use Rattle.areas.specs.Scan.{at_first, brought}
use Rattle.areas.specs.Stores.{put_exponent, with_mark, put_mark, Inside, scan, fill}
use Rattle.mapset.specs.Areas.{first_of}
use Rattle.areas.specs.Places.{before}
use Rattle.index.specs.Index.{Entries, entries}
use Rattle.index.specs.Made.{Placed, placed_from, just_rows, opened, maps_of, put_starts}
use Rattle.read_events.specs.Brings.{due, Takes}
use Rattle.read_events.specs.declared.State.{State}
use Rattle.read_events.specs.declared.Event.{Event}
use Rattle.read_events.specs.declared.Event.TheVariants.{Nothing, Epoch, Marked, Block}
use Rattle.index_fill.specs.declared.Past.{Past}
use Rattle.index_fill.specs.declared.Walk.{Walk}
use Rattle.index_fill.specs.declared.Step.{Step}

-- ---- the header

-- behind a row of the header: the rows behind END OF HEADER are those that follow, or are still ahead
abbrev pub Passes : Bool → ℤ → List ℕ → Past → Type 0
Passes a e r p = (at : ℕ) (ps : Placed) → maps_of (mode a) e ((at, r) ∷ ps) ≡ cond p.ended (p.exponent, ps) (maps_of (mode p.aux) p.exponent ps)

pub record Walks (t : List ℕ) (at : ℕ) (a : Bool) (e : ℤ) (w : Walk) : Type 0 where
  pub ahead : at < w.at
  pub within : w.at ≤ length t
  pub on : maps_of (mode a) e (placed_from t at) ≡ cond w.ended (w.exponent, placed_from t w.at) (maps_of (mode w.aux) w.exponent (placed_from t w.at))

pub record Begins (t : List ℕ) (w : Walk) : Type 0 where
  pub within : w.at ≤ length t
  pub maps : (w.exponent, placed_from t w.at) ≡ maps_of plain (negsuc 0) (placed_from t 0)

-- ---- from one line of the maps to the next

-- where a block opens: at the row that brings it
abbrev pub opens : Event → ℕ → List ℕ
opens Nothing at = []
opens (Epoch i e) at = []
opens (Marked k i) at = []
opens (Block k i b e) at = at ∷ []

-- nothing is brought; the next line starts at `next`, and d values come first there
abbrev pub nothing_at : (next d : ℕ) → State → Step
nothing_at next d s = record { at = next; due = d; event = Nothing; state = s }

-- the next turn, where c values come first: lines that hand on nothing are passed, a row of values, or a row is taken
pub data Turned (t : List ℕ) (at c : ℕ) (s : State) (C : ℕ) (r : Step) : Type 0 where
  passed : at < r.at → r.at ≤ length t → placed_from t at ≡ placed_from t r.at
      → r.due ≡ c → r.event ≡ Nothing → r.state ≡ s → Turned t at c s C r
  valued : (x : List ℕ) → at < r.at → r.at ≤ length t → placed_from t at ≡ (at, x) ∷ placed_from t r.at
      → 0 < c → r.due ≡ c - 16 → r.event ≡ Nothing → r.state ≡ s → Turned t at c s C r
  taken : (x : List ℕ) → at < r.at → r.at ≤ length t → placed_from t at ≡ (at, x) ∷ placed_from t r.at
      → c ≡ 0 → r.due ≡ due C r.event → Takes s x r.event r.state → Turned t at c s C r

-- ---- the stores

-- n maps of B blocks: each area holds its need
pub record Roomy (n B : ℕ) (l : Entries) : Type 0 where
  pub positions : 3 * (n * B) ≤ length l.positions
  pub exponents : 3 * (n * B) ≤ length l.exponents
  pub marks : n ≤ length l.marks

-- what an event asks of them
abbrev pub Stays : (n B : ℕ) → Event → Type 0
Stays n B Nothing = Unit {0}
Stays n B (Epoch i e) = Unit {0}
Stays n B (Marked k i) = i - 1 < n
Stays n B (Block k i b e) = before B i b < n * B

abbrev pub Kept : (n B : ℕ) → Event → Entries → Type 0
Kept n B ev l = Stays n B ev × Roomy n B l

-- what the row that starts at `at` brought
abbrev pub enters : (n B : ℕ) → Event → ℕ → Entries → Entries
enters n B Nothing at l = l
enters n B (Epoch i e) at l = l
enters n B (Marked k i) at l = entries l.positions l.exponents (set l.marks (i - 1) (with_mark k (get_or l.marks (i - 1) 0)))
enters n B (Block k i b e) at l =
    entries (set l.positions (first_of k (n * B) + before B i b) at) (set l.exponents (first_of k (n * B) + before B i b) e) l.marks

-- all of them: the events es, whose blocks open at os
unfoldable pub entered_by : (n B : ℕ) → List event.Event → List ℕ → Entries → Entries
entered_by n B es os l = entries (put_starts n B es os l.positions) (scan (put_exponent n B) es l.exponents) (scan put_mark es l.marks)

-- the rows of the maps, with e in force
abbrev pub entered_from : (n B C : ℕ) → ℤ → Placed → Entries → Entries
entered_from n B C e ps l = entered_by n B (brought C (at_first e) 0 (just_rows ps)) (opened C 0 ps) l

-- their stores stand inside the areas
pub record Steady (n B C : ℕ) (e : ℤ) (ps : Placed) (l : Entries) : Type 0 where
  pub room : Roomy n B l
  pub lengths : Kind → ℕ
  pub inside : All (Inside n B C lengths) (brought C (at_first e) 0 (just_rows ps))

-- ---- all of it

abbrev pub cleared : (n B : ℕ) → Entries → Entries
cleared n B l = entries (fill 0 (3 * (n * B)) l.positions) (fill (negsuc 0) (3 * (n * B)) l.exponents) (fill 0 n l.marks)

-- the exponent in force at END OF HEADER, and the rows behind it
abbrev pub begun : List ℕ → ℤ × Placed
begun t = maps_of plain (negsuc 0) (placed_from t 0)

abbrev pub Entered : (n B C : ℕ) → List ℕ → Entries → Type 0
Entered n B C t l = Steady n B C (begun t).0 (begun t).1 l

abbrev pub entered : (n B C : ℕ) → List ℕ → Entries → Entries
entered n B C t l = entered_from n B C (begun t).0 (begun t).1 (cleared n B l)
