-- What the functions that go through a text promise.
use Rattle.std.specs.Prelude.{◌≡◌, List, ◌∷◌, ℕ, ◌*◌, ◌≤◌, ◌<◌, length, ℤ}
use Rattle.kit.specs.Answer.{All}
use Rattle.mapset.specs.Areas.{Areas}
use Rattle.areas.specs.Events as brings
use Rattle.areas.specs.Stores.{Inside, lengths}
use Rattle.areas.specs.Scan.{Now, brought}
use Rattle.read_fill.specs.Rows.{rows_from, Valued}
use Rattle.read_events.specs.Brings.{due, Takes}
use Rattle.read_events.specs.declared.State.{State}
use Rattle.read_fill.specs.declared.Step.{Step}
use Rattle.read_events.specs.declared.Event.{Event}
use Rattle.read_events.specs.declared.Event.TheVariants.{Nothing}

-- ---- from one row to the next

-- the next turn of the scan: either there is no row, or one is taken
pub data Turned (t : List ℕ) (at : ℕ) (s : State) (r : Step) : Type 0 where
  passed : at < r.at → r.at ≤ length t → rows_from t at ≡ rows_from t r.at → r.event ≡ Nothing → r.state ≡ s → Turned t at s r
  taken : (x : List ℕ) → r.at ≤ length t → rows_from t at ≡ x ∷ rows_from t r.at → Takes s x r.event r.state → Turned t at s r

-- ---- what a store asks for

-- each store of n maps of B blocks of C values is inside the areas l
abbrev pub StoresInside : (n B C : ℕ) (l : Areas) → List brings.Event → Type 0
StoresInside n B C l es = All (Inside n B C (lengths l)) es

-- from `at` on the text has c values first, and those of each block behind them; exponents, epochs and marks are as long as n maps need
abbrev pub Storable : (n B C : ℕ) (t : List ℕ) (at c : ℕ) (exponents : List ℤ) (epochs marks : List ℕ) → Type 0
Storable n B C t at c exponents epochs marks =
    (at ≤ length t) × Valued C c (rows_from t at) × (3 * (n * B) ≤ length exponents) × (n ≤ length epochs) × (n ≤ length marks)

-- ---- where the scan goes on

-- c values stand from `at` on, and the scan goes on at r behind them
pub record Resumes (t : List ℕ) (at c r : ℕ) : Type 0 where
  pub within : r ≤ length t
  pub on : (C : ℕ) (s : Now) → brought C s c (rows_from t at) ≡ brought C s 0 (rows_from t r)
  pub valued : (C : ℕ) → Valued C c (rows_from t at) → Valued C 0 (rows_from t r)
  pub fewer : length (rows_from t r) ≤ length (rows_from t at)

pub record Resumed (t : List ℕ) (at C : ℕ) (ev : Event) (r : ℕ) : Type 0 where
  pub resumes : Resumes t at (due C ev) r
  pub still : ev ≡ Nothing → r ≡ at
