-- 02, Ask 5: map sets into a week by calls of `ionex_week_add`, each given the week that the one before left.
use Rattle.std.specs.Prelude.{◌≡◌, List, [], ◌∷◌, ℕ, ◌≤◌, ℤ, pos, length, replicate}
use Rattle.std.proofs.Math.Decide.{dec_le}
use Rattle.kit.specs.Answer.{pick, ×_dec}
use Rattle.kit.specs.Lists.{front}
use Rattle.mapset.specs.Areas.{Areas}
use Rattle.week.specs.Week.{Given}
use Rattle.c_week.specs.WeekExported.{Crossed, set_of, week_crossed}

-- what one call is handed: a header's numbers, the bytes of its texts and six areas, and the areas for the rows and for the place
pub record Handed : Type 0 where
  pub header : List ℤ
  pub texts : List ℕ
  pub areas : Areas
  pub rows : List ℤ
  pub place : List ℕ

-- an area for a week: 16 zeros, and whatever stands behind them
abbrev pub zeros : List ℤ → List ℤ
zeros l = front (replicate 16 (pos 0)) l

-- `Adds w ss w'`: of the week w, the calls with ss in turn leave the week w'. A call leaves what its contract says
pub data Adds : List ℤ → List Handed → List ℤ → Type 0 where
  none : {w : List ℤ} → Adds w [] w
  call : {w w' : List ℤ} {s : Handed} {ss : List Handed} (c : Crossed) → c ≡ week_crossed w s.header s.texts s.areas s.rows s.place → Adds c.week ss w' → Adds w (s ∷ ss) w'

-- the map sets that these calls look at: a call with a header, texts or place that is too short is answered 101, 102 or 103, and looks at none
abbrev pub Long : Handed → Type 0
Long s = (45 ≤ length s.header) × ((1324 ≤ length s.texts) × (2 ≤ length s.place))

unfoldable pub long? : (s : Handed) → Dec (Long s)
long? s = ×_dec (dec_le 45 (length s.header)) (×_dec (dec_le 1324 (length s.texts)) (dec_le 2 (length s.place)))

unfoldable pub sets : List Handed → List Given
sets [] = []
sets (s ∷ ss) = pick (long? s) (set_of s.header s.texts s.areas s.rows ∷ sets ss) (sets ss)
