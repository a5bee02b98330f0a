-- What the code says of the maps: of the whole, and of the text from a line's start on.
use Rattle.std.specs.Prelude.{◌≡◌, Bool, true, false, ◌||◌, List, [], ◌∷◌, ◌++◌, ℕ, suc, ◌≤◌, ◌<◌, ltb, ℤ, length, take, drop, Option, Some, None, Result, Ok, Err}
use Rattle.kit.specs.Answer.{Answer, ok, refused}
use Rattle.mapset.specs.declared.Header.{Header}
use Rattle.mapset.specs.MapSet.{OtherMap, Maps}
use Rattle.layout.specs.Layout.{Force}
use Rattle.reading.specs.declared.Why.{Why}
use Rattle.reading.specs.Feed.{split, feed}
use Rattle.reading.specs.Maps.{Todo, finish, run}
use Rattle.reading.specs.declared.Place.{Place}
use Rattle.reading.specs.declared.Place.TheVariants.{Ended, Between, Early, Inside}
use Rattle.read_blocks.specs.Blocks.{values, Done}
use Rattle.maps_bounds.specs.Steps.{force_of}
use Rattle.maps_bounds.specs.declared.Past.{Past}
use Rattle.maps_bounds.specs.declared.Next.{Next}
use Rattle.read_needs.specs.declared.Others.{Others}
use Rattle.maps.specs.declared.Turn.{Turn}
use Rattle.maps.specs.declared.Turn.TheVariants.{On, Over}

-- ---- the whole: accepted, with whether some RMS and some height map stands; or why it is refused

abbrev pub stands : List OtherMap → Bool
stands [] = false
stands (m ∷ ms) = true

unfoldable pub told : Answer Why (List ℤ × Maps) → Result Others Why
told (ok w) = Ok (record { rms = stands w.1.rms; height = stands w.1.height })
told (refused w) = Err w

-- ---- from a line's start on

-- the maps among what is handed back from a place on
abbrev pub maps_of : (q : Place) → Todo q → Maps
maps_of Ended w = record { tec = []; rms = []; height = [] }
maps_of Between w = w
maps_of Early w = w.1
maps_of (Inside o) w = w.1

-- a map with the number i, not 0, stood before, or some are to come
abbrev pub seen : ℕ → List OtherMap → Bool
seen i ms = ltb 0 i || stands ms

unfoldable pub told_after : (q : Place) → Force → Answer Why (List ℤ × Todo q) → Result Others Why
told_after q p (ok w) = Ok (record { rms = seen p.rms (maps_of q w.1).rms; height = seen p.height (maps_of q w.1).height })
told_after q p (refused w) = Err w

-- where n lines are passed and c values are to come
abbrev pub from : Header → (q : Place) → Force → ℕ → List ℕ → ℕ → ℕ → Result Others Why
from h q p c t at n = told_after q p (run h q p c (feed (suc n) (split (drop at t))))

abbrev pub ended_with : (q : Place) → Force → ℕ → Result Others Why
ended_with q p n = told_after q p (finish q n)

-- ---- one row

-- the epochs after a record
abbrev pub grow : Option ℕ → List ℕ → List ℕ
grow None es = es
grow (Some e) es = es ++ (e ∷ [])

-- there is room for the epoch that is to come
abbrev pub MapRoom : Header → Place → ℕ → Type 0
MapRoom h Ended k = k ≤ h.times.maps
MapRoom h Between k = k ≤ h.times.maps
MapRoom h Early k = k < h.times.maps
MapRoom h (Inside o) k = k ≤ h.times.maps

-- k epochs stand in a table of l, and one may come
abbrev pub Fits : Option ℕ → ℕ → ℕ → Type 0
Fits None k l = k ≤ l
Fits (Some e) k l = k < l

-- the block that a record opened
abbrev pub After : List ℕ → ℕ → ℕ → Next → Result Turn Why → Type 0
After t at n x (Ok (On b y)) = (y ≡ x) × Done t at n x.due b.next b.lines
After t at n x (Ok (Over m)) = ⊥
After t at n x (Err w) = values (feed (suc n) (split (drop at t))) x.due ≡ refused w

pub record Goes (h : Header) (q : Place) (p : Past) (es : List ℕ) (t : List ℕ) (at n at' n' : ℕ) (x : Next) : Type 0 where
  pub ahead : at < at'
  pub within : at' ≤ length t
  pub small : n' ≤ at'
  pub on : from h q (force_of p es) 0 t at n ≡ from h x.to (force_of x.past (grow x.epoch es)) 0 t at' n'
  pub room : MapRoom h q (length es) → MapRoom h x.to (length (grow x.epoch es))

abbrev pub Turned : Header → Place → Past → List ℕ → List ℕ → ℕ → ℕ → Result Turn Why → Type 0
Turned h q p es t at n (Ok (On b x)) = Goes h q p es t at n b.next b.lines x
Turned h q p es t at n (Ok (Over m)) = (m ≤ length t) × (from h q (force_of p es) 0 t at n ≡ ended_with q (force_of p es) (suc m))
Turned h q p es t at n (Err w) = from h q (force_of p es) 0 t at n ≡ Err w

-- the table after an epoch is remembered, and how many it holds
pub record Keeps (t : List ℕ) (k : ℕ) (x : Option ℕ) (u : List ℕ) (r : ℕ) : Type 0 where
  pub len : length u ≡ length t
  pub small : r ≤ length t
  pub is : take r u ≡ grow x (take k t)

-- the loop: the answer from the start is the answer from here, where the epochs are the table's first k
pub record Running (h : Header) (p₀ : Past) (t : List ℕ) (a₀ n₀ l : ℕ) (tab : List ℕ) (q : Place) (p : Past) (at n k : ℕ) : Type 0 where
  pub within : at ≤ length t
  pub small : n ≤ at
  pub upto : k ≤ l
  pub sized : length tab ≡ l
  pub room : MapRoom h q k
  pub on : from h Between (force_of p₀ []) 0 t a₀ n₀ ≡ from h q (force_of p (take k tab)) 0 t at n
