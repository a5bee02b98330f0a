-- What the next row of a text is, by what the code hands back.
use Rattle.std.specs.Prelude.{◌≡◌, List, ℕ, suc, ◌+◌, ◌-◌, ◌≤◌, ◌<◌, length, take, drop, Result, Ok, Err}
use Rattle.kit.specs.Answer.{Answer, ok, refused, All}
use Rattle.layout.specs.Text.{pad}
use Rattle.reading.specs.declared.Fault.{Fault}
use Rattle.reading.specs.declared.Why.{Why}
use Rattle.reading.specs.Feed.{Feed, row, split, feed, NoRow}
use Rattle.biases.specs.Biases.{Biases, SameStation}
use Rattle.biases.specs.Read.{role, same_station?, gather}
use Rattle.biases.specs.declared.Station.{Station}
use Rattle.biases.specs.declared.Place.{Place}
use Rattle.biases.specs.declared.Role.{Role}
use Rattle.biases.specs.declared.Role.TheVariants.{Last, Skipped, OfSatellite, OfStation}
use Rattle.bias_scan.specs.Walk.{going, after}
use Rattle.bias_scan.specs.declared.Cursor.{Cursor}
use Rattle.bias_scan.specs.declared.Turn.{Turn}
use Rattle.bias_scan.specs.declared.Looked.{Looked}

-- the rows from a line's start on, after n lines
abbrev pub from : List ℕ → ℕ → ℕ → Feed
from t at n = feed (suc n) (split (drop at t))

abbrev pub cursor : Place → ℕ → ℕ → Cursor
cursor p at n = record { place = p; at = at; lines = n }

-- no row comes: whatever was given before, it is refused so, and stays
pub record Halts (t : List ℕ) (at n : ℕ) (p : Place) (w : Why) : Type 0 where
  pub none : NoRow (from t at n)
  pub refuses : (g : Biases) → gather g p (from t at n) ≡ refused w
  pub stays : (g : Biases) → after p g (from t at n) ≡ going p g (from t at n)

-- a row that is x, on line m; the next line starts at next
pub record OnRow (t : List ℕ) (at n : ℕ) (p : Place) (r : List ℕ) (next m : ℕ) (x : Role) : Type 0 where
  pub ahead : at < next
  pub within : next ≤ length t
  pub passed : m ≤ next
  pub on : from t at n ≡ row m r (from t next m)
  pub is : role p r ≡ x

-- the same, where the row stands from start to end and has its label
pub record OnLine (t : List ℕ) (at n : ℕ) (p : Place) (start end next m : ℕ) (x : Role) : Type 0 where
  pub row : OnRow t at n p (pad (take (end - start) (drop start t))) next m x
  pub inside : start ≤ end
  pub fits : end - start ≤ 80
  pub whole : end ≤ length t
  pub long : at + 61 ≤ next

abbrev pub Turns : List ℕ → ℕ → ℕ → Place → Result Turn Why → Type 0
Turns t at n p (Err w) = Halts t at n p w
Turns t at n p (Ok Turn.Last) = (r : List ℕ) × (next : ℕ) × (m : ℕ) × OnRow t at n p r next m Last
Turns t at n p (Ok (Turn.Skip q)) = (r : List ℕ) × OnRow t at n p r q.at q.lines (Skipped q.place)
Turns t at n p (Ok (Turn.Satellite r)) = OnLine t at n p r.start r.end r.next r.lines OfSatellite
Turns t at n p (Ok (Turn.Station r)) = OnLine t at n p r.start r.end r.next r.lines OfStation

-- ---- a station looked for

-- the record gives a station of x's system and name
abbrev pub Heard : Station → Answer Fault Station → Type 0
Heard x (ok y) = SameStation x y
Heard x (refused w) = ⊥

unfoldable pub heard? : (x : Station) (a : Answer Fault Station) → Dec (Heard x a)
heard? x (ok y) = same_station? x y
heard? x (refused w) = no (λ h. h)

abbrev pub Unheard : Station → Biases → Type 0
Unheard x g = All (λ y. ¬ SameStation x y) g.stations

-- one row on, where it does not give x
pub record Past (t : List ℕ) (at n : ℕ) (p : Place) (x : Station) (q : Place) (next m : ℕ) : Type 0 where
  pub ahead : at < next
  pub within : next ≤ length t
  pub passed : m ≤ next
  pub place : (g : Biases) → (after p g (from t at n)).place ≡ q
  pub rest : (g : Biases) → (after p g (from t at n)).rest ≡ from t next m
  pub unheard : (g : Biases) → Unheard x g → Unheard x (after p g (from t at n)).given

pub record Twice (t : List ℕ) (at n : ℕ) (p : Place) (x : Station) : Type 0 where
  pub heard : (g : Biases) → ¬ Unheard x (after p g (from t at n)).given

pub record Still (t : List ℕ) (at n : ℕ) (p : Place) : Type 0 where
  pub stays : (g : Biases) → after p g (from t at n) ≡ going p g (from t at n)

abbrev pub Looks : List ℕ → ℕ → ℕ → Place → Station → Looked → Type 0
Looks t at n p x Looked.Same = Twice t at n p x
Looks t at n p x Looked.Nothing = Still t at n p
Looks t at n p x (Looked.Other q) = Past t at n p x q.place q.at q.lines
