-- Answers that are reckoned: for methods 0 and 1, tests on a question that compute, and the answer that they prove. With them answers are rows of a
-- table; no contract rests on this.
use mathlib.Core.Path.{◌≡◌, refl, sym}
use mathlib.Core.Bool.{Bool, true, false, cond, not, ◌&&◌, ◌||◌}
use mathlib.Core.Logic.{◌⊎◌, inl, inr}
use mathlib.Core.List.{List, [], ◌∷◌}
use Prim.Native.Nat.{ℕ, suc, ◌+◌, ◌-◌, ◌*◌, ◌/◌, ◌%◌, ◌≤◌, ◌<◌}
use native.Mathlib.Nat.{mul-le-mul_left}
use native.Mathlib.Decide.{ℕ_discrete, dec_le, dec_lt}
use native.Mathlib.Omega.{arith}
use borrow.Author.Tests.{eqb-true, eqb-false, leb-true, leb-false}
use lib.Dec.{T, eqb, leb, ltb, eqb→eq, leb→le, ltb→lt}
use lib.IntN.{ℤ, pos, negsuc, nat_abs, ◌+ℤ◌, ◌-ℤ◌, ◌*ℤ◌}
use lib.ListN.{length}
use Rattle.kit.specs.Answer.{All, pick, ×_dec, ⊎_dec, ¬_dec, all_dec}
use Rattle.kit.specs.Integer.{int?, le?, lt?, between?}
use Rattle.kit.specs.Range.{within?}
use Rattle.kit.specs.Truth.{truth, dec_by}
use Rattle.kit.proofs.TruthLaws.{truth_ok, and_left, and_right}
use Rattle.mapset.specs.Grid.{nodes, layers}
use Rattle.mapset.specs.Areas.{Areas, present?, nowhere?, Sound}
use Rattle.mapset.specs.Decisions.{end?, step?, multiple?, ×₃_dec, ×₄_dec, together?, dimension?, limits?, follows?}
use Rattle.mapset.specs.Described.{FullTexts}
use Rattle.mapset.specs.Lines.{no_lines}
use Rattle.mapset.specs.SoundDecided.{written?, axis?, records?, fillers?, header_rules?, room?, run?, epoch_rules?, sound?}
use Rattle.mapset.specs.declared.Axis.{Axis}
use Rattle.mapset.specs.declared.Grid.{Grid}
use Rattle.mapset.specs.declared.Header.{Header}
use Rattle.ask_cells.specs.Place.{Sits, along, Turned, Strip, GoesRound, RightOf, first, next, InCell100}
use Rattle.ask_cells.specs.Found.{strip?, goes_round?, after}
use Rattle.ask_cells.proofs.PlaceLaws.{turned_once, is_right}
use Rattle.ask_cells.specs.declared.Cell.{Cell}
use Rattle.ask_spans.specs.Time.{epoch, alone, shared, Uses, nearest, between}
use Rattle.ask_spans.specs.Spans.{Regular}
use Rattle.ask_spans.proofs.TimeLaws.{nearest_early, nearest_late, uses_last}
use Rattle.ask_spans.specs.declared.Shares.{Shares}
use Rattle.ask_nodes.specs.Value.{kind_of}
use Rattle.ask_sums.specs.Mean.{spread}
use Rattle.ask_sums.specs.Sums.{mean}
use Rattle.ask.specs.Sun.{in_time, CellAt, Cells}
use Rattle.ask.specs.Ask.{Question, Told, tecu, km, refused, stop, go, Known, epochs, Served, InTime, asked, Answers}
use Rattle.ask.specs.Summed.{in_told}
use Rattle.ask.proofs.AskLaws.{in_time_small, steady, answered}
use Rattle.ask.proofs.Strip.{cell_plain}

-- ---- tests
either : (a b : Bool) → T (a || b) → T a ⊎ T b
either true b t = inl tt
either false b t = inr t

denied : {P : Type 0} (d : Dec P) → T (not (truth d)) → ¬ P
unfolding truth
denied (yes p) t = absurd t
denied (no n) t = n

-- whether a set is sound. To unfold this is to unfold each test of it
unfoldable pub judged_sound : Header → FullTexts → Areas → Bool
unfolding truth sound? dec_by ×_dec ⊎_dec ¬_dec all_dec pick header_rules? records? fillers? room? epoch_rules? written? within? axis? end? step? together? between? ×₃_dec ×₄_dec multiple? le? lt? int? dimension? limits? run? follows? nowhere? present? ℕ_discrete dec_le dec_lt no_lines
judged_sound h t l = truth (sound? h t l)

-- ---- the cell of a place
abbrev far : Axis → ℤ → ℕ
far a lat = nat_abs (lat -ℤ (pos 10 *ℤ a.first))

-- from LON1 on, in one turn of 360.00; and the turns taken
abbrev past : Axis → ℤ → ℤ
past a lon = lon -ℤ (pos 10 *ℤ a.first)

abbrev east : ℤ → ℕ
east (pos n) = n % 36000
east (negsuc n) = 35999 - n % 36000

abbrev turns : ℤ → ℤ
turns (pos n) = pos (n / 36000)
turns (negsuc n) = negsuc (n / 36000)

abbrev tall : Axis → ℕ
tall a = 10 * nat_abs a.step

abbrev right_of : Axis → ℕ → ℕ
right_of a i = after (truth (strip? a)) (nodes a) i

abbrev cell_of : Grid → ℤ → ℤ → Cell
cell_of g lat lon =
    let y = far g.latitudes lat in
    let x = east (past g.longitudes lon) in
    record {
      row = y / tall g.latitudes;
      down = y % tall g.latitudes;
      tall = tall g.latitudes;
      column = x / tall g.longitudes;
      right = right_of g.longitudes (x / tall g.longitudes);
      across = x % tall g.longitudes;
      wide = tall g.longitudes;
    }

abbrev sits : (step n x i j part : ℕ) → Bool
sits step n x i j part = eqb x (step * i + part) && (ltb part step && (ltb i n && (eqb part 0 || ltb j n)))

sits_ok : (step n x i j part : ℕ) → T (sits step n x i j part) → Sits step n x i j part
sits_ok step n x i j part t =
    let u = and_right (eqb x (step * i + part)) _ t in
    let v = and_right (ltb part step) _ u in
    record {
      place = eqb→eq x (step * i + part) (and_left (eqb x (step * i + part)) _ t);
      less = ltb→lt part step (and_left (ltb part step) _ u);
      node = ltb→lt i n (and_left (ltb i n) _ v);
      next = by (either (eqb part 0) (ltb j n) (and_right (ltb i n) _ v));
    }
  where
    by : T (eqb part 0) ⊎ T (ltb j n) → (part ≡ 0) ⊎ (j < n)
    by (inl a) = inl (eqb→eq part 0 a)
    by (inr a) = inr (ltb→lt j n a)

abbrev in_turn : Axis → ℤ → Bool
in_turn a lon = truth (int? (past a lon) (pos (east (past a lon)) +ℤ (pos 36000 *ℤ turns (past a lon)))) && ltb (east (past a lon)) 36000

in_turn_ok : (a : Axis) (lon : ℤ) → T (in_turn a lon) → Turned 36000 (past a lon) (east (past a lon))
in_turn_ok a lon t =
    record {
      below = ltb→lt (east (past a lon)) 36000 (and_right (truth (int? (past a lon) (pos (east (past a lon)) +ℤ (pos 36000 *ℤ turns (past a lon))))) _ t);
      turns = turns (past a lon);
      whole = truth_ok (int? (past a lon) (pos (east (past a lon)) +ℤ (pos 36000 *ℤ turns (past a lon)))) (and_left (truth (int? (past a lon) (pos (east (past a lon)) +ℤ (pos 36000 *ℤ turns (past a lon))))) (ltb (east (past a lon)) 36000) t);
    }

abbrev in_row : Axis → ℤ → Bool
in_row a lat =
    truth (int? (lat -ℤ (pos 10 *ℤ a.first)) (along a.step (far a lat))) && sits (tall a) (nodes a) (far a lat) (far a lat / tall a) (far a lat / tall a + 1) (far a lat % tall a)

abbrev in_column : Axis → ℤ → Bool
in_column a lon =
    let x = east (past a lon) in in_turn a lon && sits (tall a) (nodes a) x (x / tall a) (right_of a (x / tall a)) (x % tall a)

cell_ok : (g : Grid) (lat lon : ℤ) → T (in_row g.latitudes lat) → T (in_column g.longitudes lon) → InCell100 g lat lon (cell_of g lat lon)
cell_ok g lat lon r c =
    record {
      row = record {
        far = far g.latitudes lat;
        from_first = truth_ok (int? (lat -ℤ (pos 10 *ℤ g.latitudes.first)) (along g.latitudes.step (far g.latitudes lat))) (and_left (truth (int? (lat -ℤ (pos 10 *ℤ g.latitudes.first)) (along g.latitudes.step (far g.latitudes lat)))) _ r);
        sits = sits_ok _ _ _ _ _ _ (and_right (truth (int? (lat -ℤ (pos 10 *ℤ g.latitudes.first)) (along g.latitudes.step (far g.latitudes lat)))) _ r);
      };
      tall = refl;
      column = record {
        east = east (past g.longitudes lon);
        from_first = in_turn_ok g.longitudes lon (and_left (in_turn g.longitudes lon) _ c);
        right = is_right g.longitudes _;
        sits = sits_ok _ _ _ _ _ _ (and_right (in_turn g.longitudes lon) _ c);
      };
      wide = refl;
    }

-- ---- x beyond LON2, where the column after the last is not the first
abbrev beyond : Axis → ℤ → Bool
beyond a lon = not (truth (strip? a)) && (in_turn a lon && ltb (tall a * (nodes a - 1)) (east (past a lon)))

right_next : (a : Axis) (i r : ℕ) → ¬ Strip a → RightOf a i r → r ≡ i + 1
right_next a i r n (first p e) = absurd (n p)
right_next a i r n (next m) = refl

outside : (g : Grid) (lat lon : ℤ) (c : Cell) → T (beyond g.longitudes lon) → ¬ InCell100 g lat lon c
outside g lat lon c t p =
    let a = g.longitudes in
    let u = and_right (not (truth (strip? a))) _ t in
    let n = denied (strip? a) (and_left (not (truth (strip? a))) _ t) in
    let x = turned_once 36000 (past a lon) p.column.east (east (past a lon)) p.column.from_first (in_turn_ok a lon (and_left (in_turn a lon) _ u)) in
    let b = ltb→lt (tall a * (nodes a - 1)) (east (past a lon)) (and_right (in_turn a lon) _ u) in
    let s = p.column.sits in
    let r = right_next a c.column c.right n p.column.right in
    by s.next (omega (arith, x, b, s.place)) s.less s.node r
  where
    by : (c.across ≡ 0) ⊎ (c.right < nodes g.longitudes) → tall g.longitudes * (nodes g.longitudes - 1) < tall g.longitudes * c.column + c.across
        → c.across < tall g.longitudes → c.column < nodes g.longitudes → c.right ≡ c.column + 1 → ⊥
    by (inl z) h k l r =
        let m : tall g.longitudes * c.column ≤ tall g.longitudes * (nodes g.longitudes - 1) = mul-le-mul_left (tall g.longitudes) (omega arith) in
        omega (arith, m, h, z)
    by (inr z) h k l r =
        let m : tall g.longitudes * (c.column + 1) ≤ tall g.longitudes * (nodes g.longitudes - 1) = mul-le-mul_left (tall g.longitudes) (omega arith) in
        omega (arith, m, h, k)

-- ---- the maps of a second
abbrev counted : List ℕ → ℕ → ℕ
counted [] t = 0
counted (e ∷ es) t = cond (leb e t) (suc (counted es t)) 0

-- the last map that is not after t
abbrev map_at : List ℕ → ℕ → ℕ
map_at es t = counted es t - 1

abbrev sooner : List ℕ → ℕ → Bool
sooner es t = leb (t - epoch es (map_at es t)) (epoch es (map_at es t + 1) - t)

abbrev shares_of : List ℕ → (t method : ℕ) → Shares
shares_of es t method =
    let i = map_at es t in
    cond (eqb (i + 1) (length es)) (alone i)
    (cond (eqb method 1) (shared i (epoch es (i + 1) - t) (t - epoch es i))
    (cond (sooner es t) (alone i) (alone (i + 1))))

abbrev in_maps : List ℕ → ℕ → Bool
in_maps es t =
    let i = map_at es t in
    leb (epoch es i) t && cond (eqb (i + 1) (length es)) (eqb t (epoch es i)) (ltb (i + 1) (length es) && ltb t (epoch es (i + 1)))

uses_ok : (es : List ℕ) → Regular es → (t method : ℕ) → method < 2 → T (in_maps es t) → Uses es t method (shares_of es t method)
uses_ok es r t method m h =
    by (map_at es t) (eqb (map_at es t + 1) (length es)) (eqb method 1) (sooner es t) refl refl refl
    (leb→le (epoch es (map_at es t)) t (and_left (leb (epoch es (map_at es t)) t) _ h)) (and_right (leb (epoch es (map_at es t)) t) _ h)
  where
    by : (i : ℕ) (a b c : Bool) → eqb (i + 1) (length es) ≡ a → eqb method 1 ≡ b → leb (t - epoch es i) (epoch es (i + 1) - t) ≡ c → epoch es i ≤ t
        → T (cond a (eqb t (epoch es i)) (ltb (i + 1) (length es) && ltb t (epoch es (i + 1))))
        → Uses es t method (cond a (alone i) (cond b (shared i (epoch es (i + 1) - t) (t - epoch es i)) (cond c (alone i) (alone (i + 1)))))
    by i true b c e f k p q = uses_last es r t method i m (eqb-true _ _ e) (eqb→eq t (epoch es i) q)
    by i false true c e f k p q =
        between i (eqb-true _ _ f) (ltb→lt _ _ (and_left (ltb (i + 1) (length es)) _ q)) p (ltb→lt _ _ (and_right (ltb (i + 1) (length es)) _ q))
    by i false false true e f k p q =
        let z = eqb-false method 1 f in
        let l = ltb→lt _ _ (and_left (ltb (i + 1) (length es)) _ q) in
        let u = ltb→lt _ _ (and_right (ltb (i + 1) (length es)) _ q) in
        nearest i (omega arith) (nearest_early es r t i l p u (leb-true _ _ k))
    by i false false false e f k p q =
        let z = eqb-false method 1 f in
        let l = ltb→lt _ _ (and_left (ltb (i + 1) (length es)) _ q) in
        let u = ltb→lt _ _ (and_right (ltb (i + 1) (length es)) _ q) in
        nearest (i + 1) (omega arith) (nearest_late es r t i l p u (leb-false _ _ k))

-- ---- the answer
-- what is claimed of a question: one of the refusals that need no node, or what its nodes give, 22 among them
pub data Claim : Type 0 where
  unknown unsound unserved untimely no_layer past_east : Claim
  gives : Told → Claim

abbrev pub says : Claim → Told
says unknown = refused 23
says unsound = refused 31
says unserved = refused 24
says untimely = refused 20
says no_layer = refused 21
says past_east = refused 21
says (gives a) = a

unfoldable pub known? : (q : Question) → Dec (Known q)
known? q = ×_dec (dec_lt q.kind 3) (dec_lt q.method 4)

unfoldable pub timely? : (q : Question) → Dec (InTime q)
timely? q = within? q.header.times.first q.header.times.last q.second

unfoldable pub same_told : (a b : Told) → Dec (a ≡ b)
same_told (tecu v) (tecu w) = go (int? v w)
  where
    go : Dec (v ≡ w) → Dec (tecu v ≡ tecu w)
    go (yes p) = yes (λ i. tecu (p i))
    go (no n) = no (λ e. n (cc))
same_told (km v) (km w) = go (int? v w)
  where
    go : Dec (v ≡ w) → Dec (km v ≡ km w)
    go (yes p) = yes (λ i. km (p i))
    go (no n) = no (λ e. n (cc))
same_told (refused v) (refused w) = go (ℕ_discrete v w)
  where
    go : Dec (v ≡ w) → Dec (refused v ≡ refused w)
    go (yes p) = yes (λ i. refused (p i))
    go (no n) = no (λ e. n (cc))
same_told (tecu v) (km w) = no (λ e. let z : ◌≡◌ {A = ℕ} 0 1 = cc in omega arith)
same_told (tecu v) (refused w) = no (λ e. let z : ◌≡◌ {A = ℕ} 0 1 = cc in omega arith)
same_told (km v) (tecu w) = no (λ e. let z : ◌≡◌ {A = ℕ} 0 1 = cc in omega arith)
same_told (km v) (refused w) = no (λ e. let z : ◌≡◌ {A = ℕ} 0 1 = cc in omega arith)
same_told (refused v) (tecu w) = no (λ e. let z : ◌≡◌ {A = ℕ} 0 1 = cc in omega arith)
same_told (refused v) (km w) = no (λ e. let z : ◌≡◌ {A = ℕ} 0 1 = cc in omega arith)

module _ (q : Question) where
  abbrev here : Cell
  here = cell_of q.header.grid q.lat q.lon

  abbrev what : Told
  what = in_told (kind_of q.kind) (mean (asked q (spread (shares_of (epochs q) q.second (in_time q.method)) here here)))

  -- known, sound, by method 0 or 1, in time
  abbrev heard : Bool
  heard = truth (known? q) && (truth (sound? q.header q.texts q.areas) && (ltb q.method 2 && truth (timely? q)))

  abbrev there : Bool
  there = truth (dec_lt q.layer (layers q.header.grid)) && (in_row q.header.grid.latitudes q.lat && in_column q.header.grid.longitudes q.lon)

  abbrev pub holds : Claim → Bool
  holds unknown = not (truth (known? q))
  holds unsound = truth (known? q) && not (truth (sound? q.header q.texts q.areas))
  holds unserved =
      truth (known? q) && (truth (sound? q.header q.texts q.areas) && (leb 2 q.method && not (truth (goes_round? q.header.grid.longitudes))))
  holds untimely = truth (known? q) && (truth (sound? q.header q.texts q.areas) && (ltb q.method 2 && not (truth (timely? q))))
  holds no_layer = heard && not (truth (dec_lt q.layer (layers q.header.grid)))
  holds past_east = heard && beyond q.header.grid.longitudes q.lon
  holds (gives a) = heard && (there && (in_maps (epochs q) q.second && truth (same_told what a)))

  heard_ok : T heard → Known q × (Sound q.header q.texts q.areas × ((q.method < 2) × InTime q))
  heard_ok t =
      let u = and_right (truth (known? q)) _ t in
      let v = and_right (truth (sound? q.header q.texts q.areas)) _ u in (
        truth_ok (known? q) (and_left (truth (known? q)) _ t),
        (
          truth_ok (sound? q.header q.texts q.areas) (and_left (truth (sound? q.header q.texts q.areas)) _ u),
          (ltb→lt q.method 2 (and_left (ltb q.method 2) _ v), truth_ok (timely? q) (and_right (ltb q.method 2) _ v)),
        ),
      )

  layer_ok : T there → q.layer < layers q.header.grid
  layer_ok t = truth_ok (dec_lt q.layer (layers q.header.grid)) (and_left (truth (dec_lt q.layer (layers q.header.grid))) _ t)

  place_ok : T there → InCell100 q.header.grid q.lat q.lon here
  place_ok t =
      let u = and_right (truth (dec_lt q.layer (layers q.header.grid))) _ t in
      cell_ok q.header.grid q.lat q.lon (and_left (in_row q.header.grid.latitudes q.lat) _ u) (and_right (in_row q.header.grid.latitudes q.lat) _ u)

  abbrev shares : Shares
  shares = shares_of (epochs q) q.second (in_time q.method)

  both_cells : q.method < 2 → InCell100 q.header.grid q.lat q.lon here → Cells q.method q.header.grid q.lat q.lon q.second (epochs q) shares here here
  both_cells m p =
      record { first_in = cell_plain q.method m q.header.grid q.lat q.lon q.second (epoch (epochs q) shares.map) here p; second_in = by (ℕ_discrete shares.late 0) }
    where
      by : Dec (shares.late ≡ 0) → ((shares.late ≡ 0) × (here ≡ here)) ⊎ ((0 < shares.late) × CellAt q.method q.header.grid q.lat q.lon q.second (epoch (epochs q) (shares.map + 1)) here)
      by (yes z) = inl (z, refl)
      by (no n) = inr (omega arith, cell_plain q.method m q.header.grid q.lat q.lon q.second (epoch (epochs q) (shares.map + 1)) here p)

  pub reckoned : (x : Claim) → T (holds x) → Answers q (says x)
  reckoned unknown t = stop (denied (known? q) t)
  reckoned unsound t =
      go (truth_ok (known? q) (and_left (truth (known? q)) _ t)) (stop (denied (sound? q.header q.texts q.areas) (and_right (truth (known? q)) _ t)))
  reckoned unserved t =
      let u = and_right (truth (known? q)) _ t in
      let v = and_right (truth (sound? q.header q.texts q.areas)) _ u in
      go (truth_ok (known? q) (and_left (truth (known? q)) _ t))
      (go (truth_ok (sound? q.header q.texts q.areas) (and_left (truth (sound? q.header q.texts q.areas)) _ u))
      (stop (still (leb→le 2 q.method (and_left (leb 2 q.method) _ v)) (denied (goes_round? q.header.grid.longitudes) (and_right (leb 2 q.method) _ v)))))
    where
      still : 2 ≤ q.method → ¬ GoesRound q.header.grid.longitudes → ¬ Served q
      still m n (inl k) = omega arith
      still m n (inr k) = n k.round
  reckoned untimely t =
      let u = and_right (truth (known? q)) _ t in
      let v = and_right (truth (sound? q.header q.texts q.areas)) _ u in
      go (truth_ok (known? q) (and_left (truth (known? q)) _ t))
      (go (truth_ok (sound? q.header q.texts q.areas) (and_left (truth (sound? q.header q.texts q.areas)) _ u))
      (go (inl (ltb→lt q.method 2 (and_left (ltb q.method 2) _ v)))
      (stop (denied (timely? q) (and_right (ltb q.method 2) _ v)))))
  reckoned no_layer t =
      let h = heard_ok (and_left heard _ t) in
      go h.0 (go h.1.0 (go (inl h.1.1.0) (go h.1.1.1
      (stop (λ i. denied (dec_lt q.layer (layers q.header.grid)) (and_right heard _ t) i.layer)))))
  reckoned past_east t =
      let h = heard_ok (and_left heard _ t) in
      go h.0 (go h.1.0 (go (inl h.1.1.0) (go h.1.1.1
      (stop (λ i. outside q.header.grid q.lat q.lon i.cell (and_right heard _ t) i.place)))))
  reckoned (gives a) t =
      let h = heard_ok (and_left heard _ t) in
      let u = and_right heard _ t in
      let p = place_ok (and_left there _ u) in
      let v = and_right there _ u in
      let e : what ≡ a = truth_ok (same_told what a) (and_right (in_maps (epochs q) q.second) _ v) in
      answered q h.1.0 (inl h.1.1.0) shares
      (uses_ok (epochs q) (steady q h.1.0) q.second (in_time q.method) (in_time_small q.method) (and_left (in_maps (epochs q) q.second) _ v))
      here here (both_cells h.1.1.0 p) h.0 h.1.1.1 (record { layer = layer_ok (and_left there _ u); cell = here; place = p }) a (sym e)

-- ---- rows of a table
abbrev pub Row : Type 0
Row = Question × Claim

abbrev pub every : List Row → Bool
every [] = true
every (r ∷ rs) = holds r.0 r.1 && every rs

pub all_answer : (rs : List Row) → T (every rs) → All (λ (r : Row). Answers r.0 (says r.1)) rs
all_answer [] t = tt
all_answer (r ∷ rs) t = (reckoned r.0 r.1 (and_left (holds r.0 r.1) _ t), all_answer rs (and_right (holds r.0 r.1) _ t))
