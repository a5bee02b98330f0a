-- A grid that goes round the whole Earth has every longitude inside; in the strip the last column is left and the first one right.
use mathlib.Core.Path.{◌≡◌, refl, sym, ap, ◌∙◌}
use mathlib.Core.Logic.{◌⊎◌, ◌↔◌, inl, inr, ⊎_elim}
use Prim.Native.Nat.{ℕ, ◌+◌, ◌*◌, ◌-◌, ◌/◌, ◌%◌, ◌≤◌, ◌<◌}
use native.Mathlib.Nat.{div-mul-le_self, mul-le-mul_left, lt_of_not-le, mod-lt, div-add-mod, div-lt_iff_lt-mul, mul-pos}
use native.Mathlib.Decide.{ℕ_discrete, dec_le}
use native.Mathlib.Omega.{arith}
use lib.Arith.{digits_div}
use lib.IntN.{ℤ, pos, negsuc, nat_abs, ◌+ℤ◌, ◌-ℤ◌, ◌*ℤ◌}
use Rattle.kit.specs.Integer.{up, dn}
use Rattle.kit.proofs.Parts.{add_parts, sub_parts2, scale_up, scale_dn, eq_parts, abs_parts, one_zero, parts_le}
use Rattle.mapset.specs.Grid.{longitudes, Multiple, AxisRules, nodes}
use Rattle.mapset.specs.declared.Axis.{Axis}
use Rattle.mapset.specs.declared.Grid.{Grid}
use Rattle.ask_cells.specs.Place.{Sits, Turned, Strip, Closed, GoesRound, RightOf, first, next, InColumn, InCell}
use Rattle.ask_cells.specs.declared.Cell.{Cell}
use Rattle.ask_cells.proofs.PlaceLaws.{turned_once, turned_by, turned_some, is_right}

-- ---- whole multiples
less_whole : (s x y w : ℕ) → 0 < s → w + s * x ≡ s * y → w ≡ s * (y - x)
less_whole s x y w h e = by (dec_le x y)
  where
    by : Dec (x ≤ y) → w ≡ s * (y - x)
    by (yes p) = let k : y ≡ x + (y - x) = omega arith in omega (arith, ap (λ (n : ℕ). s * n) k)
    by (no p) = absurd (omega (arith, mul-le-mul_left s (lt_of_not-le p)))

parts_whole : (d x : ℤ) → Multiple d x → (up x ≡ nat_abs d * (up x / nat_abs d)) × (dn x ≡ nat_abs d * (dn x / nat_abs d))
parts_whole d (pos n) e = (omega (arith, div-add-mod n (nat_abs d)), omega (arith, div-mul-le_self 0 (nat_abs d)))
parts_whole d (negsuc n) e = (omega (arith, div-mul-le_self 0 (nat_abs d)), omega (arith, div-add-mod (dn (negsuc n)) (nat_abs d)))

-- the column to the right is one of the grid
reaches : (a : Axis) → GoesRound a → {i r : ℕ} → i < nodes a → (Closed a → i + 1 < nodes a) → RightOf a i r → r < nodes a
reaches a g h c (first p e) = omega arith
reaches a (inl p) {i} h c (next n) = by (ℕ_discrete (i + 1) (nodes a))
  where
    by : Dec (i + 1 ≡ nodes a) → i + 1 < nodes a
    by (yes e) = absurd (n (p, e))
    by (no e) = omega arith
reaches a (inr q) h c (next n) = c q

module _ (a : Axis) (ok : AxisRules longitudes a) where
  abbrev s : ℕ
  s = nat_abs a.step

  steps_up : (0 < s) × (up a.step ≡ s) × (dn a.step ≡ 0)
  steps_up =
      let l = parts_le (pos 1) a.step ok.step.from in
      ⊎_elim (λ o. (omega (arith, abs_parts a.step), omega (arith, abs_parts a.step), o)) (λ o. absurd (omega arith)) (one_zero a.step)

  -- the columns stand evenly from the first to the last
  spans : nat_abs (a.last -ℤ a.first) ≡ s * (nodes a - 1)
  spans =
      let z : ℤ = a.last -ℤ a.first in
      let l = parts_whole a.step a.last ok.together.1 in
      let f = parts_whole a.step a.first ok.together.0 in
      let k : ℕ = (up a.last / s + dn a.first / s) - (dn a.last / s + up a.first / s) in
      let r = parts_le (pos 0) z ok.together.2.from in
      let n : dn z ≡ 0 = ⊎_elim (λ o. o) (λ o. omega arith) (one_zero z) in
      let e : up z ≡ s * k = less_whole s (dn a.last / s + up a.first / s) (up a.last / s + dn a.first / s) (up z) steps_up.0 (omega (arith, sub_parts2 a.last a.first)) in
      let g : nat_abs z ≡ s * k = omega (arith, abs_parts z) in
      let d : nat_abs z / s ≡ k = ap (λ (x : ℕ). x / s) (g ∙ omega arith) ∙ digits_div k {m = s} {r = 0} steps_up.0 in
      let m : k ≡ nodes a - 1 = omega arith in
      g ∙ ap (λ (x : ℕ). s * x) m

  -- in the strip the columns and the step from the last to the first come to a full turn; else the last column closes it
  pub strip_turn : Strip a → s * nodes a ≡ 3600
  strip_turn h =
      let z : ℤ = a.last -ℤ a.first in
      let r = parts_le (pos 0) z ok.together.2.from in
      let n : dn z ≡ 0 = ⊎_elim (λ o. o) (λ o. omega arith) (one_zero z) in
      let d = steps_up in
      let m : nodes a ≡ (nodes a - 1) + 1 = omega arith in
      omega (arith, ap (λ (x : ℕ). s * x) m, spans, abs_parts z, sub_parts2 a.last a.first, add_parts a.last a.step, add_parts a.first (pos 3600), ap up h, ap dn h)

  closed_turn : Closed a → s * (nodes a - 1) ≡ 3600
  closed_turn h =
      let z : ℤ = a.last -ℤ a.first in
      let r = parts_le (pos 0) z ok.together.2.from in
      let n : dn z ≡ 0 = ⊎_elim (λ o. o) (λ o. omega arith) (one_zero z) in
      omega (arith, spans, abs_parts z, sub_parts2 a.last a.first, add_parts a.first (pos 3600), ap up h, ap dn h)

  module _ (unit : ℕ) (some : 0 < unit) (lon : ℤ) where
    -- where a longitude lies
    abbrev east : ℕ
    east = (turned_some (lon -ℤ (pos unit *ℤ a.first)) (unit * 3600) (omega arith)).0

    abbrev brought : Turned (unit * 3600) (lon -ℤ (pos unit *ℤ a.first)) east
    brought = (turned_some (lon -ℤ (pos unit *ℤ a.first)) (unit * 3600) (omega arith)).1

    abbrev wide : ℕ
    wide = unit * s

    wide_some : 0 < wide
    wide_some = mul-pos some steps_up.0

    abbrev at : ℕ
    at = east / wide

    below : (k : ℕ) → s * k ≡ 3600 → at < k
    below k e = (div-lt_iff_lt-mul {x = east} {y = k} wide_some).1 (omega (arith, brought.below, ap (λ (x : ℕ). unit * x) e))

    -- every longitude is inside a grid that goes round
    pub round_inside : GoesRound a → (i : ℕ) × ((r : ℕ) × ((part : ℕ) × InColumn unit a lon i r part))
    round_inside g =
        let n : at < nodes a = ⊎_elim (λ h. below (nodes a) (strip_turn h)) (λ h. omega (arith, below (nodes a - 1) (closed_turn h))) g in
        let r = is_right a at in (
          at,
          (
            _,
            (
              east % wide,
              record {
                east = east;
                from_first = brought;
                right = r;
                sits = record { place = sym (div-add-mod east wide); less = mod-lt east wide_some; node = n; next = inr (reaches a g n (λ h. omega (arith, below (nodes a - 1) (closed_turn h))) r) };
              },
            ),
          ),
        )

    -- ---- 21 for a longitude: x, brought by whole turns, is beyond LON2, and no column follows the last
    abbrev reach : ℕ
    reach = unit * nat_abs (a.last -ℤ a.first)

    reach_is : reach ≡ wide * (nodes a - 1)
    reach_is = ap (λ (x : ℕ). unit * x) spans ∙ omega arith

    within : (i r part x : ℕ) → RightOf a i r → Sits wide (nodes a) x i r part → Strip a ⊎ (x ≤ reach)
    within i r part x (first p e) k = inl p
    within i r part x (next n) k =
        inr (⊎_elim (λ z. omega (arith, k.place, reach_is, mul-le-mul_left wide (up_to (nodes a) k.node)))
        (λ l. omega (arith, k.place, k.less, reach_is, mul-le-mul_left wide (up_to (nodes a) l)))
        k.next)
      where
        up_to : {j : ℕ} (n : ℕ) → j < n → j ≤ n - 1
        up_to n h = omega arith

    module _ (x : ℕ) (b : Turned (unit * 3600) (lon -ℤ (pos unit *ℤ a.first)) x) where
      reached : x ≤ reach → (i : ℕ) × ((r : ℕ) × ((part : ℕ) × InColumn unit a lon i r part))
      reached h =
          let steps : nodes a ≡ (nodes a - 1) + 1 = omega arith in
          let n : x / wide < nodes a = (div-lt_iff_lt-mul {x = x} {y = nodes a} wide_some).1 (omega (arith, reach_is, wide_some, ap (λ (k : ℕ). wide * k) steps)) in
          let r = is_right a (x / wide) in
          (x / wide, (_, (x % wide, record { east = x; from_first = b; right = r; sits = record { place = sym (div-add-mod x wide); less = mod-lt x wide_some; node = n; next = by (ℕ_discrete (x % wide) 0) r } })))
        where
          past : ¬ (x % wide ≡ 0) → Dec (nodes a - 1 ≤ x / wide) → x / wide + 1 < nodes a
          past z (yes l) = absurd (z (omega (arith, div-add-mod x wide, reach_is, h, mul-le-mul_left wide l)))
          past z (no l) = omega arith

          by : {r : ℕ} → Dec (x % wide ≡ 0) → RightOf a (x / wide) r → (x % wide ≡ 0) ⊎ (r < nodes a)
          by (yes z) g = inl z
          by (no z) (first p e) = inr (omega arith)
          by (no z) (next m) = inr (past z (dec_le (nodes a - 1) (x / wide)))

      pub inside_exactly : ((i : ℕ) × ((r : ℕ) × ((part : ℕ) × InColumn unit a lon i r part))) ↔ (Strip a ⊎ (x ≤ reach))
      inside_exactly = (
        (λ c. within c.0 c.1.0 c.1.1.0 x c.1.1.1.right (rw (turned_once (unit * 3600) _ _ x c.1.1.1.from_first b) at c.1.1.1.sits)),
        (λ h. ⊎_elim (λ p. round_inside (inl p)) reached h),
      )

-- ---- in the strip: past the last column, between it and the first
pub strip_right : (a : Axis) → Strip a → (r : ℕ) → RightOf a (nodes a - 1) r → r ≡ 0
strip_right a h r (first p e) = refl
strip_right a h r (next n) = absurd (n (h, omega arith))

-- other grids have none: a column's right one is the next
pub plain_right : (a : Axis) → ¬ Strip a → (i r : ℕ) → RightOf a i r → r ≡ i + 1
plain_right a n i r (first p e) = absurd (n p)
plain_right a n i r (next m) = refl

-- a place on the first column's meridian takes that column, also where the last one stands there too
pub meridian : (unit : ℕ) (a : Axis) (i r part : ℕ) → 0 < unit * nat_abs a.step → InColumn unit a (pos unit *ℤ a.first) i r part → i ≡ 0
meridian unit a i r part h c =
    let x : ℤ = pos unit *ℤ a.first in
    let t : Turned (unit * 3600) (x -ℤ x) 0 = turned_by (unit * 3600) (x -ℤ x) 0 (pos 0) (omega (arith, c.from_first.below)) (omega (arith, sub_parts2 x x)) in
    let e = turned_once (unit * 3600) (x -ℤ x) c.east 0 c.from_first t in
    by (dec_le i 0) c.sits.place e
  where
    by : Dec (i ≤ 0) → c.east ≡ unit * nat_abs a.step * i + part → c.east ≡ 0 → i ≡ 0
    by (yes p) e f = omega arith
    by (no p) e f = absurd (omega (arith, mul-pos {m = unit * nat_abs a.step} {n = i} h (lt_of_not-le p)))

-- a longitude that is LON1 by whole turns stands on the first column, also where the last one stands there too
pub meridian_turned : (unit : ℕ) (a : Axis) (lon k : ℤ) (i r part : ℕ) → 0 < unit * nat_abs a.step → lon ≡ (pos unit *ℤ a.first) +ℤ (pos (unit * 3600) *ℤ k) → InColumn unit a lon i r part
    → (i ≡ 0) × (part ≡ 0)
meridian_turned unit a lon k i r part h l c =
    let x : ℤ = pos unit *ℤ a.first in
    let t : Turned (unit * 3600) (lon -ℤ x) 0 =
    turned_by (unit * 3600) (lon -ℤ x) 0 k (omega (arith, c.from_first.below))
    (omega (arith, ap up l, ap dn l, sub_parts2 lon x, add_parts x (pos (unit * 3600) *ℤ k), scale_up (unit * 3600) k, scale_dn (unit * 3600) k)) in
    let e = turned_once (unit * 3600) (lon -ℤ x) c.east 0 c.from_first t in
    by (dec_le i 0) c.sits.place e
  where
    by : Dec (i ≤ 0) → c.east ≡ unit * nat_abs a.step * i + part → c.east ≡ 0 → (i ≡ 0) × (part ≡ 0)
    by (yes p) e f = (omega arith, omega arith)
    by (no p) e f = absurd (omega (arith, mul-pos {m = unit * nat_abs a.step} {n = i} h (lt_of_not-le p)))

-- a whole number of turns changes nothing
turned_on : (turn : ℕ) (x y k : ℤ) (r : ℕ) → y ≡ x +ℤ pos turn *ℤ k → Turned turn x r → Turned turn y r
turned_on turn x y k r e t =
    turned_by turn y r (t.turns +ℤ k) t.below
    (omega (
      arith,
      ap up e,
      ap dn e,
      ap up t.whole,
      ap dn t.whole,
      add_parts x (pos turn *ℤ k),
      scale_up turn k,
      scale_dn turn k,
      add_parts (pos r) (pos turn *ℤ t.turns),
      scale_up turn t.turns,
      scale_dn turn t.turns,
      ap (λ (n : ℕ). turn * n) (add_parts t.turns k),
    ))

pub whole_turns : (unit : ℕ) (g : Grid) (lat lon k : ℤ) (c : Cell) → InCell unit g lat lon c → InCell unit g lat (lon +ℤ pos (unit * 3600) *ℤ k) c
whole_turns unit g lat lon k c i =
    let a = g.longitudes in
    let x : ℤ = lon -ℤ (pos unit *ℤ a.first) in
    let y : ℤ = (lon +ℤ pos (unit * 3600) *ℤ k) -ℤ (pos unit *ℤ a.first) in
    let e : y ≡ x +ℤ pos (unit * 3600) *ℤ k =
    eq_parts y (x +ℤ pos (unit * 3600) *ℤ k) (omega (arith, add_parts x (pos (unit * 3600) *ℤ k), sub_parts2 lon (pos unit *ℤ a.first), sub_parts2 (lon +ℤ pos (unit * 3600) *ℤ k) (pos unit *ℤ a.first), add_parts lon (pos (unit * 3600) *ℤ k))) in
    record {
      row = i.row;
      tall = i.tall;
      column = record { east = i.column.east; from_first = turned_on (unit * 3600) x y k i.column.east e i.column.from_first; right = i.column.right; sits = i.column.sits };
      wide = i.wide;
    }

-- ---- in units k times as fine
abbrev pub finer : ℕ → Cell → Cell
finer k c =
    record { row = c.row; down = c.down; tall = c.tall; column = c.column; right = c.right; across = k * c.across; wide = k * c.wide }

-- hundredths of a degree in 1/1200 of a degree
pub finer_in : (g : Grid) (lat lon : ℤ) (c : Cell) → InCell 10 g lat lon c → InCell 120 g lat (pos 12 *ℤ lon) (finer 12 c)
finer_in g lat lon c i =
    let a = g.longitudes in
    let f = i.column.from_first in
    let e : ℕ = i.column.east in
    let x : ℤ = lon -ℤ (pos 10 *ℤ a.first) in
    let y : ℤ = pos 12 *ℤ lon -ℤ (pos 120 *ℤ a.first) in
    let p = i.column.sits in
    record {
      row = i.row;
      tall = i.tall;
      column = record {
        east = 12 * e;
        from_first = turned_by (120 * 3600) y (12 * e) f.turns (omega (arith, f.below))
            (omega (
              arith,
              ap up f.whole,
              ap dn f.whole,
              add_parts (pos e) (pos 36000 *ℤ f.turns),
              scale_up 36000 f.turns,
              scale_dn 36000 f.turns,
              sub_parts2 lon (pos 10 *ℤ a.first),
              scale_up 10 a.first,
              scale_dn 10 a.first,
              sub_parts2 (pos 12 *ℤ lon) (pos 120 *ℤ a.first),
              scale_up 12 lon,
              scale_dn 12 lon,
              scale_up 120 a.first,
              scale_dn 120 a.first,
            ));
        right = i.column.right;
        sits = record { place = omega (arith, p.place); less = omega (arith, p.less); node = p.node; next = ⊎_elim (λ z. inl (omega (arith, z))) inr p.next };
      };
      wide = omega (arith, i.wide);
    }
