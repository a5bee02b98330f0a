-- How the parts of the question come together; and that no second answer fits.
use mathlib.Core.Path.{◌≡◌, refl}
use mathlib.Core.Logic.{◌⊎◌, inl, inr, ⊎_elim}
use mathlib.Core.List.{List, [], ◌∷◌}
use Prim.Native.Nat.{ℕ, zero, suc, ◌+◌, ◌-◌, ◌*◌, ◌≤◌, ◌<◌, ◌^◌}
use native.Mathlib.Nat.{mul-le-mul}
use native.Mathlib.Omega.{arith}
use lib.IntN.{ℤ, pos, nat_abs, ◌-ℤ◌, ◌*ℤ◌}
use Rattle.kit.proofs.Order.{less_size}
use Rattle.kit.proofs.Parts.{abs_scale, abs_add_scaled}
use lib.ListN.{length, get_or}
use lib.Seq.{length-take-le}
use Rattle.mapset.specs.Grid.{layers}
use Rattle.mapset.specs.Areas.{Sound}
use Rattle.mapset.specs.Sound.{StartsAt, EpochsSay}
use Rattle.mapset.proofs.Groups.{header_groups, sound_groups}
use Rattle.ask_cells.specs.Place.{InCell}
use Rattle.ask.specs.Turned.{CanAsk}
use Rattle.ask_spans.specs.Time.{epoch, Uses}
use Rattle.ask_spans.specs.Spans.{Regular, Spanned}
use Rattle.ask_spans.proofs.TimeLaws.{regular, last_epoch, rises_to, shares_within, shares_small}
use Rattle.ask_nodes.specs.Value.{kind_of}
use Rattle.ask_sums.specs.Mean.{Valued, spread, weight}
use Rattle.ask_sums.specs.Sums.{mean, Summable}
use Rattle.ask.specs.Ask.{Question, Told, refused, Guard, stop, go, Known, epochs, Served, InTime, Inside, area, shape, asked, Rounded, Placed, Answers}
use Rattle.ask.specs.Summed.{in_told}
use Rattle.ask.proofs.MeanLaws.{mean_is}
use Rattle.ask.proofs.ReachLaws.{latitude_step, longitude_step, total, some_weight, summable}
use Rattle.ask.specs.Sun.{in_time, unit_of, moved, lon_at, Cells}
use Rattle.ask_cells.specs.declared.Cell.{Cell}
use Rattle.ask_spans.specs.declared.Shares.{Shares}

-- number n is due where P does not hold
pub due : {P : Type 0} {R : Told → Type 0} {a : Told} (n : ℕ) → a ≡ refused n → ¬ P → Guard P n R a
due n e h = rw e (stop h)

starts : (first : ℕ) (es : List ℕ) → StartsAt first es → (1 ≤ length es) × (get_or es 0 0 ≡ first)
starts first [] h = absurd h
starts first (e ∷ es) h = (omega arith, h)

-- ---- the units of each method
pub unit_small : (m : ℕ) → (0 < unit_of m) × (unit_of m ≤ 120)
unit_small zero = (omega arith, omega arith)
unit_small (suc zero) = (omega arith, omega arith)
unit_small (suc (suc m)) = (omega arith, omega arith)

pub plain_unit : (m : ℕ) → m < 2 → unit_of m ≡ 10
plain_unit zero h = refl
plain_unit (suc zero) h = refl
plain_unit (suc (suc m)) h = absurd (omega arith)

pub plain_lon : (m : ℕ) → m < 2 → (lon : ℤ) (t e : ℕ) → lon_at m lon t e ≡ lon
plain_lon zero h lon t e = refl
plain_lon (suc zero) h lon t e = refl
plain_lon (suc (suc m)) h lon t e = absurd (omega arith)

pub sun_lon : (m : ℕ) → 2 ≤ m → (lon : ℤ) (t e : ℕ) → lon_at m lon t e ≡ moved lon t e
sun_lon zero h lon t e = absurd (omega arith)
sun_lon (suc zero) h lon t e = absurd (omega arith)
sun_lon (suc (suc m)) h lon t e = refl

pub in_time_small : (m : ℕ) → in_time m < 2
in_time_small zero = omega arith
in_time_small (suc zero) = omega arith
in_time_small (suc (suc zero)) = omega arith
in_time_small (suc (suc (suc m))) = omega arith

pub other_maps : (m : ℕ) → ¬ (m ≡ 1) → ¬ (m ≡ 2) → 0 ≡ in_time m
other_maps zero h k = refl
other_maps (suc zero) h k = absurd (h refl)
other_maps (suc (suc zero)) h k = absurd (k refl)
other_maps (suc (suc (suc m))) h k = refl

-- a moved longitude is small
pub moved_size : (lon : ℤ) (t e : ℕ) → nat_abs (moved lon t e) ≤ 12 * nat_abs lon + 5 * (t + e)
moved_size lon t e = omega (arith, abs_add_scaled (pos 12 *ℤ lon) 5 (pos t -ℤ pos e), abs_scale 12 lon, less_size (pos t) (pos e))

pub lon_size : (m : ℕ) (lon : ℤ) (t e : ℕ) → nat_abs lon ≤ 2 ^ 31 → t < 2 ^ 40 → e < 2 ^ 40 → nat_abs (lon_at m lon t e) < 2 ^ 60
lon_size zero lon t e h k l = omega arith
lon_size (suc zero) lon t e h k l = omega arith
lon_size (suc (suc m)) lon t e h k l = omega (arith, moved_size lon t e)

pub sun_unit : (m : ℕ) → 2 ≤ m → unit_of m ≡ 120
sun_unit zero h = absurd (omega arith)
sun_unit (suc zero) h = absurd (omega arith)
sun_unit (suc (suc m)) h = refl

module _ (q : Question) (sound : Sound q.header q.texts q.areas) where
  say : EpochsSay q.header.times (epochs q)
  say = (sound_groups q.header q.texts q.areas sound).1.1.1.0

  pub steady : Regular (epochs q)
  steady = regular q.header.times.interval q.header.times.last (epochs q) say.1

  pub last_is : (i : ℕ) → i + 1 ≡ length (epochs q) → epoch (epochs q) i ≡ q.header.times.last
  last_is i h = last_epoch q.header.times.interval q.header.times.last (epochs q) say.1 i h

  pub spanned : InTime q → Spanned (epochs q) q.second
  spanned t =
      let s = starts q.header.times.first (epochs q) say.0 in
      record {
        some = s.0;
        from = rw s.1 t.0;
        to = λ i h. rw (last_is i h) t.1;
      }

  pub few_epochs : length (epochs q) ≡ q.header.times.maps
  few_epochs = length-take-le q.header.times.maps q.areas.epochs sound.room.epochs

  -- no epoch is past the last
  pub epoch_last : (i : ℕ) → i < length (epochs q) → epoch (epochs q) i ≤ q.header.times.last
  epoch_last i h =
      let e = last_is (length (epochs q) - 1) (omega arith) in
      rw e at (rises_to (epochs q) steady i (length (epochs q) - 1) (omega arith) (omega arith))

  pub can_ask : InTime q → (h : Shares) → Uses (epochs q) q.second (in_time q.method) h → CanAsk q.header.grid q.second (epochs q) h
  can_ask t h u =
      let l = (header_groups q.header q.texts sound.header).1.1.0.1.0 in
      let k = shares_small (epochs q) steady q.second (in_time q.method) u in
      record { rows = (latitude_step q sound).0; columns = (longitude_step q sound).0; second = omega (arith, t.1, l); epochs = λ i h. omega (arith, epoch_last i h, l); map = k.2; next = k.3 }

  -- ---- the cells of the maps
  module _ (served : Served q) (h : Shares) (u : Uses (epochs q) q.second (in_time q.method) h) (c d : Cell) (x : Cells q.method q.header.grid q.lat q.lon q.second (epochs q) h c d) where
    abbrev pub unit : ℕ
    unit = unit_of q.method

    small : (1 ≤ h.early) × (h.early + h.late ≤ 21600) × (h.map < length (epochs q)) × ((h.late ≡ 0) ⊎ (h.map + 1 < length (epochs q)))
    small = shares_small (epochs q) steady q.second (in_time q.method) u

    -- the second map's cell is one of the same rows
    pub other : (east : ℤ) × InCell unit q.header.grid q.lat east d
    other = ⊎_elim (λ z. (lon_at q.method q.lon q.second (epoch (epochs q) h.map), rw z.1 x.first_in)) (λ z. (lon_at q.method q.lon q.second (epoch (epochs q) (h.map + 1)), z.1)) x.second_in

    -- the weights come to no more than 64,800,000,000
    bounded : (c.wide ≤ 6000) × ((h.early + h.late) * (c.tall * c.wide) ≤ 64_800_000_000)
    bounded = by served
      where
        tall : c.tall ≤ 1500
        tall = omega (arith, x.first_in.tall, (latitude_step q sound).1)

        wide : (m n : ℕ) → unit ≤ m → nat_abs q.header.grid.longitudes.step ≤ n → c.wide ≤ m * n
        wide m n p k = rw x.first_in.wide (mul-le-mul p k)

        by : Served q → (c.wide ≤ 6000) × ((h.early + h.late) * (c.tall * c.wide) ≤ 64_800_000_000)
        by (inl m) =
            let w = wide 10 150 (omega (arith, plain_unit q.method m)) (longitude_step q sound).1 in
            (omega arith, omega (arith, mul-le-mul small.1 (mul-le-mul tall w)))
        by (inr t) =
            let w = wide 120 50 (unit_small q.method).1 t.step in
            (omega arith, omega (arith, mul-le-mul (shares_within (epochs q) steady q.second 7200 (omega arith) t.close (in_time q.method) u) (mul-le-mul tall w)))

    pub has_weight : 0 < weight (asked q (spread h c d))
    has_weight = some_weight q sound unit (unit_small q.method).0 q.lat _ other.0 c d x.first_in other.1 h small.0

    -- the weights come to the gap times the cell's size
    pub whole_weight : weight (asked q (spread h c d)) ≡ (h.early + h.late) * (c.tall * c.wide)
    whole_weight = total q sound unit (unit_small q.method).0 q.lat _ other.0 c d x.first_in other.1 h

    pub can_sum : Known q → q.layer < layers q.header.grid → Summable (area (kind_of q.kind) q.areas) q.areas.exponents q.areas.marks (shape q) h c d
    can_sum known layer =
        summable q sound unit (unit_small q.method).0 q.lat _ other.0 c d x.first_in other.1 known.0 layer h bounded.0 bounded.1 (rw few_epochs at small.2) (rw few_epochs at small.3)

    pub placed_answer : InTime q → Inside q → (a : Told) → a ≡ in_told (kind_of q.kind) (mean (asked q (spread h c d))) → Placed q a
    placed_answer time inside a e =
        let g : Guard (Valued (asked q (spread h c d))) 22 (Rounded (kind_of q.kind) (asked q (spread h c d))) a = rw e (mean_is (kind_of q.kind) (asked q (spread h c d)) has_weight) in
        go time (go inside (spread h c d, (record { shares = h; uses = u; first = c; second = d; cells = x; nodes = refl }, g)))

    pub answered : Known q → InTime q → Inside q → (a : Told) → a ≡ in_told (kind_of q.kind) (mean (asked q (spread h c d))) → Answers q a
    answered known time inside a e = go known (go sound (go served (placed_answer time inside a e)))
