-- Laws of dates: each second from 0 to the last of 2199 is exactly one date's.
use mathlib.Core.Path.{◌≡◌, refl, sym, ap, ◌∙◌}
use Prim.Native.Nat.{ℕ, zero, suc, ◌+◌, ◌*◌, ◌-◌, ◌/◌, ◌≤◌, ◌<◌}
use native.Mathlib.Omega.{arith}
use native.Mathlib.Nat.{lt_of_not-le}
use native.Mathlib.Decide.{dec_le}
use lib.IntN.{ℤ, pos, negsuc, nat_abs}
use Rattle.kit.proofs.AnswerLaws.{pick_elim}
use Rattle.kit.specs.Range.{Natural}
use Rattle.days.specs.Sums.{sum, Place}
use Rattle.days.proofs.SumLaws.{place_once, place_below}
use Rattle.days.proofs.YearLaws.{all_years}
use Rattle.days.specs.Years.{row, month_days, year_days}
use Rattle.calendar.specs.Calendar.{days_to, second, Dated, DateAt, past, from_days, years_past, days_in_year, months_past, date_at}
use Rattle.calendar.specs.End.{end}
use Rattle.calendar.specs.Inner.{IsDate, second_of}
use Rattle.calendar.specs.declared.Epoch.{Epoch}

-- ---- a date's days and clock
module _ (e : Epoch) (d : IsDate e) where
  abbrev day_in : ℕ
  day_in = sum (month_days (row e.year)) (e.month - 1) + (e.day - 1)

  abbrev day_of : ℕ
  day_of = days_to e.year e.month e.day

  abbrev clock : ℕ
  clock = e.hour * 3600 + (e.minute * 60 + e.second)

  in_year : Place (month_days (row e.year)) day_in (e.month - 1) (e.day - 1)
  in_year = record { at = refl; less = omega (arith, d.1.1.0) }

  back : 1900 + (e.year - 1900) ≡ e.year
  back = omega (arith, d.0)

  on_years : Place year_days day_of (e.year - 1900) day_in
  unfolding year_days
  on_years = record { at = refl; less = rw back (place_below (month_days (row e.year)) day_in (e.month - 1) (e.day - 1) 12 in_year (omega (arith, d.1.0))) }

  clock_less : clock < 86400
  clock_less = omega (arith, d.1.1.1)

  pub below_end : second_of e < end
  unfolding second
  below_end = omega (arith, place_below year_days day_of (e.year - 1900) day_in 300 on_years (omega (arith, d.0)), all_years, clock_less)

-- ---- two dates with one second are one
module _ (e f : Epoch) (d : IsDate e) (g : IsDate f) (q : second_of e ≡ second_of f) where
  same_day : day_of e d ≡ day_of f g
  unfolding second
  same_day = omega (arith, q, clock_less e d, clock_less f g)

  same_clock : clock e d ≡ clock f g
  unfolding second
  same_clock = omega (arith, q, same_day)

  same_hour : e.hour ≡ f.hour
  same_hour = omega (arith, same_clock, d.1.1.1, g.1.1.1)

  same_minute : e.minute ≡ f.minute
  same_minute = omega (arith, same_clock, same_hour, d.1.1.1, g.1.1.1)

  same_year : (e.year - 1900 ≡ f.year - 1900) × (day_in e d ≡ day_in f g)
  same_year = place_once year_days (day_of f g) (e.year - 1900) (f.year - 1900) (day_in e d) (day_in f g) (rw same_day at (on_years e d)) (on_years f g)

  year_is : e.year ≡ f.year
  year_is = omega (arith, same_year.0, d.0, g.0)

  same_month : (e.month - 1 ≡ f.month - 1) × (e.day - 1 ≡ f.day - 1)
  same_month =
      let p : Place (month_days (row f.year)) (day_in f g) (e.month - 1) (e.day - 1) = record { at = sym same_year.1 ∙ ap (λ (y : ℕ). sum (month_days (row y)) (e.month - 1) + (e.day - 1)) year_is; less = rw year_is at (in_year e d).less } in
      place_once (month_days (row f.year)) (day_in f g) (e.month - 1) (f.month - 1) (e.day - 1) (f.day - 1) p (in_year f g)

  one_date : e ≡ f
  one_date =
      let m : e.month ≡ f.month = omega (arith, same_month.0, d.1.0, g.1.0) in
      let k : e.day ≡ f.day = omega (arith, same_month.1, d.1.1.0, g.1.1.0) in
      let s : e.second ≡ f.second = omega (arith, same_clock, same_hour, same_minute) in
      λ j. record { year = year_is j; month = m j; day = k j; hour = same_hour j; minute = same_minute j; second = s j }

pub date_once : (t : ℕ) (e f : Epoch) → DateAt e t → DateAt f t → e ≡ f
date_once t e f a b = one_date e f a.real b.real (a.at ∙ sym b.at)

-- ---- a record's numbers are those of an epoch
whole : (low high : ℕ) (x : ℤ) → Natural low high x → (low ≤ nat_abs x) × (nat_abs x ≤ high)
whole low high (pos n) w = w
whole low high (negsuc n) w = absurd w

pub dated_below : (y m d h i s : ℤ) (t : ℕ) → Dated y m d h i s t → t < end
unfolding second
dated_below y m d h i s t a =
    let r = a.real in
    let e : Epoch = record { year = nat_abs y; month = nat_abs m; day = nat_abs d; hour = nat_abs h; minute = nat_abs i; second = nat_abs s } in
    let real : IsDate e = (whole _ _ y r.0, (whole _ _ m r.1.0, (whole _ _ d r.1.1.0, (whole _ _ h r.1.1.1.0, (whole _ _ i r.1.1.1.1.0, (whole _ _ s r.1.1.1.1.1.0, tt)))))) in
    omega (arith, below_end e real, a.at)

-- ---- the date of a second, from the places of its day

pub date_made : (t k r m d : ℕ) → k < 300 → Place year_days (t / 86400) k r → m < 12 → Place (month_days (row (1900 + k))) r m d → DateAt (from_days t k m d) t
unfolding second
date_made t k r m d h p i q =
    let a : 1900 + k - 1900 ≡ k = omega arith in
    let b : m + 1 - 1 ≡ m = omega arith in
    let c : d + 1 - 1 ≡ d = omega arith in
    record {
      real = (omega arith, (omega arith, ((omega arith, rw b (omega (arith, q.less))), (omega arith, (omega arith, (omega arith, tt))))));
      at = rw (a, b, c) (omega (arith, p.at, q.at));
    }

pub in_months : (k r : ℕ) → r < year_days k → r < sum (month_days (row (1900 + k))) 12
unfolding year_days
in_months k r h = h

-- where a day stands among spans
past_place : (f : ℕ → ℕ) (n d : ℕ) → d < sum f n → (past f n d < n) × Place f d (past f n d) (d - sum f (past f n d))
unfolding sum past
past_place f zero d h = absurd (omega arith)
past_place f (suc n) d h =
    pick_elim (λ (k : ℕ). (k < suc n) × Place f d k (d - sum f k)) (dec_le (sum f n) d)
    (λ p. (omega arith, record { at = omega (arith, p); less = omega (arith, h, p) }))
    (λ p. let i = past_place f n d (lt_of_not-le p) in (omega (arith, i.0), i.1))

pub date_is : (t : ℕ) → t < end → DateAt (date_at t) t
unfolding date_at
date_is t h =
    let y = past_place year_days 300 (t / 86400) (omega (arith, h, all_years)) in
    let k = years_past t in
    let m = past_place (month_days (row (1900 + k))) 12 (days_in_year t) (in_months k (days_in_year t) y.1.less) in
    date_made t k (days_in_year t) (months_past t) (days_in_year t - sum (month_days (row (1900 + k))) (months_past t)) y.0 y.1 m.0 m.1

pub exactly_one : (t : ℕ) → t < end → (e : Epoch) × DateAt e t × ((f : Epoch) → DateAt f t → f ≡ e)
exactly_one t h = (date_at t, date_is t h, λ f g. date_once t f (date_at t) g (date_is t h))
