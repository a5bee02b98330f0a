use Rattle.std.specs.Prelude.{Option, Some, None}
-- Numbers that are written: a node, a date.
use mathlib.Core.Path.{◌≡◌, sym}
use Prim.Native.Nat.{ℕ, ◌-◌, ◌<◌, ◌^◌}
use native.Mathlib.Decide.{dec_lt}
use native.Mathlib.Omega.{arith}
use lib.IntN.{ℤ, pos, negsuc}
use mir.Syntax.{w32}
use mir.Val.{SFits}
use Rattle.kit.proofs.AnswerLaws.{pick_no}
use Rattle.kit.proofs.Parts.{parts_le}
use Rattle.days.specs.Years.{row}
use Rattle.calendar.specs.Calendar.{DateAt, The, told_found, date_at}
use Rattle.calendar.specs.End.{end}
use Rattle.calendar.proofs.DateLaws.{date_once, dated_below}
use Rattle.days.proofs.YearLaws.{month_le}
use Rattle.calendar.specs.declared.Epoch.{Epoch}
use Rattle.canonical.specs.Canon.{no_date, date_of, Wide}
use Rattle.canonical.proofs.HeadRows.{date_is}

-- ---- a node

pub wide_fits : (z : ℤ) → Wide z → SFits w32 z
wide_fits (pos n) w = record { sfits = omega (arith, parts_le (pos n) (pos 99999) w.to) }
wide_fits (negsuc n) w = record { sfits = omega (arith, parts_le (negsuc 8999) (negsuc n) w.from) }

-- ---- a date

date_past : (t : ℕ) → ¬ (t < end) → no_date ≡ date_of t
unfolding date_of
date_past t n = sym (pick_no (dec_lt t end) (date_at t) no_date n)

module _ (t : ℕ) (f : Option Epoch) (a : The (λ e. DateAt e t) (told_found f)) where
  pub date_found : (e : Epoch) → f ≡ Some e → e ≡ date_of t
  date_found e q =
      let d : DateAt e t = rw q at a in
      date_once t e (date_of t) d (date_is t (dated_below _ _ _ _ _ _ t d))

  pub date_refused : f ≡ None → no_date ≡ date_of t
  date_refused q = let r = rw q at a in date_past t (λ h. r.1 (date_of t) (date_is t h))

-- each of its numbers is small
pub record Small (e : Epoch) : Type 0 where
  pub year : e.year < 2 ^ 31
  pub month : e.month < 2 ^ 31
  pub day : e.day < 2 ^ 31
  pub hour : e.hour < 2 ^ 31
  pub minute : e.minute < 2 ^ 31
  pub second : e.second < 2 ^ 31

real_small : (e : Epoch) (t : ℕ) → DateAt e t → Small e
real_small e t d =
    let r = d.real in
    record {
      year = omega (arith, r.0);
      month = omega (arith, r.1.0);
      day = omega (arith, r.1.1.0, month_le (row e.year) (e.month - 1));
      hour = omega (arith, r.1.1.1.0);
      minute = omega (arith, r.1.1.1.1.0);
      second = omega (arith, r.1.1.1.1.1.0);
    }

pub date_small : (t : ℕ) → Small (date_of t)
date_small t = by (dec_lt t end)
  where
    by : Dec (t < end) → Small (date_of t)
    by (yes h) = real_small (date_of t) t (date_is t h)
    by (no n) = rw (← date_past t n) (record { year = omega arith; month = omega arith; day = omega arith; hour = omega arith; minute = omega arith; second = omega arith })
