-- The calendar from 1900 to 2199.
use Rattle.std.specs.Prelude.{◌≡◌, List, [], ◌∷◌, ℕ, zero, suc, ◌+◌, ◌*◌, ◌-◌, ◌/◌, ◌%◌, ℤ, pos, nat_abs, ◌+ℤ◌, Option, Some, None, Result, Ok, Err}
use Rattle.std.proofs.Math.Decide.{dec_le}
use Rattle.kit.specs.Range.{Natural, natural?}
use Rattle.kit.specs.Answer.{Answer, ok, refused, All, pick}
use Rattle.days.specs.Sums.{sum}
use Rattle.days.specs.Years.{row, month_days, year_days}
use Rattle.calendar.specs.declared.Epoch.{Epoch}
use Rattle.calendar.specs.declared.Field.{Field}
use Rattle.calendar.specs.declared.Field.TheVariants as F

-- ---- a real date: each of its six numbers lies in its range
pub record Number : Type 0 where
  pub field : Field
  pub low : ℕ
  pub high : ℕ
  pub value : ℤ

abbrev pub ranged : Field → ℕ → ℕ → ℤ → Number
ranged f low high x = record { field = f; low = low; high = high; value = x }

-- the six ranges; a day's is its month's
abbrev pub numbers : ℤ → ℤ → ℤ → ℤ → ℤ → ℤ → List Number
numbers y m d h i s =
    ranged F.Year 1900 2199 y
    ∷ ranged F.Month 1 12 m
    ∷ ranged F.Day 1 (month_days (row (nat_abs y)) (nat_abs m - 1)) d
    ∷ ranged F.Hour 0 23 h
    ∷ ranged F.Minute 0 59 i
    ∷ ranged F.Second 0 59 s
    ∷ []

-- a negative number lies in no range
abbrev pub Within : Number → Type 0
Within n = Natural n.low n.high n.value

-- ---- its second, from 1900-01-01 00:00:00
-- the days of the years before, of the months before, and of the month
abbrev pub days_to : ℕ → ℕ → ℕ → ℕ
days_to y m d = sum year_days (y - 1900) + (sum (month_days (row y)) (m - 1) + (d - 1))

unfoldable pub second : ℤ → ℤ → ℤ → ℤ → ℤ → ℤ → ℕ
second y m d h i s = days_to (nat_abs y) (nat_abs m) (nat_abs d) * 86400 + (nat_abs h * 3600 + (nat_abs i * 60 + nat_abs s))

-- the six numbers are those of a real date, and its second is t
pub record Dated (y m d h i s : ℤ) (t : ℕ) : Type 0 where
  pub real : All Within (numbers y m d h i s)
  pub at : second y m d h i s ≡ t

-- ---- the first wrong field
abbrev pub within : (n : Number) → Dec (Within n)
within n = natural? n.low n.high n.value

-- x, or what f makes of the first field outside its range
abbrev pub first : {X : Type 0} → (Field → X) → X → List Number → X
first f x [] = x
first f x (n ∷ ns) = pick (within n) (first f x ns) (f n.field)

-- the first column of a field in a record
abbrev pub column_of : Field → ℕ
column_of F.Year = 1
column_of F.Month = 7
column_of F.Day = 13
column_of F.Hour = 19
column_of F.Minute = 25
column_of F.Second = 31

-- ---- epochs
abbrev pub numbers_of : Epoch → List Number
numbers_of e = numbers (pos e.year) (pos e.month) (pos e.day) (pos e.hour) (pos e.minute) (pos e.second)

-- e is the date of second t
abbrev pub DateAt : Epoch → ℕ → Type 0
DateAt e t = Dated (pos e.year) (pos e.month) (pos e.day) (pos e.hour) (pos e.minute) (pos e.second) t

-- f is the date that comes `by` seconds after the date e
pub record Later (e : Epoch) (by : ℤ) (f : Epoch) : Type 0 where
  pub from : ℕ
  pub to : ℕ
  pub starts : DateAt e from
  pub ends : DateAt f to
  pub later : pos to ≡ pos from +ℤ by

-- ---- the date of a second

-- of the first n spans of days, how many are past on day d
unfoldable pub past : (ℕ → ℕ) → ℕ → ℕ → ℕ
past f zero d = 0
past f (suc n) d = pick (dec_le (sum f n) d) n (past f n d)

-- k whole years and m whole months before it, and d days of the month
abbrev pub from_days : ℕ → ℕ → ℕ → ℕ → Epoch
from_days t k m d = record { year = 1900 + k; month = m + 1; day = d + 1; hour = t % 86400 / 3600; minute = t % 86400 % 3600 / 60; second = t % 86400 % 60 }

abbrev pub years_past : ℕ → ℕ
years_past t = past year_days 300 (t / 86400)

abbrev pub days_in_year : ℕ → ℕ
days_in_year t = t / 86400 - sum year_days (years_past t)

abbrev pub months_past : ℕ → ℕ
months_past t = past (month_days (row (1900 + years_past t))) 12 (days_in_year t)

unfoldable pub date_at : ℕ → Epoch
date_at t = from_days t (years_past t) (months_past t) (days_in_year t - sum (month_days (row (1900 + years_past t))) (months_past t))

-- ---- what comes back: what was asked for, or document 01's number, alone or with a column
pub data Refusal : Type 0 where
  alone : ℕ → Refusal
  in_column : ℕ → ℕ → Refusal

-- a field outside its range is 7 in its column
abbrev pub wrong : {A : Type 0} → Field → Answer Refusal A
wrong f = refused (in_column 7 (column_of f))

-- an epoch: whether it is a real date
unfoldable pub checked : Epoch → Answer Refusal (Unit {0})
checked e = first wrong (ok tt) (numbers_of e)

-- the six numbers of a record: the second of a real date
unfoldable pub recorded : ℤ → ℤ → ℤ → ℤ → ℤ → ℤ → Answer Refusal ℕ
recorded y m d h i s = first wrong (ok (second y m d h i s)) (numbers y m d h i s)

-- the same in the code's own answer
abbrev pub wrong_at : Field → Result ℕ ℕ
wrong_at f = Err (column_of f)

unfoldable pub dated : ℤ → ℤ → ℤ → ℤ → ℤ → ℤ → Result ℕ ℕ
dated y m d h i s = first wrong_at (Ok (second y m d h i s)) (numbers y m d h i s)

-- the one that P holds of; 7 with no place where P holds of none
abbrev pub The : {A : Type 0} → (A → Type 0) → Answer Refusal A → Type 0
The P (ok a) = P a
The P (refused w) = (w ≡ alone 7) × ((a : _) → ¬ P a)

-- ---- the answers as they are told
abbrev pub told_checked : Option Field → Answer Refusal (Unit {0})
told_checked None = ok tt
told_checked (Some f) = refused (in_column 7 (column_of f))

abbrev pub told_taken : Result ℕ ℕ → Answer Refusal ℕ
told_taken (Ok t) = ok t
told_taken (Err c) = refused (in_column 7 c)

abbrev pub told_when : Option ℕ → Answer Refusal ℕ
told_when (Some t) = ok t
told_when None = refused (alone 7)

abbrev pub told_found : Option Epoch → Answer Refusal Epoch
told_found (Some e) = ok e
told_found None = refused (alone 7)
