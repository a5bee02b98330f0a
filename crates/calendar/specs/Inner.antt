-- What the private functions promise.
use Rattle.std.specs.Prelude.{◌≡◌, ℕ, ◌<◌, ℤ, pos, negsuc, ◌+ℤ◌, Result, Ok, Err}
use Rattle.kit.specs.Answer.{Answer, ok, refused, All}
use Rattle.calendar.specs.Calendar.{Within, numbers_of, second, dated, Refusal, alone, in_column}
use Rattle.calendar.specs.End.{end}
use Rattle.calendar.specs.declared.Epoch.{Epoch}

abbrev pub IsDate : Epoch → Type 0
IsDate e = All Within (numbers_of e)

abbrev pub second_of : Epoch → ℕ
second_of e = second (pos e.year) (pos e.month) (pos e.day) (pos e.hour) (pos e.minute) (pos e.second)

abbrev pub dated_of : Epoch → Result ℕ ℕ
dated_of e = dated (pos e.year) (pos e.month) (pos e.day) (pos e.hour) (pos e.minute) (pos e.second)

-- what a record says, from its second and its first wrong field
abbrev pub taken_as : ℕ → Answer Refusal (Unit {0}) → Result ℕ ℕ
taken_as t (ok u) = Ok t
taken_as t (refused (in_column n c)) = Err c
taken_as t (refused (alone n)) = Err 0

-- t is a second of the years 1900 to 2199, `by` seconds after s
abbrev pub Moment : ℕ → ℤ → ℕ → Type 0
Moment s by t = (t < end) × (pos t ≡ pos s +ℤ by)

-- a negative number becomes one that no range holds
abbrev pub clip : ℤ → ℕ
clip (pos n) = n
clip (negsuc n) = 4294967295
