-- Adding to a week as it crosses to other languages: a number, the week, the area for the rows, and an area of the call's own for the need.
use Rattle.std.specs.Prelude.{Result, Ok, Err, List, [], ◌∷◌, ℕ, ℤ, length}
use Rattle.kit.specs.Lists.{front}
use Rattle.mapset.specs.Areas.{Areas}
use Rattle.c_given.specs.Given.{header_of, texts_of}
use Rattle.c_answers.specs.Own.{unless, too_short_two}
use Rattle.week.specs.Week.{Given, given_as}
use Rattle.week.specs.Sane.{Outcome, outcome}
use Rattle.week.specs.declared.Week.{Week}
use Rattle.week.specs.declared.Why.{Why}
use Rattle.week.specs.declared.Why.TheVariants as Y
use Rattle.c_week.specs.WeekNumbers.{week_numbers, week_at}

abbrev pub why_number : Why → ℕ
why_number Y.Full = 60
why_number Y.Invalid = 31
why_number (Y.Short n) = 11

-- area 1 is the one for the rows
abbrev pub why_place : Why → List ℕ
why_place Y.Full = []
why_place Y.Invalid = []
why_place (Y.Short n) = 1 ∷ n ∷ []

-- 0 for a set that is added, or the number of the refusal
abbrev pub told_number : Result Week Why → ℕ
told_number (Ok w) = 0
told_number (Err y) = why_number y

abbrev pub told_week : Result Week Why → List ℤ
told_week (Ok w) = week_numbers w
told_week (Err y) = []

abbrev pub told_place : Result Week Why → List ℕ
told_place (Ok w) = []
told_place (Err y) = why_place y

-- of the lengths of header, texts, week and place: 101, 102, or 103 for the week or the place
unfoldable pub week_short : ℕ → ℕ → ℕ → ℕ → ℕ
week_short h x w p = too_short_two h x w 16 p 2

-- the number answered, and what is then in the areas
pub record Crossed : Type 0 where
  pub number : ℕ
  pub week : List ℤ
  pub rows : List ℤ
  pub place : List ℕ

abbrev pub crossed : ℕ → List ℤ → List ℤ → List ℕ → Crossed
crossed k w r p = record { number = k; week = w; rows = r; place = p }

unfoldable pub crosses : Outcome → List ℤ → List ℕ → Crossed
crosses o w p = crossed (told_number o.answer) (front (told_week o.answer) w) o.rows (front (told_place o.answer) p)

-- the set, by the caller's numbers and bytes
abbrev pub set_of : List ℤ → List ℕ → Areas → List ℤ → Given
set_of h x a r = given_as (header_of h) (texts_of x) a r

unfoldable pub week_crossed : List ℤ → List ℤ → List ℕ → Areas → List ℤ → List ℕ → Crossed
week_crossed w h x a r p =
    unless (week_short (length h) (length x) (length w) (length p)) (crosses (outcome (week_at w) (set_of h x a r)) w p) (λ k. crossed k w r p)
