-- What a row holds, by what its record says: 0 where it is refused.
use mathlib.Core.Path.{◌≡◌, refl, sym, ap, ◌∙◌}
use mathlib.Core.List.{List}
use Prim.Native.Nat.{ℕ}
use native.Mathlib.Omega.{arith}
use lib.IntN.{ℤ, pos}
use Rattle.std.specs.Prelude.{Result, Ok, Err}
use Rattle.std.specs.Result.{result_unwrap_or}
use Rattle.kit.specs.Answer.{Answer, ok, refused, bind}
use Rattle.kit.proofs.AnswerLaws.{pick_no}
use Rattle.kit.specs.Range.{natural?}
use Rattle.calendar.specs.Calendar.{dated}
use Rattle.layout.specs.Labels.{exponent, epoch}
use Rattle.layout.specs.Layout.{Date}
use Rattle.reading.specs.declared.Fault.{Fault}
use Rattle.reading.specs.Feed.{answer_of}
use Rattle.reading.specs.Fields.{fields}
use Rattle.maps_records.specs.Records.{told_one}
use Rattle.reading.specs.Maps.{date, on_date}
use Rattle.areas.specs.Scan.{or_else, exponent_in, second_of, epoch_in}

pub whole_is : (r : List ℕ) (x : Result ℤ Fault) → told_one x ≡ fields exponent r → result_unwrap_or x (pos 0) ≡ exponent_in r
unfolding or_else
whole_is r (Ok z) e = ap (λ (y : Answer Fault (ℤ × Unit {0})). (or_else y (pos 0, tt)).0) e
whole_is r (Err w) e = ap (λ (y : Answer Fault (ℤ × Unit {0})). (or_else y (pos 0, tt)).0) e

-- ---- a date

abbrev zeros : Date
zeros = (pos 0, (pos 0, (pos 0, (pos 0, (pos 0, (pos 0, tt))))))

-- no date
no_year : second_of (date zeros) ≡ 0
unfolding dated second_of
no_year = ap second_of (pick_no (natural? 1900 2199 (pos 0)) _ _ (λ w. omega arith))

second_is : (t : Result ℕ ℕ) → or_else (on_date {A = ℕ} t ok) 0 ≡ second_of t
unfolding or_else on_date second_of
second_is (Ok t) = refl
second_is (Err c) = refl

date_by : (x : Answer Fault Date) → or_else (bind x (λ d. on_date (date d) ok)) 0 ≡ second_of (date (or_else x zeros))
unfolding bind or_else
date_by (ok d) = second_is (date d)
date_by (refused w) = sym no_year

pub date_is : (r : List ℕ) (x : Result ℕ Fault) → answer_of x ≡ bind (fields epoch r) (λ d. on_date (date d) ok) → result_unwrap_or x 0 ≡ epoch_in r
unfolding or_else
date_is r (Ok t) e = ap (λ (y : Answer Fault ℕ). or_else y 0) e ∙ date_by (fields epoch r)
date_is r (Err w) e = ap (λ (y : Answer Fault ℕ). or_else y 0) e ∙ date_by (fields epoch r)
