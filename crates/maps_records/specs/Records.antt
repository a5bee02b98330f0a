-- What records hold, as the code has it.
use Rattle.std.specs.Prelude.{List, ℕ, ℤ, Option, Result, Ok, Err}
use Rattle.kit.specs.Answer.{Answer, ok, refused, amap}
use Rattle.forms.specs.Form.{F1}
use Rattle.forms.specs.Read.{read_field}
use Rattle.forms.specs.Columns.{columns}
use Rattle.forms.specs.Rows.{three_at}
use Rattle.layout.specs.Records.{Vals}
use Rattle.layout.specs.Labels.{block, layout}
use Rattle.reading.specs.declared.Fault.{Fault}
use Rattle.reading.specs.Feed.{fault}
use Rattle.maps_records.specs.declared.Opening.{Opening}
use Rattle.reading.specs.Fields.{number, unless, blank_to}

-- what the code answers
abbrev pub told_one : Result ℤ Fault → Answer Fault (ℤ × Unit {0})
told_one (Ok z) = ok (z, tt)
told_one (Err f) = refused f

abbrev pub told_opening : Result Opening Fault → Answer Fault (Vals (layout block))
told_opening (Ok o) = ok (o.latitude, (o.first, (o.last, (o.step, (o.height, tt)))))
told_opening (Err f) = refused f

-- one number, and what must be blank behind it
abbrev pub one_of : Option ℤ → Option ℕ → Answer Fault (ℤ × Unit {0})
one_of z f = number z 1 (λ x. amap (λ vs. (x, vs)) (unless f (ok tt)))

-- five numbers, three and then two, and what must be blank behind them
abbrev pub numbers_of : Result (ℤ × ℤ × ℤ) ℕ → Option ℤ → Option ℤ → Option ℕ → Answer Fault (Vals (layout block))
numbers_of (Err c) d e f = refused (fault 6 c)
numbers_of (Ok (x, y, z)) d e f = number d 21 (λ u. number e 27 (λ v. unless f (ok (x, (y, (z, (u, (v, tt))))))))

-- those of a line, from its third column on: five fields of six columns in tenths, and 28 that must be blank
abbrev pub opening_numbers : List ℕ → Answer Fault (Vals (layout block))
opening_numbers line = numbers_of (three_at F1 line 2) (read_field F1 (columns line 20 6)) (read_field F1 (columns line 26 6)) (blank_to line 32 60)
