-- A week as 16 numbers: how many sets, then a row of five numbers for each kind. And the week that a caller's numbers stand for: what no week
-- has, stands for a week that breaks a condition.
use Rattle.std.specs.Prelude.{Option, None, cond, List, ◌∷◌, ◌++◌, ℕ, zero, suc, ◌+◌, ℤ, pos, negsuc}
use Rattle.std.specs.Int.Signed.{lt_z}
use Rattle.kit.specs.Answer.{pick, ×_dec}
use Rattle.kit.specs.Integer.{between?}
use Rattle.c_given.specs.Given.{bounded, nth}
use Rattle.week_tally.specs.Rows.{row}
use Rattle.week_tally.specs.declared.Tally.{Tally}
use Rattle.week_tally.specs.declared.Range.{Range}
use Rattle.week_tally.specs.Figures.{from}
use Rattle.week.specs.Week.{tecu, km}
use Rattle.week.specs.declared.Week.{Week}

abbrev pub week_numbers : Week → List ℤ
week_numbers w = pos w.sets ∷ (row w.tec.0 ++ (row w.rms.0 ++ row w.height.0))

-- 0 and 0 where no node has a value, else two numbers of 32 bits; others are a range that does not fit the count
unfoldable pub range_of : (given : ℕ) → (smallest largest : ℤ) → Option Range
range_of zero a b = pick (×_dec (between? (pos 0) (pos 0) a) (between? (pos 0) (pos 0) b)) None (from (pos 0) (pos 0))
range_of (suc n) a b =
    pick (×_dec (between? (negsuc 2147483647) (pos 2147483647) a) (between? (negsuc 2147483647) (pos 2147483647) b)) (from a b) None

-- a negative count is the largest there is
abbrev pub count_of : ℤ → ℕ
count_of z = bounded 18446744073709551615 z

abbrev pub tally_at : List ℤ → ℕ → Tally
tally_at l i =
    record {
      given = count_of (nth l i);
      lacking = count_of (nth l (i + 1));
      range = range_of (count_of (nth l i)) (nth l (i + 2)) (nth l (i + 3));
      sum = nth l (i + 4);
    }

-- no sets brought a node
abbrev pub broken : Week
broken =
    let t : Tally = record { given = 0; lacking = 1; range = None; sum = pos 0 } in
    record { sets = 0; tec = tecu t; rms = tecu t; height = km t }

abbrev pub plain_week : List ℤ → Week
plain_week l = record { sets = count_of (nth l 0); tec = tecu (tally_at l 1); rms = tecu (tally_at l 6); height = km (tally_at l 11) }

-- a negative number of sets is no week's
unfoldable pub week_at : List ℤ → Week
week_at l = cond (lt_z (nth l 0) (pos 0)) broken (plain_week l)
