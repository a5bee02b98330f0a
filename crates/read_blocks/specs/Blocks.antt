-- The values of a data block, from a line's start on, and what the code says of them.
use Rattle.std.specs.Prelude.{◌≡◌, ℕ, zero, suc, ◌-◌, ◌≤◌, List, [], ◌++◌, length, drop, ℤ, Result, Ok, Err}
use Rattle.kit.specs.Answer.{Answer, ok, refused, bind, amap}
use Rattle.reading.specs.declared.Why.{Why}
use Rattle.reading.specs.Feed.{on_line, split, Feed, over, bad, row, feed}
use Rattle.reading.specs.Fields.{cells}
use Rattle.reading.specs.Maps.{short, on_row}
use Rattle.read_blocks.specs.declared.Block.{Block}

-- c values, and what follows them. `BlockLaws` has that the reading takes a block's values so
unfoldable pub values : Feed → ℕ → Answer Why (List ℤ × Feed)
values (over n) zero = ok ([], over n)
values (over n) (suc c) = short n
values (bad w) zero = ok ([], bad w)
values (bad w) (suc c) = refused w
values (row n r f) zero = ok ([], row n r f)
values (row n r f) (suc c) =
    bind (on_line n (cells 1 (on_row (suc c)) r)) (λ zs. amap (λ x. (zs ++ x.0, x.1)) (values f (suc c - 16)))

-- the block's values are there, and the reading goes on at `next`, where m lines are passed
pub record Done (t : List ℕ) (from n c next m : ℕ) : Type 0 where
  pub ahead : from ≤ next
  pub within : next ≤ length t
  pub small : m ≤ next
  pub have : List ℤ
  pub on : values (feed (suc n) (split (drop from t))) c ≡ ok (have, feed (suc m) (split (drop next t)))

-- from the line that starts at `from`, where n lines are passed
abbrev pub Judged : List ℕ → (from n c : ℕ) → Result Block Why → Type 0
Judged t from n c (Ok b) = Done t from n c b.next b.lines
Judged t from n c (Err w) = values (feed (suc n) (split (drop from t))) c ≡ refused w

-- ---- the second time over

-- the area holds the block's values, and the reading goes on at `next`
pub record Filled (t : List ℕ) (from n c next : ℕ) (out : List ℤ) : Type 0 where
  pub within : next ≤ length t
  pub lines : ℕ
  pub small : lines ≤ next
  pub on : values (feed (suc n) (split (drop from t))) c ≡ ok (out, feed (suc lines) (split (drop next t)))
