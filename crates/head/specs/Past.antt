-- The next row that is no remark: neither a COMMENT nor a row of an aux block that stays open.
use Rattle.std.specs.Prelude.{◌≡◌, Bool, true, false, List, ℕ, suc, ◌≤◌, length, drop, ℤ}
use Rattle.kit.specs.Answer.{ok}
use Rattle.mapset.specs.declared.Version.{Version}
use Rattle.layout.specs.Layout.{Slots, Lines, mode}
use Rattle.reading.specs.Feed.{split, feed}
use Rattle.reading.specs.Head.{more, head_step, heading}
use Rattle.read_lines.specs.Leads.{Leads}
use Rattle.read_lines.specs.declared.NextRow.{NextRow}

-- the row leaves everything as it is, if the test says so
abbrev pub Leaves : Bool → Bool → List ℕ → Type 0
Leaves true a r = (c : Version) (e : ℤ) (got : Slots) (ds : Lines) → head_step c (mode a) e got ds r ≡ ok (more (mode a) e got ds)
Leaves false a r = Unit {0}

-- whatever was got, the header is read from `at` after n lines as from `from`
pub record Past (t : List ℕ) (a : Bool) (from passed at n : ℕ) : Type 0 where
  pub after : from ≤ at
  pub within : at ≤ length t
  pub few : n ≤ at
  pub same : (c : Version) (e : ℤ) (got : Slots) (ds : Lines)
      → heading c (mode a) e got ds (feed (suc passed) (split (drop from t))) ≡ heading c (mode a) e got ds (feed (suc n) (split (drop at t)))

-- r is what comes there
pub record Comes (t : List ℕ) (a : Bool) (from passed : ℕ) (r : NextRow) : Type 0 where
  pub at : ℕ
  pub n : ℕ
  pub past : Past t a from passed at n
  pub leads : Leads t at n r
