-- What the search of a map asks of the epochs, and what it answers.
use Rattle.std.specs.Prelude.{◌≡◌, ◌⊎◌, List, ℕ, ◌+◌, ◌≤◌, ◌<◌, length}
use Rattle.ask_spans.specs.Time.{epoch}

-- each epoch is later than the one before, by at most 21,600 s
pub record Regular (es : List ℕ) : Type 0 where
  pub rises : (i : ℕ) → i + 1 < length es → epoch es i < epoch es (i + 1)
  pub near : (i : ℕ) → i + 1 < length es → epoch es (i + 1) ≤ epoch es i + 21600

-- the last map whose epoch is not after t
pub record Before (es : List ℕ) (t i : ℕ) : Type 0 where
  pub map : i < length es
  pub past : epoch es i ≤ t
  pub next : (i + 1 ≡ length es) ⊎ (t < epoch es (i + 1))

-- t is from the first epoch to the last
pub record Spanned (es : List ℕ) (t : ℕ) : Type 0 where
  pub some : 1 ≤ length es
  pub from : epoch es 0 ≤ t
  pub to : (i : ℕ) → i + 1 ≡ length es → t ≤ epoch es i
