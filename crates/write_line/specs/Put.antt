-- The lines of rows, put into a lent output at a position. A line that does not fit is not written, but the position moves on all the same:
-- so the same code measures a text (in an output of length 0) and writes it.
-- the position after the lines of rs can be counted
use Rattle.std.specs.Prelude.{◌≡◌, List, ◌++◌, ℕ, ◌+◌, ◌≤◌, ◌<◌, ◌^◌, length, take, drop}
use Rattle.canonical.specs.Canon.{lines_of}

pub record LineRoom (at : ℕ) (rs : List (List ℕ)) : Type 0 where
  pub fits : at + length (lines_of rs) < 2 ^ 62

-- the lines of rs are put at `at` into o, which becomes o'; r is the position after them
pub record Put (o : List ℕ) (at : ℕ) (rs : List (List ℕ)) (o' : List ℕ) (r : ℕ) : Type 0 where
  pub moved : r ≡ at + length (lines_of rs)
  pub size : length o' ≡ length o
  pub text : r ≤ length o → o' ≡ take at o ++ (lines_of rs ++ drop r o)

-- putting ys from here on is putting xs from the start on
pub record PutsOn (o₀ : List ℕ) (at₀ : ℕ) (xs : List (List ℕ)) (o : List ℕ) (at : ℕ) (ys : List (List ℕ)) : Type 0 where
  pub room : LineRoom at₀ xs → LineRoom at ys
  pub size : length o ≡ length o₀
  pub rest : (o' : List ℕ) (r : ℕ) → Put o at ys o' r → Put o₀ at₀ xs o' r
