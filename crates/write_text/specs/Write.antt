-- What writing answers, and what it leaves in the lent output.
use Rattle.std.specs.Prelude.{List, [], ◌∷◌, ◌++◌, ℕ, length, drop, Result, Ok, Err}
use Rattle.std.proofs.Math.Decide.{dec_le}
use Rattle.kit.specs.Answer.{pick}
use Rattle.mapset.specs.declared.Header.{Header}
use Rattle.mapset.specs.Described.{FullTexts}
use Rattle.mapset.specs.Areas.{Areas}
use Rattle.valid.specs.Validity.{validity}
use Rattle.canonical.specs.CanonOf.{canon_of}
use Rattle.write_text.specs.declared.Unwritten.{Unwritten}
use Rattle.write_text.specs.declared.Unwritten.TheVariants.{Short, Unsound}

-- so many bytes written; or 01's number, with what comes back
pub data ToldWriting : Type 0 where
  done : (bytes : ℕ) → ToldWriting
  refused : (number : ℕ) (back : List ℕ) → ToldWriting

abbrev pub told : Result ℕ Unwritten → ToldWriting
told (Ok n) = done n
told (Err (Short n)) = refused 30 (n ∷ [])
told (Err Unsound) = refused 31 []

-- a text x for an output o: in front, with what stood behind it; or, where it is too long, the output as it was
abbrev pub fitted : (x o : List ℕ) → ToldWriting × List ℕ
fitted x o = pick (dec_le (length x) (length o)) (done (length x), x ++ drop (length x) o) (refused 30 (length x ∷ []), o)

-- 31 before 30
unfoldable pub written : Header → FullTexts → Areas → List ℕ → ToldWriting × List ℕ
written h t a o = pick (validity h t a) (fitted (canon_of h t a) o) (refused 31 [], o)
