-- Writing as it crosses to other languages: a number, the output, and an area of the call's own for the count of bytes.
use Rattle.std.specs.Prelude.{List, [], ◌∷◌, ℕ, ℤ, length}
use Rattle.mapset.specs.Areas.{Areas}
use Rattle.kit.specs.Lists.{front}
use Rattle.write_text.specs.Write.{ToldWriting, done, refused, written}
use Rattle.c_given.specs.Given.{header_of, texts_of}
use Rattle.c_answers.specs.Own.{too_short, unless}

-- 0 for done, or 01's number
abbrev pub told_number : ToldWriting → ℕ
told_number (done n) = 0
told_number (refused k b) = k

-- the bytes written, or those needed
abbrev pub told_count : ToldWriting → List ℕ
told_count (done n) = n ∷ []
told_count (refused k b) = b

-- the number answered, and what is then in the output and in the area for the count
pub record Crossed : Type 0 where
  pub number : ℕ
  pub out : List ℕ
  pub count : List ℕ

abbrev pub crossed : ℕ → List ℕ → List ℕ → Crossed
crossed n o c = record { number = n; out = o; count = c }

unfoldable pub crosses : ToldWriting × List ℕ → List ℕ → Crossed
crosses w c = crossed (told_number w.0) w.1 (front (told_count w.0) c)

unfoldable pub write_crossed : List ℤ → List ℕ → Areas → List ℕ → List ℕ → Crossed
write_crossed h x a o c =
    unless (too_short (length h) (length x) (length c) 1) (crosses (written (header_of h) (texts_of x) a o) c) (λ k. crossed k o c)
