-- Reading as it crosses to other languages: a number, the six areas, and three areas of the call's own.
use Rattle.std.specs.Prelude.{List, [], ℕ, ◌<◌, ℤ, length, Result, Ok, Err}
use Rattle.mapset.specs.Described.{FullTexts}
use Rattle.mapset.specs.Areas.{Areas}
use Rattle.kit.specs.Lists.{front}
use Rattle.read_outcome.specs.Outcome.{ToldReading, accepted, at_place, eleven, Outcome, outcome, told_number, told_place}
use Rattle.mapset.specs.declared.Header.{Header}
use Rattle.read_outcome.specs.declared.Reason.{Reason}
use Rattle.c_header.specs.Numbers.{numbers, text_bytes}
use Rattle.c_answers.specs.Own.{too_short, unless}

-- the header record and its texts; nothing on a refusal
abbrev pub told_header : ToldReading → List ℤ
told_header (accepted h) = numbers h
told_header (at_place k l c) = []
told_header (eleven a n) = []

abbrev pub told_texts : ToldReading → FullTexts → List ℕ
told_texts (accepted h) x = text_bytes x
told_texts (at_place k l c) x = []
told_texts (eleven a n) x = []

-- the epochs of an accepted header are numbers of 63 bits
abbrev pub Small : Result Header Reason → Type 0
Small (Ok h) = (h.times.first < 9223372036854775808) × (h.times.last < 9223372036854775808)
Small (Err w) = Unit {0}

-- the number answered, and what is then in the areas
pub record Crossed : Type 0 where
  pub number : ℕ
  pub areas : Areas
  pub header : List ℤ
  pub texts : List ℕ
  pub place : List ℕ

abbrev pub crossed : ℕ → Areas → List ℤ → List ℕ → List ℕ → Crossed
crossed k l h x p = record { number = k; areas = l; header = h; texts = x; place = p }

unfoldable pub crosses : Outcome → List ℤ → List ℕ → List ℕ → Crossed
crosses o h x p =
    crossed (told_number o.told) o.areas (front (told_header o.told) h) (front (told_texts o.told o.texts) x) (front (told_place o.told) p)

unfoldable pub read_crossed : List ℕ → Areas → List ℤ → List ℕ → List ℕ → Crossed
read_crossed t l h x p = unless (too_short (length h) (length x) (length p) 2) (crosses (outcome t l) h x p) (λ k. crossed k l h x p)
