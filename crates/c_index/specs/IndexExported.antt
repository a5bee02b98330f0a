-- Making an index as it crosses to other languages: a number, the three areas of the index, and three areas of the call's own.
use Rattle.std.specs.Prelude.{List, ℕ, ℤ, length}
use Rattle.kit.specs.Lists.{front}
use Rattle.read_outcome.specs.Outcome.{told_number, told_place}
use Rattle.c_answers.specs.Own.{too_short, unless}
use Rattle.c_answers.specs.ReadExported.{told_header, told_texts}
use Rattle.index.specs.Index.{Entries}
use Rattle.index_text.specs.Making.{Made, made}

-- the number answered, and what is then in the areas
pub record Crossed : Type 0 where
  pub number : ℕ
  pub entries : Entries
  pub header : List ℤ
  pub texts : List ℕ
  pub place : List ℕ

abbrev pub crossed : ℕ → Entries → List ℤ → List ℕ → List ℕ → Crossed
crossed k l h x p = record { number = k; entries = l; header = h; texts = x; place = p }

unfoldable pub crosses : Made → List ℤ → List ℕ → List ℕ → Crossed
crosses o h x p =
    crossed (told_number o.told) o.entries (front (told_header o.told) h) (front (told_texts o.told o.texts) x) (front (told_place o.told) p)

unfoldable pub index_crossed : List ℕ → Entries → List ℤ → List ℕ → List ℕ → Crossed
index_crossed t l h x p = unless (too_short (length h) (length x) (length p) 2) (crosses (made t l) h x p) (λ k. crossed k l h x p)
