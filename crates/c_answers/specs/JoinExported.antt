-- Joining as it crosses to other languages: a number, the six areas, and three areas of the call's own.
use Rattle.std.specs.Prelude.{Result, Ok, Err, List, [], ◌∷◌, ℕ, ◌<◌, ℤ, length}
use Rattle.kit.specs.Answer.{Answer, ok, refused}
use Rattle.kit.specs.Lists.{front}
use Rattle.mapset.specs.declared.Header.{Header}
use Rattle.mapset.specs.Described.{FullTexts}
use Rattle.mapset.specs.Areas.{Areas}
use Rattle.join.specs.Into.{Lent, lent_of, Why, because, short, join_into}
use Rattle.join_areas.specs.Joined.{told_why, Outcome, came}
use Rattle.join_areas.specs.declared.Refusal.{Refusal}
use Rattle.c_header.specs.Numbers.{numbers, text_bytes}
use Rattle.c_given.specs.Given.{header_of, texts_of}
use Rattle.c_answers.specs.Own.{too_short, shortest, unless}
use Rattle.c_answers.specs.ReadExported.{Crossed, crossed}

-- the number of a refusal, and the area and the elements it needs
abbrev pub why_number : Why → ℕ
why_number (because n) = n
why_number (short a n) = 11

abbrev pub why_place : Why → List ℕ
why_place (because n) = []
why_place (short a n) = a ∷ n ∷ []

-- 0 for done; the header record and the texts, nothing on a refusal
abbrev pub told_number : Answer Why Lent → ℕ
told_number (ok x) = 0
told_number (refused w) = why_number w

abbrev pub told_header : Answer Why Lent → List ℤ
told_header (ok x) = numbers x.header
told_header (refused w) = []

abbrev pub told_texts : Answer Why Lent → List ℕ
told_texts (ok x) = text_bytes x.texts
told_texts (refused w) = []

abbrev pub told_place : Answer Why Lent → List ℕ
told_place (ok x) = []
told_place (refused w) = why_place w

unfoldable pub crosses : Outcome → List ℤ → List ℕ → List ℕ → Crossed
crosses o h x p = crossed (told_number o.told) o.areas (front (told_header o.told) h) (front (told_texts o.told) x) (front (told_place o.told) p)

-- of the earlier set's numbers, bytes and areas, the later set's, and the areas for both: each of the three headers and of the three texts
-- is long enough, else 101 or 102
unfoldable pub join_crossed : List ℤ → List ℕ → Areas → List ℤ → List ℕ → Areas → Areas → List ℤ → List ℕ → List ℕ → Crossed
join_crossed f s a g t b l h x p =
    unless (too_short (shortest (length f) (length g) (length h)) (shortest (length s) (length t) (length x)) (length p) 2)
    (crosses (came (join_into (lent_of (header_of f) (texts_of s) a) (lent_of (header_of g) (texts_of t) b) l) l) h x p) (λ k. crossed k l h x p)

-- ---- of the code's answer, with the later texts
abbrev pub answer_number : Result Header Refusal → ℕ
answer_number (Ok h) = 0
answer_number (Err w) = why_number (told_why w)

abbrev pub answer_header : Result Header Refusal → List ℤ
answer_header (Ok h) = numbers h
answer_header (Err w) = []

abbrev pub answer_texts : Result Header Refusal → FullTexts → List ℕ
answer_texts (Ok h) t = text_bytes t
answer_texts (Err w) t = []

abbrev pub answer_place : Result Header Refusal → List ℕ
answer_place (Ok h) = []
answer_place (Err w) = why_place (told_why w)

-- the epochs of a joined header are numbers of 63 bits
abbrev pub Small : Result Header Refusal → Type 0
Small (Ok h) = (h.times.first < 9223372036854775808) × (h.times.last < 9223372036854775808)
Small (Err w) = Unit {0}
