-- What is printed of a text that is too big, of one that needs too much and of one that is refused: 01's words, letter by letter.
use mathlib.Core.Path.{◌≡◌, refl, ap, ◌∙◌}
use mathlib.Core.List.{List, [], ◌∷◌, ◌++◌}
use mathlib.Core.Option.{some}
use Prim.Native.Nat.{ℕ, ◌≤◌, ◌<◌}
use native.Mathlib.Omega.{arith}
use native.Mathlib.Decide.{dec_le}
use lib.ListN.{length}
use Rattle.kit.specs.Answer.{ok, refused}
use Rattle.kit.proofs.AnswerLaws.{pick_yes, pick_no}
use Rattle.mapset.specs.Areas.{Areas}
use Rattle.mapset.specs.MapSet.{MapSet}
use Rattle.forms.specs.Show.{digits}
use Rattle.layout.specs.Labels.{bytes}
use Rattle.reading.specs.Feed.{why}
use Rattle.reading.specs.Read.{read}
use Rattle.areas.specs.Flat.{areas}
use Rattle.read_needs.specs.Needs.{first_short}
use Rattle.program_line.specs.Lines.{place_line, area_line, need_line, unsound_line, big_line}
use Rattle.program_text.specs.Printed.{needed_and_had, set_printed, answer_printed, printed}

abbrev line : List ℕ → List ℕ
line l = l ++ (10 ∷ [])

short_tec : (a : Areas) → length a.tec ≡ 4001 → first_short 1 (needed_and_had a) ≡ some (1, 4001)
unfolding first_short
short_tec a h = pick_no (dec_le (length a.tec) 4000) _ _ (λ k. omega arith) ∙ ap (λ n. some (1, n)) h

module _ (t : List ℕ) where
  pub too_big : 32768 < length t → printed t ≡ line (bytes "text too big")
  unfolding printed big_line
  too_big h = pick_no (dec_le (length t) 32768) (answer_printed (read t)) _ (λ k. omega arith)

  module _ (fits : length t ≤ 32768) where
    pub place_said : (k n c : ℕ) → read t ≡ refused (why k n c) → printed t ≡ place_line k n c
    unfolding printed answer_printed
    place_said k n c e = pick_yes (dec_le (length t) 32768) (answer_printed (read t)) _ fits ∙ ap answer_printed e

    pub area_said : (m : MapSet) (a n : ℕ) → read t ≡ ok m → first_short 1 (needed_and_had (areas m)) ≡ some (a, n) → printed t ≡ area_line a n
    unfolding printed answer_printed set_printed
    area_said m a n e s = pick_yes (dec_le (length t) 32768) (answer_printed (read t)) _ fits ∙ ap answer_printed e ∙ ap (set_printed m) s

    -- one value too many
    pub values_said : (m : MapSet) → read t ≡ ok m → length (areas m).tec ≡ 4001 → printed t ≡ line (bytes "refused 11 area 1 needs 4001")
    unfolding area_line digits
    values_said m e h = area_said m 1 4001 e (short_tec (areas m) h)

-- the one-line answers
pub said : (place_line 8 15 0 ≡ line (bytes "refused 8 line 15 column 0"))
    × (place_line 1 12 81 ≡ line (bytes "refused 1 line 12 column 81"))
    × (area_line 4 12000 ≡ line (bytes "refused 11 area 4 needs 12000"))
    × (need_line 65537 ≡ line (bytes "refused 30 needs 65537"))
    × (unsound_line ≡ line (bytes "refused 31"))
    × (big_line ≡ line (bytes "text too big"))
unfolding place_line area_line need_line unsound_line big_line digits
said = (refl, refl, refl, refl, refl, refl)
