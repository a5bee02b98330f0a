-- The contract of `answer` determines the bytes that are printed; what an accepted text prints; and the empty text.
use mathlib.Core.Path.{◌≡◌, refl, sym, ap, ◌∙◌}
use mathlib.Core.List.{List, [], ◌∷◌, ◌++◌}
use Prim.Native.Nat.{ℕ, ◌≤◌}
use native.Mathlib.Decide.{dec_le}
use lib.ListN.{length, take}
use Rattle.kit.specs.Answer.{All, pick}
use Rattle.kit.proofs.AnswerLaws.{pick_yes}
use Rattle.mapset.specs.MapSet.{MapSet}
use Rattle.forms.specs.Show.{digits}
use Rattle.layout.specs.Labels.{bytes}
use Rattle.layout.specs.Layout.{Makes}
use Rattle.reading.specs.Feed.{feed, split}
use Rattle.reading.specs.Maps.{short}
use Rattle.reading.specs.Read.{begin, read}
use Rattle.reading.proofs.Exact.{read_made}
use Rattle.areas.specs.Flat.{areas}
use Rattle.canonical.specs.Canon.{canon}
use Rattle.read_needs.proofs.ShortLaws.{none_short}
use Rattle.program_line.specs.Lines.{place_line, Begins}
use Rattle.program_text.specs.Printed.{fitted, needed_and_had, set_printed, answer_printed, printed}

-- no second line or text fits
pub once : (t o o' : List ℕ) (r r' : ℕ) → Begins o r (printed t) → Begins o' r' (printed t) → take r o ≡ take r' o'
once t o o' r r' b b' = b.front ∙ sym b'.front

-- a text that the rules make of m prints the canonical text of m, where there is room
pub made_printed : (m : MapSet) (t : List ℕ) → Makes m t → length t ≤ 32768 → All (λ x. x.0 ≤ x.1) (needed_and_had (areas m)) → length (canon m) ≤ 65536 → printed t ≡ canon m
unfolding printed answer_printed set_printed fitted
made_printed m t k h f g =
    pick_yes (dec_le (length t) 32768) (answer_printed (read t)) _ h
    ∙ ap answer_printed (read_made k)
    ∙ ap (set_printed m) (none_short 1 (needed_and_had (areas m)) f)
    ∙ pick_yes (dec_le (length (canon m)) 65536) (canon m) _ g

pub empty_printed : printed [] ≡ bytes "refused 10 line 1 column 0" ++ (10 ∷ [])
unfolding printed answer_printed place_line digits pick dec_le read begin short feed split
empty_printed = refl
