-- No second answer fits.
use mathlib.Core.Path.{◌≡◌, sym, ap, ◌∙◌}
use mathlib.Core.List.{List}
use Prim.Native.Nat.{ℕ, ◌≤◌}
use native.Mathlib.Decide.{dec_le}
use lib.ListN.{length}
use Rattle.kit.specs.Answer.{×_dec}
use Rattle.kit.proofs.AnswerLaws.{pick_yes, pick_no}
use Rattle.kit.specs.Lists.{front}
use Rattle.bias_fill.specs.Flat.{Lent}
use Rattle.bias_text.specs.Biased.{Outcome, outcome}
use Rattle.c_biases.specs.BiasesExported.{told_number, told_counts, told_place, Crossed, crossed, crosses, biases_crossed}

pub cross_short : (t : List ℕ) (l : Lent) (n p : List ℕ) → ¬ ((2 ≤ length n) × (2 ≤ length p)) → crossed 103 l n p ≡ biases_crossed t l n p
unfolding biases_crossed
cross_short t l n p h = sym (pick_no (×_dec (dec_le 2 (length n)) (dec_le 2 (length p))) _ _ h)

pub cross_answer : (t : List ℕ) (l : Lent) (n p : List ℕ) → (2 ≤ length n) × (2 ≤ length p) → (o : Outcome) → o ≡ outcome t l
    → crossed (told_number o.told) o.areas (front (told_counts o.told) n) (front (told_place o.told) p) ≡ biases_crossed t l n p
unfolding biases_crossed crosses
cross_answer t l n p h o e = ap (λ (x : Outcome). crosses x n p) e ∙ sym (pick_yes (×_dec (dec_le 2 (length n)) (dec_le 2 (length p))) _ _ h)

-- no second answer
pub ionex_biases_once : (t : List ℕ) (l : Lent) (n p : List ℕ) (a b : Crossed) → a ≡ biases_crossed t l n p → b ≡ biases_crossed t l n p → a ≡ b
ionex_biases_once t l n p a b e f = e ∙ sym f
