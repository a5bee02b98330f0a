-- Good rows, trimmed and ended by LF, are laid out and ended as the rules have it.
use mathlib.Core.Path.{◌≡◌, refl, sym, ap, ◌∙◌}
use mathlib.Core.List.{List, [], ◌∷◌, ◌++◌, map}
use Prim.Native.Nat.{ℕ, ◌+◌, ◌-◌}
use native.Mathlib.Omega.{arith}
use native.Mathlib.Decide.{ℕ_discrete}
use lib.ListN.{length, replicate, length-append, length-replicate}
use Rattle.kit.specs.Answer.{All, all_dec}
use Rattle.kit.proofs.AnswerLaws.{pick_elim}
use Rattle.kit.proofs.ListLaws.{all_append, all_front}
use Rattle.kit.specs.Range.{Within}
use Rattle.forms.specs.Columns.{Blank}
use Rattle.layout.specs.Text.{Ended, none, lf, Clean, pad, Laid, line}
use Rattle.reading.proofs.RecordLaws.{spaces_blank, blank_spaces}
use Rattle.canonical.specs.Canon.{trimmed, lines_of}
use Rattle.canonical.proofs.RowLaws.{GoodRow}

-- a row is its line and blanks
whole : (r : List ℕ) → (n : ℕ) × (r ≡ trimmed r ++ replicate n 32)
unfolding trimmed
whole [] = (0, refl)
whole (b ∷ bs) =
    pick_elim (λ t. (n : ℕ) × (b ∷ bs ≡ t ++ replicate n 32)) (all_dec (λ c. ℕ_discrete c 32) (b ∷ bs))
    (λ a. (length (b ∷ bs), spaces_blank (b ∷ bs) a))
    (λ _. let w = whole bs in (w.0, ap (λ l. b ∷ l) w.1))

module _ (r : List ℕ) (g : GoodRow r) where
  line_clean : Clean (trimmed r)
  line_clean =
      let w = whole r in
      let n : length r ≡ length (trimmed r) + w.0 = ap length w.1 ∙ length-append (trimmed r) (replicate w.0 32) ∙ omega (arith, length-replicate {A = ℕ} w.0 32) in
      (omega (arith, g.width), all_front (Within 32 126) (trimmed r) (replicate w.0 32) (rw w.1 at g.print))

  line_padded : pad (trimmed r) ≡ r
  unfolding pad
  line_padded =
      let w = whole r in
      let n : length r ≡ length (trimmed r) + w.0 = ap length w.1 ∙ length-append (trimmed r) (replicate w.0 32) ∙ omega (arith, length-replicate {A = ℕ} w.0 32) in
      let k : 80 - length (trimmed r) ≡ w.0 = omega (arith, g.width) in
      rw k (sym w.1)

  line_shown : ¬ All Blank (trimmed r)
  line_shown b = let w = whole r in g.shown (rw (← w.1) at (all_append Blank (trimmed r) (replicate w.0 32) b (blank_spaces w.0)))

pub laid_out : (rs : List (List ℕ)) → All GoodRow rs → Laid rs (map trimmed rs)
laid_out [] a = none
laid_out (r ∷ rs) a = rw (line_padded r a.0) at (line {l = trimmed r} (line_clean r a.0) (line_shown r a.0) (laid_out rs a.1))

pub ended_by_lf : (rs : List (List ℕ)) → Ended (map trimmed rs) (lines_of rs)
unfolding lines_of
ended_by_lf [] = none
ended_by_lf (r ∷ rs) = lf (ended_by_lf rs)
