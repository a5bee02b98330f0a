-- The bytes of DESCRIPTION lines, as the code looks at them: printable up to the last line's end, blank behind it.
use mathlib.Core.Path.{◌≡◌, subst, ◌∙◌}
use mathlib.Core.Bool.{Bool, false, ◌&&◌}
use mathlib.Core.List.{List}
use Prim.Native.Nat.{ℕ, ◌*◌, ◌≤◌, ◌<◌}
use native.Mathlib.Omega.{arith}
use lib.ListN.{length, take, drop, take-append-drop}
use Rattle.kit.specs.Answer.{All, all_dec, ×_dec}
use Rattle.kit.specs.Range.{Within, within?}
use Rattle.kit.specs.Truth.{truth}
use Rattle.kit.proofs.ListLaws.{all_append, all_take, all_turn}
use Rattle.kit.proofs.TruthLaws.{both, fails, truth_same}
use Rattle.mapset.specs.Described.{most_lines, line_width, lines_width}
use Rattle.mapset.specs.Sound.{lines?}

module _ (n : ℕ) (bs : List ℕ) where
  pub too_many : most_lines < n → false ≡ truth (lines? n bs)
  too_many h = fails (lines? n bs) (λ s. omega (arith, s.0))

  pub not_whole : ¬ (length bs ≡ lines_width) → false ≡ truth (lines? n bs)
  not_whole h = fails (lines? n bs) (λ s. h s.1.0.0)

  -- a blank is printable
  printable : All (Within 32 126) (take (line_width * n) bs) → All (Within 32 32) (drop (line_width * n) bs) → All (Within 32 126) bs
  printable p q =
      subst (All (Within 32 126)) (take-append-drop (line_width * n) bs)
      (all_append (Within 32 126) (take (line_width * n) bs) (drop (line_width * n) bs) p (all_turn (Within 32 32) (Within 32 126) (drop (line_width * n) bs) (λ b w. (w.0, omega (arith, w.1))) q))

  pub looked_at : n ≤ most_lines → length bs ≡ lines_width → {a b : Bool} → a ≡ truth (all_dec (within? 32 126) (take (line_width * n) bs))
      → b ≡ truth (all_dec (within? 32 32) (drop (line_width * n) bs)) → (a && b) ≡ truth (lines? n bs)
  looked_at few whole e f =
      both (all_dec (within? 32 126) (take (line_width * n) bs)) (all_dec (within? 32 32) (drop (line_width * n) bs)) e f
      ∙ truth_same (×_dec (all_dec (within? 32 126) (take (line_width * n) bs)) (all_dec (within? 32 32) (drop (line_width * n) bs))) (lines? n bs)
      (λ s. (few, ((whole, printable s.0 s.1), all_turn (Within 32 32) (λ b. b ≡ 32) (drop (line_width * n) bs) (λ b w. omega (arith, w.0, w.1)) s.1)))
      (λ s. (all_take (Within 32 126) (line_width * n) bs s.1.0.1, all_turn (λ b. b ≡ 32) (Within 32 32) (drop (line_width * n) bs) (λ b w. (omega (arith, w), omega (arith, w))) s.1.1))
