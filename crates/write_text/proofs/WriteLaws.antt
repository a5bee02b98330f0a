-- The three cases of writing.
use mathlib.Core.Path.{◌≡◌, ◌∙◌}
use mathlib.Core.List.{List, [], ◌∷◌, ◌++◌}
use Prim.Native.Nat.{ℕ, ◌≤◌, ◌<◌}
use native.Mathlib.Omega.{arith}
use native.Mathlib.Decide.{dec_le}
use lib.ListN.{length, drop}
use Rattle.kit.proofs.AnswerLaws.{pick_yes, pick_no}
use Rattle.mapset.specs.declared.Header.{Header}
use Rattle.mapset.specs.Described.{FullTexts}
use Rattle.mapset.specs.Areas.{Areas}
use Rattle.areas.specs.Valid.{Valid}
use Rattle.valid.specs.Validity.{validity}
use Rattle.canonical.specs.CanonOf.{canon_of}
use Rattle.write_text.specs.Write.{done, refused, fitted, written}

module _ (h : Header) (t : FullTexts) (a : Areas) (o : List ℕ) where
  pub written_unsound : ¬ Valid h t a → written h t a o ≡ (refused 31 [], o)
  unfolding written
  written_unsound n = pick_no (validity h t a) (fitted (canon_of h t a) o) (refused 31 [], o) n

  pub written_short : Valid h t a → length o < length (canon_of h t a) → written h t a o ≡ (refused 30 (length (canon_of h t a) ∷ []), o)
  unfolding written
  written_short v l = pick_yes (validity h t a) (fitted (canon_of h t a) o) (refused 31 [], o) v ∙ pick_no (dec_le (length (canon_of h t a)) (length o)) _ _ (λ g. omega arith)

  pub written_done : Valid h t a → length (canon_of h t a) ≤ length o → written h t a o ≡ (done (length (canon_of h t a)), canon_of h t a ++ drop (length (canon_of h t a)) o)
  unfolding written
  written_done v l = pick_yes (validity h t a) (fitted (canon_of h t a) o) (refused 31 [], o) v ∙ pick_yes (dec_le (length (canon_of h t a)) (length o)) _ _ l
