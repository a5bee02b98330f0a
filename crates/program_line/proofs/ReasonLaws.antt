-- The line of a refusal, by its number and the two numbers beside it.
use mathlib.Core.Path.{◌≡◌}
use mathlib.Core.List.{[], ◌∷◌}
use Prim.Native.Nat.{ℕ}
use native.Mathlib.Omega.{arith}
use Rattle.read_outcome.specs.Outcome.{told_number, told_place, told_reason}
use Rattle.read_outcome.specs.declared.Reason.{Reason}
use Rattle.read_outcome.specs.declared.Reason.TheVariants.{LongLine, BadByte, NotIonex, UnknownLabel, Misplaced, IllFormed, OutOfRange, Disagrees, Missing, EndsEarly, AreaTooShort}
use Rattle.program_line.specs.Lines.{place_line, area_line, line_of}

at : {k n a b l c : ℕ} → k ≡ n → a ∷ b ∷ [] ≡ l ∷ c ∷ [] → place_line k a b ≡ place_line n l c
at {k} {n} {a} {b} {l} {c} e p =
    let x : a ≡ l = cc in
    let y : b ≡ c = cc in
    λ i. place_line (e i) (x i) (y i)

module _ (k a b : ℕ) where
  pub line_placed : (w : Reason) → k ≡ told_number (told_reason w) → a ∷ b ∷ [] ≡ told_place (told_reason w) → ¬ (k ≡ 11) → place_line k a b ≡ line_of (told_reason w)
  line_placed (LongLine l c) e p n = at e p
  line_placed (BadByte l c) e p n = at e p
  line_placed (NotIonex l c) e p n = at e p
  line_placed (UnknownLabel l c) e p n = at e p
  line_placed (Misplaced l c) e p n = at e p
  line_placed (IllFormed l c) e p n = at e p
  line_placed (OutOfRange l c) e p n = at e p
  line_placed (Disagrees l c) e p n = at e p
  line_placed (Missing l c) e p n = at e p
  line_placed (EndsEarly l c) e p n = at e p
  line_placed (AreaTooShort l c) e p n = absurd (n e)

  pub area_told : (w : Reason) → k ≡ told_number (told_reason w) → a ∷ b ∷ [] ≡ told_place (told_reason w) → k ≡ 11 → area_line a b ≡ line_of (told_reason w)
  area_told (LongLine l c) e p n = absurd (omega arith)
  area_told (BadByte l c) e p n = absurd (omega arith)
  area_told (NotIonex l c) e p n = absurd (omega arith)
  area_told (UnknownLabel l c) e p n = absurd (omega arith)
  area_told (Misplaced l c) e p n = absurd (omega arith)
  area_told (IllFormed l c) e p n = absurd (omega arith)
  area_told (OutOfRange l c) e p n = absurd (omega arith)
  area_told (Disagrees l c) e p n = absurd (omega arith)
  area_told (Missing l c) e p n = absurd (omega arith)
  area_told (EndsEarly l c) e p n = absurd (omega arith)
  area_told (AreaTooShort l c) e p n =
      let x : a ≡ l = cc in
      let y : b ≡ c = cc in
      λ i. area_line (x i) (y i)
