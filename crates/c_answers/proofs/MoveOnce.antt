-- No second answer fits.
use mathlib.Core.Path.{◌≡◌, refl, sym, ap, ◌∙◌}
use mathlib.Core.List.{List, [], ◌∷◌}
use Prim.Native.Nat.{ℕ}
use native.Mathlib.Omega.{arith}
use lib.IntN.{ℤ, pos, nat_abs, ◌+ℤ◌}
use Rattle.kit.specs.Answer.{Answer, ok, refused}
use Rattle.calendar.specs.Calendar.{Refusal, The}
use Rattle.kit.specs.Lists.{front}
use Rattle.c_answers.specs.MoveExported.{Moves, told_number, told_moved, MoveCrosses, area_short, answered}

later_by : {s t : ℕ} {by : ℤ} → Moves s by t → pos t ≡ pos s +ℤ by
later_by {by = by} m = ap pos (sym m.ends.at ∙ m.later.ends.at) ∙ m.later.later ∙ ap (λ n. pos n +ℤ by) (sym m.later.starts.at ∙ m.starts.at)

moves_once : {s t u : ℕ} {by : ℤ} → Moves s by t → Moves s by u → t ≡ u
moves_once m n = ap nat_abs (later_by m ∙ sym (later_by n))

told_once : (s : ℕ) (by : ℤ) (a b : Answer Refusal ℕ) → The (Moves s by) a → The (Moves s by) b → (told_number a ≡ told_number b) × (told_moved a ≡ told_moved b)
told_once s by (ok t) (ok u) p q = (refl, ap (λ k. k ∷ []) (moves_once p q))
told_once s by (ok t) (refused w) p n = absurd (n.1 t p)
told_once s by (refused w) (ok t) n p = absurd (n.1 t p)
told_once s by (refused w) (refused x) n m = (refl, refl)

pub ionex_moved_once : {s : ℕ} {by : ℤ} {v : List ℕ} {n m : ℕ} {u w : List ℕ} → MoveCrosses s by v n u → MoveCrosses s by v m w → (n ≡ m) × (u ≡ w)
ionex_moved_once (area_short a) (area_short b) = (refl, refl)
ionex_moved_once (area_short a) (answered b x p) = absurd (omega arith)
ionex_moved_once (answered a x p) (area_short b) = absurd (omega arith)
ionex_moved_once {s = s} {by = by} {v = v} (answered a x p) (answered b y q) = let e = told_once s by x y p q in (e.0, ap (λ l. front l v) e.1)
