use Rattle.std.specs.Prelude.{Result, Ok}
-- Laws of the first wrong field, and of what a record's numbers say.
use mathlib.Core.Path.{◌≡◌, refl, sym, ap, ◌∙◌}
use mathlib.Core.List.{List, [], ◌∷◌}
use Prim.Native.Nat.{ℕ, ◌+◌, ◌*◌, ◌-◌, ◌<◌}
use native.Mathlib.Omega.{arith}
use lib.IntN.{ℤ, pos, negsuc, nat_abs}
use Rattle.kit.specs.Answer.{ok, All, pick}
use Rattle.kit.proofs.AnswerLaws.{pick_yes, pick_no}
use Rattle.kit.specs.Range.{natural?}
use Rattle.days.proofs.YearLaws.{month_le}
use Rattle.days.specs.Years.{row, month_days}
use Rattle.calendar.specs.Calendar.{Number, Within, within, numbers, days_to, second, Dated, first, wrong_at, dated, numbers_of, wrong, checked, recorded, told_taken}
use Rattle.calendar.specs.Inner.{IsDate, second_of, dated_of, taken_as, clip}
use Rattle.calendar.specs.declared.Epoch.{Epoch}
use Rattle.calendar.specs.declared.Field.{Field}
use Rattle.calendar.specs.declared.Field.TheVariants as F

module _ {X : Type 0} (f : Field → X) (x : X) where
  first_none : (l : List Number) → All Within l → first f x l ≡ x
  first_none [] a = refl
  first_none (n ∷ ns) a = pick_yes (within n) _ _ a.0 ∙ first_none ns a.1

  -- where the answer is no wrong field's, each number lies in its range
  first_all : (y : X) → ((w : Field) → ¬ (f w ≡ y)) → (l : List Number) → first f x l ≡ y → All Within l
  first_all y no_wrong [] e = tt
  first_all y no_wrong (n ∷ ns) e = by (within n) (λ q. first_all y no_wrong ns q)
    where
      by : Dec (Within n) → (first f x ns ≡ y → All Within ns) → All Within (n ∷ ns)
      by (yes p) rest = (p, rest (sym (pick_yes (within n) _ _ p) ∙ e))
      by (no p) rest = absurd (no_wrong n.field (sym (pick_no (within n) _ _ p) ∙ e))

  first_map : {Y : Type 0} (g : X → Y) (l : List Number) → first (λ w. g (f w)) (g x) l ≡ g (first f x l)
  first_map g [] = refl
  first_map g (n ∷ ns) = by (within n) (first_map g ns)
    where
      by : (d : Dec (Within n)) → first (λ w. g (f w)) (g x) ns ≡ g (first f x ns) → pick d (first (λ w. g (f w)) (g x) ns) (g (f n.field)) ≡ g (pick d (first f x ns) (f n.field))
      by (yes p) e = pick_yes (yes p) _ _ p ∙ e ∙ ap g (sym (pick_yes (yes p) _ _ p))
      by (no p) e = pick_no (no p) _ _ p ∙ ap g (sym (pick_no (no p) _ _ p))

-- ---- what a record's numbers say
module _ (y m d h i s : ℤ) (t : ℕ) where
  pub dated_at : Dated y m d h i s t → dated y m d h i s ≡ Ok t
  unfolding dated
  dated_at a = first_none wrong_at _ (numbers y m d h i s) a.real ∙ ap Ok a.at

  pub dated_ok : dated y m d h i s ≡ Ok t → Dated y m d h i s t
  unfolding dated
  dated_ok e =
      let a = first_all wrong_at _ (Ok t) (λ w q. let z : ◌≡◌ {A = ℕ} 0 1 = cc in omega arith) (numbers y m d h i s) e in
      let q : Ok (second y m d h i s) ≡ Ok t = sym (first_none wrong_at _ (numbers y m d h i s) a) ∙ e in
      record { real = a; at = cc q }

pub dated_told : (y m d h i s : ℤ) → told_taken (dated y m d h i s) ≡ recorded y m d h i s
unfolding dated recorded
dated_told y m d h i s = sym (first_map wrong_at (Ok (second y m d h i s)) told_taken (numbers y m d h i s))

never : (w : Field) → ¬ (wrong {A = Unit {0}} w ≡ ok tt)
never w e = let z : ◌≡◌ {A = ℕ} 0 1 = cc in omega arith

-- an epoch with no wrong field is a date
pub date_right : (e : Epoch) → checked e ≡ ok tt → IsDate e
unfolding checked
date_right e q = first_all wrong (ok tt) (ok tt) never (numbers_of e) q

pub dated_by : (e : Epoch) → dated_of e ≡ taken_as (second_of e) (checked e)
unfolding dated checked
dated_by e = first_map wrong (ok tt) (taken_as (second_of e)) (numbers_of e)

-- a negative number and the one that stands for it are both wrong
clipped : (f : Field) (low high high' : ℕ) (z : ℤ) (x x' : Result ℕ ℕ) → high ≡ high' → high' < 4294967295 → (nat_abs z ≡ clip z → x ≡ x') → pick (natural? low high z) x (wrong_at f) ≡ pick (natural? low high' (pos (clip z))) x' (wrong_at f)
clipped f low high high' (pos n) x x' q h e = λ j. pick (natural? low (q j) (pos n)) (e refl j) (wrong_at f)
clipped f low high high' (negsuc n) x x' q h e = pick_no (natural? low high (negsuc n)) _ _ (λ w. w) ∙ sym (pick_no (natural? low high' (pos 4294967295)) _ _ (λ w. omega arith))

pub dated_clip : (y m d h i s : ℤ) → dated y m d h i s ≡ dated (pos (clip y)) (pos (clip m)) (pos (clip d)) (pos (clip h)) (pos (clip i)) (pos (clip s))
unfolding dated second
dated_clip y m d h i s =
    clipped F.Year 1900 2199 2199 y _ _ refl (omega arith)
    (λ ey. clipped F.Month 1 12 12 m _ _ refl (omega arith)
    (λ em. clipped F.Day 1 _ _ d _ _ (λ j. month_days (row (ey j)) (em j - 1)) (omega (arith, month_le (row (clip y)) (clip m - 1)))
    (λ ed. clipped F.Hour 0 23 23 h _ _ refl (omega arith)
    (λ eh. clipped F.Minute 0 59 59 i _ _ refl (omega arith)
    (λ ei. clipped F.Second 0 59 59 s _ _ refl (omega arith)
    (λ es j. Ok (days_to (ey j) (em j) (ed j) * 86400 + (eh j * 3600 + (ei j * 60 + es j)))))))))
