-- An integer as a difference of two naturals, `up z - dn z`, one of which is 0, so that `omega` can read statements about integers.
use mathlib.Core.Path.{◌≡◌, refl, sym, ap, subst, ◌∙◌}
use mathlib.Core.Bool.{Bool, true, false, not, cond}
use mathlib.Core.Logic.{◌⊎◌, inl, inr, ⊎_elim}
use Prim.Native.Nat.{ℕ, zero, suc, ◌+◌, ◌*◌, ◌-◌, ◌≤◌, ◌<◌, ◌^◌}
use native.Mathlib.Nat.{mul-zero, le_of_lt}
use native.Mathlib.Omega.{arith}
use lib.IntN.{ℤ, pos, negsuc, neg_ℤ, nat_abs, sub_ℕ, ◌+ℤ◌, ◌-ℤ◌, ◌*ℤ◌}
use lib.Signed.{lt_z, non_neg, nat_abs-le, ◌≤ℤ◌}
use lib.Dec.{T, ltb, ltb→lt, nltb→le, le→leb, leb→le}
use mir.Syntax.{Width, w64}
use mir.Val.{SFits, hbits, to_z, of_z}
use mir.Facts.{to_z-of_z}
use Rattle.kit.specs.Integer.{up, dn}

module _ (a b : ℕ) where
  sub_by : (t : Bool) → (T t → a < b) → (T (not t) → b ≤ a) → (up (cond t (negsuc (b - suc a)) (pos (a - b))) ≡ a - b) × (dn (cond t (negsuc (b - suc a)) (pos (a - b))) ≡ b - a)
  sub_by true y n = let h : a < b = y tt in (omega arith, omega arith)
  sub_by false y n = let h : b ≤ a = n tt in (omega arith, omega arith)

  sub_parts : (up (sub_ℕ a b) ≡ a - b) × (dn (sub_ℕ a b) ≡ b - a)
  sub_parts = sub_by (ltb a b) (ltb→lt a b) (nltb→le a b)

-- the sum
pub add_parts : (x y : ℤ) → up (x +ℤ y) + (dn x + dn y) ≡ dn (x +ℤ y) + (up x + up y)
add_parts (pos a) (pos b) = omega arith
add_parts (pos a) (negsuc b) = let h = sub_parts a (suc b) in omega arith
add_parts (negsuc a) (pos b) = let h = sub_parts b (suc a) in omega arith
add_parts (negsuc a) (negsuc b) = omega arith

pub neg_up : (x : ℤ) → up (neg_ℤ x) ≡ dn x
neg_up (pos zero) = refl
neg_up (pos (suc n)) = refl
neg_up (negsuc n) = refl

pub neg_dn : (x : ℤ) → dn (neg_ℤ x) ≡ up x
neg_dn (pos zero) = refl
neg_dn (pos (suc n)) = refl
neg_dn (negsuc n) = refl

-- the product by a natural
pub scale_up : (w : ℕ) (x : ℤ) → up (pos w *ℤ x) ≡ w * up x
scale_up w (pos n) = refl
scale_up w (negsuc n) = neg_up (pos (w * suc n)) ∙ sym (mul-zero w)

pub scale_dn : (w : ℕ) (x : ℤ) → dn (pos w *ℤ x) ≡ w * dn x
scale_dn w (pos n) = sym (mul-zero w)
scale_dn w (negsuc n) = neg_dn (pos (w * suc n))

-- one of the two is 0
pub one_zero : (x : ℤ) → (dn x ≡ 0) ⊎ (up x ≡ 0)
one_zero (pos n) = inl refl
one_zero (negsuc n) = inr refl

-- the two determine the integer
pub eq_parts : (x y : ℤ) → up x + dn y ≡ up y + dn x → x ≡ y
eq_parts (pos a) (pos b) h = ap pos (omega arith)
eq_parts (pos a) (negsuc b) h = absurd (omega arith)
eq_parts (negsuc a) (pos b) h = absurd (omega arith)
eq_parts (negsuc a) (negsuc b) h = ap negsuc (omega arith)

-- the order
pub le_parts : (x y : ℤ) → up x + dn y ≤ up y + dn x → x ≤ℤ y
le_parts (pos a) (pos b) h = record { le = le→leb a b (omega arith) }
le_parts (pos a) (negsuc b) h = absurd (omega arith)
le_parts (negsuc a) (pos b) h = record { le = tt }
le_parts (negsuc a) (negsuc b) h = record { le = le→leb b a (omega arith) }

pub parts_le : (x y : ℤ) → x ≤ℤ y → up x + dn y ≤ up y + dn x
parts_le (pos a) (pos b) h = let k = leb→le a b h.le in omega arith
parts_le (pos a) (negsuc b) h = absurd h.le
parts_le (negsuc a) (pos b) h = omega arith
parts_le (negsuc a) (negsuc b) h = let k = leb→le b a h.le in omega arith

pub abs_parts : (x : ℤ) → nat_abs x ≡ up x + dn x
abs_parts (pos n) = omega arith
abs_parts (negsuc n) = omega arith

-- it fits an i64
pub fits_parts : (x : ℤ) → up x < 2 ^ 63 → dn x ≤ 2 ^ 63 → SFits w64 x
fits_parts (pos n) h k = record { sfits = h }
fits_parts (negsuc n) h k = record { sfits = k }

pub parts_fits : (x : ℤ) → SFits w64 x → (up x < 2 ^ 63) × (dn x ≤ 2 ^ 63)
parts_fits (pos n) h = (h.sfits, omega arith)
parts_fits (negsuc n) h = (omega arith, h.sfits)

-- the difference
pub sub_parts2 : (x y : ℤ) → up (x -ℤ y) + (dn x + up y) ≡ dn (x -ℤ y) + (up x + dn y)
sub_parts2 x y = omega (arith, add_parts x (neg_ℤ y), neg_up y, neg_dn y)

-- what a branch's test says
lt_by : (x y : ℤ) → T (lt_z x y) → up x + dn y < up y + dn x
lt_by (pos a) (pos b) t = omega (arith, ltb→lt a b t)
lt_by (pos a) (negsuc b) t = absurd t
lt_by (negsuc a) (pos b) t = omega arith
lt_by (negsuc a) (negsuc b) t = omega (arith, ltb→lt b a t)

nlt_by : (x y : ℤ) → T (not (lt_z x y)) → up y + dn x ≤ up x + dn y
nlt_by (pos a) (pos b) t = omega (arith, nltb→le a b t)
nlt_by (pos a) (negsuc b) t = omega arith
nlt_by (negsuc a) (pos b) t = absurd t
nlt_by (negsuc a) (negsuc b) t = omega (arith, nltb→le b a t)

pub lt_true : (x y : ℤ) → lt_z x y ≡ true → up x + dn y < up y + dn x
lt_true x y e = lt_by x y (subst T (sym e) tt)

pub lt_false : (x y : ℤ) → lt_z x y ≡ false → up y + dn x ≤ up x + dn y
lt_false x y e = nlt_by x y (subst (λ (t : Bool). T (not t)) (sym e) tt)

pub nonneg_parts : (x : ℤ) → dn x ≡ 0 → T (non_neg x)
nonneg_parts (pos n) e = tt
nonneg_parts (negsuc n) e = absurd (omega arith)

pub abs_add_scaled : (t : ℤ) (w : ℕ) (v : ℤ) → nat_abs (t +ℤ pos w *ℤ v) ≤ nat_abs t + w * nat_abs v
abs_add_scaled t w v =
    let z : ℤ = t +ℤ pos w *ℤ v in
    let a = add_parts t (pos w *ℤ v) in
    let b = scale_up w v in
    let c = scale_dn w v in
    let e : w * nat_abs v ≡ w * up v + w * dn v = ap (λ (k : ℕ). w * k) (abs_parts v) ∙ omega arith in
    let f = abs_parts t in
    let g = abs_parts z in
    ⊎_elim (λ o. omega arith) (λ o. omega arith) (one_zero z)

pub size_fits : (w : Width) (z : ℤ) → nat_abs z < 2 ^ hbits w → SFits w z
size_fits w (pos n) h = record { sfits = h }
size_fits w (negsuc n) h = record { sfits = le_of_lt h }

pub size_of_fits : (w : Width) (z : ℤ) → SFits w z → nat_abs z ≤ 2 ^ hbits w
size_of_fits w z h = nat_abs-le z h.sfits

pub below_zero : (x : ℤ) → lt_z x (pos 0) ≡ true → (up x ≡ 0) × (dn x ≡ nat_abs x)
below_zero x e = let l = lt_true x (pos 0) e in let a = abs_parts x in ⊎_elim (λ o. absurd (omega arith)) (λ o. (o, omega arith)) (one_zero x)

pub not_below_zero : (x : ℤ) → lt_z x (pos 0) ≡ false → (dn x ≡ 0) × (up x ≡ nat_abs x)
not_below_zero x e = let l = lt_false x (pos 0) e in let a = abs_parts x in ⊎_elim (λ o. (o, omega arith)) (λ o. omega arith) (one_zero x)

pub abs_scale : (w : ℕ) (v : ℤ) → nat_abs (pos w *ℤ v) ≡ w * nat_abs v
abs_scale w v =
    let e : w * nat_abs v ≡ w * up v + w * dn v = ap (λ (k : ℕ). w * k) (abs_parts v) ∙ omega arith in
    omega (arith, abs_parts (pos w *ℤ v), scale_up w v, scale_dn w v)

-- a signed number whose bits are known
pub from_bits : (w : Width) (z : ℤ) (n : ℕ) → SFits w z → of_z w z ≡ n → z ≡ to_z w n
from_bits w z n f e = sym (to_z-of_z f) ∙ ap (to_z w) e
