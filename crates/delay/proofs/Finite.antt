-- A served delay is a finite number, and 0 TECU give 0.0. Sizes are bounded by a power of two, whatever the sign.
use mathlib.Core.Path.{◌≡◌, refl, sym, ap, ◌∙◌, subst}
use mathlib.Core.Bool.{Bool, true, false, ◌&&◌, ◌||◌, cond}
use Prim.Native.Nat.{ℕ, zero, suc, ◌*◌, ◌^◌, ◌≤◌, ◌<◌}
use native.Mathlib.Nat.{le_trans, le_of_eq, le_of_lt, mul-one, one-mul, mul_comm, mul_assoc, mul-le-mul, mul-pos}
use native.Mathlib.Omega.{arith}
use lib.Dec.{T, ltb, eqb, eqb→eq, ltb→lt}
use lib.IntN.{ℤ, pos, negsuc, nat_abs}
use mir.Syntax.{w32}
use mir.Val.{SFits}
use lib.Ieee.{Float, nan, inf, fin, binary64, up, down, odd, units, round, mul, div, le, of_int, unlike}
use lib.Ieee.Fits.{up_pos, down_pos, and_l, round_is}
use lib.Ieee.Order.{round_mono}
use lib.Ieee.Scale.{finite, round_same}
use lib.Ieee.Positive.{num, den, positive, positive-finite, between, le→cross, mul_mono}
use Rattle.kit.proofs.Parts.{size_of_fits}
use Rattle.ask_nodes.specs.declared.MilliTecu.{MilliTecu}
use Rattle.delay.specs.Delay.{given, milli, whole, tecu, metres, InBand, Delays, serves}
use Rattle.delay.proofs.Literals.{factor_exact}

-- finite, and at most 2 ^ j away from zero
abbrev pub Small : ℕ → Float → Type 0
Small j x = T (finite x) × (num x ≤ 2 ^ j * den x)

-- 2 ^ j is a value of the format
abbrev Held : ℕ → Type 0
Held j = round binary64 false (2 ^ j) 1 ≡ fin false 1 (pos j)

or_le : (a b : ℕ) (x : Bool) → ltb a b ≡ x → T (x || (eqb a b && true)) → a ≤ b
or_le a b true e h = le_of_lt (ltb→lt a b (subst T (sym e) tt))
or_le a b false e h = le_of_eq (eqb→eq a b (and_l (eqb a b) true h))

le_small : (j m : ℕ) (e : ℤ) → T (le (fin false m e) (fin false 1 (pos j))) → m * up e ≤ 2 ^ j * down e
unfolding le
le_small j m e h = rw (mul-one (m * up e), one-mul (2 ^ j)) at (or_le (m * up e * 1) (1 * 2 ^ j * down e) (ltb (m * up e * 1) (1 * 2 ^ j * down e)) refl h)

odd_small : (j d q k l : ℕ) (s : Bool) → T (le (odd d false q k l) (fin false 1 (pos j))) → Small j (odd d s q k l)
unfolding odd
odd_small j d zero k l s h = (tt, omega arith)
odd_small j d (suc q) k l s h = (tt, le_small j _ _ h)

units_small : (j q k : ℕ) (s : Bool) → T (le (units binary64 false q k) (fin false 1 (pos j))) → Small j (units binary64 s q k)
unfolding units
units_small j q k s = go (ltb (q * 2 ^ k) (2 ^ 2098))
  where
    go : (b : Bool) → T (le (cond b (odd 54 false q k 1074) (inf false)) (fin false 1 (pos j))) → Small j (cond b (odd 54 s q k 1074) (inf s))
    go true h = odd_small j 54 q k 1074 s h
    go false h = absurd (unfold le in h)

round_small : (j : ℕ) → Held j → (s : Bool) (a b : ℕ) → 0 < b → a ≤ 2 ^ j * b → Small j (round binary64 s a b)
round_small j held s a b p h =
    let m : T (le (round binary64 false a b) (round binary64 false (2 ^ j) 1)) = round_mono binary64 a b (2 ^ j) 1 p (omega arith) (rw (mul-one a) h) in
    rw (round_is binary64 s a b) (units_small j _ _ s (rw (held, round_is binary64 false a b) at m))

-- ---- the operations

-- divided by a number of 1 or more
not_none : {A : Type 0} (n : ℕ) (x y : A) → T (ltb 0 n) → cond (eqb n 0) x y ≡ y
not_none n x y p = go (eqb n 0) refl
  where
    go : (b : Bool) → eqb n 0 ≡ b → cond b x y ≡ y
    go true e = absurd (omega (arith, ltb→lt 0 n p, eqb→eq n 0 (subst T (sym e) tt)))
    go false e = refl

div_small : (j : ℕ) → Held j → (x y : Float) → Small j x → T (positive y) → den y ≤ num y → Small j (div binary64 x y)
unfolding div
div_small j held nan y s p h = absurd s.0
div_small j held (inf t) y s p h = absurd s.0
div_small j held (fin t m e) nan s p h = absurd p
div_small j held (fin t m e) (inf u) s p h = absurd p
div_small j held (fin t m e) (fin true n d) s p h = absurd p
div_small j held (fin t m e) (fin false n d) s p h =
    rw (not_none n _ (round binary64 (unlike t false) (m * up e * down d) (n * up d * down e)) p)
    (round_small j held (unlike t false) (m * up e * down d) (n * up d * down e) (mul-pos (mul-pos (ltb→lt 0 n p) (up_pos d)) (down_pos e))
    (le_trans (mul-le-mul s.1 h) (le_of_eq (mul_assoc (2 ^ j) (down e) (n * up d) ∙ ap (λ z. 2 ^ j * z) (mul_comm (down e) (n * up d))))))

-- times a whole number of at most 2 ^ i
mul_small : (i j k : ℕ) → 2 ^ j * 2 ^ i ≡ 2 ^ k → Held k → (x : Float) (n l : ℕ) → Small j x → n * 2 ^ l ≤ 2 ^ i → Small k (mul binary64 x (fin false n (pos l)))
unfolding mul
mul_small i j k q held nan n l s h = absurd s.0
mul_small i j k q held (inf t) n l s h = absurd s.0
mul_small i j k q held (fin t m e) n l s h =
    round_small k held (unlike t false) (m * up e * (n * 2 ^ l)) (down e * 1) (mul-pos (down_pos e) (omega arith))
    (le_trans (mul-le-mul s.1 h) (le_of_eq (mul_assoc (2 ^ j) (down e) (2 ^ i) ∙ ap (λ z. 2 ^ j * z) (mul_comm (down e) (2 ^ i)) ∙ sym (mul_assoc (2 ^ j) (2 ^ i) (down e)) ∙ ap (λ z. z * down e) q ∙ ap (λ z. 2 ^ k * z) (sym (mul-one (down e))))))

int_small : (x : ℤ) → nat_abs x ≤ 2 ^ 31 → Small 31 (of_int binary64 x)
unfolding of_int
int_small (pos n) h = round_small 31 (unfold round in refl) false n 1 (omega arith) (rw (mul-one (2 ^ 31)) h)
int_small (negsuc n) h = round_small 31 (unfold round in refl) true (suc n) 1 (omega arith) (rw (mul-one (2 ^ 31)) h)

tecu_small : (x : MilliTecu) → nat_abs x.0 ≤ 2 ^ 31 → Small 31 (tecu x)
tecu_small x h = div_small 31 (unfold round in refl) (of_int binary64 x.0) (whole 1_000) (int_small x.0 h) (unfold of_int in tt) (unfold of_int in omega arith)

-- ---- the carrier

module _ (f : Float) (b : InBand f) where
  in_band : T (positive f)
  unfolding of_int
  in_band = between (whole 1_000_000_000) f (whole 2_000_000_000) tt tt b.0 b.1

  least : T (le (mul binary64 (whole 1_000_000_000) (whole 1_000_000_000)) (mul binary64 f f))
  unfolding of_int
  least = mul_mono binary64 _ f _ f tt in_band tt in_band b.0 b.0

  most : T (le (mul binary64 f f) (mul binary64 (whole 2_000_000_000) (whole 2_000_000_000)))
  unfolding of_int
  most = mul_mono binary64 f _ f _ in_band tt in_band tt b.1 b.1

  square : T (positive (mul binary64 f f))
  unfolding of_int mul
  square = between _ (mul binary64 f f) _ tt tt least most

  square_large : den (mul binary64 f f) ≤ num (mul binary64 f f)
  square_large =
      let z = mul binary64 f f in
      let h : 1_000_000_000_000_000_000 * den z ≤ num z * 1 = unfold of_int mul in le→cross (mul binary64 (whole 1_000_000_000) (whole 1_000_000_000)) z tt square least in
      omega (arith, h)

  -- ---- a served delay

  delay_finite : (x : MilliTecu) → nat_abs x.0 ≤ 2 ^ 31 → T (finite (metres x f))
  delay_finite x h =
      let product : Small 90 (mul binary64 (tecu x) (whole 403_000_000_000_000_000)) = rw factor_exact.0 (mul_small 59 31 90 refl (unfold round in refl) (tecu x) 12_298_583_984_375 15 (tecu_small x h) (omega arith)) in
      (div_small 90 (unfold round in refl) _ (mul binary64 f f) product square square_large).0

zero_over : (y : Float) → T (positive y) → div binary64 (fin false 0 (pos 0)) y ≡ fin false 0 (pos 0)
unfolding div
zero_over nan p = absurd p
zero_over (inf s) p = absurd p
zero_over (fin true n d) p = absurd p
zero_over (fin false n d) p =
    not_none n _ _ p
    ∙ round_same binary64 false (0 * up (pos 0) * down d) (n * up d * 1) 0 1 (mul-pos (mul-pos (ltb→lt 0 n p) (up_pos d)) (omega arith)) (omega arith) (omega arith)
    ∙ (unfold round in refl)

zero_scaled : mul binary64 (tecu (milli (pos 0))) (whole 403_000_000_000_000_000) ≡ fin false 0 (pos 0)
unfolding mul div of_int
zero_scaled = refl

pub delay_zero : (f : Float) → InBand f → metres (milli (pos 0)) f ≡ fin false 0 (pos 0)
delay_zero f b = ap (λ z. div binary64 z (mul binary64 f f)) zero_scaled ∙ zero_over (mul binary64 f f) (square f b)

-- what is served for a number that signed 32 bits hold has three finite fields
pub served_finite : {x : MilliTecu} {f : Float} (c t m : Float) → SFits w32 x.0 → Delays x f (given c t m) → T (finite c) × (T (finite t) × T (finite m))
served_finite {x = x} {f = f} c t m s (serves b) =
    let h = size_of_fits w32 x.0 s in
    (positive-finite f (in_band f b), ((tecu_small x h).0, delay_finite f b x h))
