-- One byte of a field, as the loops pass it.
use mathlib.Core.Path.{◌≡◌, refl, sym, ap, ◌∙◌}
use mathlib.Core.Bool.{Bool, true, false, ◌&&◌, ◌||◌, or-false}
use mathlib.Core.List.{List, [], ◌∷◌, ◌++◌}
use Prim.Native.Nat.{ℕ, ◌+◌, ◌-◌, ◌*◌, ◌^◌, ◌≤◌, ◌<◌}
use native.Mathlib.Nat.{pow-suc, pow-le-pow_right}
use native.Mathlib.Numerals.{add-one}
use native.Mathlib.Omega.{arith}
use lib.ListN.{length, get_or, drop, drop_of_length-le}
use lib.Seq.{drop-cons}
use lib.Dec.{eqb}
use Rattle.kit.proofs.TruthLaws.{and_assoc}
use Rattle.forms.specs.Form.{numeral}
use Rattle.forms.specs.Bytes.{is_digit, may_precede, has_minus}
use Rattle.fields.proofs.Judged.{well}

pub drop_next : (f : List ℕ) (i : ℕ) → i < length f → drop i f ≡ get_or f i 0 ∷ drop (i + 1) f
drop_next f i h = rw (add-one, drop-cons f i 0 h)

pub drop_end : (f : List ℕ) (i : ℕ) → length f ≤ i → drop i f ≡ []
drop_end f i h = drop_of_length-le f h

-- ---- the minus

or_assoc : (x y z : Bool) → (x || (y || z)) ≡ ((x || y) || z)
or_assoc true y z = refl
or_assoc false y z = refl

module _ (f : List ℕ) (i : ℕ) (minus : Bool) where
  pub minus_next : i < length f → (minus || has_minus (drop i f)) ≡ ((minus || eqb (get_or f i 0) 45) || has_minus (drop (i + 1) f))
  minus_next h = rw (drop_next f i h) (or_assoc minus (eqb (get_or f i 0) 45) (has_minus (drop (i + 1) f)))

  pub minus_end : length f ≤ i → (minus || has_minus (drop i f)) ≡ minus
  minus_end h = rw (drop_end f i h) (or-false minus)

-- ---- the digits' number; a byte counts at most 207

pub numeral_next : (f : List ℕ) (i n b : ℕ) → i < length f → b ≡ get_or f i 0 - 48 → numeral n (drop i f) ≡ numeral (n * 10 + b) (drop (i + 1) f)
numeral_next f i n b h e = rw (drop_next f i h, e)

pub numeral_end : (f : List ℕ) (i n : ℕ) → length f ≤ i → numeral n (drop i f) ≡ n
numeral_end f i n h = rw (drop_end f i h)

pub tens_next : (n b i : ℕ) → n + 23 ≤ 1000000023 * 10 ^ i → b ≤ 207 → (n * 10 + b) + 23 ≤ 1000000023 * 10 ^ (i + 1)
tens_next n b i h k = rw (add-one, pow-suc) (omega arith)

pub tens_small : (n i : ℕ) → n + 23 ≤ 1000000023 * 10 ^ i → i ≤ 8 → n < 100000003000000000
tens_small n i h k =
    let e : 10 ^ i ≤ 10 ^ 8 = pow-le-pow_right (omega arith) k in
    omega arith

-- ---- neighbours

module _ (f : List ℕ) (i : ℕ) (ok : Bool) where
  pub well_next : i + 1 < length f → (ok && well (drop i f)) ≡ ((ok && may_precede (get_or f i 0) (get_or f (i + 1) 0)) && well (drop (i + 1) f))
  well_next h =
      let k : i < length f = omega arith in
      let two : drop i f ≡ get_or f i 0 ∷ get_or f (i + 1) 0 ∷ drop (i + 1 + 1) f = drop_next f i k ∙ ap (◌∷◌ (get_or f i 0)) (drop_next f (i + 1) h) in
      rw (two, drop_next f (i + 1) h) (and_assoc ok (may_precede (get_or f i 0) (get_or f (i + 1) 0)) (well (get_or f (i + 1) 0 ∷ drop (i + 1 + 1) f)))

  pub well_end : i + 1 ≡ length f → (ok && well (drop i f)) ≡ (ok && is_digit (get_or f i 0))
  well_end h =
      let k : i < length f = omega arith in
      rw (drop_next f i k, drop_end f (i + 1) (omega arith))

-- ---- what stands before a digit d, from its end on

-- from place i on, and with d, it is all well so far, and begins with `next`
pub record Led (f : List ℕ) (d : ℕ) (ok : Bool) (next i : ℕ) : Type 0 where
  pub rest : List ℕ
  pub bytes : drop i f ++ (d ∷ []) ≡ next ∷ rest
  pub so : ok ≡ well (next ∷ rest)

module _ (f : List ℕ) (d : ℕ) where
  pub led_end : Led f d (is_digit d) d (length f)
  led_end = record { rest = []; bytes = ap (λ (l : List ℕ). l ++ (d ∷ [])) (drop_end f (length f) (omega arith)); so = refl }

  pub led_next : {ok : Bool} {next : ℕ} (i : ℕ) → 0 < i → i ≤ length f → Led f d ok next i → Led f d (may_precede (get_or f (i - 1) 0) next && ok) (get_or f (i - 1) 0) (i - 1)
  led_next {ok} {next} i h k l =
      let e : i - 1 + 1 ≡ i = omega arith in
      record {
        rest = next ∷ l.rest;
        bytes = ap (λ (l : List ℕ). l ++ (d ∷ [])) (drop_next f (i - 1) (omega arith) ∙ ap (λ (j : ℕ). get_or f (i - 1) 0 ∷ drop j f) e) ∙ ap (◌∷◌ (get_or f (i - 1) 0)) l.bytes;
        so = ap (λ (t : Bool). may_precede (get_or f (i - 1) 0) next && t) l.so;
      }

  pub led_whole : {ok : Bool} {next : ℕ} (i : ℕ) → i ≡ 0 → Led f d ok next i → ok ≡ well (f ++ (d ∷ []))
  led_whole i z l = l.so ∙ ap well (sym l.bytes ∙ ap (λ (j : ℕ). drop j f ++ (d ∷ [])) z)
