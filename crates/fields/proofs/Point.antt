use Rattle.std.specs.Prelude.{Some}
-- A field with digits after the point: its bytes in front of the point, and those after it.
use mathlib.Core.Path.{◌≡◌, refl, sym, ap, ◌∙◌}
use mathlib.Core.Bool.{Bool, true, false, ◌&&◌}
use mathlib.Core.List.{List, [], ◌∷◌, ◌++◌}
use Prim.Native.Nat.{ℕ, zero, suc, ◌+◌, ◌-◌, ◌^◌, ◌≤◌, ◌<◌}
use native.Mathlib.Nat.{pow-le-pow_right}
use native.Mathlib.Numerals.{add-one}
use native.Mathlib.Omega.{arith}
use lib.ListN.{length, get_or, take, drop, length-append, length-drop}
use lib.Seq.{take_at, drop_at, get_or_at, append_snoc, split_at}
use lib.Pow.{pow-add}
use lib.IntN.{ℤ}
use lib.Dec.{eqb}
use borrow.Author.Tests.{eq-eqb, eqb-true}
use Rattle.kit.specs.Answer.{All}
use Rattle.kit.proofs.TruthLaws.{and_true}
use Rattle.forms.specs.Form.{fewest, decimal, I, Digit, numeral, signed, pointed, dot}
use Rattle.forms.specs.Read.{read_field, is_number}
use Rattle.forms.proofs.ShowLaws.{numeral_below}
use Rattle.forms.specs.Bytes.{has_minus, Small}
use Rattle.fields.proofs.Judged.{Parts, well, well_lead, well_last, lead_well, well_digits, digits_well, whole_below, judged, judged_parts, parts_number, int_judged}
use Rattle.fields.proofs.Steps.{drop_next}

-- a point in front of one or more digits
point_digits : (part : List ℕ) → 0 < length part → pointed part ≡ 46 ∷ part
point_digits [] h = absurd (omega arith)
point_digits (d ∷ ds) h = refl

pub dot_most : (after : ℕ) → dot after ≤ 1
dot_most zero = omega arith
dot_most (suc n) = omega arith

-- where the point stands
abbrev pub point_at : List ℕ → ℕ → ℕ
point_at f after = length f - after - 1

module _ (after : ℕ) (some : 0 < after) (f : List ℕ) where
  -- ---- the parts of a field that is a number

  record Cut (z : ℤ) (p : Parts after z f) : Type 0 where
    size : length f ≡ length p.front + (1 + after)
    front : take (point_at f after) f ≡ p.front
    point : get_or f (point_at f after) 0 ≡ 46
    part : drop (point_at f after + 1) f ≡ p.part

  cut : (z : ℤ) (p : Parts after z f) → Cut z p
  cut z p =
      let k = p.places in
      let g = p.front in
      let whole : f ≡ g ++ 46 ∷ p.part = p.bytes ∙ ap (λ (l : List ℕ). g ++ l) (point_digits p.part (omega arith)) in
      let size : length f ≡ length g + suc (length p.part) = ap length whole ∙ length-append g (46 ∷ p.part) in
      let here : length g ≡ point_at f after = omega arith in
      let next : length (g ++ (46 ∷ [])) ≡ point_at f after + 1 = length-append g (46 ∷ []) ∙ omega arith in
      record {
        size = omega arith;
        front = ap (take (point_at f after)) whole ∙ take_at g (46 ∷ p.part) _ here;
        point = ap (λ (l : List ℕ). get_or l (point_at f after) 0) whole ∙ get_or_at g 46 p.part 0 _ here;
        part = ap (drop (point_at f after + 1)) (whole ∙ sym (append_snoc g 46 p.part)) ∙ drop_at (g ++ (46 ∷ [])) p.part _ next;
      }

  module _ (e : is_number (read_field (decimal after) f) ≡ true) where
    pub decimal_long : after < length f
    decimal_long = let j = judged_parts after f e in let n = (cut j.0 j.2).size in omega arith

    pub decimal_number : Some (signed (has_minus (take (point_at f after) f)) (numeral (numeral 0 (take (point_at f after) f)) (drop (point_at f after + 1) f))) ≡ read_field (decimal after) f
    decimal_number =
        let j = judged_parts after f e in
        let c = cut j.0 j.2 in
        rw (c.front, c.part) (sym (j.1 ∙ ap Some (parts_number j.2)))

    pub decimal_small : length f ≤ 10 → Small (take (point_at f after) f) (drop (point_at f after + 1) f)
    decimal_small h =
        let j = judged_parts after f e in
        let c = cut j.0 j.2 in
        let g = j.2.front in
        let q = j.2.part in
        let size = c.size in
        let m : length g + length q ≤ 9 = omega (arith, j.2.places) in
        let k : length g ≤ 9 = omega arith in
        let front = whole_below j.2.whole in
        let both = numeral_below _ _ q j.2.digits front in
        let small : 10 ^ length g ≤ 10 ^ 9 = pow-le-pow_right (omega arith) k in
        let power : 10 ^ (length g + length q) ≤ 10 ^ 9 = pow-le-pow_right (omega arith) m in
        rw (c.front, c.part) (record { columns = m; whole = omega arith; all = omega (arith, pow-add 10 (length g) (length q)) })

  -- ---- the test

  none_asked : (n : ℕ) → fewest after ≤ n
  none_asked n = go after some
    where
      go : (m : ℕ) → 0 < m → fewest m ≤ n
      go zero h = absurd (omega arith)
      go (suc m) h = omega arith

  module _ (long : after < length f) (x y : Bool) (ex : x ≡ is_number (read_field I (take (point_at f after) f ++ (get_or f (point_at f after + 1) 0 ∷ [])))) (ey : y ≡ is_number (read_field I (drop (point_at f after + 1) f))) where
    abbrev test : Bool
    test = (x && eqb (get_or f (point_at f after) 0) 46) && y

    next : drop (point_at f after + 1) f ≡ get_or f (point_at f after + 1) 0 ∷ drop (point_at f after + 1 + 1) f
    next = drop_next f (point_at f after + 1) (omega arith)

    passes : test ≡ true → (z : ℤ) × Parts after z f
    passes e =
        let k = point_at f after in
        let a = and_true (x && eqb (get_or f k 0) 46) y e in
        let d = and_true x (eqb (get_or f k 0) 46) a.0 in
        let led : well (take k f ++ (get_or f (k + 1) 0 ∷ [])) ≡ true = int_judged _ ∙ sym ex ∙ d.0 in
        let w = well_lead (take k f) (get_or f (k + 1) 0) led in
        let last : well (drop (k + 1) f) ≡ true = int_judged (drop (k + 1) f) ∙ sym ey ∙ a.1 in
        let point : get_or f k 0 ≡ 46 = eqb-true (get_or f k 0) 46 d.1 in
        let size : length (drop (k + 1) f) ≡ after = length-drop (k + 1) f ∙ omega arith in (
          _,
          record {
            minus = w.0;
            ds = w.1;
            front = take k f;
            part = drop (k + 1) f;
            whole = w.2;
            enough = none_asked (length w.1);
            digits = rw next (well_digits (get_or f (k + 1) 0) (drop (k + 1 + 1) f) (well_last (take k f) _ led) (rw next at last));
            places = size;
            bytes = split_at f k 0 (omega arith) ∙ (rw (point, point_digits (drop (k + 1) f) (omega arith), add-one));
            number = refl;
          },
        )

    passed : (z : ℤ) → Parts after z f → test ≡ true
    passed z p =
        let k = point_at f after in
        let c = cut z p in
        let digits : All Digit (get_or f (k + 1) 0 ∷ drop (k + 1 + 1) f) = rw (← c.part, next) at p.digits in
        let one : x ≡ true = ex ∙ sym (int_judged _) ∙ ap (λ (l : List ℕ). well (l ++ (get_or f (k + 1) 0 ∷ []))) c.front ∙ lead_well p.whole digits.0 in
        let two : y ≡ true = ey ∙ sym (int_judged (drop (k + 1) f)) ∙ ap well next ∙ digits_well (get_or f (k + 1) 0) (drop (k + 1 + 1) f) digits in
        rw (one, two, eq-eqb _ _ c.point)

    pub decimal_judged : test ≡ is_number (read_field (decimal after) f)
    decimal_judged = judged after f test passes passed

  pub decimal_short : length f ≤ after → false ≡ is_number (read_field (decimal after) f)
  decimal_short h = judged after f false (λ e. let z : ◌≡◌ {A = ℕ} 0 1 = cc in absurd (omega arith)) (λ z p. let n = (cut z p).size in absurd (omega arith))
