-- What five columns spell is -9999 to 99999.
use mathlib.Core.Path.{◌≡◌, refl, sym, ap, ◌∙◌}
use mathlib.Core.Bool.{Bool, true, false}
use mathlib.Core.List.{List, [], ◌∷◌, ◌++◌}
use Prim.Native.Nat.{ℕ, zero, suc, ◌+◌, ◌-◌, ◌*◌, ◌≤◌}
use native.Mathlib.Omega.{arith}
use native.Mathlib.Nat.{mul_assoc, mul-le-mul_right}
use lib.ListN.{length, replicate, length-append, length-replicate}
use lib.IntN.{ℤ, pos, neg_ℤ}
use Rattle.kit.proofs.ListLaws.{all_append}
use Rattle.kit.specs.Answer.{All}
use Rattle.kit.proofs.Parts.{neg_up, neg_dn, le_parts}
use Rattle.forms.specs.Form as form
use Rattle.forms.specs.Form.{Spells, Digit, numeral, sign, signed, pointed}
use Rattle.layout.specs.Records.{Cells, c_blank, c_value, ValueRows, v_last, v_full}
use Rattle.areas.specs.Value.{Value}

-- k digits
abbrev tens : ℕ → ℕ
tens zero = 1
tens (suc k) = 10 * tens k

below_tens : (k a : ℕ) (ds : List ℕ) → All Digit ds → length ds ≤ k → suc (numeral a ds) ≤ suc a * tens k
below_tens zero a [] h l = omega arith
below_tens zero a (d ∷ ds) h l = absurd (omega arith)
below_tens (suc k) a [] h l = let i = below_tens k a [] tt (omega arith) in omega (arith, mul_assoc (suc a) 10 (tens k), mul-le-mul_right (tens k) (let z : suc a ≤ suc a * 10 = omega arith in z))
below_tens (suc k) a (d ∷ ds) h l =
    let i = below_tens k (a * 10 + (d - 48)) ds h.1 (omega arith) in
    let z : suc (a * 10 + (d - 48)) ≤ suc a * 10 = omega (arith, h.0.1) in
    omega (arith, mul_assoc (suc a) 10 (tens k), mul-le-mul_right (tens k) z)

in_range : (minus : Bool) (ds : List ℕ) → All Digit ds → length (sign minus) + length ds ≤ 5 → Value (signed minus (numeral 0 ds))
in_range false ds h l =
    let b = below_tens 5 0 ds h (omega arith) in
    record { from = le_parts _ (pos (numeral 0 ds)) (omega arith); to = le_parts (pos (numeral 0 ds)) _ (omega arith) }
in_range true ds h l =
    let b = below_tens 4 0 ds h (omega arith) in
    let z : ℤ = neg_ℤ (pos (numeral 0 ds)) in
    let u = neg_up (pos (numeral 0 ds)) in
    let d = neg_dn (pos (numeral 0 ds)) in
    record { from = le_parts _ z (omega arith); to = le_parts z _ (omega arith) }

no_part : (part : List ℕ) → length part ≡ 0 → pointed part ≡ part
no_part [] e = refl
no_part (d ∷ ds) e = absurd (omega arith)

spelt : {z : ℤ} {f : List ℕ} → Spells form.I 5 z f → Value z
spelt s =
    let ds : List ℕ = s.whole ++ s.part in
    let e : 5 ≡ s.blanks + (length (sign s.minus) + length ds) =
    sym s.width ∙ ap length s.bytes ∙ length-append (replicate s.blanks 32) _ ∙ (λ i. length-replicate {A = ℕ} s.blanks 32 i + length-append (sign s.minus) (s.whole ++ no_part s.part s.places i) i) in
    rw s.number (in_range s.minus ds s.digits (omega arith))

cells_values : {zs : List ℤ} {bs : List ℕ} → Cells zs bs → All Value zs
cells_values (c_blank g) = tt
cells_values (c_value bs s h) = (spelt s, cells_values h)

pub rows_values : {zs : List ℤ} {vs : List (List ℕ)} → ValueRows zs vs → All Value zs
rows_values (v_last a b z x) = cells_values x
rows_values (v_full {zs} {more} a z x v) = all_append Value zs more (cells_values x) (rows_values v)
