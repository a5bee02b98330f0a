-- Reading a number field, by computation. `FieldLaws` ties it to `Form`.
use Rattle.std.specs.Prelude.{ℕ, ◌+◌, ◌-◌, ◌≤◌, ◌≡◌, Bool, true, false, cond, List, [], ◌∷◌, ◌++◌, length, take, drop, eqb, Option, Some, None, ℤ}
use Rattle.std.proofs.Math.Decide.{ℕ_discrete, dec_le}
use Rattle.kit.specs.Answer.{All, pick, ×_dec, all_dec, same}
use Rattle.forms.specs.Form.{Form, Digit, numeral, signed, pointed, dot}

-- what is left after the blanks in front
abbrev pub skip : List ℕ → List ℕ
skip [] = []
skip (b ∷ bs) = cond (eqb b 32) (skip bs) (b ∷ bs)

-- what stands after the sign, cut where the form has its point
abbrev pub whole_of : Form → List ℕ → List ℕ
whole_of fm l = take (length l - (dot fm.after + fm.after)) l

abbrev pub part_of : Form → List ℕ → List ℕ
part_of fm l = drop (length l - fm.after) l

-- these are the form's digits, and l is them with the point
abbrev pub Formed : Form → List ℕ → List ℕ → List ℕ → Type 0
Formed fm whole part l = All Digit (whole ++ part) × ((fm.least ≤ length whole) × ((length part ≡ fm.after) × (l ≡ whole ++ pointed part)))

unfoldable pub formed? : (fm : Form) (whole part l : List ℕ) → Dec (Formed fm whole part l)
formed? fm whole part l =
    ×_dec (all_dec (λ b. ×_dec (dec_le 48 b) (dec_le b 57)) (whole ++ part))
    (×_dec (dec_le fm.least (length whole))
    (×_dec (ℕ_discrete (length part) fm.after)
    (same l (whole ++ pointed part))))

unfoldable pub number_of : Form → Bool → List ℕ → Option ℤ
number_of fm minus l =
    pick (formed? fm (whole_of fm l) (part_of fm l) l) (Some (signed minus (numeral 0 (whole_of fm l ++ part_of fm l)))) None

-- what is left after the blanks: a minus or none, and digits
abbrev pub after_blanks : Form → List ℕ → Option ℤ
after_blanks fm [] = number_of fm false []
after_blanks fm (b ∷ bs) = cond (eqb b 45) (number_of fm true bs) (number_of fm false (b ∷ bs))

unfoldable pub read_field : Form → List ℕ → Option ℤ
read_field fm f = after_blanks fm (skip f)

abbrev pub is_number : Option ℤ → Bool
is_number (Some z) = true
is_number None = false
