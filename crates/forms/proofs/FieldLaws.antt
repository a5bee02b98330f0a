use Rattle.std.specs.Prelude.{Some, None}
-- Reading and the forms agree: a field reads as the number z exactly where its bytes stand for z.
use mathlib.Core.Path.{◌≡◌, refl, sym, ap, ◌∙◌}
use mathlib.Core.Bool.{Bool, true, false, cond}
use mathlib.Core.List.{List, [], ◌∷◌, ◌++◌}
use Prim.Native.Nat.{ℕ, zero, suc, ◌+◌, ◌-◌, ◌≤◌}
use native.Mathlib.Omega.{arith}
use lib.ListN.{length, drop, replicate, length-append, drop_of_length-le}
use lib.Seq.{take_at, drop_at, append_snoc}
use lib.IntN.{ℤ}
use lib.Dec.{eqb}
use borrow.Author.Tests.{ne_eqb, eqb-true}
use Rattle.kit.specs.Answer.{All, pick}
use Rattle.kit.proofs.AnswerLaws.{pick_yes}
use Rattle.forms.specs.Form.{Form, Digit, numeral, sign, signed, pointed, dot, Spells}
use Rattle.forms.specs.Read.{skip, Formed, formed?, whole_of, part_of, number_of, after_blanks, read_field}

-- ---- what the form makes is read

pub pointed_length : (part : List ℕ) → length (pointed part) ≡ dot (length part) + length part
pointed_length [] = refl
pointed_length (d ∷ ds) = omega arith

module _ (fm : Form) (whole part : List ℕ) (p : length part ≡ fm.after) where
  cut_whole : whole_of fm (whole ++ pointed part) ≡ whole
  cut_whole =
      let n = length-append whole (pointed part) in
      let e : length whole ≡ length (whole ++ pointed part) - (dot fm.after + fm.after) = rw (← p) (omega (arith, pointed_length part)) in
      take_at whole (pointed part) _ e

  cut_part : part_of fm (whole ++ pointed part) ≡ part
  cut_part = rw (← p) (go part)
    where
      go : (part : List ℕ) → drop (length (whole ++ pointed part) - length part) (whole ++ pointed part) ≡ part
      go [] =
          let h : length (whole ++ []) ≤ length (whole ++ []) - 0 = omega arith in
          drop_of_length-le (whole ++ []) h
      go (d ∷ ds) =
          let s = append_snoc whole 46 (d ∷ ds) in
          let n = length-append (whole ++ (46 ∷ [])) (d ∷ ds) in
          let e : length (whole ++ (46 ∷ [])) ≡ length (whole ++ (46 ∷ []) ++ d ∷ ds) - length (d ∷ ds) = omega arith in
          rw (← s) (drop_at (whole ++ (46 ∷ [])) (d ∷ ds) _ e)

  number_made : (minus : Bool) → All Digit (whole ++ part) → fm.least ≤ length whole
      → number_of fm minus (whole ++ pointed part) ≡ Some (signed minus (numeral 0 (whole ++ part)))
  unfolding number_of
  number_made minus h k = rw (cut_whole, cut_part) (pick_yes _ _ _ (h, (k, (p, refl))))

skip_blanks : (n : ℕ) (l : List ℕ) → skip (replicate n 32 ++ l) ≡ skip l
skip_blanks zero l = refl
skip_blanks (suc n) l = skip_blanks n l

-- neither a blank nor a minus stands first
abbrev Fresh : List ℕ → Type 0
Fresh [] = Unit {0}
Fresh (b ∷ bs) = (b ≡ 32 → ⊥) × (b ≡ 45 → ⊥)

fresh : (whole part : List ℕ) → All Digit (whole ++ part) → Fresh (whole ++ pointed part)
fresh [] [] h = tt
fresh [] (d ∷ ds) h = ((λ e. omega arith), (λ e. omega arith))
fresh (d ∷ ds) part h = let k = h.0 in ((λ e. omega arith), (λ e. omega arith))

-- skipping ends at a byte that is no blank: what stands behind it stays
skip_ends : (b : ℕ) (bs : List ℕ) → ¬ (b ≡ 32) → skip (b ∷ bs) ≡ b ∷ bs
skip_ends b bs h = ap (λ (t : Bool). cond t (skip bs) (b ∷ bs)) (ne_eqb b 32 h)

sign_read : (fm : Form) (minus : Bool) (l : List ℕ) → Fresh l → after_blanks fm (skip (sign minus ++ l)) ≡ number_of fm minus l
sign_read fm true l h = refl
sign_read fm false [] h = refl
sign_read fm false (b ∷ bs) h =
    ap (after_blanks fm) (skip_ends b bs h.0) ∙ ap (λ (t : Bool). cond t (number_of fm true bs) (number_of fm false (b ∷ bs))) (ne_eqb b 45 h.1)

module _ {fm : Form} {w : ℕ} {z : ℤ} {f : List ℕ} where
  pub read_made : Spells fm w z f → read_field fm f ≡ Some z
  unfolding read_field
  read_made s =
      let l = s.whole ++ pointed s.part in
      ap (λ (l : List ℕ). after_blanks fm (skip l)) s.bytes
      ∙ ap (after_blanks fm) (skip_blanks s.blanks (sign s.minus ++ l))
      ∙ sign_read fm s.minus l (fresh s.whole s.part s.digits)
      ∙ number_made fm s.whole s.part s.places s.minus s.digits s.enough
      ∙ ap Some (sym s.number)

  pub spells_width : Spells fm w z f → length f ≡ w
  spells_width s = s.width

pub spells_once : {fm : Form} {w : ℕ} {z z' : ℤ} {f : List ℕ} → Spells fm w z f → Spells fm w z' f → z ≡ z'
spells_once s t = cc (read_made s, read_made t)

-- ---- what is read, the form makes

skip_sound : (f : List ℕ) → (n : ℕ) × (f ≡ replicate n 32 ++ skip f)
skip_sound [] = (0, refl)
skip_sound (b ∷ bs) = go (eqb b 32) refl (skip_sound bs)
  where
    go : (t : Bool) → eqb b 32 ≡ t → (n : ℕ) × (bs ≡ replicate n 32 ++ skip bs) → (n : ℕ) × (b ∷ bs ≡ replicate n 32 ++ cond t (skip bs) (b ∷ bs))
    go true p ih = (suc ih.0, rw (eqb-true b 32 p) (ap (◌∷◌ 32) ih.1))
    go false p ih = (0, refl)

picked : {P : Type 0} (d : Dec P) (x z : ℤ) → pick d (Some x) None ≡ Some z → P × (z ≡ x)
unfolding pick
picked (yes p) x z e = (p, cc)
picked (no n) x z e = let y : ◌≡◌ {A = ℕ} 0 1 = cc in absurd (omega arith)

-- l is a minus or none, and what is formed
record Signed (fm : Form) (z : ℤ) (l : List ℕ) : Type 0 where
  minus : Bool
  rest : List ℕ
  formed : Formed fm (whole_of fm rest) (part_of fm rest) rest
  bytes : l ≡ sign minus ++ rest
  number : z ≡ signed minus (numeral 0 (whole_of fm rest ++ part_of fm rest))

module _ {fm : Form} {z : ℤ} where
  number_sound : (minus : Bool) (l : List ℕ) → number_of fm minus l ≡ Some z → Signed fm z (sign minus ++ l)
  unfolding number_of
  number_sound minus l e =
      let p = picked (formed? fm (whole_of fm l) (part_of fm l) l) _ z e in
      record { minus = minus; rest = l; formed = p.0; bytes = refl; number = p.1 }

  sign_sound : (l : List ℕ) → after_blanks fm l ≡ Some z → Signed fm z l
  sign_sound [] e = number_sound false [] e
  sign_sound (b ∷ bs) e = go (eqb b 45) refl e
    where
      go : (t : Bool) → eqb b 45 ≡ t → cond t (number_of fm true bs) (number_of fm false (b ∷ bs)) ≡ Some z → Signed fm z (b ∷ bs)
      go true p r = rw (eqb-true b 45 p) (number_sound true bs r)
      go false p r = number_sound false (b ∷ bs) r

  pub made_read : (f : List ℕ) → read_field fm f ≡ Some z → Spells fm (length f) z f
  unfolding read_field
  made_read f e =
      let k = skip_sound f in
      let s = sign_sound (skip f) e in
      let d = s.formed in
      record {
        blanks = k.0;
        minus = s.minus;
        whole = whole_of fm s.rest;
        part = part_of fm s.rest;
        digits = d.0;
        enough = d.1.0;
        places = d.1.1.0;
        bytes = k.1 ∙ ap (λ (l : List ℕ). replicate k.0 32 ++ l) (s.bytes ∙ ap (λ (l : List ℕ). sign s.minus ++ l) d.1.1.1);
        number = s.number;
        width = refl;
      }
