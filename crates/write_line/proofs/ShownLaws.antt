-- A row of m values shows 5m bytes: the last of each is a digit.
use mathlib.Core.Path.{◌≡◌, refl, sym, ap, ◌∙◌}
use mathlib.Core.List.{List, [], ◌∷◌, ◌++◌, append_assoc, append-nil}
use Prim.Native.Nat.{ℕ, zero, suc, ◌+◌, ◌-◌, ◌*◌, ◌≤◌, ◌/◌, ◌%◌}
use native.Mathlib.Omega.{arith}
use lib.IntN.{ℤ, nat_abs}
use lib.ListN.{length, take, drop, replicate, drop_of_length-le, length-append}
use lib.Seq.{take_at, take_all, drop-append-le}
use Rattle.forms.specs.Form.{I, sign}
use Rattle.forms.specs.Show.{is_minus, figures, digits, with_point, aligned, show_field}
use Rattle.forms.proofs.ShowLaws.{show_width}
use Rattle.canonical.specs.Canon.{trimmed, cells_of, value_row}
use Rattle.write_line.proofs.LineLaws.{blank_end, shown_end}

-- the last byte is no blank
pub record Ends (l : List ℕ) : Type 0 where
  pub front : List ℕ
  pub last : ℕ
  pub is : l ≡ front ++ (last ∷ [])
  pub shown : ¬ (last ≡ 32)

behind : (x l : List ℕ) → Ends l → Ends (x ++ l)
behind x l e = record { front = x ++ e.front; last = e.last; is = ap (λ y. x ++ y) e.is ∙ sym (append_assoc x e.front (e.last ∷ [])); shown = e.shown }

digits_end : (n : ℕ) → Ends (digits 1 n)
unfolding digits
digits_end zero = record { front = []; last = 48; is = refl; shown = λ e. omega arith }
digits_end (suc n) =
    behind (replicate (1 - length (figures (suc n) (suc n))) 48) (figures (suc n) (suc n))
    (record { front = figures n (suc n / 10); last = 48 + suc n % 10; is = refl; shown = λ e. omega arith })

no_point : (l : List ℕ) → with_point 0 l ≡ l
no_point l =
    let n : length l - 0 ≡ length l = omega arith in
    let h : length l ≤ length l = omega arith in
    rw (n, take_all (length l) l h, drop_of_length-le l h) (append-nil l)

aligned_end : (l : List ℕ) → Ends l → Ends (aligned 5 l)
unfolding aligned
aligned_end l e =
    let p : List ℕ = replicate 5 32 ++ e.front in
    let s : replicate 5 32 ++ l ≡ p ++ (e.last ∷ []) = ap (λ y. replicate 5 32 ++ y) e.is in
    let n : length l ≡ length e.front + 1 = ap length e.is ∙ length-append e.front (e.last ∷ []) in
    let k : length l ≤ length p = rw n (omega arith) in
    record { front = drop (length l) p; last = e.last; is = ap (drop (length l)) s ∙ drop-append-le (length l) p (e.last ∷ []) k; shown = e.shown }

field_end : (z : ℤ) → Ends (show_field I 5 z)
unfolding show_field
field_end z = aligned_end _ (behind (sign (is_minus z)) _ (rw (no_point (digits 1 (nat_abs z))) (digits_end (nat_abs z))))

cells_end : (z : ℤ) (zs : List ℤ) → Ends (cells_of (z ∷ zs))
unfolding cells_of
cells_end z [] = rw (append-nil (show_field I 5 z)) (field_end z)
cells_end z (y ∷ zs) = behind (show_field I 5 z) _ (cells_end y zs)

cells_shown : (zs : List ℤ) → trimmed (cells_of zs) ≡ cells_of zs
cells_shown [] = unfold trimmed cells_of in refl
cells_shown (z ∷ zs) = let e = cells_end z zs in ap trimmed e.is ∙ shown_end e.front e.last e.shown ∙ sym e.is

blanks_end : (n : ℕ) (l : List ℕ) → trimmed (l ++ replicate n 32) ≡ trimmed l
blanks_end zero l = ap trimmed (append-nil l)
blanks_end (suc n) l = ap trimmed (sym (append_assoc l (32 ∷ []) (replicate n 32))) ∙ blanks_end n (l ++ (32 ∷ [])) ∙ blank_end l

cells_width : (zs : List ℤ) → length (cells_of zs) ≡ 5 * length zs
unfolding cells_of
cells_width [] = refl
cells_width (z ∷ zs) = length-append (show_field I 5 z) (cells_of zs) ∙ omega (arith, cells_width zs, show_width I 5 z)

module _ (zs : List ℤ) where
  pub row_shown : take (5 * length zs) (value_row zs) ≡ trimmed (value_row zs)
  unfolding value_row
  row_shown =
      take_at (cells_of zs) (replicate (80 - 5 * length zs) 32) (5 * length zs) (cells_width zs)
      ∙ sym (blanks_end (80 - 5 * length zs) (cells_of zs) ∙ cells_shown zs)

  pub row_holds : 5 * length zs ≤ length (value_row zs)
  unfolding value_row
  row_holds = omega (arith, length-append (cells_of zs) (replicate (80 - 5 * length zs) 32), cells_width zs)
