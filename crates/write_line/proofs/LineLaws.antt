-- A row up to its last non-blank byte, and its line in the output.
-- ---- the last non-blank byte
use mathlib.Core.Path.{◌≡◌, refl, sym, ap, ◌∙◌}
use mathlib.Core.List.{List, [], ◌∷◌, ◌++◌, append_assoc}
use Prim.Native.Nat.{ℕ, zero, suc, ◌+◌, ◌-◌, ◌≤◌, ◌<◌}
use native.Mathlib.Numerals.{add-one, sub-one}
use native.Mathlib.Omega.{arith}
use native.Mathlib.Decide.{ℕ_discrete}
use lib.ListN.{length, take, drop, set, get_or, length-append, length-drop}
use lib.Seq.{take-suc, drop-cons, drop-drop, set_at, length-take-le}
use Rattle.kit.specs.Answer.{pick, all_dec}
use Rattle.kit.proofs.AnswerLaws.{pick_yes, pick_no}
use Rattle.kit.proofs.ListLaws.{all_append, all_front, all_behind}
use Rattle.forms.specs.Columns.{Blank}
use Rattle.canonical.specs.Canon.{trimmed, lines_of}
use Rattle.write_line.specs.Put.{Put}

pick_same : {P Q X : Type 0} (d : Dec P) (e : Dec Q) (x y : X) → (P → Q) → (Q → P) → pick d x y ≡ pick e x y
pick_same (yes p) e x y f g = pick_yes (yes p) x y p ∙ sym (pick_yes e x y (f p))
pick_same (no n) e x y f g = pick_no (no n) x y n ∙ sym (pick_no e x y (λ q. n (g q)))

pub blank_end : (xs : List ℕ) → trimmed (xs ++ (32 ∷ [])) ≡ trimmed xs
unfolding trimmed
blank_end [] = pick_yes (all_dec (λ c. ℕ_discrete c 32) (32 ∷ [])) [] _ (refl, tt)
blank_end (x ∷ xs) =
    ap (λ l. pick (all_dec (λ c. ℕ_discrete c 32) (x ∷ (xs ++ (32 ∷ [])))) [] (x ∷ l)) (blank_end xs)
    ∙ pick_same (all_dec (λ c. ℕ_discrete c 32) (x ∷ (xs ++ (32 ∷ [])))) (all_dec (λ c. ℕ_discrete c 32) (x ∷ xs)) [] (x ∷ trimmed xs)
    (λ a. all_front Blank (x ∷ xs) (32 ∷ []) a) (λ a. all_append Blank (x ∷ xs) (32 ∷ []) a (refl, tt))

pub shown_end : (xs : List ℕ) (b : ℕ) → ¬ (b ≡ 32) → trimmed (xs ++ (b ∷ [])) ≡ xs ++ (b ∷ [])
unfolding trimmed
shown_end [] b n = pick_no (all_dec (λ c. ℕ_discrete c 32) (b ∷ [])) [] (b ∷ []) (λ a. n a.0)
shown_end (x ∷ xs) b n =
    pick_no (all_dec (λ c. ℕ_discrete c 32) (x ∷ (xs ++ (b ∷ [])))) [] _ (λ a. n (all_behind Blank (x ∷ xs) (b ∷ []) a).0)
    ∙ ap (λ l. x ∷ l) (shown_end xs b n)

module _ (row : List ℕ) where
  pub one_less : (n : ℕ) → 0 < n → n ≤ length row → get_or row (n - 1) 0 ≡ 32 → trimmed (take (n - 1) row) ≡ trimmed (take n row)
  one_less zero p h e = absurd (omega arith)
  one_less (suc n) p h e =
      let k : get_or row n 0 ≡ 32 = rw sub-one at e in
      rw (sub-one, take-suc row n 0 h, k) (sym (blank_end (take n row)))

  pub ends_here : (n : ℕ) → 0 < n → n ≤ length row → ¬ (get_or row (n - 1) 0 ≡ 32) → trimmed (take n row) ≡ take n row
  ends_here zero p h e = absurd (omega arith)
  ends_here (suc n) p h e =
      rw (take-suc row n 0 h) (shown_end (take n row) (get_or row n 0) (λ k. e (rw sub-one k)))

-- ---- the line

pub part_length : (o : List ℕ) (at n : ℕ) → at + n ≤ length o → length (take (at + n - at) (drop at o)) ≡ n
part_length o at n h =
    let d : at + n - at ≡ n = omega arith in
    rw d (length-take-le n (drop at o) (rw length-drop (omega arith)))

module _ (o row : List ℕ) (at n : ℕ) (b : n ≤ length row) (t : take n row ≡ trimmed row) where
  line_length : at + n + 1 ≡ at + length (lines_of (row ∷ []))
  unfolding lines_of
  line_length = omega (arith, length-append (trimmed row) (10 ∷ []), ap length t, length-take-le n row b)

  -- the bytes are copied to their place, LF behind them
  pub line_put : (q : List ℕ) → at + n < length o → q ≡ take n row
      → Put o at (row ∷ []) (set (take at o ++ (q ++ drop (at + n - at) (drop at o))) (at + n) 10) (at + n + 1)
  unfolding lines_of
  line_put q h e =
      let d : at + n - at ≡ n = omega arith in
      let l : length (take at o) ≡ at = length-take-le at o (omega arith) in
      let w : length q ≡ n = ap length e ∙ length-take-le n row b in
      let f : length (take at o ++ q) ≡ at + n = length-append (take at o) q ∙ omega arith in
      let s : take at o ++ (q ++ drop (at + n - at) (drop at o)) ≡ (take at o ++ q) ++ get_or o (at + n) 0 ∷ drop (suc (at + n)) o =
      rw (d, drop-drop, drop-cons o (at + n) 0 h) (sym (append_assoc (take at o) q (get_or o (at + n) 0 ∷ drop (suc (at + n)) o))) in
      let x : set (take at o ++ (q ++ drop (at + n - at) (drop at o))) (at + n) 10 ≡ (take at o ++ q) ++ 10 ∷ drop (suc (at + n)) o =
      rw s (set_at (take at o ++ q) (get_or o (at + n) 0) (drop (suc (at + n)) o) 10 (at + n) f) in
      record {
        moved = line_length;
        size = ap length x ∙ length-append (take at o ++ q) (10 ∷ drop (suc (at + n)) o) ∙ omega (arith, length-drop (suc (at + n)) o);
        text = λ _. x ∙ rw (e, t, add-one (at + n), append_assoc (take at o) (trimmed row) (10 ∷ drop (suc (at + n)) o), append_assoc (trimmed row) (10 ∷ []) (drop (suc (at + n)) o));
      }

  pub line_over : length o ≤ at + n → Put o at (row ∷ []) o (at + n + 1)
  line_over h = record { moved = line_length; size = refl; text = λ k. absurd (omega arith) }
