-- The rows of header records filled field by field.
use mathlib.Core.Path.{◌≡◌, refl, sym, ap, ◌∙◌}
use mathlib.Core.List.{List, [], ◌∷◌, ◌++◌, append_assoc, append-nil}
use Prim.Native.Nat.{ℕ, ◌+◌, ◌<◌}
use native.Mathlib.Omega.{arith}
use lib.IntN.{ℤ, pos}
use lib.ListN.{length, take, drop, get_or, set, replicate, length-append}
use Rattle.forms.specs.Form.{I, W1}
use Rattle.forms.specs.Show.{show_field}
use Rattle.forms.proofs.ShowLaws.{show_width}
use Rattle.mapset.specs.declared.Version.{Version}
use Rattle.layout.specs.Labels.{codes, bytes, name, version}
use Rattle.layout.proofs.Laws.{code_length}
use Rattle.canonical.specs.Canon.{columns_of, version_row}
use Rattle.write_row.proofs.RowLaws.{field_next, longer}
use Rattle.write_head_row.specs.HeadRows.{eight, twenties, four, sixty, letter_counts}

-- a text of w bytes takes w of the blanks behind p
text_next : (p x n row row' : List ℕ) (a w m : ℕ) → length x ≡ w → length p ≡ a → row ≡ p ++ (replicate (w + m) 32 ++ n)
    → row' ≡ take a row ++ (x ++ drop (a + length x) row) → row' ≡ (p ++ x) ++ (replicate m 32 ++ n)
text_next p x n row row' a w m k l e q = q ∙ rw k (field_next p x n row a w m l e)

longer_text : (p x : List ℕ) (a w : ℕ) → length x ≡ w → length p ≡ a → length (p ++ x) ≡ a + w
longer_text p x a w k l = length-append p x ∙ omega arith

module _ (n r₀ : List ℕ) (e₀ : r₀ ≡ replicate 60 32 ++ n) where
  pub eight_filled : (r₁ : List ℕ) (z : ℤ) → r₁ ≡ take 0 r₀ ++ (show_field W1 8 z ++ drop 8 r₀) → r₁ ≡ columns_of eight (z, tt) ++ n
  unfolding columns_of
  eight_filled r₁ z e₁ = e₁ ∙ field_next [] (show_field W1 8 z) n r₀ 0 8 52 refl e₀ ∙ simp (append_assoc, append-nil)

  pub four_filled : (r₁ x : List ℕ) → length x ≡ 4 → r₁ ≡ take 2 r₀ ++ (x ++ drop (2 + length x) r₀) → r₁ ≡ columns_of four (x, tt) ++ n
  unfolding columns_of
  four_filled r₁ x k e₁ = text_next (32 ∷ 32 ∷ []) x n r₀ r₁ 2 4 54 k refl e₀ e₁ ∙ simp (append_assoc, append-nil)

  pub sixty_filled : (r₁ x : List ℕ) → length x ≡ 60 → r₁ ≡ take 0 r₀ ++ (x ++ drop (0 + length x) r₀) → r₁ ≡ columns_of sixty (x, tt) ++ n
  unfolding columns_of
  sixty_filled r₁ x k e₁ = text_next [] x n r₀ r₁ 0 60 0 k refl e₀ e₁ ∙ simp (append_assoc, append-nil)

  pub twenties_filled : (r₁ r₂ r₃ x y z : List ℕ) → length x ≡ 20 → length y ≡ 20 → length z ≡ 20
      → r₁ ≡ take 0 r₀ ++ (x ++ drop (0 + length x) r₀) → r₂ ≡ take 20 r₁ ++ (y ++ drop (20 + length y) r₁) → r₃ ≡ take 40 r₂ ++ (z ++ drop (40 + length z) r₂)
      → r₃ ≡ columns_of twenties (x, (y, (z, tt))) ++ n
  unfolding columns_of
  twenties_filled r₁ r₂ r₃ x y z k l m e₁ e₂ e₃ =
      let f₁ = text_next [] x n r₀ r₁ 0 20 40 k refl e₀ e₁ in
      let f₂ = text_next x y n r₁ r₂ 20 20 20 l k f₁ e₂ in
      text_next (x ++ y) z n r₂ r₃ 40 20 0 m (longer_text x y 20 20 l k) f₂ e₃ ∙ simp (append_assoc, append-nil)

  pub system_filled : (r₁ r₂ : List ℕ) (b : ℕ) (x y : ℤ)
      → r₁ ≡ take 6 (set r₀ 5 b) ++ (show_field I 6 x ++ drop 12 (set r₀ 5 b)) → r₂ ≡ take 12 r₁ ++ (show_field I 6 y ++ drop 18 r₁)
      → r₂ ≡ columns_of letter_counts (b ∷ [], (x, (y, tt))) ++ n
  unfolding columns_of
  system_filled r₁ r₂ b x y e₁ e₂ =
      let p : List ℕ = 32 ∷ 32 ∷ 32 ∷ 32 ∷ 32 ∷ b ∷ [] in
      let f₀ : set r₀ 5 b ≡ p ++ (replicate 54 32 ++ n) = ap (λ r. set r 5 b) e₀ in
      let f₁ = e₁ ∙ field_next p (show_field I 6 x) n (set r₀ 5 b) 6 6 48 refl f₀ in
      e₂ ∙ field_next (p ++ show_field I 6 x) (show_field I 6 y) n r₁ 12 6 42 (longer p I x 6 6 refl) f₁ ∙ simp (append_assoc, append-nil)

pub version_filled : (r₀ r₁ r₂ r₃ : List ℕ) (v : Version) → v.code < 11 → r₀ ≡ replicate 60 32 ++ name version
    → r₁ ≡ take 0 r₀ ++ (show_field W1 8 (pos v.tenths) ++ drop 8 r₀) → r₂ ≡ take 20 r₁ ++ (bytes "IONOSPHERE MAPS" ++ drop 35 r₁)
    → r₃ ≡ take 40 r₂ ++ (get_or codes v.code [] ++ drop (40 + length (get_or codes v.code [])) r₂) → r₃ ≡ version_row v
unfolding version_row
version_filled r₀ r₁ r₂ r₃ v h e₀ e₁ e₂ e₃ =
    let n = name version in
    let t : List ℕ = show_field W1 8 (pos v.tenths) in
    let p₁ : List ℕ = t ++ replicate 12 32 in
    let p₂ : List ℕ = p₁ ++ bytes "IONOSPHERE MAPS     " in
    let l₁ : length p₁ ≡ 20 = length-append t (replicate 12 32) ∙ omega (arith, show_width W1 8 (pos v.tenths)) in
    let l₂ : length p₂ ≡ 40 = length-append p₁ (bytes "IONOSPHERE MAPS     ") ∙ omega arith in
    let f₁ : r₁ ≡ p₁ ++ (replicate 40 32 ++ n) = e₁ ∙ field_next [] t n r₀ 0 8 52 refl e₀ ∙ sym (append_assoc t (replicate 12 32) (replicate 40 32 ++ n)) in
    let f₂ : r₂ ≡ p₂ ++ (replicate 20 32 ++ n) =
    e₂ ∙ field_next p₁ (bytes "IONOSPHERE MAPS") n r₁ 20 15 25 l₁ f₁ ∙ append_assoc p₁ (bytes "IONOSPHERE MAPS") (replicate 25 32 ++ n)
    ∙ sym (append_assoc p₁ (bytes "IONOSPHERE MAPS     ") (replicate 20 32 ++ n)) in
    text_next p₂ (get_or codes v.code []) n r₂ r₃ 40 3 17 (code_length v.code h) l₂ f₂ e₃ ∙ simp append_assoc
