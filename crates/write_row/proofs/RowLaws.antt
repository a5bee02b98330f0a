-- Rows filled field by field from the left.
-- a field x is put behind p, where w blanks stand
use mathlib.Core.Path.{◌≡◌, refl, sym, ap, ◌∙◌}
use mathlib.Core.List.{List, [], ◌∷◌, ◌++◌, append_assoc, append-nil}
use Prim.Native.Nat.{ℕ, ◌+◌, ◌-◌, ◌*◌, ◌≤◌, ◌<◌}
use native.Mathlib.Numerals.{add-one}
use native.Mathlib.Omega.{arith}
use lib.IntN.{ℤ, pos}
use lib.ListN.{length, take, drop, get_or, replicate, length-append, length-replicate, replicate-append-replicate}
use lib.Seq.{take-suc, take_at, drop_at, length-take-le, take-length}
use Rattle.forms.specs.Form.{Form, I, W1}
use Rattle.forms.specs.Show.{show_field}
use Rattle.forms.proofs.ShowLaws.{show_width}
use Rattle.layout.specs.Labels.{name, block}
use Rattle.layout.specs.Names.{names}
use Rattle.canonical.specs.Canon.{columns_of, row_of, cells_of, value_row}
use Rattle.write_row.specs.Rows.{row_at, whole, three, six_whole}

field_put : (p x rest : List ℕ) (a w : ℕ) → length p ≡ a
    → take a (p ++ (replicate w 32 ++ rest)) ++ (x ++ drop (a + w) (p ++ (replicate w 32 ++ rest))) ≡ (p ++ x) ++ rest
field_put p x rest a w e =
    let t = take_at p (replicate w 32 ++ rest) a e in
    let l : length (p ++ replicate {A = ℕ} w 32) ≡ a + w = length-append p (replicate w 32) ∙ omega (arith, length-replicate {A = ℕ} w 32) in
    let d : drop (a + w) (p ++ (replicate w 32 ++ rest)) ≡ rest =
    ap (λ s. drop (a + w) s) (sym (append_assoc p (replicate w 32) rest)) ∙ drop_at (p ++ replicate w 32) rest (a + w) l in
    rw (t, d) (sym (append_assoc p x rest))

-- ---- a label

pub label_put : (label row : List ℕ) → length label ≡ 20 → row ≡ take 60 (replicate 80 32) ++ (label ++ drop (60 + length label) (replicate 80 32)) → row ≡ replicate 60 32 ++ label
label_put label row n e = e ∙ rw (n, append-nil)

-- ---- values

cells_width : (zs : List ℤ) → length (cells_of zs) ≡ 5 * length zs
unfolding cells_of
cells_width [] = refl
cells_width (z ∷ zs) = length-append (show_field I 5 z) (cells_of zs) ∙ omega (arith, cells_width zs, show_width I 5 z)

cells_append : (xs ys : List ℤ) → cells_of (xs ++ ys) ≡ cells_of xs ++ cells_of ys
unfolding cells_of
cells_append [] ys = refl
cells_append (x ∷ xs) ys = ap (λ l. show_field I 5 x ++ l) (cells_append xs ys) ∙ sym (append_assoc (show_field I 5 x) (cells_of xs) (cells_of ys))

cells_one : (z : ℤ) → cells_of (z ∷ []) ≡ show_field I 5 z
unfolding cells_of
cells_one z = append-nil (show_field I 5 z)

-- one value more
pub value_next : (zs : List ℤ) (row : List ℕ) (i : ℕ) → i < length zs → length zs ≤ 16 → row ≡ cells_of (take i zs) ++ replicate (80 - 5 * i) 32
    → take (5 * i) row ++ (show_field I 5 (get_or zs i (pos 0)) ++ drop (5 * i + 5) row) ≡ cells_of (take (i + 1) zs) ++ replicate (80 - 5 * (i + 1)) 32
value_next zs row i h u e =
    let z = get_or zs i (pos 0) in
    let b : replicate {A = ℕ} (80 - 5 * i) 32 ≡ replicate 5 32 ++ replicate (80 - 5 * (i + 1)) 32 =
    let q : 80 - 5 * i ≡ 5 + (80 - 5 * (i + 1)) = omega arith in rw q (sym (replicate-append-replicate 5 (80 - 5 * (i + 1)) 32)) in
    let l : length (cells_of (take i zs)) ≡ 5 * i = cells_width (take i zs) ∙ omega (arith, length-take-le i zs (omega arith)) in
    let c : cells_of (take (i + 1) zs) ≡ cells_of (take i zs) ++ show_field I 5 z =
    rw (add-one, take-suc zs i (pos 0) h, cells_append, cells_one) in
    let r : row ≡ cells_of (take i zs) ++ (replicate 5 32 ++ replicate (80 - 5 * (i + 1)) 32) = e ∙ ap (λ s. cells_of (take i zs) ++ s) b in
    rw (r, c) (field_put (cells_of (take i zs)) (show_field I 5 z) (replicate (80 - 5 * (i + 1)) 32) (5 * i) 5 l)

pub row_width : (zs : List ℤ) (row : List ℕ) (i : ℕ) → i ≤ length zs → length zs ≤ 16 → row ≡ cells_of (take i zs) ++ replicate (80 - 5 * i) 32 → length row ≡ 80
row_width zs row i h u e =
    ap length e ∙ length-append (cells_of (take i zs)) (replicate (80 - 5 * i) 32)
    ∙ omega (arith, cells_width (take i zs), length-take-le i zs h, length-replicate {A = ℕ} (80 - 5 * i) 32)

pub value_done : (zs : List ℤ) (row : List ℕ) (i : ℕ) → length zs ≤ i → i ≤ length zs → row ≡ cells_of (take i zs) ++ replicate (80 - 5 * i) 32 → row ≡ value_row zs
unfolding value_row
value_done zs row i h k e =
    let q : i ≡ length zs = omega arith in
    let t : take i zs ≡ zs = rw q (take-length zs) in
    e ∙ rw (t, q)

-- ---- a record's fields

-- behind p stand w + m blanks and the label n; the next field x takes w of them
pub field_next : (p x n row : List ℕ) (a w m : ℕ) → length p ≡ a → row ≡ p ++ (replicate (w + m) 32 ++ n)
    → take a row ++ (x ++ drop (a + w) row) ≡ (p ++ x) ++ (replicate m 32 ++ n)
field_next p x n row a w m l e =
    let b : replicate (w + m) 32 ++ n ≡ replicate w 32 ++ (replicate m 32 ++ n) =
    ap (λ s. s ++ n) (sym (replicate-append-replicate w m 32)) ∙ append_assoc (replicate w 32) (replicate m 32) n in
    rw (e ∙ ap (λ s. p ++ s) b) (field_put p x (replicate m 32 ++ n) a w l)

pub longer : (p : List ℕ) (fm : Form) (z : ℤ) (a w : ℕ) → length p ≡ a → length (p ++ show_field fm w z) ≡ a + w
longer p fm z a w l = length-append p (show_field fm w z) ∙ omega (arith, show_width fm w z)

module _ (n r₀ : List ℕ) (e₀ : r₀ ≡ replicate 60 32 ++ n) where
  pub whole_filled : (r₁ : List ℕ) (z : ℤ) → r₁ ≡ take 0 r₀ ++ (show_field I 6 z ++ drop 6 r₀) → r₁ ≡ columns_of whole (z, tt) ++ n
  unfolding columns_of
  whole_filled r₁ z e₁ = e₁ ∙ field_next [] (show_field I 6 z) n r₀ 0 6 54 refl e₀ ∙ simp (append_assoc, append-nil)

  pub three_filled : (r₁ r₂ r₃ : List ℕ) (x y z : ℤ)
      → r₁ ≡ take 2 r₀ ++ (show_field W1 6 x ++ drop 8 r₀) → r₂ ≡ take 8 r₁ ++ (show_field W1 6 y ++ drop 14 r₁) → r₃ ≡ take 14 r₂ ++ (show_field W1 6 z ++ drop 20 r₂)
      → r₃ ≡ columns_of three (x, (y, (z, tt))) ++ n
  unfolding columns_of
  three_filled r₁ r₂ r₃ x y z e₁ e₂ e₃ =
      let p₁ : List ℕ = (32 ∷ 32 ∷ []) ++ show_field W1 6 x in
      let p₂ : List ℕ = p₁ ++ show_field W1 6 y in
      let l₁ : length p₁ ≡ 8 = longer (32 ∷ 32 ∷ []) W1 x 2 6 refl in
      let l₂ : length p₂ ≡ 14 = longer p₁ W1 y 8 6 l₁ in
      let f₁ = e₁ ∙ field_next (32 ∷ 32 ∷ []) (show_field W1 6 x) n r₀ 2 6 52 refl e₀ in
      let f₂ = e₂ ∙ field_next p₁ (show_field W1 6 y) n r₁ 8 6 46 l₁ f₁ in
      e₃ ∙ field_next p₂ (show_field W1 6 z) n r₂ 14 6 40 l₂ f₂ ∙ simp (append_assoc, append-nil)

  pub six_filled : (r₁ r₂ r₃ r₄ r₅ r₆ : List ℕ) (a b c d e f : ℤ)
      → r₁ ≡ take 0 r₀ ++ (show_field I 6 a ++ drop 6 r₀) → r₂ ≡ take 6 r₁ ++ (show_field I 6 b ++ drop 12 r₁) → r₃ ≡ take 12 r₂ ++ (show_field I 6 c ++ drop 18 r₂)
      → r₄ ≡ take 18 r₃ ++ (show_field I 6 d ++ drop 24 r₃) → r₅ ≡ take 24 r₄ ++ (show_field I 6 e ++ drop 30 r₄) → r₆ ≡ take 30 r₅ ++ (show_field I 6 f ++ drop 36 r₅)
      → r₆ ≡ columns_of six_whole (a, (b, (c, (d, (e, (f, tt)))))) ++ n
  unfolding columns_of
  six_filled r₁ r₂ r₃ r₄ r₅ r₆ a b c d e f e₁ e₂ e₃ e₄ e₅ e₆ =
      let p₁ : List ℕ = show_field I 6 a in
      let p₂ : List ℕ = p₁ ++ show_field I 6 b in
      let p₃ : List ℕ = p₂ ++ show_field I 6 c in
      let p₄ : List ℕ = p₃ ++ show_field I 6 d in
      let p₅ : List ℕ = p₄ ++ show_field I 6 e in
      let l₁ : length p₁ ≡ 6 = show_width I 6 a in
      let l₂ : length p₂ ≡ 12 = longer p₁ I b 6 6 l₁ in
      let l₃ : length p₃ ≡ 18 = longer p₂ I c 12 6 l₂ in
      let l₄ : length p₄ ≡ 24 = longer p₃ I d 18 6 l₃ in
      let l₅ : length p₅ ≡ 30 = longer p₄ I e 24 6 l₄ in
      let f₁ = e₁ ∙ field_next [] (show_field I 6 a) n r₀ 0 6 54 refl e₀ in
      let f₂ = e₂ ∙ field_next p₁ (show_field I 6 b) n r₁ 6 6 48 l₁ f₁ in
      let f₃ = e₃ ∙ field_next p₂ (show_field I 6 c) n r₂ 12 6 42 l₂ f₂ in
      let f₄ = e₄ ∙ field_next p₃ (show_field I 6 d) n r₃ 18 6 36 l₃ f₃ in
      let f₅ = e₅ ∙ field_next p₄ (show_field I 6 e) n r₄ 24 6 30 l₄ f₄ in
      e₆ ∙ field_next p₅ (show_field I 6 f) n r₅ 30 6 24 l₅ f₅ ∙ simp (append_assoc, append-nil)

-- a block's opening: two fields more
pub block_filled : (r₀ r₁ r₂ : List ℕ) (x y z u v : ℤ) → r₀ ≡ row_at 30 three (x, (y, (z, tt)))
    → r₁ ≡ take 20 r₀ ++ (show_field W1 6 u ++ drop 26 r₀) → r₂ ≡ take 26 r₁ ++ (show_field W1 6 v ++ drop 32 r₁)
    → r₂ ≡ row_of block (x, (y, (z, (u, (v, tt)))))
unfolding columns_of row_at row_of names
block_filled r₀ r₁ r₂ x y z u v e₀ e₁ e₂ =
    let p₁ : List ℕ = (32 ∷ 32 ∷ []) ++ show_field W1 6 x in
    let p₂ : List ℕ = p₁ ++ show_field W1 6 y in
    let p₃ : List ℕ = p₂ ++ show_field W1 6 z in
    let p₄ : List ℕ = p₃ ++ show_field W1 6 u in
    let l₁ : length p₁ ≡ 8 = longer (32 ∷ 32 ∷ []) W1 x 2 6 refl in
    let l₂ : length p₂ ≡ 14 = longer p₁ W1 y 8 6 l₁ in
    let l₃ : length p₃ ≡ 20 = longer p₂ W1 z 14 6 l₂ in
    let l₄ : length p₄ ≡ 26 = longer p₃ W1 u 20 6 l₃ in
    let f₀ : r₀ ≡ p₃ ++ (replicate 40 32 ++ name block) = e₀ ∙ simp (append_assoc, append-nil) in
    let f₁ = e₁ ∙ field_next p₃ (show_field W1 6 u) (name block) r₀ 20 6 34 l₃ f₀ in
    e₂ ∙ field_next p₄ (show_field W1 6 v) (name block) r₁ 26 6 28 l₄ f₁ ∙ simp (append_assoc, append-nil)
