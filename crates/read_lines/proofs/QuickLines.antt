-- The fast way over a line: a run of printable bytes, and LF or CR LF right behind it.
use mathlib.Core.Path.{◌≡◌, refl, sym, ap, ◌∙◌}
use mathlib.Core.Bool.{Bool, true, false, ◌&&◌}
use mathlib.Core.List.{List}
use Prim.Native.Nat.{ℕ, zero, suc, ◌+◌, ◌-◌, ◌≤◌, ◌<◌}
use native.Mathlib.Omega.{arith}
use native.Mathlib.Decide.{ℕ_discrete, dec_le}
use lib.Dec.{leb}
use lib.ListN.{length, get_or, take, drop, length-drop}
use lib.Seq.{drop-drop, length-take-le, get_or-take}
use borrow.Author.Tests.{leb-true}
use Rattle.kit.specs.Range.{Within}
use Rattle.kit.proofs.ListLaws.{rest_of}
use Rattle.read_lines.specs.Lines.{passing, not_lf?, printable?, blank?, Spans, Skips, Rows}
use Rattle.read_lines.specs.Quick.{Sixteen, Ahead, Ending}
use Rattle.read_lines.proofs.Passing.{passing_le, passing_all, passing_step, passing_end, passing_skip, passing_before, passing_is, passing_full}
use Rattle.read_lines.proofs.Firsts.{spans_empty, spans_lf, spans_cr, look_full, look_blank, stand_skip, stand_row}

-- ---- 16 bytes

-- the first i bytes are printable, if the test says so
abbrev pub So : Bool → ℕ → List ℕ → Type 0
So true i l = passing printable? l ≡ i + passing printable? (drop i l)
So false i l = Unit {0}

pub so_next : (ok : Bool) (l : List ℕ) (i : ℕ) → i < length l → So ok i l → So ((ok && leb 32 (get_or l i 0)) && leb (get_or l i 0) 126) (i + 1) l
so_next false l i h s = tt
so_next true l i h s = go (leb 32 (get_or l i 0)) refl (leb (get_or l i 0) 126) refl
  where
    go : (x : Bool) → leb 32 (get_or l i 0) ≡ x → (y : Bool) → leb (get_or l i 0) 126 ≡ y → So (x && y) (i + 1) l
    go true p true q = passing_step printable? l i s h (leb-true 32 _ p, leb-true _ 126 q)
    go true p false q = tt
    go false p y q = tt

pub so_end : (ok : Bool) (l : List ℕ) (i : ℕ) → length l ≡ 16 → i ≡ 16 → So ok i l → Sixteen ok l
so_end false l i h e s = tt
so_end true l i h e s = let p = passing_end printable? l i s (omega arith) in omega arith

-- ---- the run

module _ (t : List ℕ) (i : ℕ) (a : Ahead t i) where
  pub ahead_more : 16 ≤ length t - i → (ok : Bool) → Sixteen ok (take (i + 16 - i) (drop i t)) → ok ≡ true → Ahead t (i + 16)
  ahead_more h true s e =
      let n : i + 16 - i ≡ 16 = omega arith in
      let o = a.on in
      let p = passing_skip printable? 16 (drop i t) (rw n at s) in
      let q : drop 16 (drop i t) ≡ drop (i + 16) t = drop-drop 16 i t in
      let r = ap (passing printable?) q in
      record { within = omega arith; on = omega arith }
  ahead_more h false s e = let z : ◌≡◌ {A = ℕ} 0 1 = cc in absurd (omega arith)

  pub ahead_le : (r : ℕ) → r ≡ passing printable? (take (length t - i) (drop i t)) → i + r ≤ length t
  ahead_le r e =
      let w = a.within in
      let n = length-drop i t in
      let p : r ≡ passing printable? (drop i t) = e ∙ ap (passing printable?) (rest_of t i) in
      let q = passing_le printable? (drop i t) in
      omega arith

  pub ahead_run : (r : ℕ) → r ≡ passing printable? (take (length t - i) (drop i t)) → i + r ≡ passing printable? t
  ahead_run r e =
      let o = a.on in
      let p : r ≡ passing printable? (drop i t) = e ∙ ap (passing printable?) (rest_of t i) in
      omega arith

pub ahead_none : (t : List ℕ) → Ahead t 0
ahead_none t = record { within = omega arith; on = omega arith }

-- ---- the line

-- a line's end is in the text, and no printable byte stands there
pub ending_in : (t : List ℕ) (w z : ℕ) → w < length t → Ending t w z → (w + z ≤ length t) × (z ≤ 2)
ending_in t w zero h e = absurd e
ending_in t w (suc zero) h e = (omega arith, omega arith)
ending_in t w (suc (suc zero)) h e = let q = e.0 in (omega arith, omega arith)
ending_in t w (suc (suc (suc z))) h e = absurd e

ending_odd : (t : List ℕ) (w z : ℕ) → Ending t w z → ¬ Within 32 126 (get_or t w 0)
ending_odd t w zero e = absurd e
ending_odd t w (suc zero) e = λ q. let x : get_or t w 0 ≡ 10 = e in omega (arith, q.0)
ending_odd t w (suc (suc zero)) e = λ q. let x : get_or t w 0 ≡ 13 = e.1.0 in omega (arith, q.0)
ending_odd t w (suc (suc (suc z))) e = absurd e

module _ (t : List ℕ) (w : ℕ) (is : w ≡ passing printable? t) (h : w < length t) where
  shown : (i : ℕ) → i < w → Within 32 126 (get_or t i 0)
  shown i q = passing_before printable? t i (omega arith)

  span_lf : get_or t w 0 ≡ 10 → Spans t (record { width = w; next = w + 1 })
  span_lf x = by (ℕ_discrete w 0)
    where
      first : w ≡ passing not_lf? t
      first = passing_is not_lf? t w h (λ i q e. let s = shown i q in omega arith) (λ n. n x)

      by : Dec (w ≡ 0) → Spans t (record { width = w; next = w + 1 })
      by (yes z) = let s = spans_empty t w first h z in rw z s
      by (no n) = spans_lf t w first h n (λ e. let s = shown (w - 1) (omega arith) in omega arith)

  span_crlf : suc w < length t → get_or t w 0 ≡ 13 → get_or t (suc w) 0 ≡ 10 → Spans t (record { width = w; next = w + 2 })
  span_crlf k x y =
      let a : suc w - 1 ≡ w = omega arith in
      let b : suc w + 1 ≡ w + 2 = omega arith in
      rw (a, b) at (spans_cr t (suc w) first k (omega arith) (rw a x))
    where
      before : (i : ℕ) → i < suc w → Dec (i ≡ w) → ¬ (get_or t i 0 ≡ 10)
      before i q (yes e) = λ f. let g : get_or t i 0 ≡ 13 = rw e x in omega arith
      before i q (no n) = λ f. let s = shown i (omega arith) in omega arith

      first : suc w ≡ passing not_lf? t
      first = passing_is not_lf? t (suc w) k (λ i q. before i q (ℕ_discrete i w)) (λ n. n y)

  span : (z : ℕ) → Ending t w z → Spans t (record { width = w; next = w + z })
  span zero e = absurd e
  span (suc zero) e = span_lf e
  span (suc (suc zero)) e = span_crlf e.0 e.1.0 e.1.1
  span (suc (suc (suc z))) e = absurd e

  size : length (take w t) ≡ w
  size = length-take-le w t (omega arith)

  whole : length (take w t) ≡ passing printable? (take w t)
  whole = sym (passing_full printable? (take w t) (rw is (passing_all printable? t)))

  module _ (z : ℕ) (e : Ending t w z) (fits : w ≤ 80) (b : ℕ) (bs : b ≡ passing blank? (take w t)) where
    pub quick_row : b < w → Rows t w (w + z)
    quick_row q =
        let s = size in
        stand_row t _ (span z e) (look_full (take w t) (omega arith) _ whole (omega arith) b bs (omega arith))

    pub quick_skip : w ≤ b → Skips t (w + z)
    quick_skip q =
        let s = size in
        stand_skip t _ (span z e) (look_blank (take w t) (omega arith) _ whole (omega arith) b bs (omega arith))

-- ---- a row that is known byte by byte

module _ (t : List ℕ) (w z : ℕ) (h : w < length t) (e : Ending t w z) (fits : w ≤ 80) (shown : (i : ℕ) → i < w → Within 32 126 (get_or t i 0)) where
  pub known_row : (i : ℕ) → i < w → ¬ (get_or t i 0 ≡ 32) → Rows t w (w + z)
  known_row i q n =
      let is : w ≡ passing printable? t = passing_is printable? t w h shown (ending_odd t w z e) in
      let p = passing_le blank? (take w t) in
      let l : length (take w t) ≡ w = length-take-le w t (omega arith) in
      quick_row t w is h z e fits (passing blank? (take w t)) refl (short (dec_le w (passing blank? (take w t))))
    where
      short : Dec (w ≤ passing blank? (take w t)) → passing blank? (take w t) < w
      short (yes k) = absurd (n (sym (get_or-take w t i 0 q) ∙ passing_before blank? (take w t) i (omega arith)))
      short (no k) = omega arith
