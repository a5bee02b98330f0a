-- The lines of a made text: where each starts, and the rows that the text shows from there on.
use mathlib.Core.Path.{◌≡◌, refl, sym, ap, subst, ◌∙◌}
use mathlib.Core.List.{List, [], ◌∷◌, ◌++◌, append_assoc, append-nil}
use Prim.Native.Nat.{ℕ, ◌+◌}
use native.Mathlib.Omega.{arith}
use lib.ListN.{length, drop}
use lib.Seq.{drop-drop, drop-append_seam}
use Rattle.kit.specs.Answer.{All}
use Rattle.kit.proofs.AnswerLaws.{pick_yes, pick_no}
use Rattle.forms.specs.Columns.{Blank}
use Rattle.layout.specs.Text.{Ended, none, last, lf, crlf, Clean, pad, Laid, blank, line}
use Rattle.read_lines.specs.Cuts.{Cut, cuts}
use Rattle.index.specs.Stands as at
use Rattle.index.specs.Stands.{Eol, Blanks, Shown}
use Rattle.index.specs.Found.{clean?, blank?}
use Rattle.index.specs.Made.{Placed, placed}
use Rattle.index.proofs.CutLaws.{alone, cut_line}

-- ---- the rows ahead

-- blank lines, and then the rows rs
pub record Ahead (u : List ℕ) (rs : List (List ℕ)) : Type 0 where
  pub gap : List ℕ
  pub from : List ℕ
  pub bytes : List ℕ
  pub blanks : Blanks gap
  pub seam : u ≡ gap ++ from
  pub shown : Shown rs from bytes

abbrev Show : List ℕ → List (List ℕ) → Type 0
Show u rs = (b : List ℕ) × Shown rs u b

-- a line in front of the rows ahead
one_more : (l e u : List ℕ) (rs : List (List ℕ)) → Clean l → ¬ All Blank l → Eol e → Ahead u rs → Show (l ++ (e ++ u)) (pad l ∷ rs)
one_more l e u rs c n x a = (l ++ (e ++ (a.gap ++ a.bytes)), rw a.seam (at.line l c n x a.blanks a.shown))

skip : (l e u : List ℕ) (rs : List (List ℕ)) → Clean l → All Blank l → Eol e → Ahead u rs → Ahead (l ++ (e ++ u)) rs
skip l e u rs c n x a =
    record {
      gap = l ++ (e ++ a.gap);
      from = a.from;
      bytes = a.bytes;
      blanks = at.blank l c n x a.blanks;
      seam = ap (λ v. l ++ (e ++ v)) a.seam ∙ sym (append_assoc l (e ++ a.gap) a.from ∙ ap (λ v. l ++ v) (append_assoc e a.gap a.from));
      shown = a.shown;
    }

at_once : (u : List ℕ) (rs : List (List ℕ)) → Show u rs → Ahead u rs
at_once u rs s = record { gap = []; from = u; bytes = s.0; blanks = at.none; seam = refl; shown = s.1 }

none_left : {rs : List (List ℕ)} {X : Type 0} (v : List ℕ) (vs : List (List ℕ)) → Laid rs [] → rs ≡ v ∷ vs → X
none_left v vs none e = let z : ◌≡◌ {A = ℕ} 0 1 = cc in absurd (omega arith)

-- the line that starts a text, and the rows vs behind it
show : {l : List ℕ} {rs ls : List (List ℕ)} {u : List ℕ} → Clean l → ¬ All Blank l → Laid rs ls
    → ((u : List ℕ) → Ended ls u → (v : List ℕ) (vs ws : List (List ℕ)) → rs ≡ v ∷ (vs ++ ws) → Ahead u (v ∷ vs))
    → Ended (l ∷ ls) u → (vs ws : List (List ℕ)) → rs ≡ vs ++ ws → Show u (pad l ∷ vs)
show c n h k (last {b} {l}) [] ws e = (b ∷ l, subst (λ u. Shown (pad (b ∷ l) ∷ []) u (b ∷ l)) (append-nil (b ∷ l)) (at.last {l = b ∷ l} c n at.nothing))
show c n h k last (v ∷ vs) ws e = none_left v (vs ++ ws) h e
show {l} c n h k (lf x) [] ws e = (l, at.last {l = l} c n at.lf)
show {l} c n h k (lf {t = u} x) (v ∷ vs) ws e = one_more l (10 ∷ []) u (v ∷ vs) c n at.lf (k u x v vs ws e)
show {l} c n h k (crlf x) [] ws e = (l, at.last {l = l} c n at.crlf)
show {l} c n h k (crlf {t = u} x) (v ∷ vs) ws e = one_more l (13 ∷ 10 ∷ []) u (v ∷ vs) c n at.crlf (k u x v vs ws e)

ahead : {rs ls : List (List ℕ)} → Laid rs ls → (u : List ℕ) → Ended ls u → (v : List ℕ) (vs ws : List (List ℕ)) → rs ≡ v ∷ (vs ++ ws) → Ahead u (v ∷ vs)
ahead none u x v vs ws e = let z : ◌≡◌ {A = ℕ} 0 1 = cc in absurd (omega arith)
ahead (blank {l} c b h) u x v vs ws e = over c b h (λ u x. ahead h u x v vs ws e) x v vs ws e
  where
    over : {l : List ℕ} {rs ls : List (List ℕ)} {u : List ℕ} → Clean l → All Blank l → Laid rs ls → {r : List (List ℕ)} → ((u : List ℕ) → Ended ls u → Ahead u r)
        → Ended (l ∷ ls) u → (v : List ℕ) (vs ws : List (List ℕ)) → rs ≡ v ∷ (vs ++ ws) → Ahead u r
    over c b h k last v vs ws e = none_left v (vs ++ ws) h e
    over {l} c b h {r} k (lf {t = u} x) v vs ws e = skip l (10 ∷ []) u r c b at.lf (k u x)
    over {l} c b h {r} k (crlf {t = u} x) v vs ws e = skip l (13 ∷ 10 ∷ []) u r c b at.crlf (k u x)
ahead (line {l} {rs = rs} c n h) u x v vs ws e =
    let p : pad l ≡ v = cc in
    let q : rs ≡ vs ++ ws = cc in
    at_once u (v ∷ vs) (rw p at (show c n h (λ u x v vs ws e. ahead h u x v vs ws e) x vs ws q))

-- ---- `Lies t ps rs`: the rows rs of the text t, each with its line's start, show themselves from there on
pub data Lies (t : List ℕ) : Placed → List (List ℕ) → Type 0 where
  lies_end : Lies t [] []
  lies_row : {a : ℕ} {r : List ℕ} {ps : Placed} {rs : List (List ℕ)}
      → ((vs ws : List (List ℕ)) → rs ≡ vs ++ ws → (b : List ℕ) × Shown (r ∷ vs) (drop a t) b) → Lies t ps rs → Lies t ((a, r) ∷ ps) (r ∷ rs)

-- the next line's start
next : (t : List ℕ) (a : ℕ) (l e u : List ℕ) → drop a t ≡ l ++ (e ++ u) → drop (a + length l + length e) t ≡ u
next t a l e u h =
    sym (drop-drop (length e) (a + length l) t) ∙ ap (drop (length e)) (sym (drop-drop (length l) a t) ∙ ap (drop (length l)) h ∙ drop-append_seam l (e ++ u)) ∙ drop-append_seam e u

-- a blank line is no row, any other is
module _ (a : ℕ) (l e : List ℕ) (cs : List Cut) (c : Clean l) where
  pub skipped : All Blank l → placed a ((l, e) ∷ cs) ≡ placed (a + length l + length e) cs
  unfolding placed
  skipped b = pick_yes (clean? l) _ _ c ∙ pick_yes (blank? l) _ _ b

  pub kept : ¬ All Blank l → placed a ((l, e) ∷ cs) ≡ (a, pad l) ∷ placed (a + length l + length e) cs
  unfolding placed
  kept b = pick_yes (clean? l) _ _ c ∙ pick_no (blank? l) _ _ b

none_placed : (a : ℕ) → placed a [] ≡ []
unfolding placed
none_placed a = refl

no_rows : (t : List ℕ) (a : ℕ) {rs : List (List ℕ)} → Laid rs [] → Lies t (placed a []) rs
no_rows t a none = rw none_placed lies_end

lies_by : (t : List ℕ) {p q : Placed} {rs : List (List ℕ)} → p ≡ q → Lies t q rs → Lies t p rs
lies_by t {rs = rs} e x = subst (λ ps. Lies t ps rs) (sym e) x

module _ (t : List ℕ) (a : ℕ) (l e u : List ℕ) (c : Clean l) (x : Eol e) {rs : List (List ℕ)} (k : Lies t (placed (a + length l + length e) (cuts u)) rs) where
  cut : placed a (cuts (l ++ (e ++ u))) ≡ placed a ((l, e) ∷ cuts u)
  cut = ap (placed a) (cut_line l u c.1 x)

  past_blank : All Blank l → Lies t (placed a (cuts (l ++ (e ++ u)))) rs
  past_blank b = lies_by t (cut ∙ skipped a l e (cuts u) c b) k

  past_row : ¬ All Blank l → ((vs ws : List (List ℕ)) → rs ≡ vs ++ ws → (b : List ℕ) × Shown (pad l ∷ vs) (drop a t) b) → Lies t (placed a (cuts (l ++ (e ++ u)))) (pad l ∷ rs)
  past_row b f = lies_by t (cut ∙ kept a l e (cuts u) c b) (lies_row f k)

pub lies : (t : List ℕ) {rs ls : List (List ℕ)} {u : List ℕ} (a : ℕ) → Laid rs ls → Ended ls u → drop a t ≡ u → Lies t (placed a (cuts u)) rs
lies t a none none h = let z : cuts [] ≡ [] = unfold cuts in refl in lies_by t (ap (placed a) z ∙ none_placed a) lies_end
lies t a (blank c b x) (last {b = m} {l}) h =
    lies_by t (ap (placed a) (alone m l c.1) ∙ skipped a (m ∷ l) [] [] c b) (no_rows t _ x)
lies t a (blank {l} c b x) (lf {t = u} e) h = past_blank t a l (10 ∷ []) u c at.lf (lies t _ x e (next t a l (10 ∷ []) u h)) b
lies t a (blank {l} c b x) (crlf {t = u} e) h = past_blank t a l (13 ∷ 10 ∷ []) u c at.crlf (lies t _ x e (next t a l (13 ∷ 10 ∷ []) u h)) b
lies t a (line c b x) (last {b = m} {l}) h =
    lies_by t (ap (placed a) (alone m l c.1) ∙ kept a (m ∷ l) [] [] c b) (lies_row (λ vs ws y. rw h (show c b x (ahead x) last vs ws y)) (no_rows t _ x))
lies t a (line {l} c b x) (lf {t = u} e) h =
    past_row t a l (10 ∷ []) u c at.lf (lies t _ x e (next t a l (10 ∷ []) u h)) b (λ vs ws y. rw h (show c b x (ahead x) (lf e) vs ws y))
lies t a (line {l} c b x) (crlf {t = u} e) h =
    past_row t a l (13 ∷ 10 ∷ []) u c at.crlf (lies t _ x e (next t a l (13 ∷ 10 ∷ []) u h)) b (λ vs ws y. rw h (show c b x (ahead x) (crlf e) vs ws y))
