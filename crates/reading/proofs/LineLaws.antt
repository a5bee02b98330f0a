-- The text's lines and their rows are the only ones.
use mathlib.Core.Path.{◌≡◌, refl, ap, ◌∙◌}
use Prim.Native.Nat.{ℕ, zero, suc, ◌-◌, ◌≤◌}
use native.Mathlib.Omega.{arith}
use mathlib.Core.List.{List, [], ◌∷◌, ◌++◌}
use native.Mathlib.Decide.{ℕ_discrete, dec_le}
use lib.ListN.{length, replicate, length-append, length-replicate}
use Rattle.kit.specs.Answer.{×_dec, pick, All, all_dec}
use Rattle.kit.proofs.AnswerLaws.{pick_yes, pick_no, pick_elim}
use Rattle.kit.proofs.ListLaws.{all_append}
use Rattle.kit.specs.Range.{Within, within?, Printable}
use Rattle.forms.specs.Columns.{Blank}
use Rattle.layout.specs.Text.{Ended, none, last, lf, crlf, Clean, pad, Laid, blank, line}
use Rattle.reading.specs.declared.Why.{Why}
use Rattle.reading.specs.Feed.{why, bad_column, front, LineOpens, opens?, split, Feed, over, bad, row, feed}

-- ---- text and lines

push : {b : ℕ} {l : List ℕ} {ls : List (List ℕ)} {t : List ℕ} → Ended (l ∷ ls) t → Ended ((b ∷ l) ∷ ls) (b ∷ t)
push last = last
push (lf h) = lf h
push (crlf h) = crlf h

fronted : (b : ℕ) (ls : List (List ℕ)) (t : List ℕ) → Ended ls t → Ended (front b ls) (b ∷ t)
unfolding front
fronted b [] t none = last
fronted b (l ∷ ls) t h = push h

-- a first byte that begins no line end
begin : (b : ℕ) (t : List ℕ) → Ended (split t) t → ((b ≡ 13) × LineOpens 10 t → Ended (split t) (b ∷ t)) → Ended (split (b ∷ t)) (b ∷ t)
unfolding split
begin b t h cr =
    pick_elim (λ ls. Ended ls (b ∷ t)) (ℕ_discrete b 10) (λ e. rw e (lf h))
    (λ _. pick_elim (λ ls. Ended ls (b ∷ t)) (×_dec (ℕ_discrete b 13) (opens? 10 t)) cr (λ _. fronted b (split t) t h))

pub split_lf : (t : List ℕ) → split (10 ∷ t) ≡ [] ∷ split t
unfolding split pick ℕ_discrete
split_lf t = refl

pub ended : (t : List ℕ) → Ended (split t) t
ended [] = unfold split in none
ended (b ∷ []) = begin b [] (ended []) (λ h. absurd h.1)
ended (b ∷ c ∷ t) = begin b (c ∷ t) (ended (c ∷ t)) (λ h. rw (h.0, h.1, split_lf t) (crlf (ended t)))

pub split_crlf : (t : List ℕ) → split (13 ∷ 10 ∷ t) ≡ [] ∷ split t
unfolding split pick ℕ_discrete ×_dec opens?
split_crlf t = refl

split_front : (b : ℕ) (t : List ℕ) → Within 32 126 b → split (b ∷ t) ≡ front b (split t)
unfolding split
split_front b t p =
    pick_no (ℕ_discrete b 10) _ _ (λ e. omega arith) ∙ pick_no (×_dec (ℕ_discrete b 13) (opens? 10 t)) _ _ (λ h. let e = h.0 in omega arith)

-- a clean line before an end is the first line
whole : (l : List ℕ) (e : List ℕ) (ls : List (List ℕ)) → Printable l → split e ≡ [] ∷ ls → split (l ++ e) ≡ l ∷ ls
unfolding front
whole [] e ls p h = h
whole (b ∷ l) e ls p h = split_front b (l ++ e) p.0 ∙ ap (front b) (whole l e ls p.1 h)

alone : (b : ℕ) (l : List ℕ) → Printable (b ∷ l) → split (b ∷ l) ≡ (b ∷ l) ∷ []
unfolding front
alone b [] p = split_front b [] p.0 ∙ (unfold split in refl)
alone b (c ∷ l) p = split_front b (c ∷ l) p.0 ∙ ap (front b) (alone c l p.1)

pub split_of : {ls : List (List ℕ)} {t : List ℕ} → Ended ls t → All Clean ls → split t ≡ ls
split_of none c = unfold split in refl
split_of (last {b} {l}) c = alone b l c.0.1
split_of (lf {l} {ls} {t} h) c = whole l (10 ∷ t) ls c.0.1 (split_lf t ∙ ap (λ x. [] ∷ x) (split_of h c.1))
split_of (crlf {l} {ls} {t} h) c = whole l (13 ∷ 10 ∷ t) ls c.0.1 (split_crlf t ∙ ap (λ x. [] ∷ x) (split_of h c.1))

-- ---- lines and rows

-- the feed hands on these rows, and then the text's end
pub data Carries : Feed → List (List ℕ) → Type 0 where
  c_over : {n : ℕ} → Carries (over n) []
  c_row : {n : ℕ} {r : List ℕ} {f : Feed} {rs : List (List ℕ)} → Carries f rs → Carries (row n r f) (r ∷ rs)

-- a line's length is looked at, then its bytes, then whether they are blanks
looked_at : (n : ℕ) (l : List ℕ) (ls : List (List ℕ)) → feed n (l ∷ ls) ≡
    pick (dec_le (length l) 80)
    (pick (all_dec (within? 32 126) l) (pick (all_dec (λ x. ℕ_discrete x 32) l) (feed (suc n) ls) (row n (pad l) (feed (suc n) ls))) (bad (why 2 n (bad_column l))))
    (bad (why 1 n 81))
unfolding feed
looked_at n l ls = refl

pub feed_blank : (n : ℕ) (l : List ℕ) (ls : List (List ℕ)) → Clean l → All Blank l → feed n (l ∷ ls) ≡ feed (suc n) ls
feed_blank n l ls c b =
    looked_at n l ls ∙ pick_yes (dec_le (length l) 80) _ _ c.0 ∙ pick_yes (all_dec (within? 32 126) l) _ _ c.1 ∙ pick_yes (all_dec (λ x. ℕ_discrete x 32) l) _ _ b

pub feed_row : (n : ℕ) (l : List ℕ) (ls : List (List ℕ)) → Clean l → ¬ All Blank l → feed n (l ∷ ls) ≡ row n (pad l) (feed (suc n) ls)
feed_row n l ls c b =
    looked_at n l ls ∙ pick_yes (dec_le (length l) 80) _ _ c.0 ∙ pick_yes (all_dec (within? 32 126) l) _ _ c.1 ∙ pick_no (all_dec (λ x. ℕ_discrete x 32) l) _ _ b

pub carries : {rs ls : List (List ℕ)} → Laid rs ls → (n : ℕ) → Carries (feed n ls) rs
carries none n = unfold feed in c_over
carries (blank {l} {ls = ls} c b h) n = rw (feed_blank n l ls c b) (carries h (suc n))
carries (line {l} {ls = ls} c b h) n = rw (feed_row n l ls c b) (c_row (carries h (suc n)))

pub clean : {rs ls : List (List ℕ)} → Laid rs ls → All Clean ls
clean none = tt
clean (blank c b h) = (c, clean h)
clean (line c b h) = (c, clean h)

row_laid : {n : ℕ} {l : List ℕ} {ls rs : List (List ℕ)} {f : Feed} → Clean l → ¬ All Blank l → ((rs : List (List ℕ)) → Carries f rs → Laid rs ls) → Carries (row n (pad l) f) rs → Laid rs (l ∷ ls)
row_laid c b ih (c_row h) = line c b (ih _ h)

no_bad : {w : Why} {rs : List (List ℕ)} {X : Type 0} → Carries (bad w) rs → X
no_bad = elim [ ]

pub laid : (n : ℕ) (ls rs : List (List ℕ)) → Carries (feed n ls) rs → Laid rs ls
unfolding feed
laid n [] rs c_over = none
laid n (l ∷ ls) rs h =
    pick_elim (λ f. Carries f rs → Laid rs (l ∷ ls)) (dec_le (length l) 80)
    (λ fits. pick_elim (λ f. Carries f rs → Laid rs (l ∷ ls)) (all_dec (within? 32 126) l)
    (λ p. pick_elim (λ f. Carries f rs → Laid rs (l ∷ ls)) (all_dec (λ b. ℕ_discrete b 32) l)
    (λ b h. blank (fits, p) b (laid (suc n) ls rs h))
    (λ b h. row_laid (fits, p) b (λ rs h. laid (suc n) ls rs h) h))
    (λ _ h. no_bad h))
    (λ _ h. no_bad h) h

-- ---- each row has 80 columns, all printable

pub padded : (l : List ℕ) → length l ≤ 80 → length (pad l) ≡ 80
unfolding pad
padded l k = simp (length-append, length-replicate) (omega arith)

abbrev pub Sized : Feed → Type 0
Sized (over n) = Unit {0}
Sized (bad w) = Unit {0}
Sized (row n r f) = ((length r ≡ 80) × Printable r) × Sized f

pub spaces : (n : ℕ) → Printable (replicate n 32)
spaces zero = tt
spaces (suc n) = ((omega arith, omega arith), spaces n)

pub sized : (n : ℕ) (ls : List (List ℕ)) → Sized (feed n ls)
unfolding feed
sized n [] = tt
sized n (l ∷ ls) =
    pick_elim Sized (dec_le (length l) 80)
    (λ fits. pick_elim Sized (all_dec (within? 32 126) l)
    (λ p. pick_elim Sized (all_dec (λ b. ℕ_discrete b 32) l) (λ _. sized (suc n) ls)
    (λ _. ((padded l fits, unfold pad in all_append (Within 32 126) l _ p (spaces (80 - length l))), sized (suc n) ls)))
    (λ _. tt))
    (λ _. tt)
