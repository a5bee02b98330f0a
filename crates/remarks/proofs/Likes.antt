-- Two texts whose bytes are close have close lines.
use mathlib.Core.Path.{◌≡◌, refl, sym, ap, ◌∙◌}
use mathlib.Core.Logic.{inl, inr, ⊎_elim}
use mathlib.Core.List.{List, [], ◌∷◌, ◌++◌}
use Prim.Native.Nat.{ℕ, zero, suc, ◌<◌, ◌-◌}
use native.Mathlib.Omega.{arith}
use native.Mathlib.Decide.{ℕ_discrete}
use lib.ListN.{length, drop, get_or, replicate}
use Rattle.kit.specs.Answer.{pick, ×_dec}
use Rattle.kit.proofs.AnswerLaws.{pick_yes}
use Rattle.kit.specs.Range.{Within, within?, Printable}
use Rattle.layout.specs.Text.{pad}
use Rattle.reading.specs.Feed.{split, front, LineOpens, opens?, bad_column}
use Rattle.remarks.specs.Remarks.{SameLabel, Close}

pub close_back : (b b' : ℕ) → Close b b' → Close b' b
close_back b b' = ⊎_elim (λ e. inl (sym e)) (λ w. inr (w.1, w.0))

-- a byte below 32 is the same in both
pub same_end : {b b' : ℕ} (c : ℕ) → c < 32 → Close b b' → b ≡ c → b' ≡ c
same_end c h (inl e) q = sym e ∙ q
same_end c h (inr w) q = let x = w.0.0 in absurd (omega arith)

-- ---- byte by byte

abbrev pub Like : List ℕ → List ℕ → Type 0
Like [] [] = Unit {0}
Like [] (b ∷ t') = ⊥
Like (b ∷ t) [] = ⊥
Like (b ∷ t) (b' ∷ t') = Close b b' × Like t t'

pub like : (t t' : List ℕ) → length t ≡ length t' → ((i : ℕ) → Close (get_or t i 0) (get_or t' i 0)) → Like t t'
like [] [] e p = tt
like [] (b ∷ t') e p = absurd (omega arith)
like (b ∷ t) [] e p = absurd (omega arith)
like (b ∷ t) (b' ∷ t') e p = (p 0, like t t' (omega arith) (λ i. p (suc i)))

pub like_back : (t t' : List ℕ) → Like t t' → Like t' t
like_back [] [] h = tt
like_back [] (b ∷ t') h = absurd h
like_back (b ∷ t) [] h = absurd h
like_back (b ∷ t) (b' ∷ t') h = (close_back b b' h.0, like_back t t' h.1)

pub like_length : (t t' : List ℕ) → Like t t' → length t ≡ length t'
like_length [] [] h = refl
like_length [] (b ∷ t') h = absurd h
like_length (b ∷ t) [] h = absurd h
like_length (b ∷ t) (b' ∷ t') h = ap suc (like_length t t' h.1)

pub like_printable : (l l' : List ℕ) → Like l l' → Printable l → Printable l'
like_printable [] [] h p = tt
like_printable [] (b ∷ t') h p = absurd h
like_printable (b ∷ t) [] h p = absurd h
like_printable (b ∷ t) (b' ∷ t') h p = (by h.0, like_printable t t' h.1 p.1)
  where
    by : Close b b' → Within 32 126 b'
    by (inl e) = rw e at p.0
    by (inr w) = w.1

-- the first byte that is not printable stands in the same column
pub like_column : (l l' : List ℕ) → Like l l' → bad_column l ≡ bad_column l'
unfolding bad_column
like_column [] [] h = refl
like_column [] (b ∷ t') h = absurd h
like_column (b ∷ t) [] h = absurd h
like_column (b ∷ t) (b' ∷ t') h = by h.0 (like_column t t' h.1)
  where
    by : Close b b' → bad_column t ≡ bad_column t' → pick (within? 32 126 b) (suc (bad_column t)) 1 ≡ pick (within? 32 126 b') (suc (bad_column t')) 1
    by (inl e) q = rw (e, q)
    by (inr w) q = pick_yes (within? 32 126 b) _ _ w.0 ∙ ap suc q ∙ sym (pick_yes (within? 32 126 b') _ _ w.1)

-- columns from n + 1 on, with more behind
drop_more : (n : ℕ) (a b c : List ℕ) → length a ≡ length b → drop n a ≡ drop n b → drop n (a ++ c) ≡ drop n (b ++ c)
drop_more zero a b c e q = ap (λ x. x ++ c) q
drop_more (suc n) [] [] c e q = refl
drop_more (suc n) [] (y ∷ b) c e q = absurd (omega arith)
drop_more (suc n) (x ∷ a) [] c e q = absurd (omega arith)
drop_more (suc n) (x ∷ a) (y ∷ b) c e q = drop_more n a b c (omega arith) q

pub pad_tail : (l l' : List ℕ) → Like l l' → SameLabel l l' → drop 60 (pad l) ≡ drop 60 (pad l')
unfolding pad
pad_tail l l' h q = drop_more 60 l l' (replicate (80 - length l) 32) (like_length l l' h) q ∙ ap (λ n. drop 60 (l' ++ replicate (80 - n) 32)) (like_length l l' h)

-- ---- line by line

abbrev pub Likes : List (List ℕ) → List (List ℕ) → Type 0
Likes [] [] = Unit {0}
Likes [] (l ∷ ls') = ⊥
Likes (l ∷ ls) [] = ⊥
Likes (l ∷ ls) (l' ∷ ls') = Like l l' × Likes ls ls'

like_front : (b b' : ℕ) (ls ls' : List (List ℕ)) → Close b b' → Likes ls ls' → Likes (front b ls) (front b' ls')
unfolding front
like_front b b' [] [] w h = ((w, tt), tt)
like_front b b' [] (l ∷ ls') w h = absurd h
like_front b b' (l ∷ ls) [] w h = absurd h
like_front b b' (l ∷ ls) (l' ∷ ls') w h = ((w, h.0), h.1)

pub like_opens : (t t' : List ℕ) → Like t t' → LineOpens 10 t → LineOpens 10 t'
like_opens [] [] h o = o
like_opens [] (b ∷ t') h o = absurd h
like_opens (b ∷ t) [] h o = absurd h
like_opens (b ∷ t) (b' ∷ t') h o = same_end 10 (omega arith) h.0 o

pub pick_both : {P P' X : Type 0} (Q : X → X → Type 0) (d : Dec P) (d' : Dec P') {x y x' y' : X} → (P → P') → (P' → P) → Q x x' → Q y y' → Q (pick d x y) (pick d' x' y')
unfolding pick
pick_both Q (yes p) (yes p') f g a b = a
pick_both Q (yes p) (no n) f g a b = absurd (n (f p))
pick_both Q (no n) (yes p') f g a b = absurd (n (g p'))
pick_both Q (no n) (no n') f g a b = b

pub like_lines : (t t' : List ℕ) → Like t t' → Likes (split t) (split t')
unfolding split
like_lines [] [] h = tt
like_lines [] (b ∷ t') h = absurd h
like_lines (b ∷ t) [] h = absurd h
like_lines (b ∷ t) (b' ∷ t') h =
    let ih = like_lines t t' h.1 in
    let c = close_back b b' h.0 in
    pick_both Likes (ℕ_discrete b 10) (ℕ_discrete b' 10) (same_end 10 (omega arith) h.0) (same_end 10 (omega arith) c) (tt, ih)
    (pick_both Likes (×_dec (ℕ_discrete b 13) (opens? 10 t)) (×_dec (ℕ_discrete b' 13) (opens? 10 t'))
    (λ o. (same_end 13 (omega arith) h.0 o.0, like_opens t t' h.1 o.1))
    (λ o. (same_end 13 (omega arith) c o.0, like_opens t' t (like_back t t' h.1) o.1)) ih (like_front b b' (split t) (split t') h.0 ih))

pub likes_length : (ls ls' : List (List ℕ)) → Likes ls ls' → length ls ≡ length ls'
likes_length [] [] h = refl
likes_length [] (l ∷ ls') h = absurd h
likes_length (l ∷ ls) [] h = absurd h
likes_length (l ∷ ls) (l' ∷ ls') h = ap suc (likes_length ls ls' h.1)

pub likes_at : (ls ls' : List (List ℕ)) (k : ℕ) → Likes ls ls' → Like (get_or ls k []) (get_or ls' k [])
likes_at [] [] k h = tt
likes_at [] (l ∷ ls') k h = absurd h
likes_at (l ∷ ls) [] k h = absurd h
likes_at (l ∷ ls) (l' ∷ ls') zero h = h.0
likes_at (l ∷ ls) (l' ∷ ls') (suc k) h = likes_at ls ls' k h.1
