-- Lines that differ only in remarks read the same, from every state of the reading.
use mathlib.Core.Path.{◌≡◌, refl, sym, ap, ◌∙◌}
use mathlib.Core.Logic.{◌⊎◌, inl, inr, ⊎_elim}
use mathlib.Core.List.{List, [], ◌∷◌}
use Prim.Native.Nat.{ℕ, zero, suc, ◌+◌, ◌≤◌, ◌<◌}
use native.Mathlib.Omega.{arith}
use native.Mathlib.Decide.{dec_le, ℕ_discrete}
use lib.ListN.{length, take, drop, get_or}
use Rattle.kit.specs.Answer.{Answer, ok, refused, bind, amap, All, all_dec}
use Rattle.kit.proofs.AnswerLaws.{pick_yes, pick_no, yields}
use Rattle.kit.specs.Range.{within?, Printable}
use Rattle.forms.specs.Columns.{Blank}
use Rattle.layout.specs.Text.{pad, Clean}
use Rattle.layout.specs.Labels.{comment, aux_start, aux_end}
use Rattle.reading.specs.declared.Fault.{Fault}
use Rattle.reading.specs.declared.Why.{Why}
use Rattle.reading.specs.Feed.{why, on_line, bad, row, bad_column, feed}
use Rattle.reading.specs.Maps.{short}
use Rattle.reading.proofs.LineLaws.{feed_blank, feed_row}
use Rattle.reading.proofs.Machine.{State, Out, from, Move, on_row_of, from_bad, from_row, amap_id}
use Rattle.reading.proofs.RefusalLaws.{Sort, long, dirty, blank, shown, sort, Fine, not_short, at_once, amap_short}
use Rattle.remarks.specs.Remarks.{Bears, Stands, Unended, SameLabel}
use Rattle.remarks.proofs.Likes.{Like, like_back, like_length, like_printable, like_column, pad_tail, Likes}
use Rattle.remarks.proofs.Rows.{comment_word, start_word, not_blank, InAux, aux_row, start_row, comment_row}

-- ---- what a line does, whatever follows it

abbrev pub Stops : State → ℕ → List ℕ → Why → Type 0
Stops s n l w = (ls : List (List ℕ)) → from s (feed n (l ∷ ls)) ≡ refused w

abbrev pub Goes : (s s' : State) → (Out s' → Out s) → ℕ → List ℕ → Type 0
Goes s s' b n l = (ls : List (List ℕ)) → from s (feed n (l ∷ ls)) ≡ amap b (from s' (feed (suc n) ls))

-- two lines are refused for one reason, or lead to one state; START OF AUX DATA opens an aux block, and only its end closes it
data Both (s : State) (n : ℕ) (l l' : List ℕ) : Type 0 where
  stop : (w : Why) → Stops s n l w → Stops s n l' w → Both s n l l'
  go : (s' : State) (b : Out s' → Out s) → Goes s s' b n l → Goes s s' b n l' → (Bears aux_start l → InAux s') → (InAux s → ¬ Bears aux_end l → InAux s') → Both s n l l'

module _ (s : State) (n : ℕ) (l : List ℕ) where
  pub stop_bad : (w : Why) → ((ls : List (List ℕ)) → feed n (l ∷ ls) ≡ bad w) → Stops s n l w
  stop_bad w f ls = ap (from s) (f ls) ∙ from_bad s w

  pub go_blank : ((ls : List (List ℕ)) → feed n (l ∷ ls) ≡ feed (suc n) ls) → Goes s s (λ a. a) n l
  go_blank f ls = ap (from s) (f ls) ∙ sym (amap_id (from s (feed (suc n) ls)))

  row_of : (x : Answer Fault (Move s)) → on_row_of s (pad l) ≡ x → ((ls : List (List ℕ)) → feed n (l ∷ ls) ≡ row n (pad l) (feed (suc n) ls))
      → (ls : List (List ℕ)) → from s (feed n (l ∷ ls)) ≡ bind (on_line n x) (λ m. amap m.back (from m.to (feed (suc n) ls)))
  row_of x q f ls = ap (from s) (f ls) ∙ from_row s n (pad l) (feed (suc n) ls) ∙ ap (λ y. bind (on_line n y) (λ m. amap m.back (from m.to (feed (suc n) ls)))) q

  pub stop_row : (f : Fault) → on_row_of s (pad l) ≡ refused f → ((ls : List (List ℕ)) → feed n (l ∷ ls) ≡ row n (pad l) (feed (suc n) ls)) → Stops s n l (why f.number n f.column)
  unfolding bind on_line
  stop_row f q g = row_of (refused f) q g

  pub go_row : (m : Move s) → on_row_of s (pad l) ≡ ok m → ((ls : List (List ℕ)) → feed n (l ∷ ls) ≡ row n (pad l) (feed (suc n) ls)) → Goes s m.to m.back n l
  unfolding bind on_line
  go_row m q g = row_of (ok m) q g

same_move : {s : State} (m m' : Move s) → ◌≡◌ {A = Answer Fault (Move s)} (ok m) (ok m') → m ≡ m'
same_move m m' e = cc

pub in_aux : (s : State) (l : List ℕ) (m : Move s) → on_row_of s (pad l) ≡ ok m → InAux s → ¬ Bears aux_end l → InAux m.to
in_aux s l m q i n = rw (same_move m (record { to = s; back = λ m. m }) (sym q ∙ aux_row s (pad l) i n)) i

-- a line with itself
each : (s : State) (n : ℕ) (l : List ℕ) → Both s n l l
each s n l = by (sort n l) (on_row_of s (pad l)) refl
  where
    by : Sort n l → (x : Answer Fault (Move s)) → on_row_of s (pad l) ≡ x → Both s n l l
    by (long a f) x q = stop _ (stop_bad s n l _ f) (stop_bad s n l _ f)
    by (dirty a b f) x q = stop _ (stop_bad s n l _ f) (stop_bad s n l _ f)
    by (blank a b f) x q = go s (λ a. a) (go_blank s n l f) (go_blank s n l f) (λ e. absurd (not_blank l start_word e b)) (λ i k. i)
    by (shown a b f) (refused t) q = stop _ (stop_row s n l t q f) (stop_row s n l t q f)
    by (shown a b f) (ok m) q = go m.to m.back (go_row s n l m q f) (go_row s n l m q f) (λ e. yields _ (start_row s (pad l) e) q) (in_aux s l m q)

-- a line over 80 bytes or with a byte that is not printable, and a close one
module _ (s : State) (n : ℕ) (l l' : List ℕ) (h : Like l l') where
  unclean : (Clean l → Clean l' → Both s n l l') → Both s n l l'
  unfolding feed
  unclean k = by (dec_le (length l) 80) (all_dec (within? 32 126) l)
    where
      by : Dec (length l ≤ 80) → Dec (Printable l) → Both s n l l'
      by (no a) b =
          let e = like_length l l' h in
          stop _ (stop_bad s n l (why 1 n 81) (λ ls. pick_no (dec_le (length l) 80) _ _ a)) (stop_bad s n l' (why 1 n 81) (λ ls. pick_no (dec_le (length l') 80) _ _ (λ c. a (rw e c))))
      by (yes a) (no b) =
          let e = like_length l l' h in
          let a' : length l' ≤ 80 = omega arith in
          stop (why 2 n (bad_column l)) (stop_bad s n l _ (λ ls. pick_yes (dec_le (length l) 80) _ _ a ∙ pick_no (all_dec (within? 32 126) l) _ _ b))
          (stop_bad s n l' _ (λ ls. pick_yes (dec_le (length l') 80) _ _ a' ∙ pick_no (all_dec (within? 32 126) l') _ _ (λ c. b (like_printable l' l (like_back l l' h) c)) ∙ ap (λ c. bad (why 2 n c)) (sym (like_column l l' h))))
      by (yes a) (yes b) = let e = like_length l l' h in k (a, b) (omega arith, like_printable l l' h b)

-- inside an aux block a line that is not its end is skipped
pub quiet : (s : State) (n : ℕ) (l : List ℕ) → InAux s → ¬ Bears aux_end l → Clean l → Goes s s (λ a. a) n l
quiet s n l i k c = by (all_dec (λ b. ℕ_discrete b 32) l)
  where
    by : Dec (All Blank l) → Goes s s (λ a. a) n l
    by (yes b) = go_blank s n l (λ ls. feed_blank n l ls c b)
    by (no b) = go_row s n l (record { to = s; back = λ m. m }) (aux_row s (pad l) i k) (λ ls. feed_row n l ls c b)

-- no line without fault is refused
not_fine : (s : State) (n : ℕ) (ls : List (List ℕ)) (w : Why) {X : Type 0} → from s (feed n ls) ≡ refused w → ¬ (w.number ≡ 10) → Fine s n ls → X
not_fine s n ls w e t (inl f) = not_short (n + length ls) (sym f ∙ e) t
not_fine s n ls w e t (inr a) = let z : ◌≡◌ {A = Answer Why (Out s)} (ok a.0) (refused w) = sym a.1 ∙ e in let y : ◌≡◌ {A = ℕ} 0 1 = cc in absurd (omega arith)

module _ (s : State) (n : ℕ) (l l' : List ℕ) (h : Like l l') (d : drop 60 (pad l) ≡ drop 60 (pad l')) where
  aux_both : InAux s → ¬ Bears aux_end l → Both s n l l'
  aux_both i k = unclean s n l l' h (λ c c'. go s (λ a. a) (quiet s n l i k c) (quiet s n l' i (λ e. k (d ∙ e)) c') (λ e. i) (λ i k. i))

  comment_both : Bears comment l → (Printable l → Fine s n (l ∷ [])) → Both s n l l'
  comment_both q f = unclean s n l l' h (λ c c'. by c c' (comment_row s (pad l) (pad l') q (sym d ∙ q)) (on_row_of s (pad l)) refl)
    where
      g : Clean l → (ls : List (List ℕ)) → feed n (l ∷ ls) ≡ row n (pad l) (feed (suc n) ls)
      g c ls = feed_row n l ls c (not_blank l comment_word q)

      g' : Clean l' → (ls : List (List ℕ)) → feed n (l' ∷ ls) ≡ row n (pad l') (feed (suc n) ls)
      g' c ls = feed_row n l' ls c (not_blank l' comment_word (sym d ∙ q))

      by : Clean l → Clean l' → (on_row_of s (pad l) ≡ on_row_of s (pad l')) ⊎ ((f : Fault) × (on_row_of s (pad l) ≡ refused f) × ¬ (f.number ≡ 10))
          → (x : Answer Fault (Move s)) → on_row_of s (pad l) ≡ x → Both s n l l'
      by c c' (inl e) (refused t) z = stop _ (stop_row s n l t z (g c)) (stop_row s n l' t (sym e ∙ z) (g' c'))
      by c c' (inl e) (ok m) z = go m.to m.back (go_row s n l m z (g c)) (go_row s n l' m (sym e ∙ z) (g' c')) (λ e. yields _ (start_row s (pad l) e) z) (in_aux s l m z)
      by c c' (inr t) x z = not_fine s n (l ∷ []) _ (stop_row s n l t.0 t.1 (g c) []) t.2 (f c.1)

-- ---- what follows a line that is taken

short_back : {A B : Type 0} (b : A → B) (n : ℕ) (x : Answer Why A) → amap b x ≡ short n → (x ≡ short n) ⊎ ((a : A) × (x ≡ ok a))
unfolding amap short
short_back b n (ok a) e = inr (a, refl)
short_back b n (refused w) e = inl (ap refused (cc))

ok_back : {A B : Type 0} (b : A → B) (y : B) (x : Answer Why A) → amap b x ≡ ok y → (a : A) × (x ≡ ok a)
unfolding amap
ok_back b y (ok a) e = (a, refl)
ok_back b y (refused w) e = let z : ◌≡◌ {A = ℕ} 0 1 = cc in absurd (omega arith)

module _ (s s' : State) (b : Out s' → Out s) (n : ℕ) (l : List ℕ) (g : Goes s s' b n l) where
  fine_before : (ls : List (List ℕ)) → Fine s' (suc n) ls → Fine s n (l ∷ ls)
  unfolding amap
  fine_before ls (inl e) = inl (g ls ∙ ap (amap b) e ∙ amap_short b (suc n + length ls) ∙ ap short (omega arith))
  fine_before ls (inr a) = inr (b a.0, g ls ∙ ap (amap b) a.1)

  fine_after : (ls : List (List ℕ)) → Fine s n (l ∷ ls) → Fine s' (suc n) ls
  fine_after ls (inl e) = short_back b (suc n + length ls) (from s' (feed (suc n) ls)) (sym (g ls) ∙ e ∙ ap short (omega arith))
  fine_after ls (inr a) = inr (ok_back b a.0 (from s' (feed (suc n) ls)) (sym (g ls) ∙ a.1))

-- ---- remarks, from a state on: as in `Remarks`, or an aux block is open already

pub data RemarkAt (s : State) (n : ℕ) (ls : List (List ℕ)) (k : ℕ) : Type 0 where
  commented : Bears comment (get_or ls k []) → Stands (Fine s n) ls k → RemarkAt s n ls k
  inside : (a : ℕ) → a < k → Bears aux_start (get_or ls a []) → Unended ls a k → RemarkAt s n ls k
  open_yet : InAux s → ((b : ℕ) → b ≤ k → ¬ Bears aux_end (get_or ls b [])) → RemarkAt s n ls k

abbrev pub RewordedAt : State → ℕ → List (List ℕ) → List (List ℕ) → ℕ → Type 0
RewordedAt s n ls ls' k = (get_or ls k [] ≡ get_or ls' k []) ⊎ (RemarkAt s n ls k × SameLabel (get_or ls k []) (get_or ls' k []))

module _ (s s' : State) (b : Out s' → Out s) (n : ℕ) (l : List ℕ) (g : Goes s s' b n l) (opens : Bears aux_start l → InAux s') (stays : InAux s → ¬ Bears aux_end l → InAux s') where
  pub later : (ls : List (List ℕ)) (k : ℕ) → RemarkAt s n (l ∷ ls) (suc k) → RemarkAt s' (suc n) ls k
  later ls k (commented e f) = commented e (λ p x. fine_after s s' b n l g (take (suc k) ls) (f p (fine_before s s' b n l g (take k ls) x)))
  later ls k (inside zero h e f) = open_yet (opens e) (λ b h. f (suc b) (omega arith) (omega arith))
  later ls k (inside (suc a) h e f) = inside a (omega arith) e (λ b h k. f (suc b) (omega arith) (omega arith))
  later ls k (open_yet i f) = open_yet (stays i (f 0 (omega arith))) (λ b h. f (suc b) (omega arith))

both : (s : State) (n : ℕ) (l l' : List ℕ) (ls ls' : List (List ℕ)) → Like l l' → RewordedAt s n (l ∷ ls) (l' ∷ ls') 0 → Both s n l l'
both s n l l' ls ls' h (inl e) = rw (← e) (each s n l)
both s n l l' ls ls' h (inr x) = by x.0 (pad_tail l l' h x.1)
  where
    by : RemarkAt s n (l ∷ ls) 0 → drop 60 (pad l) ≡ drop 60 (pad l') → Both s n l l'
    by (commented e f) d = comment_both s n l l' h d e (λ p. f p (at_once s n))
    by (inside a k e f) d = absurd (omega arith)
    by (open_yet i f) d = aux_both s n l l' h d i (f 0 (omega arith))

-- and so does every beginning of them
pub same : (m : ℕ) (ls ls' : List (List ℕ)) (s : State) (n : ℕ) → Likes ls ls' → ((k : ℕ) → RewordedAt s n ls ls' k) → from s (feed n (take m ls)) ≡ from s (feed n (take m ls'))
same zero ls ls' s n h r = refl
same (suc m) [] [] s n h r = refl
same (suc m) [] (l ∷ ls') s n h r = absurd h
same (suc m) (l ∷ ls) [] s n h r = absurd h
same (suc m) (l ∷ ls) (l' ∷ ls') s n h r = by (both s n l l' ls ls' h.0 (r 0)) (λ s' x. same m ls ls' s' (suc n) h.1 x)
  where
    by : Both s n l l' → ((s' : State) → ((k : ℕ) → RewordedAt s' (suc n) ls ls' k) → from s' (feed (suc n) (take m ls)) ≡ from s' (feed (suc n) (take m ls')))
        → from s (feed n (l ∷ take m ls)) ≡ from s (feed n (l' ∷ take m ls'))
    by (stop w f f') ih = f (take m ls) ∙ sym (f' (take m ls'))
    by (go s' b g g' o t) ih = g (take m ls) ∙ ap (amap b) (ih s' (λ k. ⊎_elim inl (λ x. inr (later s s' b n l g o t ls k x.0, x.1)) (r (suc k)))) ∙ sym (g' (take m ls'))
