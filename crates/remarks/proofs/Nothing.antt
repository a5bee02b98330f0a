-- Document 02, Ask 9: nothing from the remarks. And `Remarked` is reflexive, symmetric and transitive.
use mathlib.Core.Path.{◌≡◌, refl, sym, ap, ◌∙◌}
use mathlib.Core.Logic.{inl, inr, ⊎_elim}
use mathlib.Core.Option.{Option, none, some}
use mathlib.Core.List.{List, []}
use Prim.Native.Nat.{ℕ, suc, min}
use native.Mathlib.Omega.{arith}
use lib.IntN.{ℤ, negsuc}
use lib.ListN.{length, take, drop, get_or, length-take}
use lib.Seq.{take-length}
use Rattle.std.specs.Prelude.{Result, Ok, Err}
use Rattle.kit.specs.Answer.{Answer, ok, refused}
use Rattle.mapset.specs.Grid.{columns}
use Rattle.mapset.specs.MapSet.{MapSet}
use Rattle.mapset.specs.Areas.{Areas}
use Rattle.layout.specs.Text.{pad}
use Rattle.reading.specs.declared.Why.{Why}
use Rattle.reading.specs.Feed.{split, feed}
use Rattle.reading.specs.Maps.{short}
use Rattle.reading.specs.Read.{begin, read}
use Rattle.reading.proofs.Machine.{first, from}
use Rattle.reading.proofs.RefusalLaws.{Fine}
use Rattle.reading.specs.Refusals.{reads, Faultless}
use Rattle.areas.specs.Flat.{areas}
use Rattle.read_lines.specs.Cuts.{cuts}
use Rattle.read_needs.specs.Needs.{first_short}
use Rattle.read_outcome.specs.Outcome.{accepted, outcome, outcome_of, comes}
use Rattle.read_outcome.specs.Measures.{Measures}
use Rattle.read_outcome.proofs.Once.{needs_once}
use Rattle.read_needs.specs.declared.Elements.{Elements}
use Rattle.read_outcome.specs.declared.Reason.{Reason}
use Rattle.read_outcome.specs.declared.ReadOut.{ReadOut}
use Rattle.c_answers.specs.Own.{too_short, unless}
use Rattle.c_answers.specs.ReadExported.{crossed, crosses, read_crossed}
use Rattle.c_answers.specs.NeedsExported.{NeedsCross, area_short, answered}
use Rattle.c_answers.proofs.NeedsOnce.{ionex_needs_once}
use Rattle.index.specs.Index.{Entries, entries}
use Rattle.index.specs.Made.{placed_from, positions_of, entries_of, fronts}
use Rattle.index.proofs.FoundLaws.{cuts_split}
use Rattle.index_text.specs.Making.{needed_and_lent, with_room, made_of, made}
use Rattle.index_text.proofs.Once.{Indexes, index_once}
use Rattle.c_index.specs.IndexExported as index
use Rattle.c_index.specs.IndexExported.{index_crossed}
use Rattle.remarks.specs.Remarks.{Remark, commented, inside, Reworded, Close, Remarked}
use Rattle.remarks.proofs.Likes.{close_back, like, like_back, like_printable, pad_tail, Likes, like_lines, likes_length, likes_at}
use Rattle.remarks.proofs.Same as at
use Rattle.remarks.proofs.Same.{RemarkAt, same}
use Rattle.remarks.proofs.Gains.{gained}
use Rattle.remarks.proofs.SameIndex.{like_cuts, same_gains, positions_by, positions_gained}

-- ---- from the text's first line on

fine : (ls : List (List ℕ)) → Faultless ls → Fine first 1 ls
unfolding reads from
fine ls f = ⊎_elim (λ e. inl (e ∙ ap short (omega arith))) inr f

faultless : (ls : List (List ℕ)) → Fine first 1 ls → Faultless ls
unfolding reads from
faultless ls f = ⊎_elim (λ e. inl (e ∙ ap short (omega arith))) inr f

from_first : (ls : List (List ℕ)) (k : ℕ) → Remark ls k → RemarkAt first 1 ls k
from_first ls k (commented e f) = at.commented e (λ p x. fine (take (suc k) ls) (f p (faultless (take k ls) x)))
from_first ls k (inside a h e f) = at.inside a h e f

module _ (ls ls' : List (List ℕ)) (h : Likes ls ls') (r : (k : ℕ) → Reworded ls ls' k) where
  beginnings : (m : ℕ) → reads (take m ls) ≡ reads (take m ls')
  unfolding reads from
  beginnings m = same m ls ls' first 1 h (λ k. ⊎_elim inl (λ x. inr (from_first ls k x.0, x.1)) (r k))

  lines_same : reads ls ≡ reads ls'
  lines_same = ap reads (sym (take-length ls)) ∙ beginnings (length ls) ∙ ap (λ n. reads (take n ls')) (likes_length ls ls' h) ∙ ap reads (take-length ls')

module _ (t t' : List ℕ) (r : Remarked t t') where
  lines_like : Likes (split t) (split t')
  lines_like = like_lines t t' (like t t' r.as_long r.close)

  -- the same answer, line and column included, for accepted and refused texts alike
  pub nothing_from_remarks : read t ≡ read t'
  unfolding read reads
  nothing_from_remarks = lines_same (split t) (split t') lines_like r.reworded

  -- and the same texts and areas, whatever was lent
  pub nothing_in_areas : (l : Areas) → outcome t l ≡ outcome t' l
  nothing_in_areas l = ap (λ x. outcome_of x l) nothing_from_remarks

  -- so two calls of `ionex::read`, whose contract is this equation, hand back the same and leave the same in the areas
  pub nothing_to_callers : (r r' : ReadOut) (l m m' : Areas) → comes r m ≡ outcome t l → comes r' m' ≡ outcome t' l → comes r m ≡ comes r' m'
  nothing_to_callers r r' l m m' e e' = e ∙ nothing_in_areas l ∙ sym e'

  -- and two calls of `ionex_read`, in all that crosses to other languages
  pub nothing_crosses : (l : Areas) (h : List ℤ) (x p : List ℕ) → read_crossed t l h x p ≡ read_crossed t' l h x p
  unfolding read_crossed
  nothing_crosses l h x p = ap (λ o. unless (too_short (length h) (length x) (length p) 2) (crosses o h x p) (λ k. crossed k l h x p)) (nothing_in_areas l)

  -- what each area needs is the same too, or the refusal
  needed : (a : Result Elements Reason) → Measures t' a → Measures t a
  needed (Ok n) (m, (e, f)) = (m, (nothing_from_remarks ∙ e, f))
  needed (Err w) (y, (e, f)) = (y, (nothing_from_remarks ∙ e, f))

  pub nothing_needed : (a b : Result Elements Reason) → Measures t a → Measures t' b → a ≡ b
  nothing_needed a b p q = needs_once t a b p (needed b q)

  -- and two calls of `ionex_needs`
  crosses_needed : (n p : List ℕ) {k : ℕ} {u x : List ℕ} → NeedsCross t' n p k u x → NeedsCross t n p k u x
  crosses_needed n p (area_short a) = area_short a
  crosses_needed n p (answered a b m e) = answered a b m (needed m e)

  pub nothing_crosses_needed : (n p : List ℕ) {j k : ℕ} {u v x y : List ℕ} → NeedsCross t n p j u x → NeedsCross t' n p k v y → (j ≡ k) × ((u ≡ v) × (x ≡ y))
  nothing_crosses_needed n p a b = ionex_needs_once t n p a (crosses_needed n p b)

  -- ---- of an index

  -- its positions, where the text is accepted
  same_positions : (m : MapSet) → read t ≡ ok m → positions_of m.header (placed_from t 0) ≡ positions_of m.header (placed_from t' 0)
  unfolding read from
  same_positions m e =
      let C : ℕ = columns m.header.grid in
      let g : gained C first (negsuc 0) (placed_from t 0) ≡ gained C first (negsuc 0) (placed_from t' 0) =
      same_gains C (cuts t) (cuts t') first (negsuc 0) 1 0 (like_cuts t t' (like t t' r.as_long r.close))
      (λ k. rw (cuts_split t, cuts_split t') (⊎_elim inl (λ x. inr (from_first (split t) k x.0, x.1)) (r.reworded k)))
      m refl (ap (λ ls. begin (feed 1 ls)) (cuts_split t) ∙ e) in
      positions_gained m.header (placed_from t 0) ∙ ap (positions_by m.header) g ∙ sym (positions_gained m.header (placed_from t' 0))

  -- the same answer, header record and texts, and the same in the areas, whatever was lent
  pub nothing_in_index : (l : Entries) → made t l ≡ made t' l
  unfolding made_of with_room
  nothing_in_index l = by (read t) refl ∙ ap (λ x. made_of x t' l) nothing_from_remarks
    where
      by : (x : Answer Why MapSet) → read t ≡ x → made_of x t l ≡ made_of x t' l
      by (refused w) e = refl
      by (ok m) e =
          let p : entries_of m t ≡ entries_of m t' = ap (λ o. entries o (areas m).exponents (areas m).marks) (same_positions m e) in
          ap (λ a. with_room m t l (first_short 1 (needed_and_lent a l))) p ∙ room m p (first_short 1 (needed_and_lent (entries_of m t') l))
        where
          room : (m : MapSet) → entries_of m t ≡ entries_of m t' → (o : Option (ℕ × ℕ)) → with_room m t l o ≡ with_room m t' l o
          room m p none = ap (λ a. record { told = accepted m.header; texts = m.texts; entries = fronts a l }) p
          room m p (some s) = refl

  -- so of two calls of `make_index`
  pub nothing_to_indexes : (l : Entries) (a b : ReadOut) (l' l'' : Entries) → Indexes t l a l' → Indexes t' l b l'' → (a ≡ b) × (l' ≡ l'')
  nothing_to_indexes l a b l' l'' p q = index_once t l a b l' l'' p (q ∙ sym (nothing_in_index l))

  -- and of `ionex_index`
  pub nothing_crosses_index : (l : Entries) (h : List ℤ) (x p : List ℕ) → index_crossed t l h x p ≡ index_crossed t' l h x p
  unfolding index_crossed
  nothing_crosses_index l h x p = ap (λ o. unless (too_short (length h) (length x) (length p) 2) (index.crosses o h x p) (λ k. index.crossed k l h x p)) (nothing_in_index l)

-- ---- the relation

pub reflexive : (t : List ℕ) → Remarked t t
reflexive t = record { as_long = refl; close = λ i. inl refl; reworded = λ k. inl refl }

faultless_over : (a b : List (List ℕ)) → reads a ≡ reads b → length a ≡ length b → Faultless a → Faultless b
faultless_over a b e n (inl f) = inl (sym e ∙ f ∙ ap (λ n. short (suc n)) n)
faultless_over a b e n (inr m) = inr (m.0, sym e ∙ m.1)

module _ (ls ls' : List (List ℕ)) (h : Likes ls ls') (r : (k : ℕ) → Reworded ls ls' k) where
  tails : (k : ℕ) → drop 60 (pad (get_or ls k [])) ≡ drop 60 (pad (get_or ls' k []))
  tails k = ⊎_elim (ap (λ l. drop 60 (pad l))) (λ q. pad_tail (get_or ls k []) (get_or ls' k []) (likes_at ls ls' k h) q.1) (r k)

  lengths : (m : ℕ) → length (take m ls) ≡ length (take m ls')
  lengths m = length-take m ls ∙ ap (min m) (likes_length ls ls' h) ∙ sym (length-take m ls')

  -- a remark of one is a remark of the other
  over : (k : ℕ) → Remark ls k → Remark ls' k
  over k (commented e f) =
      commented (sym (tails k) ∙ e)
      (λ p x. faultless_over (take (suc k) ls) (take (suc k) ls') (beginnings ls ls' h r (suc k)) (lengths (suc k))
      (f (like_printable (get_or ls' k []) (get_or ls k []) (like_back (get_or ls k []) (get_or ls' k []) (likes_at ls ls' k h)) p) (faultless_over (take k ls') (take k ls) (sym (beginnings ls ls' h r k)) (sym (lengths k)) x)))
  over k (inside a i e f) = inside a i (sym (tails a) ∙ e) (λ b j j' x. f b j j' (tails b ∙ x))

  back : (k : ℕ) → Reworded ls' ls k
  back k = ⊎_elim (λ e. inl (sym e)) (λ x. inr (over k x.0, sym x.1)) (r k)

symmetric : (t t' : List ℕ) → Remarked t t' → Remarked t' t
symmetric t t' r =
    record {
      as_long = sym r.as_long;
      close = λ i. close_back (get_or t i 0) (get_or t' i 0) (r.close i);
      reworded = back (split t) (split t') (lines_like t t' r) r.reworded;
    }

close_on : (a b c : ℕ) → Close a b → Close b c → Close a c
close_on a b c (inl e) y = rw e y
close_on a b c (inr w) (inl e) = inr (w.0, rw e at w.1)
close_on a b c (inr w) (inr v) = inr (w.0, v.1)

pub transitive : (t t' t'' : List ℕ) → Remarked t t' → Remarked t' t'' → Remarked t t''
transitive t t' t'' r q =
    record {
      as_long = r.as_long ∙ q.as_long;
      close = λ i. close_on (get_or t i 0) (get_or t' i 0) (get_or t'' i 0) (r.close i) (q.close i);
      reworded = λ k. on k (r.reworded k) (q.reworded k);
    }
  where
    on : (k : ℕ) → Reworded (split t) (split t') k → Reworded (split t') (split t'') k → Reworded (split t) (split t'') k
    on k (inl e) (inl e') = inl (e ∙ e')
    on k (inr x) (inl e') = inr (x.0, x.1 ∙ ap (drop 60) e')
    on k (inr x) (inr y) = inr (x.0, x.1 ∙ y.1)
    on k (inl e) (inr y) =
        let r' = symmetric t t' r in
        inr (over (split t') (split t) (lines_like t' t r') r'.reworded k y.0, ap (drop 60) e ∙ y.1)
