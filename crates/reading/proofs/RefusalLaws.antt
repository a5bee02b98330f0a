-- Refusals, in 01's words: a refusal is decided by the lines up to its own, and the lines before it were without fault.
use mathlib.Core.Path.{◌≡◌, refl, sym, ap, ◌∙◌}
use mathlib.Core.Logic.{◌⊎◌, inl, inr, ⊎_elim}
use Prim.Native.Nat.{ℕ, zero, suc, ◌+◌, ◌*◌, ◌-◌, ◌≤◌, ◌<◌}
use native.Mathlib.Omega.{arith}
use native.Mathlib.Decide.{ℕ_discrete, dec_le}
use mathlib.Core.List.{List, [], ◌∷◌}
use lib.IntN.{ℤ}
use lib.ListN.{length, take, drop, get_or}
use Rattle.kit.specs.Answer.{Answer, ok, refused, bind, amap, all_dec, All}
use Rattle.kit.proofs.AnswerLaws.{pick_yes, pick_no, Yields, y_ok, y_no, yields, amap_yields}
use Rattle.kit.specs.Range.{Within, within?, Printable}
use Rattle.forms.specs.Columns.{Blank}
use Rattle.mapset.specs.declared.Version.{Version}
use Rattle.mapset.specs.declared.Header.{Header}
use Rattle.layout.specs.Text.{Clean, pad}
use Rattle.layout.specs.Layout.{Force, Slots, Lines, Mode}
use Rattle.reading.specs.declared.Fault.{Fault}
use Rattle.reading.specs.declared.Why.{Why}
use Rattle.reading.specs.Feed.{why, on_line, over, bad, row, bad_column, feed}
use Rattle.reading.specs.Maps.{short, on_row}
use Rattle.reading.specs.Head.{Turn, more, done}
use Rattle.reading.proofs.LineLaws.{feed_blank, feed_row, padded}
use Rattle.reading.proofs.Blame.{Blames, blamed, amap_blames, cells_blame, step_blames, head_step_blames, version_blames}
use Rattle.reading.specs.Refusals.{Later, four, five, six, six_value, seven, eight, nine, First, three, six_first, Placed, Cause, too_long, bad_byte, by_row}
use Rattle.reading.proofs.Machine.{State, first, header, maps, Out, turn, from, Move, on_row_of, from_bad, Over, from_over, from_row, amap_id}
use Rattle.reading.specs.declared.Place.{Place}

-- ---- what a line hands on, whatever follows it

pub data Sort (n : ℕ) (l : List ℕ) : Type 0 where
  long : ¬ (length l ≤ 80) → ((ls : List (List ℕ)) → feed n (l ∷ ls) ≡ bad (why 1 n 81)) → Sort n l
  dirty : length l ≤ 80 → ¬ Printable l → ((ls : List (List ℕ)) → feed n (l ∷ ls) ≡ bad (why 2 n (bad_column l))) → Sort n l
  blank : Clean l → All Blank l → ((ls : List (List ℕ)) → feed n (l ∷ ls) ≡ feed (suc n) ls) → Sort n l
  shown : Clean l → ¬ All Blank l → ((ls : List (List ℕ)) → feed n (l ∷ ls) ≡ row n (pad l) (feed (suc n) ls)) → Sort n l

pub sort : (n : ℕ) (l : List ℕ) → Sort n l
unfolding feed
sort n l = by (dec_le (length l) 80) (all_dec (within? 32 126) l) (all_dec (λ b. ℕ_discrete b 32) l)
  where
    by : Dec (length l ≤ 80) → Dec (Printable l) → Dec (All Blank l) → Sort n l
    by (no a) b c = long a (λ ls. pick_no (dec_le (length l) 80) _ _ a)
    by (yes a) (no b) c = dirty a b (λ ls. pick_yes (dec_le (length l) 80) _ _ a ∙ pick_no (all_dec (within? 32 126) l) _ _ b)
    by (yes a) (yes b) (yes c) = blank (a, b) c (λ ls. feed_blank n l ls (a, b) c)
    by (yes a) (yes b) (no c) = shown (a, b) c (λ ls. feed_row n l ls (a, b) c)

-- ---- the numbers of a row's refusal

abbrev NumberIn : State → Fault → Type 0
NumberIn first f = First f
NumberIn (header c a e got ds) f = Later f
NumberIn (maps h q p c) f = Later f

row_blames : (s : State) (r : List ℕ) → length r ≡ 80 → Blames (NumberIn s) (on_row_of s r)
unfolding on_row_of
row_blames first r n = amap_blames _ (version_blames r)
row_blames (header c a e got ds) r n = amap_blames _ (head_step_blames c e got ds r a)
row_blames (maps h q p zero) r n = amap_blames _ (step_blames h p r q)
row_blames (maps h q p (suc c)) r n =
    let m = on_row (suc c) in
    amap_blames _ (cells_blame 1 m (80 - 5 * m) r (omega arith) (λ x k. six_value m (omega arith, omega arith) k))

later_range : {f : Fault} → Later f → Within 4 9 f.number
later_range four = (omega arith, omega arith)
later_range five = (omega arith, omega arith)
later_range (six l h) = (omega arith, omega arith)
later_range (six_value m k h) = (omega arith, omega arith)
later_range (seven t) = (omega arith, omega arith)
later_range (eight t) = (omega arith, omega arith)
later_range nine = (omega arith, omega arith)

first_range : {f : Fault} → First f → Within 3 9 f.number
first_range (three t) = (omega arith, omega arith)
first_range (six_first h) = (omega arith, omega arith)

three_to_nine : (s : State) (f : Fault) → NumberIn s f → Within 3 9 f.number
three_to_nine first f t = first_range t
three_to_nine (header c a e got ds) f t = let x = later_range t in (omega arith, omega arith)
three_to_nine (maps h q p c) f t = let x = later_range t in (omega arith, omega arith)

three_first : (s : State) (f : Fault) → NumberIn s f → f.number ≡ 3 → s ≡ first
three_first first f t e = refl
three_first (header c a e got ds) f t q = let x = later_range t in absurd (omega arith)
three_first (maps h r p c) f t q = let x = later_range t in absurd (omega arith)

placed : (s : State) (f : Fault) → NumberIn s f → Placed f
placed first f t = inl t
placed (header c a e got ds) f t = inr t
placed (maps h q p c) f t = inr t

-- no row leads back to the version record
always : {W A : Type 0} {Q : A → Type 0} (x : Answer W A) → ((a : A) → Q a) → Yields Q x
always (ok a) f = y_ok (f a)
always (refused w) f = y_no

in_header : {c : Version} {a : Mode} {e : ℤ} {got : Slots} {ds : Lines} → ¬ (header c a e got ds ≡ first)
in_header q = let z : ◌≡◌ {A = ℕ} 0 1 = cc in omega arith

in_maps : {h : Header} {q : Place} {p : Force} {c : ℕ} → ¬ (maps h q p c ≡ first)
in_maps e = let z : ◌≡◌ {A = ℕ} 0 1 = cc in omega arith

moves_on : (s : State) (r : List ℕ) → Yields (λ (m : Move s). ¬ (m.to ≡ first)) (on_row_of s r)
unfolding on_row_of
moves_on first r = amap_yields _ (always _ (λ c. in_header))
moves_on (header c a e got ds) r = amap_yields _ (always _ turns)
  where
    turns : (t : Turn) → ¬ ((turn c a e got ds t).to ≡ first)
    turns (more a' e' got' ds') = in_header
    turns done = in_maps
moves_on (maps h q p zero) r = amap_yields _ (always _ (λ x. in_maps))
moves_on (maps h q p (suc c)) r = amap_yields _ (always _ (λ zs. in_maps))

-- ---- a refusal at a line

-- the lines ls, read from a state on, are without fault: accepted, or only cut short
abbrev pub Fine : (s : State) (n : ℕ) → List (List ℕ) → Type 0
Fine s n ls = (from s (feed n ls) ≡ short (n + length ls)) ⊎ ((a : Out s) × (from s (feed n ls) ≡ ok a))

-- w is told of the line after `before` others; the lines before it are without fault, and it is decided by the lines up to its own;
-- 3 is told of the first line that is not blank
pub record ToldAtLine (s : State) (n : ℕ) (ls : List (List ℕ)) (w : Why) : Type 0 where
  pub before : ℕ
  pub line : w.line ≡ n + before
  pub inside : before < length ls
  pub cause : Cause (get_or ls before []) w
  pub three : w.number ≡ 3 → (s ≡ first) × All (All Blank) (take before ls)
  pub fine : Fine s n (take before ls)
  pub decided : (ls' : List (List ℕ)) → take (suc before) ls' ≡ take (suc before) ls → from s (feed n ls') ≡ refused w

-- the lines end too early: every beginning of them does
pub record Cut (s : State) (n : ℕ) (ls : List (List ℕ)) (w : Why) : Type 0 where
  pub every : (k : ℕ) → k ≤ length ls → from s (feed n (take k ls)) ≡ short (n + k)

begins_with : (l : List ℕ) (ls ls' : List (List ℕ)) → take 1 ls' ≡ l ∷ ls → (rest : List (List ℕ)) × (ls' ≡ l ∷ rest)
begins_with l ls [] e = let z : ◌≡◌ {A = ℕ} 0 1 = cc in absurd (omega arith)
begins_with l ls (x ∷ ls') e = (ls', cc)

starts_with : (k : ℕ) (l : List ℕ) (ls ls' : List (List ℕ)) → take (suc k) ls' ≡ l ∷ ls → (rest : List (List ℕ)) × (ls' ≡ l ∷ rest) × (take k rest ≡ ls)
starts_with k l ls [] e = let z : ◌≡◌ {A = ℕ} 0 1 = cc in absurd (omega arith)
starts_with k l ls (x ∷ ls') e = (ls', cc, cc)

-- nothing was read yet
pub at_once : (s : State) (n : ℕ) → Fine s n []
unfolding feed
at_once s n = ⊎_elim (λ f. inl (f n ∙ ap short (omega arith))) (λ o. inr (o.out, o.accepted n)) (from_over s)

-- told of the first line
here : (s : State) (n : ℕ) (l : List ℕ) (ls : List (List ℕ)) (w : Why) → w.line ≡ n → Cause l w → (w.number ≡ 3 → s ≡ first) → ((ls : List (List ℕ)) → from s (feed n (l ∷ ls)) ≡ refused w) → ToldAtLine s n (l ∷ ls) w
here s n l ls w e x y f =
    record {
      before = 0;
      line = e ∙ omega arith;
      inside = omega arith;
      cause = x;
      three = λ q. (y q, tt);
      fine = at_once s n;
      decided = λ ls' q. let t = begins_with l [] ls' q in ap (λ x. from s (feed n x)) t.1 ∙ f t.0;
    }

pub amap_short : {A B : Type 0} (b : A → B) (n : ℕ) → amap b (short n) ≡ short n
unfolding amap short
amap_short b n = refl

-- told of a later line

module _ (s s' : State) (b : Out s' → Out s) (n : ℕ) (l : List ℕ) (g : (ls : List (List ℕ)) → from s (feed n (l ∷ ls)) ≡ amap b (from s' (feed (suc n) ls))) where
  later_short : (ls : List (List ℕ)) (k : ℕ) → from s' (feed (suc n) ls) ≡ short (suc n + k) → from s (feed n (l ∷ ls)) ≡ short (n + suc k)
  later_short ls k e = g ls ∙ ap (amap b) e ∙ amap_short b (suc n + k) ∙ ap short (omega arith)

  later_fine : (ls : List (List ℕ)) → Fine s' (suc n) ls → Fine s n (l ∷ ls)
  unfolding amap
  later_fine ls (inl e) = inl (later_short ls (length ls) e)
  later_fine ls (inr a) = inr (b a.0, g ls ∙ ap (amap b) a.1)

  later_told : (ls : List (List ℕ)) (w : Why) → (s' ≡ first → (s ≡ first) × All Blank l) → ToldAtLine s' (suc n) ls w → ToldAtLine s n (l ∷ ls) w
  unfolding amap
  later_told ls w k t =
      record {
        before = suc t.before;
        line = t.line ∙ omega arith;
        inside = omega (arith, t.inside);
        cause = t.cause;
        three = λ q. let x = t.three q in let y = k x.0 in (y.0, (y.1, x.1));
        fine = later_fine (take t.before ls) t.fine;
        decided = λ ls' q. let x = starts_with (suc t.before) l (take (suc t.before) ls) ls' q in
            ap (λ y. from s (feed n y)) x.1 ∙ g x.0 ∙ ap (amap b) (t.decided x.0 x.2);
      }

  later_cut : (ls : List (List ℕ)) (w : Why) → ((n : ℕ) → from s (over n) ≡ short n) → Cut s' (suc n) ls w → Cut s n (l ∷ ls) w
  unfolding feed
  later_cut ls w o t = record { every = by }
    where
      by : (k : ℕ) → k ≤ length (l ∷ ls) → from s (feed n (take k (l ∷ ls))) ≡ short (n + k)
      by zero h = o n ∙ ap short (omega arith)
      by (suc k) h = later_short (take k ls) k (t.every k (omega arith))

-- every refusal is one or the other
unfoldable pub Refusal : (s : State) (n : ℕ) (ls : List (List ℕ)) (w : Why) → Type 0
Refusal s n ls w = ToldAtLine s n ls w ⊎ Cut s n ls w

not_both : {W A : Type 0} {a : A} {w : W} {X : Type 0} → ◌≡◌ {A = Answer W A} (ok a) (refused w) → X
not_both {a = a} {w} e = let z : ◌≡◌ {A = ℕ} 0 1 = cc in absurd (omega arith)

ok_short : {A : Type 0} {a : A} (n : ℕ) {X : Type 0} → ◌≡◌ {A = Answer Why A} (ok a) (short n) → X
unfolding short
ok_short n e = not_both e

amap_refused : {A B : Type 0} (b : A → B) (x : Answer Why A) {w : Why} → amap b x ≡ refused w → x ≡ refused w
unfolding amap
amap_refused b (ok a) e = not_both e
amap_refused b (refused v) e = cc

at_none : (s : State) (n : ℕ) (ls : List (List ℕ)) {w : Why} → Cut s n ls w → from s (over n) ≡ short (n + 0)
unfolding feed
at_none s n ls c = c.every 0 (omega arith)

-- after a line that is taken
on : (s s' : State) (b : Out s' → Out s) (n : ℕ) (l : List ℕ) (ls : List (List ℕ)) (w : Why)
    → ((ls : List (List ℕ)) → from s (feed n (l ∷ ls)) ≡ amap b (from s' (feed (suc n) ls))) → (Over s → Over s') → (s' ≡ first → (s ≡ first) × All Blank l)
    → (from s' (feed (suc n) ls) ≡ refused w → Refusal s' (suc n) ls w) → from s (feed n (l ∷ ls)) ≡ refused w → Refusal s n (l ∷ ls) w
unfolding Refusal
on s s' b n l ls w g o k ih e = ⊎_elim (λ t. inl (later_told s s' b n l g ls w k t)) (λ c. inr (by c (from_over s))) (ih (amap_refused b (from s' (feed (suc n) ls)) (sym (g ls) ∙ e)))
  where
    by : Cut s' (suc n) ls w → ((n : ℕ) → from s (over n) ≡ short n) ⊎ Over s → Cut s n (l ∷ ls) w
    by c (inl f) = later_cut s s' b n l g ls w f c
    by c (inr x) = ok_short (suc n + 0) (sym ((o x).accepted (suc n)) ∙ at_none s' (suc n) ls c)

-- told of a line by the row that it shows, or by its bytes
bad_line : (s : State) (n : ℕ) (l : List ℕ) (ls : List (List ℕ)) (v w : Why) → v.line ≡ n → Cause l v → (v.number ≡ 3 → s ≡ first) → ((ls : List (List ℕ)) → from s (feed n (l ∷ ls)) ≡ refused v)
    → from s (feed n (l ∷ ls)) ≡ refused w → ToldAtLine s n (l ∷ ls) w
bad_line s n l ls v w q x t f e =
    let z = f ls in
    let y : v ≡ w = cc in
    rw y at (here s n l ls v q x t f)

shown_row : (s : State) (n : ℕ) (l : List ℕ) (x : Answer Fault (Move s)) → on_row_of s (pad l) ≡ x → ((ls : List (List ℕ)) → feed n (l ∷ ls) ≡ row n (pad l) (feed (suc n) ls))
    → (ls : List (List ℕ)) → from s (feed n (l ∷ ls)) ≡ bind (on_line n x) (λ m. amap m.back (from m.to (feed (suc n) ls)))
shown_row s n l x q f ls = ap (from s) (f ls) ∙ from_row s n (pad l) (feed (suc n) ls) ∙ ap (λ y. bind (on_line n y) (λ m. amap m.back (from m.to (feed (suc n) ls)))) q

pub refusal : (ls : List (List ℕ)) (s : State) (n : ℕ) (w : Why) → from s (feed n ls) ≡ refused w → Refusal s n ls w
unfolding feed Refusal bind on_line
refusal [] s n w e = by (from_over s)
  where
    by : ((n : ℕ) → from s (over n) ≡ short n) ⊎ Over s → Refusal s n [] w
    by (inl f) = inr (record { every = λ k h. let z : k ≡ 0 = omega arith in rw z (f n ∙ ap short (omega arith)) })
    by (inr o) = not_both (sym (o.accepted n) ∙ e)
refusal (l ∷ ls) s n w e = by (sort n l) (on_row_of s (pad l)) refl (λ s'. refusal ls s' (suc n) w)
  where
    by : Sort n l → (x : Answer Fault (Move s)) → on_row_of s (pad l) ≡ x → ((s' : State) → from s' (feed (suc n) ls) ≡ refused w → Refusal s' (suc n) ls w) → Refusal s n (l ∷ ls) w
    by (long a f) x q ih = inl (bad_line s n l ls _ w refl (too_long a refl refl) (λ z. absurd (omega arith)) (λ ls. ap (from s) (f ls) ∙ from_bad s _) e)
    by (dirty a b f) x q ih = inl (bad_line s n l ls _ w refl (bad_byte a b refl refl) (λ z. absurd (omega arith)) (λ ls. ap (from s) (f ls) ∙ from_bad s _) e)
    by (blank a b f) x q ih = on s s (λ a. a) n l ls w (λ ls. ap (from s) (f ls) ∙ sym (amap_id (from s (feed (suc n) ls)))) (λ o. o) (λ z. (z, b)) (ih s) e
    by (shown a b f) (refused t) q ih =
        let y : NumberIn s t = blamed (rw q at (row_blames s (pad l) (padded l a.0))) in
        inl (bad_line s n l ls _ w refl (by_row a b (three_to_nine s t y) (placed s t y)) (three_first s t y) (shown_row s n l (refused t) q f) e)
    by (shown a b f) (ok m) q ih = on s m.to m.back n l ls w (shown_row s n l (ok m) q f) (λ o. not_both (sym q ∙ (o.stops (pad l)).1)) (λ z. absurd (yields _ (moves_on s (pad l)) q z)) (ih m.to) e

-- ---- a line that is refused wherever it stands, after lines without fault

pub not_short : {A : Type 0} (n : ℕ) {w : Why} {X : Type 0} → ◌≡◌ {A = Answer Why A} (short n) (refused w) → ¬ (w.number ≡ 10) → X
unfolding short
not_short n {w} e t = absurd (t (ap (λ v. v.number) (sym (same_why e))))
  where
    same_why : {A : Type 0} {v w : Why} → ◌≡◌ {A = Answer Why A} (refused v) (refused w) → v ≡ w
    same_why e = cc

not_fine : (s : State) (n : ℕ) (ls : List (List ℕ)) {w : Why} {X : Type 0} → from s (feed n ls) ≡ refused w → ¬ (w.number ≡ 10) → Fine s n ls → X
not_fine s n ls e t (inl f) = not_short (n + length ls) (sym f ∙ e) t
not_fine s n ls e t (inr a) = not_both (sym a.1 ∙ e)

same_refusal : {A B : Type 0} (b : A → B) (n : ℕ) {w : Why} → ◌≡◌ {A = Answer Why B} (amap b (refused w)) (short n) → ◌≡◌ {A = Answer Why A} (refused w) (short n)
unfolding amap short
same_refusal b n e = ap refused (cc)

-- what follows a line that is taken is without fault where the whole is
then_fine : (s s' : State) (b : Out s' → Out s) (n : ℕ) (l : List ℕ) (ls : List (List ℕ))
    → ((ls : List (List ℕ)) → from s (feed n (l ∷ ls)) ≡ amap b (from s' (feed (suc n) ls))) → Fine s n (l ∷ ls) → Fine s' (suc n) ls
unfolding amap
then_fine s s' b n l ls g f = by (from s' (feed (suc n) ls)) refl f
  where
    by : (x : Answer Why (Out s')) → from s' (feed (suc n) ls) ≡ x → Fine s n (l ∷ ls) → Fine s' (suc n) ls
    by (ok a) e f = inr (a, e)
    by (refused w) e (inl f) = inl (e ∙ same_refusal b (suc n + length ls) (sym (ap (amap b) e) ∙ sym (g ls) ∙ f ∙ ap short (omega arith)))
    by (refused w) e (inr a) = not_both (sym a.1 ∙ g ls ∙ ap (amap b) e)

amap_no : {A B : Type 0} (b : A → B) (w : Why) → amap b (refused w) ≡ refused w
unfolding amap
amap_no b w = refl

-- a line that every state refuses is refused after lines without fault
pub reaches : (k : ℕ) (ls : List (List ℕ)) (s : State) (n : ℕ) (w : Why) → k < length ls → Fine s n (take k ls) → ((s' : State) → from s' (feed (n + k) (drop k ls)) ≡ refused w)
    → from s (feed n ls) ≡ refused w
unfolding bind on_line
reaches zero ls s n w h f g = ap (λ m. from s (feed m ls)) (omega arith) ∙ g s
reaches (suc k) [] s n w h f g = absurd (omega arith)
reaches (suc k) (l ∷ ls) s n w h f g = by (sort n l) (on_row_of s (pad l)) refl (λ s' f. reaches k ls s' (suc n) w (omega arith) f (λ s''. ap (λ m. from s'' (feed m (drop k ls))) (omega arith) ∙ g s''))
  where
    by : Sort n l → (x : Answer Fault (Move s)) → on_row_of s (pad l) ≡ x → ((s' : State) → Fine s' (suc n) (take k ls) → from s' (feed (suc n) ls) ≡ refused w) → from s (feed n (l ∷ ls)) ≡ refused w
    by (long a e) x q ih = not_fine s n (l ∷ take k ls) (ap (from s) (e (take k ls)) ∙ from_bad s _) (λ z. omega arith) f
    by (dirty a b e) x q ih = not_fine s n (l ∷ take k ls) (ap (from s) (e (take k ls)) ∙ from_bad s _) (λ z. omega arith) f
    by (blank a b e) x q ih =
        let e' : (ls : List (List ℕ)) → from s (feed n (l ∷ ls)) ≡ amap (λ a. a) (from s (feed (suc n) ls)) = λ ls. ap (from s) (e ls) ∙ sym (amap_id (from s (feed (suc n) ls))) in
        ap (from s) (e ls) ∙ ih s (then_fine s s (λ a. a) n l (take k ls) e' f)
    by (shown a b e) (refused t) q ih =
        let y = three_to_nine s t (blamed (rw q at (row_blames s (pad l) (padded l a.0)))) in
        not_fine s n (l ∷ take k ls) (shown_row s n l (refused t) q e (take k ls)) (λ z. omega arith) f
    by (shown a b e) (ok m) q ih =
        let e' = shown_row s n l (ok m) q e in
        e' ls ∙ ap (amap m.back) (ih m.to (then_fine s m.to m.back n l (take k ls) e' f)) ∙ amap_no m.back w
