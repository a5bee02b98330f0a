use Rattle.std.specs.Prelude.{Option, Some, None, Result, Ok, Err, MatchResult, IsErrAnd}
-- A block, line by line.
use mathlib.Core.Path.{◌≡◌, refl, sym, ap, ◌∙◌, subst}
use Prim.Native.Nat.{ℕ, zero, suc, ◌+◌, ◌-◌, ◌*◌, ◌≤◌, ◌<◌, ◌^◌}
use native.Mathlib.Omega.{arith}
use native.Mathlib.Numerals.{add-one}
use native.Mathlib.Decide.{dec_le}
use mathlib.Core.List.{List, [], ◌∷◌, ◌++◌, append_assoc, append-nil}
use lib.ListN.{length, take, drop, length-drop, length-take, length-append, take-append-drop}
use lib.Seq.{drop-drop, take_at, take_all}
use lib.IntN.{ℤ}
use Rattle.kit.specs.Answer.{Answer, ok, refused, need, bind, amap}
use Rattle.kit.proofs.AnswerLaws.{pick_yes, amap_amap, amap_same}
use Rattle.kit.proofs.TruthLaws.{clash}
use Rattle.forms.specs.Form.{I}
use Rattle.forms.specs.Read.{read_field}
use Rattle.layout.specs.Text.{pad}
use Rattle.reading.specs.declared.Fault.{Fault}
use Rattle.reading.specs.declared.Why.{Why}
use Rattle.reading.specs.Feed.{why, on_line, Feed, over, bad, row, split, feed}
use Rattle.reading.specs.Fields.{number, blank, cells}
use Rattle.reading.specs.Maps.{short, on_row}
use Rattle.read_lines.specs.Lines.{Stands, Skips, Rows}
use Rattle.kit.proofs.ListLaws.{rest_of}
use Rattle.read_lines.proofs.Parts.{row_in}
use Rattle.read_values.specs.Values.{Okay, list_of, Judges}
use Rattle.read_values.specs.Quick.{UsualRow}
use Rattle.read_values.specs.Bare.{Plain, BareRow}
use Rattle.read_blocks.specs.Blocks.{values, Done, Filled}
use Rattle.read_blocks.specs.Steps.{Moved, Puts}
use Rattle.read_lines.specs.declared.Line.TheVariants.{Over, Bad as BadLine}

-- ---- the values, row by row

values_over : (n c : ℕ) → 0 < c → values (over n) c ≡ short n
unfolding values
values_over n zero h = absurd (omega arith)
values_over n (suc c) h = refl

values_bad : (w : Why) (c : ℕ) → 0 < c → values (bad w) c ≡ refused w
unfolding values
values_bad w zero h = absurd (omega arith)
values_bad w (suc c) h = refl

values_row : (n : ℕ) (r : List ℕ) (f : Feed) (c : ℕ) → 0 < c
    → values (row n r f) c ≡ bind (on_line n (cells 1 (on_row c) r)) (λ zs. amap (λ x. (zs ++ x.0, x.1)) (values f (c - 16)))
unfolding values
values_row n r f zero h = absurd (omega arith)
values_row n r f (suc c) h = refl

values_none : (f : Feed) → values f 0 ≡ ok ([], f)
unfolding values
values_none (over n) = refl
values_none (bad w) = refl
values_none (row n r f) = refl

-- a line's number is at most 18,446,744,073,709,551,615
pub short_at : {A : Type 0} (n : ℕ) → n + 1 < 2 ^ 64 → short {A = A} (suc n) ≡ refused (why 10 (n + 1) 0)
unfolding short
short_at n h =
    let e : suc n ≤ 18446744073709551615 = omega arith in
    rw (add-one n, pick_yes (dec_le (suc n) 18446744073709551615) (suc n) 18446744073709551615 e)

okay_line : {A B : Type 0} (n : ℕ) (x : Answer Fault B) (f : B → Answer Why A) → Okay (bind (on_line n x) f) → (b : B) × (x ≡ ok b)
unfolding bind on_line
okay_line n (ok b) f h = (b, refl)
okay_line n (refused w) f h = absurd h

okay_amap : {W A B : Type 0} (f : B → A) (x : Answer W B) → Okay (amap f x) → Okay x
unfolding amap
okay_amap f (ok b) h = tt
okay_amap f (refused w) h = h

number_ok : {A : Type 0} (v : Option ℤ) (c : ℕ) (f : ℤ → Answer Fault A) (a : A) → number v c f ≡ ok a → (z : ℤ) × (f z ≡ ok a)
unfolding number
number_ok (Some z) c f a e = (z, e)
number_ok None c f a e = clash (cc)

need_ok : {P A : Type 0} {a : A} (d : Dec P) (w : Fault) (x : Answer Fault A) → need d w x ≡ ok a → x ≡ ok a
unfolding need
need_ok (yes p) w x e = e
need_ok (no n) w x e = clash (cc)

amap_ok : {A B : Type 0} {a : A} (f : B → A) (x : Answer Fault B) → amap f x ≡ ok a → (b : B) × (x ≡ ok b) × (f b ≡ a)
unfolding amap
amap_ok {a} f (ok b) e = (b, refl, cc)
amap_ok {a} f (refused w) e = clash (cc)

nil_of : (zs : List ℤ) → ◌≡◌ {A = Answer Fault (List ℤ)} (ok []) (ok zs) → length zs ≡ 0
nil_of [] e = refl
nil_of (z ∷ zs) e = clash (cc)

cells_length : (m c : ℕ) (bs : List ℕ) (zs : List ℤ) → cells c m bs ≡ ok zs → length zs ≡ m
unfolding cells blank
cells_length zero c bs zs e = nil_of zs (need_ok _ _ _ e)
cells_length (suc m) c bs zs e =
    let v = number_ok (read_field I (take 5 bs)) _ _ zs e in
    let r = amap_ok (λ zs. v.0 ∷ zs) (cells (c + 5) m (drop 5 bs)) v.1 in
    let i = cells_length m (c + 5) (drop 5 bs) r.0 r.1 in
    sym (ap length r.2) ∙ ap suc i

pub refuse : {W A : Type 0} {w : W} {X : Type 0} (x : Answer W A) → Okay x → x ≡ refused w → X
refuse (ok a) h e = clash (cc)
refuse (refused w) h e = absurd h

pub short_not : {X : Type 0} (n : ℕ) (x : Answer Why (List ℤ × Feed)) → Okay x → x ≡ short n → X
unfolding short
short_not n x h e = refuse x h e

-- of `map_err`
pub mapped_ok : {T E D : Type 0} (P : E → D → Type 0) {x : T} (s : Result T E) (r : Result T D) → MatchResult s (λ y. r ≡ Ok y) (λ e. IsErrAnd r (P e)) → r ≡ Ok x → s ≡ Ok x
mapped_ok P (Ok y) r h e = cc
mapped_ok P (Err f) (Ok y) h e = absurd h
mapped_ok P (Err f) (Err w) h e = cc

pub mapped_err : {T E D : Type 0} (P : E → D → Type 0) {w : D} (s : Result T E) (r : Result T D) → MatchResult s (λ y. r ≡ Ok y) (λ e. IsErrAnd r (P e)) → r ≡ Err w → (f : E) × (s ≡ Err f) × P f w
mapped_err P (Ok y) r h e = cc
mapped_err P (Err f) (Ok y) h e = absurd h
mapped_err P (Err f) (Err w) h e = (f, refl, subst (P f) (cc) h)

-- ---- a line of a block

module _ (t : List ℕ) (at n left : ℕ) (some : 0 < left) where
  pub step_over : Stands (drop at t) Over → values (feed (suc n) (split (drop at t))) left ≡ short (suc n)
  step_over h = rw (h (suc n)) (values_over (suc n) left some)

  pub step_bad : (f : Fault) → Stands (drop at t) (BadLine f) → values (feed (suc n) (split (drop at t))) left ≡ refused (why f.number (n + 1) f.column)
  step_bad f h = rw (h (suc n)) (values_bad _ left some ∙ rw add-one)

  module _ (inside : at ≤ length t) (small : n ≤ at) where
    pub step_skip : (next : ℕ) → Skips (drop at t) next → (at < at + next) × Moved t at n left (at + next) (n + 1) left
    step_skip next h =
        let a = h.ahead in
        let w : next ≤ length t - at = rw length-drop at h.within in (
          omega arith,
          record {
            ahead = omega arith;
            within = omega arith;
            small = omega arith;
            have = [];
            on = rw (h.on (suc n), drop-drop, add-one) (sym (amap_same _ (λ x. refl) _));
          },
        )

    pub puts_skip : (next : ℕ) → Skips (drop at t) next → (out : List ℤ) → Puts t at n left (at + next) 0 out
    puts_skip next h out =
        let a = h.ahead in
        let w : next ≤ length t - at = rw length-drop at h.within in
        let z : left - 0 ≡ left = omega arith in
        record {
          ahead = omega arith;
          upto = omega arith;
          moved = record { ahead = omega arith; within = omega arith; small = omega arith; have = []; on = rw (z, h.on (suc n), drop-drop, add-one) (sym (amap_same _ (λ x. refl) _)) };
          front = refl;
        }

    module _ (w next : ℕ) (h : Rows (drop at t) w next) (m : ℕ) (is : m ≡ on_row left) where
      seen : values (feed (suc n) (split (drop at t))) left
          ≡ bind (on_line (suc n) (cells 1 m (pad (take (at + w - at) (drop at t))))) (λ zs. amap (λ x. (zs ++ x.0, x.1)) (values (feed (suc (n + 1)) (split (drop (at + next) t))) (left - m)))
      seen =
          let e : at + w - at ≡ w = omega arith in
          let l : left - m ≡ left - 16 = omega arith in
          rw (h.on (suc n), drop-drop, add-one, l, is, e) (values_row _ _ _ left some)

      pub step_wrong : (f : Fault) (r : Result (Unit {0}) Fault) → Judges r (cells 1 m (pad (take (at + w - at) (drop at t)))) → r ≡ Err f → values (feed (suc n) (split (drop at t))) left ≡ refused (why f.number (n + 1) f.column)
      step_wrong f r j e = seen ∙ rw (subst (λ (o : Result (Unit {0}) Fault). Judges o (cells 1 m (pad (take (at + w - at) (drop at t))))) e j, add-one) (unfold bind on_line in refl)

      step_put : (zs : List ℤ) × (cells 1 m (pad (take (at + w - at) (drop at t))) ≡ ok zs) → Moved t at n left (at + next) (n + 1) (left - m)
      step_put j =
          let a = h.ahead in
          let w : next ≤ length t - at = rw length-drop at h.within in
          record {
            ahead = omega arith;
            within = omega arith;
            small = omega arith;
            have = j.0;
            on = seen ∙ rw j.1 (unfold bind on_line in refl);
          }

      pub step_row : (r : Result (Unit {0}) Fault) → Judges r (cells 1 m (pad (take (at + w - at) (drop at t)))) → r ≡ Ok tt → (at < at + next) × Moved t at n left (at + next) (n + 1) (left - m)
      step_row r j f = let a = h.ahead in (omega arith, step_put (subst (λ (o : Result (Unit {0}) Fault). Judges o (cells 1 m (pad (take (at + w - at) (drop at t))))) f j))

      pub okay_cells : Okay (values (feed (suc n) (split (drop at t))) left) → (zs : List ℤ) × (cells 1 m (pad (take (at + w - at) (drop at t))) ≡ ok zs)
      okay_cells o = okay_line (suc n) _ _ (rw seen at o)

      pub okay_one : Okay (values (feed (suc n) (split (drop at t))) left) → (k : ℕ) → k ≡ m → Okay (cells 1 k (pad (take (at + w - at) (drop at t))))
      okay_one o k e = rw (e, (okay_cells o).1) tt

      pub row_front : (o : Okay (values (feed (suc n) (split (drop at t))) left)) (k : ℕ) → k ≡ m → (q r : List ℤ)
          → q ≡ list_of (cells 1 k (pad (take (at + w - at) (drop at t)))) → take m (q ++ r) ≡ (okay_cells o).0
      row_front o k e q r f =
          let z : q ≡ (okay_cells o).0 = f ∙ rw (e, (okay_cells o).1) in
          let s = cells_length m 1 _ _ (okay_cells o).1 in
          take_at q r m (ap length z ∙ s) ∙ z

      -- the line's values, put in front of the area
      pub puts_row : (o : Okay (values (feed (suc n) (split (drop at t))) left)) (out : List ℤ) → take m out ≡ (okay_cells o).0 → Puts t at n left (at + next) m out
      unfolding step_put
      puts_row o out e = let a = h.ahead in record { ahead = omega arith; upto = omega arith; moved = step_put (okay_cells o); front = e }

-- ---- a line that is found fast

module _ (t : List ℕ) (at n left : ℕ) (some : 0 < left) (inside : at ≤ length t) (small : n ≤ at) (m : ℕ) (is : m ≡ on_row left) (r : ℕ) where
  module _ (u : UsualRow (take (length t - at) (drop at t)) m r) where
    usual_there : UsualRow (drop at t) m r
    usual_there = subst (λ (x : List ℕ). UsualRow x m r) (rest_of t at) u

    pub usual_in : at + r ≤ length t
    usual_in = row_in t at inside (m * 5) r usual_there.rows

    pub usual_step : (at < at + r) × Moved t at n left (at + r) (n + 1) (left - m)
    usual_step =
        let q = usual_there in
        let e : at + m * 5 - at ≡ m * 5 = omega arith in
        (omega arith, step_put t at n left some inside small (m * 5) r q.rows m is (rw e q.fine))

  module _ (u : BareRow (take (length t - at) (drop at t)) m r) where
    bare_there : BareRow (drop at t) m r
    bare_there = subst (λ (x : List ℕ). BareRow x m r) (rest_of t at) u

    pub bare_in : at + r ≤ length t
    bare_in = row_in t at inside (m * 5) r bare_there.rows

    module _ (o : Okay (values (feed (suc n) (split (drop at t))) left)) (k : ℕ) (e : k ≡ m) where
      cut : take (k * 5) (take (length t - at) (drop at t)) ≡ take (at + m * 5 - at) (drop at t)
      cut = let f : at + m * 5 - at ≡ k * 5 = omega arith in rw f (ap (take (k * 5)) (rest_of t at))

      pub bare_needs : (k ≤ 16) × (Plain (take (length t - at) (drop at t)) k × Okay (cells 1 k (pad (take (k * 5) (take (length t - at) (drop at t))))))
      bare_needs =
          let q = bare_there in
          let p : Plain (take (length t - at) (drop at t)) k = rw (e, rest_of t at) q.plain in
          (omega arith, (p, rw cut (okay_one t at n left some inside small (m * 5) r q.rows m is o k e)))

      pub bare_puts : (new rest : List ℤ) → new ≡ list_of (cells 1 k (pad (take (k * 5) (take (length t - at) (drop at t))))) → Puts t at n left (at + r) m (new ++ rest)
      bare_puts new rest f =
          let q = bare_there in
          let g : new ≡ list_of (cells 1 k (pad (take (at + m * 5 - at) (drop at t)))) = f ∙ ap (λ (x : List ℕ). list_of (cells 1 k (pad x))) cut in
          puts_row t at n left some inside small (m * 5) r q.rows m is o (new ++ rest) (row_front t at n left some inside small (m * 5) r q.rows m is o k e new rest g)

-- ---- the loop

pub moved_none : (t : List ℕ) (at n left : ℕ) → at ≤ length t → n ≤ at → Moved t at n left at n left
moved_none t at n left h s = record { ahead = omega arith; within = h; small = s; have = []; on = sym (amap_same _ (λ x. refl) _) }

module _ {t : List ℕ} {from n c at k left : ℕ} (p : Moved t from n c at k left) where
  pub moved_more : {at' k' left' : ℕ} → Moved t at k left at' k' left' → Moved t from n c at' k' left'
  moved_more q =
      let a = p.ahead in let b = q.ahead in
      record {
        ahead = omega arith;
        within = q.within;
        small = q.small;
        have = p.have ++ q.have;
        on = p.on ∙ ap (amap (λ x. (p.have ++ x.0, x.1))) q.on ∙ amap_amap _ _ _ (λ x. ap (λ (l : List ℤ). (l, x.1)) (sym (append_assoc p.have q.have x.0))) _;
      }

  pub moved_stop : {w : Why} → values (feed (suc k) (split (drop at t))) left ≡ refused w → values (feed (suc n) (split (drop from t))) c ≡ refused w
  moved_stop e = p.on ∙ ap (amap (λ x. (p.have ++ x.0, x.1))) e ∙ (unfold amap in refl)

  pub moved_done : left ≡ 0 → Done t from n c at k
  moved_done z =
      let e : values (feed (suc k) (split (drop at t))) left ≡ ok ([], feed (suc k) (split (drop at t))) = rw z (values_none (feed (suc k) (split (drop at t)))) in
      record {
        ahead = p.ahead;
        within = p.within;
        small = p.small;
        have = p.have ++ [];
        on = p.on ∙ ap (amap (λ x. (p.have ++ x.0, x.1))) e ∙ (unfold amap in refl);
      }

-- ---- the filling loop

amap_done : (have : List ℤ) (g : Feed) → amap {W = Why} {A = List ℤ × Feed} {B = List ℤ × Feed} (λ x. (have ++ x.0, x.1)) (ok ([], g)) ≡ ok (have ++ [], g)
unfolding amap
amap_done have g = refl

pub part_length : (out : List ℤ) (done c : ℕ) → length out ≡ c → done ≤ c → length (take (length out - done) (drop done out)) ≡ c - done
part_length out done c e h = simp (length-take, length-drop) (omega arith)

pub record Filling (t : List ℕ) (from n₀ c at n done : ℕ) (out : List ℤ) : Type 0 where
  pub upto : done ≤ c
  pub sized : length out ≡ c
  pub moved : Moved t from n₀ c at n (c - done)
  pub front : take done out ≡ moved.have

pub filling_none : (t : List ℕ) (from n : ℕ) (out : List ℤ) → from ≤ length t → n ≤ from → Filling t from n (length out) from n 0 out
filling_none t from n out h s =
    let z : length out - 0 ≡ length out = omega arith in
    record { upto = omega arith; sized = refl; moved = record { ahead = omega arith; within = h; small = s; have = []; on = rw z (sym (amap_same _ (λ x. refl) _)) }; front = refl }

module _ {t : List ℕ} {from n₀ c at n done : ℕ} {out : List ℤ} (f : Filling t from n₀ c at n done out) where
  -- what is left is accepted where the whole is
  pub filling_okay : Okay (values (feed (suc n₀) (split (drop from t))) c) → (k : ℕ) → k ≡ c - done → Okay (values (feed (suc n) (split (drop at t))) k)
  filling_okay o k e = rw e (okay_amap _ _ (rw f.moved.on at o))

  module _ (k at' m : ℕ) (new : List ℤ) (e : k ≡ c - done) (s : length new ≡ k) (p : Puts t at n k at' m new) where
    rest : List ℤ
    rest = drop (length out - done) (drop done out)

    q : Moved t at n (c - done) at' (n + 1) (c - (done + m))
    q =
        let z : k - m ≡ c - (done + m) = omega arith in
        record {
          ahead = p.moved.ahead;
          within = p.moved.within;
          small = p.moved.small;
          have = p.moved.have;
          on = rw (← e, ← z) p.moved.on;
        }

    seam : take (done + m) (take done out ++ (new ++ rest)) ≡ take done out ++ take m new
    seam =
        let u = f.upto in let d = f.sized in let v = p.upto in
        let l : length (take done out ++ take m new) ≡ done + m = simp (length-append, length-take) (omega arith) in
        let w : take done out ++ (new ++ rest) ≡ (take done out ++ take m new) ++ (drop m new ++ rest) =
        ap (λ (x : List ℤ). take done out ++ (x ++ rest)) (sym (take-append-drop m new)) ∙ simp append_assoc in
        ap (take (done + m)) w ∙ take_at (take done out ++ take m new) (drop m new ++ rest) (done + m) l

    pub filling_more : Filling t from n₀ c at' (n + 1) (done + m) (take done out ++ (new ++ drop (length out - done) (drop done out)))
    unfolding rest q moved_more
    filling_more =
        let u = f.upto in let d = f.sized in let v = p.upto in
        record {
          upto = omega arith;
          sized = simp (length-append, length-take, length-drop) (omega arith);
          moved = moved_more f.moved q;
          front = seam ∙ rw (f.front, p.front);
        }

  pub filling_done : c ≤ done → Filled t from n₀ c at out
  filling_done h =
      let u = f.upto in let d = f.sized in
      let z : c - done ≡ 0 = omega arith in
      let a : out ≡ f.moved.have = sym (take_all done out (omega arith)) ∙ f.front in
      let g : values (feed (suc n) (split (drop at t))) (c - done) ≡ ok ([], feed (suc n) (split (drop at t))) = rw z (values_none (feed (suc n) (split (drop at t)))) in
      let o = amap_done f.moved.have (feed (suc n) (split (drop at t))) in
      record {
        within = f.moved.within;
        lines = n;
        small = f.moved.small;
        on = f.moved.on ∙ ap (amap (λ x. (f.moved.have ++ x.0, x.1))) g ∙ o ∙ rw (append-nil, ← a);
      }
