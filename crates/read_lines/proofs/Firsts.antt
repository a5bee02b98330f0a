-- The first line of a text, and what it hands on.
use mathlib.Core.Path.{◌≡◌, refl, sym, ap, subst, ◌∙◌}
use Prim.Native.Nat.{ℕ, suc, ◌+◌, ◌-◌, ◌≤◌, ◌<◌}
use native.Mathlib.Omega.{arith}
use native.Mathlib.Numerals.{add-one}
use mathlib.Core.List.{List, [], ◌∷◌, ◌++◌, append-nil, append_assoc}
use native.Mathlib.Decide.{ℕ_discrete, dec_le}
use lib.ListN.{length, get_or, take, drop, take-append-drop, drop_of_length-le, length-append}
use lib.Seq.{drop-cons, take-suc, length-take-le, take_all, take_at, drop_at}
use Rattle.kit.specs.Answer.{×_dec, pick, All, all_dec}
use Rattle.kit.proofs.AnswerLaws.{pick_yes, pick_no, pick_elim}
use Rattle.kit.proofs.ListLaws.{all_front, all_behind}
use Rattle.kit.specs.Range.{Within, within?}
use Rattle.layout.specs.Text.{Clean, pad}
use Rattle.std.specs.Prelude.{Result, Ok, Err}
use Rattle.reading.specs.declared.Fault.{Fault}
use Rattle.reading.specs.Feed.{why, fault, front, LineOpens, opens?, split, Feed, over, bad, row, feed, bad_column}
use Rattle.reading.proofs.LineLaws.{split_lf, split_crlf}
use Rattle.read_lines.specs.Lines.{passing, not_lf?, printable?, blank?, look_of, Spans, Skips, Rows}
use Rattle.read_lines.specs.Cuts.{with_byte, cuts, Starts}
use Rattle.read_lines.specs.declared.Look.{Look}
use Rattle.read_lines.specs.declared.Look.TheVariants.{Blank, Full}
use Rattle.read_lines.specs.declared.Span.{Span}
use Rattle.read_lines.proofs.Passing.{passing_le, passing_all, passing_next, passing_whole, passing_not}

-- ---- the text's first line

-- a line without the CR that ends it
unfoldable pub chop : List ℕ → List ℕ
chop [] = []
chop (b ∷ []) = pick (ℕ_discrete b 13) [] (b ∷ [])
chop (b ∷ c ∷ l) = b ∷ chop (c ∷ l)

split_front : (b : ℕ) (t : List ℕ) → ¬ (b ≡ 10) → ¬ ((b ≡ 13) × LineOpens 10 t) → split (b ∷ t) ≡ front b (split t)
unfolding split
split_front b t p q = pick_no (ℕ_discrete b 10) _ _ p ∙ pick_no (×_dec (ℕ_discrete b 13) (opens? 10 t)) _ _ q

-- the first line of a text that has an LF
split_line : (l t : List ℕ) → All (λ b. ¬ (b ≡ 10)) l → split (l ++ 10 ∷ t) ≡ chop l ∷ split t
unfolding chop front
split_line [] t a = split_lf t
split_line (b ∷ []) t a =
    pick_elim (λ x. split (b ∷ 10 ∷ t) ≡ x ∷ split t) (ℕ_discrete b 13) (λ e. rw e (split_crlf t))
    (λ e. split_front b (10 ∷ t) a.0 (λ h. e h.0) ∙ rw (split_lf t))
split_line (b ∷ c ∷ l) t a = split_front b (c ∷ l ++ 10 ∷ t) a.0 (λ h. a.1.0 h.1) ∙ rw (split_line (c ∷ l) t a.1)

-- the last line of a text that ends in none
split_last : (b : ℕ) (l : List ℕ) → All (λ b. ¬ (b ≡ 10)) (b ∷ l) → split (b ∷ l) ≡ (b ∷ l) ∷ []
unfolding front
split_last b [] a = split_front b [] a.0 (λ h. absurd h.1) ∙ (unfold split in refl)
split_last b (c ∷ l) a = split_front b (c ∷ l) a.0 (λ h. a.1.0 h.1) ∙ rw (split_last c l a.1)

-- ---- and its end

pub cuts_lf : (t : List ℕ) → cuts (10 ∷ t) ≡ ([], 10 ∷ []) ∷ cuts t
unfolding cuts pick ℕ_discrete
cuts_lf t = refl

pub cuts_crlf : (t : List ℕ) → cuts (13 ∷ 10 ∷ t) ≡ ([], 13 ∷ 10 ∷ []) ∷ cuts t
unfolding cuts pick ℕ_discrete ×_dec opens?
cuts_crlf t = refl

cuts_front : (b : ℕ) (t : List ℕ) → ¬ (b ≡ 10) → ¬ ((b ≡ 13) × LineOpens 10 t) → cuts (b ∷ t) ≡ with_byte b (cuts t)
unfolding cuts
cuts_front b t p q = pick_no (ℕ_discrete b 10) _ _ p ∙ pick_no (×_dec (ℕ_discrete b 13) (opens? 10 t)) _ _ q

-- a line that ends in LF; the byte x before it is no CR
cuts_line : (m : List ℕ) (x : ℕ) (t : List ℕ) → All (λ b. ¬ (b ≡ 10)) m → ¬ (x ≡ 10) → ¬ (x ≡ 13) → cuts (m ++ x ∷ 10 ∷ t) ≡ (m ++ (x ∷ []), 10 ∷ []) ∷ cuts t
cuts_line [] x t a n c = cuts_front x (10 ∷ t) n (λ h. c h.0) ∙ ap (with_byte x) (cuts_lf t)
cuts_line (b ∷ []) x t a n c = cuts_front b (x ∷ 10 ∷ t) a.0 (λ h. n h.1) ∙ ap (with_byte b) (cuts_line [] x t tt n c)
cuts_line (b ∷ d ∷ m) x t a n c = cuts_front b (d ∷ m ++ x ∷ 10 ∷ t) a.0 (λ h. a.1.0 h.1) ∙ ap (with_byte b) (cuts_line (d ∷ m) x t a.1 n c)

-- a line that ends in CR LF
cuts_cr : (m : List ℕ) (t : List ℕ) → All (λ b. ¬ (b ≡ 10)) m → cuts (m ++ 13 ∷ 10 ∷ t) ≡ (m, 13 ∷ 10 ∷ []) ∷ cuts t
cuts_cr [] t a = cuts_crlf t
cuts_cr (b ∷ []) t a = cuts_front b (13 ∷ 10 ∷ t) a.0 (λ h. let z : ◌≡◌ {A = ℕ} 13 10 = h.1 in omega arith) ∙ ap (with_byte b) (cuts_crlf t)
cuts_cr (b ∷ d ∷ m) t a = cuts_front b (d ∷ m ++ 13 ∷ 10 ∷ t) a.0 (λ h. a.1.0 h.1) ∙ ap (with_byte b) (cuts_cr (d ∷ m) t a.1)

-- the last line of a text that ends in none
cuts_last : (b : ℕ) (l : List ℕ) → All (λ b. ¬ (b ≡ 10)) (b ∷ l) → cuts (b ∷ l) ≡ (b ∷ l, []) ∷ []
cuts_last b [] a = let z : cuts [] ≡ [] = unfold cuts in refl in cuts_front b [] a.0 (λ h. absurd h.1) ∙ ap (with_byte b) z
cuts_last b (c ∷ l) a = cuts_front b (c ∷ l) a.0 (λ h. a.1.0 h.1) ∙ ap (with_byte b) (cuts_last c l a.1)

chop_cr : (m : List ℕ) (x : ℕ) → x ≡ 13 → chop (m ++ (x ∷ [])) ≡ m
unfolding chop
chop_cr [] x e = pick_yes (ℕ_discrete x 13) _ _ e
chop_cr (b ∷ []) x e = ap (λ r. b ∷ r) (chop_cr [] x e)
chop_cr (b ∷ c ∷ m) x e = ap (λ r. b ∷ r) (chop_cr (c ∷ m) x e)

chop_not : (m : List ℕ) (x : ℕ) → ¬ (x ≡ 13) → chop (m ++ (x ∷ [])) ≡ m ++ (x ∷ [])
unfolding chop
chop_not [] x e = pick_no (ℕ_discrete x 13) _ _ e
chop_not (b ∷ []) x e = ap (λ r. b ∷ r) (chop_not [] x e)
chop_not (b ∷ c ∷ m) x e = ap (λ r. b ∷ r) (chop_not (c ∷ m) x e)

is_lf : (b : ℕ) → ¬ ¬ (b ≡ 10) → b ≡ 10
is_lf b n = yes_of (ℕ_discrete b 10)
  where
    yes_of : Dec (b ≡ 10) → b ≡ 10
    yes_of (yes p) = p
    yes_of (no q) = absurd (n q)

-- a text whose first line and its end are known
starts_of : (t l e u : List ℕ) (w next : ℕ) → t ≡ l ++ (e ++ u) → length l ≡ w → w + length e ≡ next → cuts (l ++ (e ++ u)) ≡ (l, e) ∷ cuts u → Starts t w next
starts_of t l e u w next h a b c =
    let f : take w t ≡ l = ap (take w) h ∙ take_at l (e ++ u) w a in
    let n : length (l ++ e) ≡ next = length-append l e ∙ omega arith in
    let q : t ≡ (l ++ e) ++ u = h ∙ sym (append_assoc l e u) in
    record {
      end = e;
      whole = ap (take next) q ∙ take_at (l ++ e) u next n ∙ ap (λ x. x ++ e) (sym f);
      cut = ap cuts h ∙ c ∙ (λ i. (sym f i, e) ∷ cuts (sym (ap (drop next) q ∙ drop_at (l ++ e) u next n) i));
    }

module _ (t : List ℕ) (e : ℕ) (is : e ≡ passing not_lf? t) where
  bytes : All (λ b. ¬ (b ≡ 10)) (take e t)
  bytes = rw is (passing_all not_lf? t)

  -- no LF: the last line
  pub spans_last : 0 < length t → length t ≤ e → Spans t (record { width = e; next = e })
  spans_last some h =
      let le : e ≤ length t = rw is (passing_le not_lf? t) in
      record { ahead = omega arith; within = le; inside = omega arith; lines = only t (rw (take_all e t h) at bytes) some ∙ rw (take_all e t h, drop_of_length-le t h) (unfold split in refl); starts = alone }
    where
      one : (t : List ℕ) → All (λ b. ¬ (b ≡ 10)) t → 0 < length t → cuts t ≡ (t, []) ∷ []
      one [] a h = absurd (omega arith)
      one (b ∷ l) a h = cuts_last b l a

      alone : Starts t e e
      alone =
          let z : cuts [] ≡ [] = unfold cuts in refl in
          let c : cuts t ≡ (t, []) ∷ cuts [] = one t (rw (take_all e t h) at bytes) some ∙ ap (λ x. (t, []) ∷ x) (sym z) in
          record { end = []; whole = sym (append-nil (take e t)); cut = c ∙ (λ i. (sym (take_all e t h) i, []) ∷ cuts (sym (drop_of_length-le t h) i)) }

      only : (t : List ℕ) → All (λ b. ¬ (b ≡ 10)) t → 0 < length t → split t ≡ t ∷ []
      only [] a h = absurd (omega arith)
      only (b ∷ l) a h = split_last b l a

  module _ (h : e < length t) where
    seam : t ≡ take e t ++ (10 ∷ drop (suc e) t)
    seam =
        let lt : passing not_lf? t < length t = omega arith in
        let x : get_or t e 0 ≡ 10 = is_lf _ (rw (← is) at (passing_next not_lf? t lt)) in
        sym (take-append-drop e t) ∙ ap (λ r. take e t ++ r) (drop-cons t e 0 h ∙ rw x)

    first : split t ≡ chop (take e t) ∷ split (drop (suc e) t)
    first = ap split seam ∙ split_line (take e t) (drop (suc e) t) bytes

    starts_empty : e ≡ 0 → Starts t 0 1
    starts_empty z = starts_of t [] (10 ∷ []) (drop (suc e) t) 0 1 (seam ∙ ap (λ i. take i t ++ (10 ∷ drop (suc e) t)) z) refl refl (cuts_lf (drop (suc e) t))

    pub spans_empty : e ≡ 0 → Spans t (record { width = 0; next = 1 })
    spans_empty z = record { ahead = omega arith; within = omega arith; inside = omega arith; lines = first ∙ rw z (unfold chop in refl); starts = starts_empty z }

    -- its last byte
    module _ (z : ¬ (e ≡ 0)) where
      snoc : take e t ≡ take (e - 1) t ++ (get_or t (e - 1) 0 ∷ [])
      snoc =
          let k : e ≡ suc (e - 1) = omega arith in
          let lt : e - 1 < length t = omega arith in
          ap (λ i. take i t) k ∙ take-suc t (e - 1) 0 lt

      seam' : (x : ℕ) → get_or t (e - 1) 0 ≡ x → t ≡ take (e - 1) t ++ (x ∷ 10 ∷ drop (suc e) t)
      seam' x h = seam ∙ ap (λ r. r ++ (10 ∷ drop (suc e) t)) (snoc ∙ ap (λ y. take (e - 1) t ++ (y ∷ [])) h) ∙ append_assoc (take (e - 1) t) (x ∷ []) (10 ∷ drop (suc e) t)

      parts : All (λ b. ¬ (b ≡ 10)) (take (e - 1) t ++ (get_or t (e - 1) 0 ∷ []))
      parts = subst (All (λ b. ¬ (b ≡ 10))) snoc bytes

      starts_cr : get_or t (e - 1) 0 ≡ 13 → Starts t (e - 1) (e + 1)
      starts_cr x =
          starts_of t (take (e - 1) t) (13 ∷ 10 ∷ []) (drop (suc e) t) (e - 1) (e + 1) (seam' 13 x) (length-take-le (e - 1) t (omega arith)) (omega arith)
          (cuts_cr (take (e - 1) t) (drop (suc e) t) (all_front (λ b. ¬ (b ≡ 10)) (take (e - 1) t) _ parts))

      starts_lf : ¬ (get_or t (e - 1) 0 ≡ 13) → Starts t e (e + 1)
      starts_lf x =
          let m : List ℕ = take (e - 1) t in
          let y : ℕ = get_or t (e - 1) 0 in
          let u : List ℕ = drop (suc e) t in
          let p = parts in
          let n : length (m ++ (y ∷ [])) ≡ e = ap length (sym snoc) ∙ length-take-le e t (omega arith) in
          starts_of t (m ++ (y ∷ [])) (10 ∷ []) u e (e + 1) (seam' y refl ∙ sym (append_assoc m (y ∷ []) (10 ∷ u))) n (omega arith)
          (ap cuts (append_assoc m (y ∷ []) (10 ∷ u)) ∙ cuts_line m y u (all_front (λ b. ¬ (b ≡ 10)) m (y ∷ []) p) (all_behind (λ b. ¬ (b ≡ 10)) m (y ∷ []) p).0 x)

      pub spans_cr : get_or t (e - 1) 0 ≡ 13 → Spans t (record { width = e - 1; next = e + 1 })
      spans_cr x =
          let c : chop (take e t) ≡ take (e - 1) t = ap chop snoc ∙ chop_cr (take (e - 1) t) _ x in
          record { ahead = omega arith; within = omega arith; inside = omega arith; lines = first ∙ rw (c, add-one); starts = starts_cr x }

      pub spans_lf : ¬ (get_or t (e - 1) 0 ≡ 13) → Spans t (record { width = e; next = e + 1 })
      spans_lf x =
          let c : chop (take e t) ≡ take e t = ap chop snoc ∙ chop_not (take (e - 1) t) _ x ∙ sym snoc in
          record { ahead = omega arith; within = omega arith; inside = omega arith; lines = first ∙ rw (c, add-one); starts = starts_lf x }

-- ---- a line by itself

bad_one : {P : Type 0} (q : Dec P) (r k m : ℕ) → (r < m → k ≡ r + 1) → pick q (suc r) 0 < suc m → pick q (suc k) 1 ≡ pick q (suc r) 0 + 1
unfolding pick
bad_one (yes p) r k m f h = let e = f (omega arith) in omega arith
bad_one (no n) r k m f h = refl

bad_at : (l : List ℕ) → passing printable? l < length l → bad_column l ≡ passing printable? l + 1
unfolding bad_column passing
bad_at [] h = absurd (omega arith)
bad_at (b ∷ l) h = bad_one (within? 32 126 b) (passing printable? l) (bad_column l) (length l) (bad_at l) h

module _ (l : List ℕ) where
  pub look_long : 80 < length l → Err (fault 1 81) ≡ look_of l
  unfolding look_of
  look_long h = sym (pick_no (dec_le (length l) 80) _ _ (λ g. omega arith))

  module _ (fits : length l ≤ 80) where
    pub look_odd : (p : ℕ) → p ≡ passing printable? l → p < length l → Err (fault 2 (p + 1)) ≡ look_of l
    unfolding look_of
    look_odd p is h =
        let lt : passing printable? l < length l = omega arith in
        sym (pick_yes (dec_le (length l) 80) _ _ fits ∙ pick_no (all_dec (within? 32 126) l) _ _ (passing_not printable? l lt) ∙ rw (bad_at l lt, ← is))

    module _ (p : ℕ) (is : p ≡ passing printable? l) (clean : length l ≤ p) (b : ℕ) (bs : b ≡ passing blank? l) where
      shown : All (Within 32 126) l
      shown = passing_whole printable? l (omega arith)

      pub look_full : b < length l → Ok Full ≡ look_of l
      unfolding look_of
      look_full h =
          sym (pick_yes (dec_le (length l) 80) _ _ fits ∙ pick_yes (all_dec (within? 32 126) l) _ _ shown ∙ pick_no (all_dec (λ b. ℕ_discrete b 32) l) _ _ (passing_not blank? l (omega arith)))

      pub look_blank : length l ≤ b → Ok Blank ≡ look_of l
      unfolding look_of
      look_blank h =
          sym (pick_yes (dec_le (length l) 80) _ _ fits ∙ pick_yes (all_dec (within? 32 126) l) _ _ shown ∙ pick_yes (all_dec (λ b. ℕ_discrete b 32) l) _ _ (passing_whole blank? l (omega arith)))

-- ---- what it hands on

unfoldable fed : Result Look Fault → ℕ → List ℕ → List (List ℕ) → Feed
fed (Err f) n l ls = bad (why f.number n f.column)
fed (Ok Blank) n l ls = feed (suc n) ls
fed (Ok Full) n l ls = row n (pad l) (feed (suc n) ls)

fed_pick : {A B C : Type 0} (a : Dec A) (b : Dec B) (c : Dec C) (n : ℕ) (l : List ℕ) (ls : List (List ℕ))
    → pick a (pick b (pick c (feed (suc n) ls) (row n (pad l) (feed (suc n) ls))) (bad (why 2 n (bad_column l)))) (bad (why 1 n 81))
    ≡ fed (pick a (pick b (pick c (Ok Blank) (Ok Full)) (Err (fault 2 (bad_column l)))) (Err (fault 1 81))) n l ls
unfolding pick fed
fed_pick (yes a) (yes b) (yes c) n l ls = refl
fed_pick (yes a) (yes b) (no c) n l ls = refl
fed_pick (yes a) (no b) c n l ls = refl
fed_pick (no a) b c n l ls = refl

feed_look : (n : ℕ) (l : List ℕ) (ls : List (List ℕ)) → feed n (l ∷ ls) ≡ fed (look_of l) n l ls
unfolding feed look_of
feed_look n l ls = fed_pick (dec_le (length l) 80) (all_dec (within? 32 126) l) (all_dec (λ b. ℕ_discrete b 32) l) n l ls

-- what is shown of a line that is a row, or blank
abbrev Shows : List ℕ → Result Look Fault → Type 0
Shows l (Err f) = Unit {0}
Shows l (Ok Blank) = Clean l × All (λ b. b ≡ 32) l
Shows l (Ok Full) = Clean l × ¬ All (λ b. b ≡ 32) l

shows : (l : List ℕ) → Shows l (look_of l)
unfolding look_of
shows l =
    pick_elim (Shows l) (dec_le (length l) 80)
    (λ f. pick_elim (Shows l) (all_dec (within? 32 126) l)
    (λ p. pick_elim (Shows l) (all_dec (λ b. ℕ_discrete b 32) l) (λ b. ((f, p), b)) (λ n. ((f, p), n)))
    (λ _. tt))
    (λ _. tt)

pub stand_over : (t : List ℕ) → length t ≡ 0 → (n : ℕ) → feed n (split t) ≡ over n
unfolding split feed
stand_over [] h n = refl
stand_over (b ∷ t) h n = absurd (omega arith)

module _ (t : List ℕ) (s : Span) (sp : Spans t s) where
  fed_by : (o : Result Look Fault) → o ≡ look_of (take s.width t) → (n : ℕ) → feed n (split t) ≡ fed o n (take s.width t) (split (drop s.next t))
  fed_by o e n = ap (feed n) sp.lines ∙ feed_look n _ _ ∙ rw (← e)

  pub stand_bad : (f : Fault) → Err f ≡ look_of (take s.width t) → (n : ℕ) → feed n (split t) ≡ bad (why f.number n f.column)
  stand_bad f e n = fed_by _ e n ∙ (unfold fed in refl)

  pub stand_skip : Ok Blank ≡ look_of (take s.width t) → Skips t s.next
  stand_skip e =
      let q = subst (Shows (take s.width t)) (sym e) (shows (take s.width t)) in
      record { ahead = sp.ahead; within = sp.within; width = s.width; clean = q.0; blank = q.1; starts = sp.starts; on = λ n. fed_by _ e n ∙ (unfold fed in refl) }

  pub stand_row : Ok Full ≡ look_of (take s.width t) → Rows t s.width s.next
  stand_row e =
      let q = subst (Shows (take s.width t)) (sym e) (shows (take s.width t)) in
      let f = q.0.0 in
      let w : length (take s.width t) ≡ s.width = length-take-le s.width t (omega (arith, sp.inside, sp.within)) in
      record { ahead = sp.ahead; within = sp.within; inside = sp.inside; fits = omega arith; clean = q.0; full = q.1; starts = sp.starts; on = λ n. fed_by _ e n ∙ (unfold fed in refl) }
