-- A block is found at the start of a text exactly where it stands there, with its values and its lines.
use mathlib.Core.Path.{◌≡◌, refl, sym, ap, subst, ◌∙◌}
use mathlib.Core.Logic.{◌↔◌, ◌⊎◌, inl, inr, ⊎_elim}
use mathlib.Core.Option.{none, some}
use mathlib.Core.List.{List, [], ◌∷◌, ◌++◌, append_assoc, append-nil}
use Prim.Native.Nat.{ℕ, suc, ◌+◌, ◌-◌, ◌≤◌}
use native.Mathlib.Omega.{arith}
use native.Mathlib.Decide.{ℕ_discrete, dec_le}
use lib.IntN.{ℤ}
use lib.ListN.{length, drop, length-append}
use Rattle.kit.specs.Answer.{Answer, ok, refused, All, ×_dec, all_dec, same, pick}
use Rattle.kit.proofs.AnswerLaws.{pick_yes, pick_no, pick_elim, yields}
use Rattle.kit.specs.Range.{within?}
use Rattle.forms.specs.Columns.{Blank}
use Rattle.mapset.specs.Grid.{columns}
use Rattle.mapset.specs.declared.Header.{Header}
use Rattle.layout.specs.Text.{Clean, pad}
use Rattle.layout.specs.Records.{Vals, Cells, ValueRows, v_last, v_full}
use Rattle.layout.specs.Labels.{name, block, layout, Rec}
use Rattle.layout.specs.Layout.{Opens}
use Rattle.reading.specs.declared.Fault.{Fault}
use Rattle.reading.specs.Feed.{row, front, opens?, split, feed, NoRow}
use Rattle.reading.specs.Fields.{fields, cells}
use Rattle.reading.specs.Maps.{on_row}
use Rattle.reading.proofs.LineLaws.{padded}
use Rattle.reading.proofs.RecordLaws.{blank_spaces, rec_name, rec_fields, named_rec, cells_of, cells_yields}
use Rattle.kit.proofs.ListLaws.{all_append, all_drop}
use Rattle.index.specs.Stands as at
use Rattle.index.specs.Stands.{Over, Eol, Blanks, Shown, Stands}
use Rattle.index.specs.Found.{clean?, blank?, agrees?, BlockFound, in_front, on_ok, values_at, block_at}
use Rattle.read_lines.specs.Cuts.{Cut, with_byte, with_cr, cuts}
use Rattle.index.proofs.CutLaws.{cut_line, cut_last, Joined, j_none, j_last, j_line, joined}

-- ---- one line

pub in_front_none : (f : BlockFound) → in_front [] [] f ≡ f
in_front_none none = refl
in_front_none (some x) = refl

pub in_front_twice : (zs ys : List ℤ) (a b : List ℕ) (f : BlockFound) → in_front zs a (in_front ys b f) ≡ in_front (zs ++ ys) (a ++ b) f
in_front_twice zs ys a b none = refl
in_front_twice zs ys a b (some x) = λ i. some (sym (append_assoc zs ys x.0) i, sym (append_assoc a b x.1) i)

module _ (c : ℕ) (l e : List ℕ) (cs : List Cut) (k : Clean l) where
  pub skip_line : All Blank l → values_at c ((l, e) ∷ cs) ≡ in_front [] (l ++ e) (values_at c cs)
  unfolding values_at
  skip_line b = pick_yes (clean? l) _ _ k ∙ pick_yes (blank? l) _ _ b

  pub row_line : (zs : List ℤ) → ¬ All Blank l → cells 1 (on_row c) (pad l) ≡ ok zs
      → values_at c ((l, e) ∷ cs) ≡ pick (dec_le c 16) (some (zs, l)) (in_front zs (l ++ e) (values_at (c - 16) cs))
  unfolding values_at
  row_line zs n x =
      pick_yes (clean? l) _ _ k ∙ pick_no (blank? l) _ _ n
      ∙ ap (λ o. on_ok o (λ zs. pick (dec_le c 16) (some (zs, l)) (in_front zs (l ++ e) (values_at (c - 16) cs)))) x

  pub wrong_line : {w : Fault} → ¬ All Blank l → cells 1 (on_row c) (pad l) ≡ refused w → values_at c ((l, e) ∷ cs) ≡ none
  unfolding values_at
  wrong_line n x =
      pick_yes (clean? l) _ _ k ∙ pick_no (blank? l) _ _ n
      ∙ ap (λ o. on_ok o (λ zs. pick (dec_le c 16) (some (zs, l)) (in_front zs (l ++ e) (values_at (c - 16) cs)))) x

-- ---- no row, no values

abbrev pub firsts : List Cut → List (List ℕ)
firsts [] = []
firsts (c ∷ cs) = c.0 ∷ firsts cs

firsts_byte : (b : ℕ) (cs : List Cut) → firsts (with_byte b cs) ≡ front b (firsts cs)
unfolding front
firsts_byte b [] = refl
firsts_byte b (c ∷ cs) = refl

firsts_cr : (cs : List Cut) → firsts (with_cr cs) ≡ firsts cs
firsts_cr [] = refl
firsts_cr (c ∷ cs) = refl

-- the lines without their ends
split_by : {P R : Type 0} (d : Dec P) (e : Dec R) (b : ℕ) (cs : List Cut) (ls : List (List ℕ)) → firsts cs ≡ ls
    → firsts (pick d (([], 10 ∷ []) ∷ cs) (pick e (with_cr cs) (with_byte b cs))) ≡ pick d ([] ∷ ls) (pick e ls (front b ls))
unfolding pick
split_by (yes p) e b cs ls h = ap (λ x. [] ∷ x) h
split_by (no p) (yes r) b cs ls h = firsts_cr cs ∙ h
split_by (no p) (no r) b cs ls h = firsts_byte b cs ∙ ap (front b) h

pub cuts_split : (t : List ℕ) → firsts (cuts t) ≡ split t
unfolding cuts split
cuts_split [] = refl
cuts_split (b ∷ t) = split_by (ℕ_discrete b 10) (×_dec (ℕ_discrete b 13) (opens? 10 t)) b (cuts t) (split t) (cuts_split t)

-- a line by itself: not clean, blank, or a row of the feed
pub first_rowless : (n : ℕ) (l : List ℕ) (ls : List (List ℕ)) → NoRow (feed n (l ∷ ls)) → (¬ Clean l) ⊎ ((Clean l × All Blank l) × NoRow (feed (suc n) ls))
unfolding feed
first_rowless n l ls =
    pick_elim (λ f. NoRow f → (¬ Clean l) ⊎ ((Clean l × All Blank l) × NoRow (feed (suc n) ls))) (dec_le (length l) 80)
    (λ s. pick_elim (λ f. NoRow f → (¬ Clean l) ⊎ ((Clean l × All Blank l) × NoRow (feed (suc n) ls))) (all_dec (within? 32 126) l)
    (λ p. pick_elim (λ f. NoRow f → (¬ Clean l) ⊎ ((Clean l × All Blank l) × NoRow (feed (suc n) ls))) (all_dec (λ b. ℕ_discrete b 32) l)
    (λ b h. inr (((s, p), b), h)) (λ b h. absurd h))
    (λ p h. inl (λ k. p k.1)))
    (λ s h. inl (λ k. s k.0))

unclean : (c : ℕ) (l e : List ℕ) (cs : List Cut) → ¬ Clean l → values_at c ((l, e) ∷ cs) ≡ none
unfolding values_at
unclean c l e cs n = pick_no (clean? l) _ _ n

values_rowless : (c n : ℕ) (cs : List Cut) → NoRow (feed n (firsts cs)) → values_at c cs ≡ none
values_rowless c n [] h = unfold values_at in refl
values_rowless c n (x ∷ cs) h =
    ⊎_elim (λ k. unclean c x.0 x.1 cs k) (λ k. skip_line c x.0 x.1 cs k.0.0 k.0.1 ∙ ap (in_front [] (x.0 ++ x.1)) (values_rowless c (suc n) cs k.1))
    (first_rowless n x.0 (firsts cs) h)

pub no_values_ahead : (c n : ℕ) (u : List ℕ) → NoRow (feed n (split u)) → values_at c (cuts u) ≡ none
no_values_ahead c n u h = values_rowless c n (cuts u) (subst (λ ls. NoRow (feed n ls)) (sym (cuts_split u)) h)

-- ---- what stands is found

blanks_past : (c : ℕ) {g : List ℕ} (u : List ℕ) → Blanks g → values_at c (cuts (g ++ u)) ≡ in_front [] g (values_at c (cuts u))
blanks_past c u at.none = sym (in_front_none (values_at c (cuts u)))
blanks_past c u (at.blank l {e} {g} k b x y) =
    ap (λ v. values_at c (cuts v)) (append_assoc l (e ++ g) u ∙ ap (λ v. l ++ v) (append_assoc e g u))
    ∙ ap (values_at c) (cut_line l (g ++ u) k.1 x) ∙ skip_line c l e (cuts (g ++ u)) k b
    ∙ ap (in_front [] (l ++ e)) (blanks_past c u y)
    ∙ in_front_twice [] [] (l ++ e) g (values_at c (cuts u)) ∙ ap (λ v. in_front [] v (values_at c (cuts u))) (append_assoc l e g)

no_values : {zs : List ℤ} {X : Type 0} → ValueRows zs [] → X
no_values = elim [ ]

no_rows : {u b : List ℕ} {X : Type 0} → Shown [] u b → X
no_rows = elim [ ]

values_found : {zs : List ℤ} {rs : List (List ℕ)} {u b : List ℕ} → Shown rs u b → ValueRows zs rs → values_at (length zs) (cuts u) ≡ some (zs, b)
values_found {zs} (at.last {l} {s} k n o) (v_last a b z x) =
    let f = cut_last l s k n o in
    let m : on_row (length zs) ≡ length zs = omega arith in
    ap (values_at (length zs)) f.is ∙ row_line (length zs) l f.end f.rest k zs n (ap (λ j. cells 1 j (pad l)) m ∙ cells_of x 1) ∙ pick_yes (dec_le (length zs) 16) _ _ b
values_found (at.last k n o) (v_full z s x v) = no_values v
values_found (at.line l k n e g s) (v_last a b z x) = no_rows s
values_found (at.line l {e} {g} {u} {b} k n y w s) (v_full {zs} {more} z q x v) =
    let c : ℕ = length (zs ++ more) in
    let t : c ≡ 16 + length more = length-append zs more ∙ omega arith in
    let m : on_row c ≡ length zs = omega arith in
    let r : c - 16 ≡ length more = omega arith in
    let p : 1 ≤ length more = some_values v in
    ap (values_at c) (cut_line l (g ++ u) k.1 y) ∙ row_line c l e (cuts (g ++ u)) k zs n (ap (λ j. cells 1 j (pad l)) m ∙ cells_of x 1)
    ∙ pick_no (dec_le c 16) _ _ (λ h. omega arith)
    ∙ ap (in_front zs (l ++ e)) (ap (λ j. values_at j (cuts (g ++ u))) r ∙ blanks_past (length more) u w ∙ ap (in_front [] g) (values_found {zs = more} s v))
    ∙ ap (λ j. some (zs ++ more, j)) (append_assoc l e (g ++ b))
  where
    some_values : {zs : List ℤ} {vs : List (List ℕ)} → ValueRows zs vs → 1 ≤ length zs
    some_values (v_last a b z x) = a
    some_values (v_full {zs} {more} z s x v) = let e = length-append zs more in omega arith

module _ (h : Header) (d : ℕ) where
  pub opening_found : (l e : List ℕ) (cs : List Cut) (v : Vals (layout block)) → Clean l → drop 60 (pad l) ≡ name block → fields block (pad l) ≡ ok v
      → block_at h d ((l, e) ∷ cs) ≡ pick (agrees? h d v) (in_front [] (l ++ e) (values_at (columns h.grid) cs)) none
  unfolding block_at
  opening_found l e cs v k n x =
      pick_yes (clean? l) _ _ k ∙ pick_yes (same (drop 60 (pad l)) (name block)) _ _ n
      ∙ ap (λ o. on_ok o (λ v. pick (agrees? h d v) (in_front [] (l ++ e) (values_at (columns h.grid) cs)) none)) x

  pub stands_found : {u b : List ℕ} {zs : List ℤ} → Stands h d u zs b → block_at h d (cuts u) ≡ some (zs, b)
  stands_found {zs = zs} s = by s.shown s.values s.opened
    where
      by : {r : List ℕ} {rs : List (List ℕ)} {u b : List ℕ} → Shown (r ∷ rs) u b → ValueRows zs rs → Rec block s.opening r → block_at h d (cuts u) ≡ some (zs, b)
      by (at.last k n o) v c = no_values v
      by (at.line l {e} {g} {u} {b} k n y w x) v c =
          ap (block_at h d) (cut_line l (g ++ u) k.1 y) ∙ opening_found l e (cuts (g ++ u)) s.opening k (rec_name c) (rec_fields c) ∙ pick_yes (agrees? h d s.opening) _ _ s.opens
          ∙ ap (in_front [] (l ++ e)) (ap (λ j. values_at j (cuts (g ++ u))) (sym s.count) ∙ blanks_past (length zs) u w ∙ ap (in_front [] g) (values_found x v))
          ∙ ap (λ j. some (zs, j)) (append_assoc l e (g ++ b))

-- ---- what is found stands

data Gives (Q : List ℤ × List ℕ → Type 0) : BlockFound → Type 0 where
  nothing : Gives Q none
  gives : {x : List ℤ × List ℕ} → Q x → Gives Q (some x)

in_front_gives : {Q R : List ℤ × List ℕ → Type 0} (zs : List ℤ) (b : List ℕ) {f : BlockFound} → ((x : List ℤ × List ℕ) → Q x → R (zs ++ x.0, b ++ x.1)) → Gives Q f → Gives R (in_front zs b f)
in_front_gives zs b g nothing = nothing
in_front_gives zs b g (gives {x} q) = gives (g x q)

on_ok_gives : {W A : Type 0} {Q : List ℤ × List ℕ → Type 0} (o : Answer W A) {f : A → BlockFound} → ((a : A) → o ≡ ok a → Gives Q (f a)) → Gives Q (on_ok o f)
on_ok_gives (ok a) g = g a refl
on_ok_gives (refused w) g = nothing

-- blank lines, and then the rows of c values
record Rest (c : ℕ) (u : List ℕ) (x : List ℤ × List ℕ) : Type 0 where
  gap : List ℕ
  from : List ℕ
  bytes : List ℕ
  rows : List (List ℕ)
  blanks : Blanks gap
  seam : u ≡ gap ++ from
  ends : x.1 ≡ gap ++ bytes
  shown : Shown rows from bytes
  values : ValueRows x.0 rows
  count : length x.0 ≡ c

-- a row of all values, or of the first 16
row_of : (c : ℕ) (l : List ℕ) (zs : List ℤ) → Clean l → cells 1 (on_row c) (pad l) ≡ ok zs → Cells zs (pad l) × (length zs ≡ on_row c)
row_of c l zs k e = let p = padded l k.0 in yields _ (cells_yields 1 (on_row c) (pad l) (omega arith)) e

last_row : (c : ℕ) (l s : List ℕ) (zs : List ℤ) → 1 ≤ c → c ≤ 16 → Clean l → ¬ All Blank l → Over s → cells 1 (on_row c) (pad l) ≡ ok zs → Rest c (l ++ s) (zs, l)
last_row c l s zs a b k n o e =
    let r = row_of c l zs k e in
    let m = r.1 in
    record {
      gap = [];
      from = l ++ s;
      bytes = l;
      rows = pad l ∷ [];
      blanks = at.none;
      seam = refl;
      ends = refl;
      shown = at.last k n o;
      values = v_last {zs = zs} (omega arith) (omega arith) (padded l k.0) r.0;
      count = omega arith;
    }

more_rows : (c : ℕ) (l e u : List ℕ) (zs : List ℤ) → ¬ (c ≤ 16) → Clean l → ¬ All Blank l → Eol e → cells 1 (on_row c) (pad l) ≡ ok zs
    → (x : List ℤ × List ℕ) → Rest (c - 16) u x → Rest c (l ++ (e ++ u)) (zs ++ x.0, (l ++ e) ++ x.1)
more_rows c l e u zs a k n y w x q =
    let r = row_of c l zs k w in
    let m = r.1 in
    let z = q.count in
    record {
      gap = [];
      from = l ++ (e ++ u);
      bytes = l ++ (e ++ (q.gap ++ q.bytes));
      rows = pad l ∷ q.rows;
      blanks = at.none;
      seam = refl;
      ends = append_assoc l e x.1 ∙ ap (λ j. l ++ (e ++ j)) q.ends;
      shown = subst (λ v. Shown (pad l ∷ q.rows) (l ++ (e ++ v)) (l ++ (e ++ (q.gap ++ q.bytes)))) (sym q.seam) (at.line l k n y q.blanks q.shown);
      values = v_full {zs = zs} (omega arith) (padded l k.0) r.0 q.values;
      count = length-append zs x.0 ∙ omega arith;
    }

over_blank : (c : ℕ) (l e u : List ℕ) → Clean l → All Blank l → Eol e → (x : List ℤ × List ℕ) → Rest c u x → Rest c (l ++ (e ++ u)) ([] ++ x.0, (l ++ e) ++ x.1)
over_blank c l e u k n y x q =
    record {
      gap = l ++ (e ++ q.gap);
      from = q.from;
      bytes = q.bytes;
      rows = q.rows;
      blanks = at.blank l k n y q.blanks;
      seam = ap (λ j. l ++ (e ++ j)) q.seam ∙ sym (append_assoc l (e ++ q.gap) q.from ∙ ap (λ j. l ++ j) (append_assoc e q.gap q.from));
      ends = append_assoc l e x.1 ∙ ap (λ j. l ++ (e ++ j)) q.ends ∙ sym (append_assoc l (e ++ q.gap) q.bytes ∙ ap (λ j. l ++ j) (append_assoc e q.gap q.bytes));
      shown = q.shown;
      values = q.values;
      count = q.count;
    }

pub eol_over : {e : List ℕ} (u : List ℕ) → Eol e → Over (e ++ u)
eol_over u at.lf = at.lf
eol_over u at.crlf = at.crlf

none_there : (c : ℕ) {Q : List ℤ × List ℕ → Type 0} → Gives Q (values_at c [])
unfolding values_at
none_there c = nothing

values_give : (c : ℕ) {cs : List Cut} {u : List ℕ} → Joined cs u → 1 ≤ c → Gives (Rest c u) (values_at c cs)
unfolding values_at
values_give c j_none h = nothing
values_give c (j_last {b} {l}) h =
    pick_elim (Gives (Rest c (b ∷ l))) (clean? (b ∷ l))
    (λ k. pick_elim (Gives (Rest c (b ∷ l))) (blank? (b ∷ l)) (λ n. in_front_gives {Q = λ _. ⊥} [] ((b ∷ l) ++ []) (λ x q. absurd q) (none_there c))
    (λ n. on_ok_gives (cells 1 (on_row c) (pad (b ∷ l))) (λ zs e. pick_elim (Gives (Rest c (b ∷ l))) (dec_le c 16)
    (λ o. gives (subst (λ v. Rest c v (zs, b ∷ l)) (append-nil (b ∷ l)) (last_row c (b ∷ l) [] zs h o k n at.nothing e)))
    (λ o. in_front_gives {Q = λ _. ⊥} zs ((b ∷ l) ++ []) (λ x q. absurd q) (none_there (c - 16))))))
    (λ _. nothing)
values_give c (j_line {l} {e} {cs} {u} y j) h =
    pick_elim (Gives (Rest c (l ++ (e ++ u)))) (clean? l)
    (λ k. pick_elim (Gives (Rest c (l ++ (e ++ u)))) (blank? l) (λ n. in_front_gives [] (l ++ e) (over_blank c l e u k n y) (values_give c j h))
    (λ n. on_ok_gives (cells 1 (on_row c) (pad l)) (λ zs w. pick_elim (Gives (Rest c (l ++ (e ++ u)))) (dec_le c 16)
    (λ o. gives (last_row c l (e ++ u) zs h o k n (eol_over u y) w))
    (λ o. in_front_gives zs (l ++ e) (more_rows c l e u zs o k n y w) (values_give (c - 16) j (omega arith))))))
    (λ _. nothing)

module _ (h : Header) (d : ℕ) where
  abbrev Q : List ℕ → List ℤ × List ℕ → Type 0
  Q u x = Stands h d u x.0 x.1

  -- no blank line has a label
  pub named_full : (l : List ℕ) → drop 60 (pad l) ≡ name block → ¬ All Blank l
  unfolding pad name
  named_full l e b =
      let a : All Blank (name block) = subst (All Blank) e (all_drop Blank 60 (pad l) (all_append Blank l _ b (blank_spaces (80 - length l)))) in
      let z : ◌≡◌ {A = ℕ} 76 32 = a.0 in
      omega arith

  opened_stands : (l e u : List ℕ) (v : Vals (layout block)) → Clean l → Eol e → drop 60 (pad l) ≡ name block → fields block (pad l) ≡ ok v → Opens h d v
      → (x : List ℤ × List ℕ) → Rest (columns h.grid) u x → Stands h d (l ++ (e ++ u)) x.0 ((l ++ e) ++ x.1)
  opened_stands l e u v k y n f o x q =
      record {
        opening = v;
        row = pad l;
        rows = q.rows;
        shown = subst (λ b. Shown (pad l ∷ q.rows) (l ++ (e ++ u)) b) (sym (append_assoc l e x.1 ∙ ap (λ j. l ++ (e ++ j)) q.ends))
            (subst (λ w. Shown (pad l ∷ q.rows) (l ++ (e ++ w)) (l ++ (e ++ (q.gap ++ q.bytes)))) (sym q.seam) (at.line l k (named_full l n) y q.blanks q.shown));
        opened = named_rec (pad l) (padded l k.0) n f;
        opens = o;
        values = q.values;
        count = q.count;
      }

  block_gives : {cs : List Cut} {u : List ℕ} → Joined cs u → Gives (Q u) (block_at h d cs)
  unfolding block_at
  block_gives j_none = nothing
  block_gives (j_last {b} {l}) =
      pick_elim (Gives (Q (b ∷ l))) (clean? (b ∷ l))
      (λ k. pick_elim (Gives (Q (b ∷ l))) (same (drop 60 (pad (b ∷ l))) (name block))
      (λ n. on_ok_gives (fields block (pad (b ∷ l))) (λ v f. pick_elim (Gives (Q (b ∷ l))) (agrees? h d v)
      (λ o. in_front_gives {Q = λ _. ⊥} [] ((b ∷ l) ++ []) (λ x q. absurd q) (none_there (columns h.grid))) (λ _. nothing)))
      (λ _. nothing))
      (λ _. nothing)
  block_gives (j_line {l} {e} {cs} {u} y j) =
      pick_elim (Gives (Q (l ++ (e ++ u)))) (clean? l)
      (λ k. pick_elim (Gives (Q (l ++ (e ++ u)))) (same (drop 60 (pad l)) (name block))
      (λ n. on_ok_gives (fields block (pad l)) (λ v f. pick_elim (Gives (Q (l ++ (e ++ u)))) (agrees? h d v)
      (λ o. in_front_gives [] (l ++ e) (opened_stands l e u v k y n f o) (values_give (columns h.grid) j (omega arith))) (λ _. nothing)))
      (λ _. nothing))
      (λ _. nothing)

  given : {R : List ℤ × List ℕ → Type 0} {x : List ℤ × List ℕ} → Gives R (some x) → R x
  given (gives q) = q

  pub found_stands : (u : List ℕ) {zs : List ℤ} {b : List ℕ} → block_at h d (cuts u) ≡ some (zs, b) → Stands h d u zs b
  found_stands u {zs} {b} e = given {R = Q u} {x = (zs, b)} (subst (Gives (Q u)) e (block_gives (joined u)))

  -- a block stands exactly where it is found
  pub stands_exactly : (u : List ℕ) (zs : List ℤ) (b : List ℕ) → (Stands h d u zs b) ↔ (block_at h d (cuts u) ≡ some (zs, b))
  stands_exactly u zs b = (stands_found h d, found_stands u)

  -- no second block stands there
  pub stands_once : {u : List ℕ} {zs zs' : List ℤ} {b b' : List ℕ} → Stands h d u zs b → Stands h d u zs' b' → (zs ≡ zs') × (b ≡ b')
  stands_once {u} {zs} {zs'} {b} {b'} s s' =
      let e : ◌≡◌ {A = BlockFound} (some (zs, b)) (some (zs', b')) = sym (stands_found h d s) ∙ stands_found h d s' in
      (ap (λ (f : BlockFound). elim f [ none ↦ [] | some x ↦ x.0 ]) e, ap (λ (f : BlockFound). elim f [ none ↦ [] | some x ↦ x.1 ]) e)
