-- A block's values, line by line, as the code goes over them.
use Rattle.std.specs.Prelude.{Option, Some, None, Ok, Err}
use mathlib.Core.Path.{◌≡◌, refl, sym, ap, subst, ◌∙◌}
use mathlib.Core.Bool.{true}
use mathlib.Core.Option.{none, some}
use mathlib.Core.List.{List, [], ◌∷◌, ◌++◌, append-nil}
use Prim.Native.Nat.{ℕ, zero, suc, ◌+◌, ◌-◌, ◌*◌, ◌≤◌, ◌<◌}
use native.Mathlib.Omega.{arith}
use native.Mathlib.Decide.{dec_le}
use native.Mathlib.Nat.{le_trans}
use lib.IntN.{ℤ, pos}
use lib.ListN.{length, get_or, take, drop, length-drop, length-append, get_or-append}
use lib.Seq.{drop-drop, take-take, take-add, length-take-le, get_or-append-add}
use Rattle.kit.specs.Answer.{Answer, ok, refused, pick, amap}
use Rattle.kit.proofs.AnswerLaws.{pick_yes, pick_no, yields}
use Rattle.kit.proofs.TruthLaws.{clash}
use Rattle.kit.proofs.ListLaws.{drop_take}
use Rattle.forms.specs.Form.{I}
use Rattle.forms.specs.Read.{read_field, is_number}
use Rattle.layout.specs.Text.{pad}
use Rattle.reading.specs.declared.Fault.{Fault}
use Rattle.reading.specs.Feed.{fault, NoRow}
use Rattle.reading.specs.Fields.{cells, number}
use Rattle.reading.specs.Maps.{on_row}
use Rattle.reading.proofs.LineLaws.{padded}
use Rattle.reading.proofs.RecordLaws.{cells_yields}
use Rattle.read_lines.specs.Cuts.{cuts}
use Rattle.read_lines.specs.Lines as L
use Rattle.read_lines.specs.declared.Line.TheVariants as line
use Rattle.read_values.specs.Values.{value_field, Judges}
use Rattle.read_values.proofs.ValueLaws.{field_of, field_short, field_whole}
use Rattle.index.specs.Found.{in_front, values_at}
use Rattle.index.proofs.FoundLaws.{in_front_none, in_front_twice, skip_line, row_line, wrong_line, no_values_ahead}
use Rattle.index_block.specs.Hits.{between, values_from, Skips, Holds, spot_of, Reads, At}

-- ---- a field of a row

pub room : (l : List ℕ) (k : ℕ) → is_number (value_field l k) ≡ true → k * 5 + 5 ≤ length l
room l k e = by (dec_le (k * 5 + 5) (length l))
  where
    by : Dec (k * 5 + 5 ≤ length l) → k * 5 + 5 ≤ length l
    by (yes h) = h
    by (no n) = let f = field_short l k (omega arith) in clash (cc)

-- ---- a line at a position

module _ (t : List ℕ) (at c : ℕ) (inside : at ≤ length t) where
  pub at_over : L.Stands (drop at t) line.Over → values_from t at c ≡ none
  at_over h = no_values_ahead c 0 (drop at t) (subst NoRow (sym (h 0)) tt)

  pub at_bad : (f : Fault) → L.Stands (drop at t) (line.Bad f) → values_from t at c ≡ none
  at_bad f h = no_values_ahead c 0 (drop at t) (subst NoRow (sym (h 0)) tt)

  -- where the next line starts
  onward : (next : ℕ) → next ≤ length (drop at t) → at + next ≤ length t
  onward next h = let n = length-drop at t in omega arith

  upto : (w : ℕ) → between t at (at + w) ≡ take w (drop at t)
  upto w = let e : at + w - at ≡ w = omega arith in ap (λ j. take j (drop at t)) e

  pub at_skip : (next : ℕ) → L.Skips (drop at t) next → Skips t at c (at + next)
  at_skip next h =
      let s = h.starts in
      let e : values_from t at c ≡ in_front [] (take h.width (drop at t) ++ s.end) (values_at c (cuts (drop next (drop at t)))) =
      ap (values_at c) s.cut ∙ skip_line c (take h.width (drop at t)) s.end (cuts (drop next (drop at t))) h.clean h.blank in
      record {
        ahead = omega (arith, h.ahead);
        within = onward next h.within;
        on = e ∙ (λ i. in_front [] ((sym s.whole ∙ sym (upto next)) i) (values_at c (cuts (drop-drop next at t i))));
      }

  module _ (w next : ℕ) (h : L.Rows (drop at t) w next) where
    -- the row's numbers, or a refusal
    judged : (m : ℕ) → m ≡ on_row c → (r : Answer Fault (List ℤ)) → cells 1 m (pad (take (at + w - at) (drop at t))) ≡ r → cells 1 (on_row c) (pad (take w (drop at t))) ≡ r
    judged m e r x = (λ i. cells 1 (sym e i) (pad (sym (upto w) i))) ∙ x

    pub at_wrong : (m : ℕ) → m ≡ on_row c → (f : Fault) → Judges (Err f) (cells 1 m (pad (take (at + w - at) (drop at t)))) → values_from t at c ≡ none
    at_wrong m e f j =
        let s = h.starts in
        let y = judged m e (refused f) j in
        ap (values_at c) s.cut ∙ wrong_line c (take w (drop at t)) s.end (cuts (drop next (drop at t))) h.clean h.full y

    pub at_row : (m : ℕ) → m ≡ on_row c → Judges (Ok tt) (cells 1 m (pad (take (at + w - at) (drop at t)))) → Holds t at c (at + w) (at + next)
    at_row m e q =
        let s = h.starts in
        let zs : List ℤ = q.0 in
        let y = judged m e (ok zs) q.1 in
        let u : List ℕ = drop at t in
        let g : values_from t at c ≡ pick (dec_le c 16) (some (zs, take w u)) (in_front zs (take w u ++ s.end) (values_at (c - 16) (cuts (drop next u)))) =
        ap (values_at c) s.cut ∙ row_line c (take w u) s.end (cuts (drop next u)) h.clean zs h.full y in
        record {
          ahead = omega (arith, h.ahead);
          within = onward next h.within;
          starts = omega arith;
          ends = omega (arith, h.inside);
          fits = omega (arith, h.fits);
          have = zs;
          row = ap (λ l. cells 1 (on_row c) (pad l)) (upto w) ∙ y;
          on = g ∙ (λ i. pick (dec_le c 16) (some (zs, sym (upto w) i)) (in_front zs ((sym s.whole ∙ sym (upto next)) i) (values_at (c - 16) (cuts (drop-drop next at t i)))));
        }

-- ---- the fields of a row

module _ (c m : ℕ) (bs : List ℕ) (zs : List ℤ) (z : ℤ) where
  tail_of : (x : Answer Fault (List ℤ)) → amap (λ zs. z ∷ zs) x ≡ ok zs → (ys : List ℤ) × ((x ≡ ok ys) × (zs ≡ z ∷ ys))
  unfolding amap
  tail_of (ok ys) e = (ys, (refl, cc))
  tail_of (refused w) e = clash (cc)

  number_of : (f : Option ℤ) (g : ℤ → Answer Fault (List ℤ)) → number f c g ≡ ok zs → (y : ℤ) × ((f ≡ Some y) × (g y ≡ ok zs))
  unfolding number
  number_of (Some y) g e = (y, (refl, e))
  number_of None g e = clash (cc)

-- the first field, or one of those behind it
field_or : (bs : List ℕ) (z : ℤ) (ys zs : List ℤ) (k : ℕ) → read_field I (take 5 bs) ≡ Some z → zs ≡ z ∷ ys
    → ((j : ℕ) → suc j ≡ k → read_field I (take 5 (drop (j * 5) (drop 5 bs))) ≡ Some (get_or ys j (pos 0))) → read_field I (take 5 (drop (k * 5) bs)) ≡ Some (get_or zs k (pos 0))
field_or bs z ys zs zero a b f = a ∙ ap (λ (l : List ℤ). Some (get_or l 0 (pos 0))) (sym b)
field_or bs z ys zs (suc j) a b f =
    let e : suc j * 5 ≡ 5 + j * 5 = omega arith in
    ap (λ i. read_field I (take 5 (drop i bs))) e ∙ ap (λ l. read_field I (take 5 l)) (sym (drop-drop (j * 5) 5 bs)) ∙ f j refl ∙ ap (λ (l : List ℤ). Some (get_or l (suc j) (pos 0))) (sym b)

cells_field : (m c : ℕ) (bs : List ℕ) (zs : List ℤ) → cells c m bs ≡ ok zs → (k : ℕ) → k < m → read_field I (take 5 (drop (k * 5) bs)) ≡ Some (get_or zs k (pos 0))
unfolding cells
cells_field zero c bs zs e k h = absurd (omega arith)
cells_field (suc m) c bs zs e k h =
    let a = number_of c m bs zs (pos 0) (read_field I (take 5 bs)) (λ z. amap (λ zs. z ∷ zs) (cells (c + 5) m (drop 5 bs))) e in
    let b = tail_of c m bs zs a.0 (cells (c + 5) m (drop 5 bs)) a.1.1 in
    field_or bs a.0 b.0 zs k a.1.0 b.1.1 (λ j q. cells_field m (c + 5) (drop 5 bs) b.0 b.1.0 j (omega arith))

five_left : (n k : ℕ) → k + 5 ≤ n → 5 ≤ n - k
five_left n k h = omega arith

spot_in : (at end len k : ℕ) → at ≤ end → end ≤ len → k + 5 ≤ end - at → at + k + 5 ≤ len
spot_in at end len k a b c = omega arith

-- where a value stands, as the code says
module _ (at done column spot : ℕ) where
  pub spot_before : column < done → spot ≡ spot_of at done column spot
  unfolding spot_of
  spot_before h = sym (pick_no (dec_le done column) _ _ (λ k. omega arith))

  pub spot_behind : done ≤ column → 15 < column - done → spot ≡ spot_of at done column spot
  unfolding spot_of
  spot_behind h k = sym (pick_yes (dec_le done column) _ _ h ∙ pick_no (dec_le (column - done) 15) _ _ (λ l. omega arith))

  pub spot_here : done ≤ column → column - done ≤ 15 → at + (column - done) * 5 ≡ spot_of at done column spot
  unfolding spot_of
  spot_here h k = sym (pick_yes (dec_le done column) _ _ h ∙ pick_yes (dec_le (column - done) 15) _ _ k)

module _ (t : List ℕ) (at c end to : ℕ) (h : Holds t at c end to) where
  -- a value of the row, where it stands in the text
  field_reads : (k : ℕ) → k < on_row c → Reads t (at + k * 5) (get_or h.have k (pos 0))
  field_reads k l =
      let u : List ℕ = drop at t in
      let n : ℕ = end - at in
      let a = h.starts in
      let b = h.ends in
      let w = h.within in
      let g = h.fits in
      let d = length-drop at t in
      let z : length (take n u) ≡ n = length-take-le n u (omega arith) in
      let f : value_field (take n u) k ≡ Some (get_or h.have k (pos 0)) = field_of (take n u) k (omega arith) (omega arith) ∙ cells_field (on_row c) 1 (pad (take n u)) h.have h.row k l in
      let r : k * 5 + 5 ≤ n = subst (λ j. k * 5 + 5 ≤ j) z (room (take n u) k (ap is_number f)) in
      let p : k * 5 + 5 - k * 5 ≡ 5 = omega arith in
      let q : at + k * 5 + 5 - (at + k * 5) ≡ 5 = omega arith in
      let o : take 5 (drop (k * 5) (take n u)) ≡ take 5 (drop (at + k * 5) t) = ap (take 5) (drop_take (k * 5) n u) ∙ take-take 5 (n - k * 5) (drop (k * 5) u) (five_left n (k * 5) r) ∙ ap (take 5) (drop-drop (k * 5) at t) in
      record {
        within = spot_in at end (length t) (k * 5) a (le_trans b w) r;
        five = ap (λ j. read_field I (take j (drop (at + k * 5) t))) q ∙ ap (read_field I) (sym o) ∙ ap (λ j. read_field I (take j (drop (k * 5) (take n u)))) (sym p) ∙ field_whole (take n u) k (room (take n u) k (ap is_number f)) ∙ f;
      }

  row_size : length h.have ≡ on_row c
  row_size =
      let a = h.starts in
      let b = h.ends in
      let w = h.within in
      let g = h.fits in
      let d = length-drop at t in
      let z : length (between t at end) ≡ end - at = length-take-le (end - at) (drop at t) (omega arith) in
      let p : length (pad (between t at end)) ≡ 80 = padded (between t at end) (omega arith) in
      (yields _ (cells_yields 1 (on_row c) (pad (between t at end)) (omega arith)) h.row).1

-- ---- the loop

pub between_join : (t : List ℕ) (a b c : ℕ) → a ≤ b → b ≤ c → between t a b ++ between t b c ≡ between t a c
between_join t a b c h k =
    let e : c - a ≡ (b - a) + (c - b) = omega arith in
    let f : a + (b - a) ≡ b = omega arith in
    ap (λ l. between t a b ++ take (c - b) l) (ap (λ j. drop j t) (sym f) ∙ sym (drop-drop (b - a) a t)) ∙ sym (take-add (b - a) (c - b) (drop a t)) ∙ ap (λ j. take j (drop a t)) (sym e)

-- the answer from the start, by the answer from here: some values are passed, and if the column is one of them, it stands at `spot`
pub record Going (t : List ℕ) (from c column at left spot : ℕ) : Type 0 where
  pub ahead : from ≤ at
  pub within : at ≤ length t
  pub some_left : 1 ≤ left
  pub most : left ≤ c
  pub have : List ℤ
  pub size : length have ≡ c - left
  pub on : values_from t from c ≡ in_front have (between t from at) (values_from t at left)
  pub reads : column < c - left → Reads t spot (get_or have column (pos 0))

pub going_none : (t : List ℕ) (from c column spot : ℕ) → from ≤ length t → column < c → Going t from c column from c spot
going_none t from c column spot h k =
    let e : from - from ≡ 0 = omega arith in
    record {
      ahead = omega arith;
      within = h;
      some_left = omega arith;
      most = omega arith;
      have = [];
      size = omega arith;
      on = sym (ap (λ j. in_front [] (take j (drop from t)) (values_from t from c)) e ∙ in_front_none (values_from t from c));
      reads = λ l. absurd (omega arith);
    }

module _ {t : List ℕ} {from c column at left spot : ℕ} (g : Going t from c column at left spot) where
  pub going_nothing : values_from t at left ≡ none → values_from t from c ≡ none
  going_nothing e = g.on ∙ ap (in_front g.have (between t from at)) e

  pub going_skip : (to : ℕ) → Skips t at left to → Going t from c column to left spot
  going_skip to s =
      let a = g.ahead in
      let b = s.ahead in
      record {
        ahead = omega arith;
        within = s.within;
        some_left = g.some_left;
        most = g.most;
        have = g.have;
        size = g.size;
        on = g.on ∙ ap (in_front g.have (between t from at)) s.on ∙ in_front_twice g.have [] (between t from at) (between t at to) (values_from t to left)
            ∙ (λ i. in_front (append-nil g.have i) (between_join t from at to (omega arith) (omega arith) i) (values_from t to left));
        reads = g.reads;
      }

  module _ (end to : ℕ) (h : Holds t at left end to) where
    -- the column is passed already, or it is on this row
    spot_reads : (s : ℕ) → s ≡ spot_of at (c - left) column spot → column < c - left + on_row left → Reads t s (get_or (g.have ++ h.have) column (pos 0))
    unfolding spot_of
    spot_reads s e l = by (dec_le (c - left) column)
      where
        by : Dec (c - left ≤ column) → Reads t s (get_or (g.have ++ h.have) column (pos 0))
        by (yes y) =
            let z = g.size in
            let k : column ≡ length g.have + (column - (c - left)) = omega arith in
            let q : get_or (g.have ++ h.have) column (pos 0) ≡ get_or h.have (column - (c - left)) (pos 0) =
            ap (λ j. get_or (g.have ++ h.have) j (pos 0)) k ∙ get_or-append-add g.have h.have (column - (c - left)) (pos 0) in
            let p : s ≡ at + (column - (c - left)) * 5 = e ∙ pick_yes (dec_le (c - left) column) _ _ y ∙ pick_yes (dec_le (column - (c - left)) 15) _ _ (omega arith) in
            subst (λ j. Reads t j (get_or (g.have ++ h.have) column (pos 0))) (sym p)
            (subst (λ x. Reads t (at + (column - (c - left)) * 5) x) (sym q) (field_reads t at left end to h (column - (c - left)) (omega arith)))
        by (no n) =
            let z = g.size in
            let q : get_or (g.have ++ h.have) column (pos 0) ≡ get_or g.have column (pos 0) = get_or-append g.have h.have (pos 0) column (omega arith) in
            let p : s ≡ spot = e ∙ pick_no (dec_le (c - left) column) _ _ n in
            subst (λ j. Reads t j (get_or (g.have ++ h.have) column (pos 0))) (sym p) (subst (λ x. Reads t spot x) (sym q) (g.reads (omega arith)))

    pub going_row : (s : ℕ) → s ≡ spot_of at (c - left) column spot → 16 < left → Going t from c column to (left - 16) s
    going_row s e l =
        let a = g.ahead in
        let b = h.ahead in
        let m = g.most in
        let z = g.size in
        let y = row_size t at left end to h in
        record {
          ahead = omega arith;
          within = h.within;
          some_left = omega arith;
          most = omega arith;
          have = g.have ++ h.have;
          size = length-append g.have h.have ∙ omega arith;
          on = g.on ∙ ap (in_front g.have (between t from at)) (h.on ∙ pick_no (dec_le left 16) _ _ (λ q. omega arith))
              ∙ in_front_twice g.have h.have (between t from at) (between t at to) (values_from t to (left - 16))
              ∙ ap (λ j. in_front (g.have ++ h.have) j (values_from t to (left - 16))) (between_join t from at to (omega arith) (omega arith));
          reads = λ q. spot_reads s e (omega arith);
        }

    pub going_done : (s : ℕ) → s ≡ spot_of at (c - left) column spot → left ≤ 16 → column < c → At t from column end s (values_from t from c)
    going_done s e l q =
        let a = g.ahead in
        let b = h.starts in
        let d = h.ends in
        let w = h.within in
        let m = g.most in
        record {
          ahead = omega arith;
          within = omega arith;
          have = g.have ++ h.have;
          found = g.on ∙ ap (in_front g.have (between t from at)) (h.on ∙ pick_yes (dec_le left 16) _ _ l)
              ∙ ap (λ j. some (g.have ++ h.have, j)) (between_join t from at end (omega arith) (omega arith));
          reads = spot_reads s e (omega arith);
        }
