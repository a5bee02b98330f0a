-- A block's opening line, and the block that is found with it.
use mathlib.Core.Path.{◌≡◌, refl, sym, ap, subst, ◌∙◌}
use mathlib.Core.Bool.{Bool, true, false, not, ◌||◌}
use mathlib.Core.Logic.{⊎_elim}
use mathlib.Core.Option.{Option, none, some}
use mathlib.Core.List.{List, [], ◌∷◌, ◌++◌}
use Prim.Native.Nat.{ℕ, ◌+◌, ◌-◌, ◌%◌, ◌≤◌, ◌<◌}
use native.Mathlib.Omega.{arith}
use native.Mathlib.Decide.{dec_lt}
use borrow.Author.Tests.{eqb-true, eqb-false}
use lib.Dec.{T, eqb}
use lib.IntN.{ℤ}
use lib.ListN.{length, get_or, take, drop, drop_of_length-le}
use lib.Seq.{drop-drop}
use Rattle.kit.specs.Answer.{ok, refused, All, same, pick}
use Rattle.kit.proofs.AnswerLaws.{pick_yes, pick_no, pick_elim}
use Rattle.kit.specs.Integer.{int?}
use Rattle.kit.specs.Truth.{truth}
use Rattle.kit.proofs.TruthLaws.{holds, fails, truth_true, truth_false, tells, tested_at, clash}
use Rattle.mapset.specs.Grid.{rows, columns}
use Rattle.mapset.specs.declared.Axis.{Axis}
use Rattle.mapset.specs.declared.Header.{Header}
use Rattle.layout.specs.Text.{Clean, pad}
use Rattle.layout.specs.Records.{Vals}
use Rattle.layout.specs.Labels.{Label, version, description, comment, system, exponent, aux_start, aux_end, header_end, epoch, block, file_end, head, start, end, name, labels, layout}
use Rattle.layout.specs.Layout.{per_map, node, HeightOf, Opens}
use Rattle.layout.specs.Names.{names, number_of}
use Rattle.reading.specs.declared.Fault.{Fault}
use Rattle.reading.specs.Feed.{feed, split, NoRow}
use Rattle.reading.specs.Fields.{lookup, label, fields}
use Rattle.reading.proofs.LabelLaws.{label_known, label_unknown, named}
use Rattle.reading.proofs.RecordLaws.{known_maps}
use Rattle.reading.specs.Maps.{height?}
use Rattle.maps_agree.specs.Agreement.{differing}
use Rattle.read_lines.specs.Cuts.{Cut, cuts}
use Rattle.read_lines.specs.Lines as L
use Rattle.read_lines.specs.declared.Line.TheVariants as line
use Rattle.index.specs.Found.{clean?, agrees?, BlockFound, in_front, on_ok, values_at, block_at}
use Rattle.index.proofs.FoundLaws.{opening_found, named_full, firsts, cuts_split, first_rowless}
use Rattle.index_block.specs.Hits.{between, values_from, At, Hits, OpensAs, block_from}
use Rattle.index_block.specs.declared.Hit.{Hit}
use Rattle.std.specs.Prelude.{Option as Perhaps, Some, None}
use Rattle.std.specs.Option.{is_some}
use Rattle.index_block.proofs.HitLaws.{between_join}

-- ---- the label

is_block : Label → Bool
is_block block = true
is_block version = false
is_block description = false
is_block comment = false
is_block system = false
is_block exponent = false
is_block aux_start = false
is_block aux_end = false
is_block header_end = false
is_block epoch = false
is_block file_end = false
is_block (head i) = false
is_block (start k) = false
is_block (end k) = false

-- the thirty-first label
only_there : (k : ℕ) → k < 32 → T (eqb k 30 || not (is_block (get_or labels k version)))
unfolding is_block
only_there k h = tested_at (λ k. eqb k 30 || not (is_block (get_or labels k version))) 32 tt k h

block_place : (k : ℕ) → k < 32 → get_or labels k version ≡ block → k ≡ 30
unfolding is_block
block_place k h e = by (eqb k 30) refl (subst (λ (l : Label). T (eqb k 30 || not (is_block l))) e (only_there k h))
  where
    by : (b : Bool) → eqb k 30 ≡ b → T (b || false) → k ≡ 30
    by true q t = eqb-true k 30 q
    by false q t = absurd t

module _ (l : List ℕ) (fits : length l ≤ 80) where
  named_place : drop 60 (pad l) ≡ name block → number_of l ≡ 30
  unfolding label
  named_place e = by (dec_lt (number_of l) 32)
    where
      is : label (pad l) ≡ some block
      is = ap (λ s. lookup s labels) e ∙ known_maps.3

      by : Dec (number_of l < 32) → number_of l ≡ 30
      by (yes h) = let k : some (get_or labels (number_of l) version) ≡ some block = sym (label_known l fits h) ∙ is in block_place (number_of l) h (cc)
      by (no n) = let k : ◌≡◌ {A = Option Label} none (some block) = sym (label_unknown l fits (omega arith)) ∙ is in clash (cc)

  place_named : number_of l ≡ 30 → drop 60 (pad l) ≡ name block
  unfolding names
  place_named e = named l fits (omega arith) ∙ ap (λ k. get_or names k []) e

  pub opening_tells : (k : ℕ) → k ≡ number_of l → eqb k 30 ≡ truth (same (drop 60 (pad l)) (name block))
  opening_tells k e =
      tells (eqb k 30) (same (drop 60 (pad l)) (name block)) (λ b. place_named (sym e ∙ eqb-true k 30 b)) (λ b n. eqb-false k 30 b (e ∙ named_place n))

-- ---- the five numbers

differing_none : (a : Axis) (x y z : ℤ) → differing a x y z ≡ None → (x ≡ a.first) × ((y ≡ a.last) × (z ≡ a.step))
unfolding differing
differing_none a x y z =
    pick_elim (λ n. n ≡ None → (x ≡ a.first) × ((y ≡ a.last) × (z ≡ a.step))) (int? x a.first)
    (λ p. pick_elim (λ n. n ≡ None → (x ≡ a.first) × ((y ≡ a.last) × (z ≡ a.step))) (int? y a.last)
    (λ q. pick_elim (λ n. n ≡ None → (x ≡ a.first) × ((y ≡ a.last) × (z ≡ a.step))) (int? z a.step) (λ r _. (p, (q, r))) (λ _ e. clash (cc)))
    (λ _ e. clash (cc)))
    (λ _ e. clash (cc))

none_differing : (a : Axis) (x y z : ℤ) → x ≡ a.first → y ≡ a.last → z ≡ a.step → differing a x y z ≡ None
unfolding differing
none_differing a x y z p q r = pick_yes (int? x a.first) _ _ p ∙ pick_yes (int? y a.last) _ _ q ∙ pick_yes (int? z a.step) _ _ r

pub some_found : (o : Perhaps ℕ) → true ≡ is_some o → ¬ (o ≡ None)
some_found (Some x) e f = clash (cc)
some_found None e f = clash (cc)

pub none_found : (o : Perhaps ℕ) → false ≡ is_some o → o ≡ None
none_found (Some x) e = clash (cc)
none_found None e = refl

module _ (h : Header) (d left : ℕ) (u : d < per_map h) (e : left ≡ per_map h - d) (v : Vals (layout block)) where
  back : per_map h - left ≡ d
  back = omega arith

  abbrev Row : ℕ → Type 0
  Row j = v.0 ≡ node h.grid.latitudes (j % rows h.grid)

  pub row_wrong : truth (int? v.0 (node h.grid.latitudes ((per_map h - left) % rows h.grid))) ≡ false → false ≡ truth (agrees? h d v)
  row_wrong f = fails (agrees? h d v) (λ o. truth_false (int? v.0 (node h.grid.latitudes ((per_map h - left) % rows h.grid))) f (subst Row (sym back) o.latitude))

  pub line_wrong : ¬ (differing h.grid.longitudes v.1.0 v.1.1.0 v.1.1.1.0 ≡ None) → false ≡ truth (agrees? h d v)
  line_wrong n = fails (agrees? h d v) (λ o. n (none_differing h.grid.longitudes _ _ _ o.first o.last o.step))

  height_wrong : truth (height? h (per_map h - left) v.1.1.1.1.0) ≡ false → false ≡ truth (agrees? h d v)
  height_wrong f =
      fails (agrees? h d v) (λ o. truth_false (height? h (per_map h - left) v.1.1.1.1.0) f (subst (λ j. HeightOf h j v.1.1.1.1.0) (sym back) o.height))

  all_right : truth (int? v.0 (node h.grid.latitudes ((per_map h - left) % rows h.grid))) ≡ true → differing h.grid.longitudes v.1.0 v.1.1.0 v.1.1.1.0 ≡ None
      → truth (height? h (per_map h - left) v.1.1.1.1.0) ≡ true → true ≡ truth (agrees? h d v)
  all_right f g k =
      let a = differing_none h.grid.longitudes _ _ _ g in
      holds (agrees? h d v)
      (record {
        latitude = subst Row back (truth_true (int? v.0 (node h.grid.latitudes ((per_map h - left) % rows h.grid))) f);
        first = a.0;
        last = a.1.0;
        step = a.1.1;
        height = subst (λ j. HeightOf h j v.1.1.1.1.0) back (truth_true (height? h (per_map h - left) v.1.1.1.1.0) k);
      })

  pub height_tells : truth (int? v.0 (node h.grid.latitudes ((per_map h - left) % rows h.grid))) ≡ true → differing h.grid.longitudes v.1.0 v.1.1.0 v.1.1.1.0 ≡ None
      → (b : Bool) → b ≡ truth (height? h (per_map h - left) v.1.1.1.1.0) → b ≡ truth (agrees? h d v)
  height_tells f g true q = all_right f g (sym q)
  height_tells f g false q = height_wrong (sym q)

-- ---- the line

module _ (h : Header) (d : ℕ) (l : List ℕ) where
  pub unnamed : truth (same (drop 60 (pad l)) (name block)) ≡ false → OpensAs h d l false
  unfolding block_at
  unnamed f e cs =
      pick_elim (λ x. x ≡ none) (clean? l) (λ _. pick_no (same (drop 60 (pad l)) (name block)) _ _ (truth_false (same (drop 60 (pad l)) (name block)) f)) (λ _. refl)

  pub ill_formed : {w : Fault} → refused w ≡ fields block (pad l) → OpensAs h d l false
  unfolding block_at
  ill_formed {w} f e cs =
      pick_elim (λ x. x ≡ none) (clean? l)
      (λ _. pick_elim (λ x. x ≡ none) (same (drop 60 (pad l)) (name block))
      (λ _. ap (λ o. on_ok o (λ v. pick (agrees? h d v) (in_front [] (l ++ e) (values_at (columns h.grid) cs)) none)) (sym f)) (λ _. refl))
      (λ _. refl)

  disagreeing : (v : Vals (layout block)) → ok v ≡ fields block (pad l) → ¬ Opens h d v → OpensAs h d l false
  unfolding block_at
  disagreeing v f n e cs =
      pick_elim (λ x. x ≡ none) (clean? l)
      (λ _. pick_elim (λ x. x ≡ none) (same (drop 60 (pad l)) (name block))
      (λ _. ap (λ o. on_ok o (λ v. pick (agrees? h d v) (in_front [] (l ++ e) (values_at (columns h.grid) cs)) none)) (sym f) ∙ pick_no (agrees? h d v) _ _ n) (λ _. refl))
      (λ _. refl)

  pub judged : (v : Vals (layout block)) → truth (same (drop 60 (pad l)) (name block)) ≡ true → ok v ≡ fields block (pad l) → (b : Bool) → b ≡ truth (agrees? h d v) → OpensAs h d l b
  judged v n f true e = (v, (truth_true (same (drop 60 (pad l)) (name block)) n, (sym f, truth_true (agrees? h d v) (sym e))))
  judged v n f false e = disagreeing v f (truth_false (agrees? h d v) (sym e))

-- ---- the block

module _ (h : Header) (d : ℕ) where
  no_line : block_at h d [] ≡ none
  unfolding block_at
  no_line = refl

  blank_none : (l e : List ℕ) (cs : List Cut) → All (λ b. b ≡ 32) l → block_at h d ((l, e) ∷ cs) ≡ none
  unfolding block_at
  blank_none l e cs b =
      pick_elim (λ x. x ≡ none) (clean? l) (λ _. pick_no (same (drop 60 (pad l)) (name block)) _ _ (λ n. named_full h d l n b)) (λ _. refl)

  unclean : (l e : List ℕ) (cs : List Cut) → ¬ Clean l → block_at h d ((l, e) ∷ cs) ≡ none
  unfolding block_at
  unclean l e cs n = pick_no (clean? l) _ _ n

  none_ahead : (n : ℕ) (cs : List Cut) → NoRow (feed n (firsts cs)) → block_at h d cs ≡ none
  none_ahead n [] r = no_line
  none_ahead n (x ∷ cs) r = ⊎_elim (λ k. unclean x.0 x.1 cs k) (λ k. blank_none x.0 x.1 cs k.0.1) (first_rowless n x.0 (firsts cs) r)

  rowless : (u : List ℕ) → NoRow (feed 0 (split u)) → block_at h d (cuts u) ≡ none
  rowless u r = none_ahead 0 (cuts u) (subst (λ ls. NoRow (feed 0 ls)) (sym (cuts_split u)) r)

  module _ (t : List ℕ) (at : ℕ) where
    pub from_behind : length t ≤ at → block_from h d t at ≡ none
    from_behind l = let z : cuts [] ≡ [] = unfold cuts in refl in ap (block_at h d) (ap cuts (drop_of_length-le t l) ∙ z) ∙ no_line

    pub from_over : L.Stands (drop at t) line.Over → block_from h d t at ≡ none
    from_over s = rowless (drop at t) (subst NoRow (sym (s 0)) tt)

    pub from_bad : (f : Fault) → L.Stands (drop at t) (line.Bad f) → block_from h d t at ≡ none
    from_bad f s = rowless (drop at t) (subst NoRow (sym (s 0)) tt)

    pub from_skip : (next : ℕ) → L.Skips (drop at t) next → block_from h d t at ≡ none
    from_skip next s = ap (block_at h d) s.starts.cut ∙ blank_none _ _ _ s.blank

    module _ (w next : ℕ) (s : L.Rows (drop at t) w next) where
      upto : (j : ℕ) → between t at (at + j) ≡ take j (drop at t)
      upto j = let e : at + j - at ≡ j = omega arith in ap (λ i. take i (drop at t)) e

      pub from_other : (b : Bool) → OpensAs h d (take (at + w - at) (drop at t)) b → b ≡ false → block_from h d t at ≡ none
      from_other b o e =
          let q : OpensAs h d (take w (drop at t)) false = subst (λ x. OpensAs h d x false) (upto w) (subst (OpensAs h d (take (at + w - at) (drop at t))) e o) in
          ap (block_at h d) s.starts.cut ∙ q s.starts.end (cuts (drop next (drop at t)))

      from_opening : (b : Bool) → OpensAs h d (take (at + w - at) (drop at t)) b → b ≡ true
          → block_from h d t at ≡ in_front [] (between t at (at + next)) (values_from t (at + next) (columns h.grid))
      from_opening b o e =
          let q : OpensAs h d (take w (drop at t)) true = subst (λ x. OpensAs h d x true) (upto w) (subst (OpensAs h d (take (at + w - at) (drop at t))) e o) in
          ap (block_at h d) s.starts.cut
          ∙ opening_found h d (take w (drop at t)) s.starts.end (cuts (drop next (drop at t))) q.0 s.clean q.1.0 q.1.1.0 ∙ pick_yes (agrees? h d q.0) _ _ q.1.1.1
          ∙ (λ i. in_front [] ((sym s.starts.whole ∙ sym (upto next)) i) (values_at (columns h.grid) (cuts (drop-drop next at t i))))

      hits_front : (column from : ℕ) (g f : BlockFound) → at ≤ from → f ≡ in_front [] (between t at from) g → (r : Perhaps Hit) → Hits t from column g r → Hits t at column f r
      hits_front column from g f l e (Some o) k =
          let a = k.ahead in
          record {
            ahead = omega arith;
            within = k.within;
            have = k.have;
            found = e ∙ ap (in_front [] (between t at from)) k.found ∙ ap (λ j. some (k.have, j)) (between_join t at from o.end l a);
            reads = k.reads;
          }
      hits_front column from g f l e None k = e ∙ ap (in_front [] (between t at from)) k

      pub from_row : (column c : ℕ) → c ≡ columns h.grid → (b : Bool) → OpensAs h d (take (at + w - at) (drop at t)) b → b ≡ true → (r : Perhaps Hit)
          → Hits t (at + next) column (values_from t (at + next) c) r → Hits t at column (block_from h d t at) r
      from_row column c z b o e r k =
          hits_front column (at + next) (values_from t (at + next) c) (block_from h d t at) (omega arith)
          (from_opening b o e ∙ ap (λ j. in_front [] (between t at (at + next)) (values_from t (at + next) j)) (sym z)) r k
