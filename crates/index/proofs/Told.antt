-- Each block that the rules tell stands in the text where its opening line starts.
use mathlib.Core.Path.{◌≡◌, refl, sym, ap, subst, ◌∙◌}
use mathlib.Core.Option.{some}
use mathlib.Core.List.{List, [], ◌∷◌, ◌++◌}
use Prim.Native.Nat.{ℕ, zero, suc, ◌+◌, ◌-◌, ◌≤◌, ◌<◌}
use native.Mathlib.Omega.{arith}
use lib.IntN.{ℤ}
use lib.ListN.{length, drop, length-append}
use Rattle.kit.specs.Answer.{same}
use Rattle.kit.proofs.AnswerLaws.{pick_yes, pick_no}
use Rattle.mapset.specs.declared.Kind.{Kind}
use Rattle.mapset.specs.declared.Kind.TheVariants.{Tec, Rms, Height}
use Rattle.mapset.specs.declared.Header.{Header}
use Rattle.mapset.specs.Grid.{columns}
use Rattle.mapset.specs.MapSet.{Block}
use Rattle.layout.specs.Records.{Vals, ValueRows, v_last, v_full}
use Rattle.layout.specs.Labels.{Label, name, labels, comment, exponent, epoch, block, file_end, start, end, layout, Rec}
use Rattle.layout.specs.Layout.{Force, Left, nothing, maps, early, blocks, Exponent, per_map, Writes, w_end, w_comment, w_exponent, w_tec, w_epoch, w_other, w_again, w_block, w_close, w_file}
use Rattle.reading.specs.Fields.{lookup, label}
use Rattle.reading.proofs.RecordLaws.{known_maps, rec_label, rec_name}
use Rattle.areas.specs.Events as event
use Rattle.areas.specs.Events.{Event, told}
use Rattle.index.specs.Stands.{Stands}
use Rattle.index.specs.Made.{Placed, opened}
use Rattle.index.proofs.Lines.{Lies, lies_end, lies_row}

-- `Matched h t es os`: of each block of the events es, in turn, os holds the position where it stands in the text t
pub data Matched (h : Header) (t : List ℕ) : List Event → List ℕ → Type 0 where
  m_end : {os : List ℕ} → Matched h t [] os
  m_epoch : {i e : ℕ} {es : List Event} {os : List ℕ} → Matched h t es os → Matched h t (event.epoch i e ∷ es) os
  m_marked : {k : Kind} {i : ℕ} {es : List Event} {os : List ℕ} → Matched h t es os → Matched h t (event.marked k i ∷ es) os
  m_block : {k : Kind} {i d a : ℕ} {x : Block} {es : List Event} {os : List ℕ} (b : List ℕ) → Stands h d (drop a t) x.values b → Exponent x.exponent
      → 1 ≤ i → d < per_map h → Matched h t es os → Matched h t (event.block k i d x ∷ es) (a ∷ os)

module _ (t : List ℕ) (C : ℕ) where
  -- a row of a block's values opens none
  pub value_row : (c : ℕ) (p : ℕ × List ℕ) (ps : Placed) → 1 ≤ c → opened C c (p ∷ ps) ≡ opened C (c - 16) ps
  unfolding opened
  value_row zero p ps l = absurd (omega arith)
  value_row (suc c) p ps l = refl

  -- a block's values at once
  abbrev Past : ℕ → Placed → List (List ℕ) → Type 0
  Past c ps rs = (q : Placed) × (Lies t q rs × (opened C c ps ≡ opened C 0 q))

  past : {zs : List ℤ} {vs : List (List ℕ)} (rs : List (List ℕ)) {ps : Placed} → ValueRows zs vs → Lies t ps (vs ++ rs) → Past (length zs) ps rs
  past {zs} rs (v_last a b z x) (lies_row {a = p} {r} {ps} f y) =
      let n : length zs - 16 ≡ 0 = omega arith in
      (ps, (y, value_row (length zs) (p, r) ps a ∙ ap (λ c. opened C c ps) n))
  past rs (v_full {zs} {more} z s x v) (lies_row {a = p} {r} {ps} f y) =
      let e : length (zs ++ more) ≡ 16 + length more = length-append zs more ∙ omega arith in
      let n : length (zs ++ more) - 16 ≡ length more = omega arith in
      let (q, (w, h)) = past rs v y in
      (q, (w, value_row (length (zs ++ more)) (p, r) ps (omega arith) ∙ ap (λ c. opened C c ps) n ∙ h))

  -- a record that is no block's opening
  other_row : (l : Label) (a : ℕ) (r : List ℕ) (ps : Placed) → label r ≡ some l → ¬ (l ≡ block) → opened C 0 ((a, r) ∷ ps) ≡ opened C 0 ps
  unfolding opened label
  other_row l a r ps e n =
      pick_no (same (drop 60 r) (name block)) _ _ (λ h. let k : some block ≡ some l = sym known_maps.3 ∙ ap (λ s. lookup s labels) (sym h) ∙ e in n (cc))

  pub block_row : (a : ℕ) (r : List ℕ) (ps : Placed) → drop 60 r ≡ name block → opened C 0 ((a, r) ∷ ps) ≡ a ∷ opened C C ps
  unfolding opened
  block_row a r ps e = pick_yes (same (drop 60 r) (name block)) _ _ e

-- ---- rule by rule

-- what is counted of an open map
abbrev pub Counted : Header → Left → Type 0
Counted h nothing = Unit {0}
Counted h (maps ms) = Unit {0}
Counted h (early m ms) = Unit {0}
Counted h (blocks e k i bs ms) = (1 ≤ i) × (length bs ≤ per_map h)

module _ (t : List ℕ) (h : Header) where
  abbrev Match : List Event → Placed → Type 0
  Match es ps = Matched h t es (opened (columns h.grid) 0 ps)

  -- a record that opens no block
  other : (l : Label) {vs : Vals (layout l)} (a : ℕ) {r : List ℕ} (ps : Placed) (es : List Event) → Rec l vs r → lookup (name l) labels ≡ some l → ¬ (l ≡ block)
      → Match es ps → Match es ((a, r) ∷ ps)
  other l a {r} ps es c k n m = subst (Matched h t es) (sym (other_row t (columns h.grid) l a r ps (rec_label c k) n)) m

  pub matched : {p : Force} {w : Left} {rs : List (List ℕ)} (hw : Writes h p w rs) → Counted h w → Exponent p.exponent → {ps : Placed} → Lies t ps rs → Match (told hw) ps
  unfolding told
  matched w_end o x lies_end = m_end
  matched (w_comment l c hw) o x (lies_row {a = a} {ps = ps} f y) = other comment a ps (told hw) c known_maps.0 (λ e. let z : ◌≡◌ {A = ℕ} 0 1 = cc in omega arith) (matched hw o x y)
  matched (w_exponent l c u hw) o x (lies_row {a = a} {ps = ps} f y) = other exponent a ps (told hw) c known_maps.1 (λ e. let z : ◌≡◌ {A = ℕ} 0 1 = cc in omega arith) (matched hw o u y)
  matched (w_tec c u hw) o x (lies_row {a = a} {ps = ps} f y) = other (start Tec) a ps (told hw) c (known_maps.5 Tec) (λ e. let z : ◌≡◌ {A = ℕ} 0 1 = cc in omega arith) (matched hw tt x y)
  matched (w_epoch d c v u z hw) o x (lies_row {a = a} {ps = ps} f y) =
      m_epoch (other epoch a ps (told hw) c known_maps.2 (λ e. let z : ◌≡◌ {A = ℕ} 0 1 = cc in omega arith) (matched hw (omega arith, omega arith) x y))
  matched (w_other Rms n c u v z hw) o x (lies_row {a = a} {ps = ps} f y) =
      m_marked (other (start Rms) a ps (told hw) c (known_maps.5 Rms) (λ e. let z : ◌≡◌ {A = ℕ} 0 1 = cc in omega arith) (matched hw (omega arith, omega arith) x y))
  matched (w_other Height n c u v z hw) o x (lies_row {a = a} {ps = ps} f y) =
      m_marked (other (start Height) a ps (told hw) c (known_maps.5 Height) (λ e. let z : ◌≡◌ {A = ℕ} 0 1 = cc in omega arith) (matched hw (omega arith, omega arith) x y))
  matched (w_again d c v hw) o x (lies_row {a = a} {ps = ps} f y) = other epoch a ps (told hw) c known_maps.2 (λ e. let z : ◌≡◌ {A = ℕ} 0 1 = cc in omega arith) (matched hw o x y)
  matched {p} (w_block {k = k} {i} {zs} {bs} v {r} {vs} {rs} c u z q hw) o x (lies_row {a = a} {ps = ps} f y) =
      let C : ℕ = columns h.grid in
      let (b, s) = f vs rs refl in
      let (qs, (w, e)) = past t C rs q y in
      let m : Matched h t (told hw) (opened C 0 qs) = matched hw (omega arith, omega arith) x w in
      let g : opened C 0 ((a, r) ∷ ps) ≡ a ∷ opened C 0 qs = block_row t C a r ps (rec_name c) ∙ ap (λ os. a ∷ os) (ap (λ j. opened C j ps) (sym z) ∙ e) in
      subst (Matched h t (event.block k i (per_map h - suc (length bs)) (record { exponent = p.exponent; values = zs }) ∷ told hw)) (sym g)
      (m_block b (record { opening = v; row = r; rows = vs; shown = s; opened = c; opens = u; values = q; count = z }) x o.0 (omega arith) m)
  matched (w_close {k = k} c hw) o x (lies_row {a = a} {ps = ps} f y) = other (end k) a ps (told hw) c (known_maps.6 k) (λ e. let z : ◌≡◌ {A = ℕ} 0 1 = cc in omega arith) (matched hw tt x y)
  matched (w_file c u hw) o x (lies_row {a = a} {ps = ps} f y) = other file_end a ps (told hw) c known_maps.4 (λ e. let z : ◌≡◌ {A = ℕ} 0 1 = cc in omega arith) (matched hw tt x y)
  matched (w_other {p = p} Tec {ms = ms} {r = r} {rs = rs} n c u v z hw) o x {ps = ps} _ = elim n [ ]
