-- The maps of a kind, one at a time.
use mathlib.Core.Path.{◌≡◌, refl, sym, ap, ◌∙◌}
use mathlib.Core.List.{List, [], ◌∷◌, ◌++◌}
use Prim.Native.Nat.{ℕ, zero, suc, ◌+◌, ◌-◌, ◌*◌, ◌≤◌, ◌<◌}
use native.Mathlib.Numerals.{add-one}
use native.Mathlib.Omega.{arith}
use native.Mathlib.Nat.{mul_assoc, mul-le-mul}
use lib.IntN.{ℤ}
use lib.ListN.{length, get_or, take, drop, length-drop, drop_of_length-le}
use lib.Seq.{drop-cons, drop-drop, get_or-take, length-take-le}
use Rattle.kit.proofs.AnswerLaws.{pick_no}
use Rattle.mapset.specs.declared.Kind.{Kind}
use Rattle.mapset.specs.declared.Header.{Header}
use Rattle.mapset.specs.Grid.{columns}
use Rattle.mapset.specs.MapSet.{Block}
use Rattle.mapset.specs.Areas.{Present, present?, Nowhere, nowhere?, blocks, first_of}
use Rattle.mapset.proofs.FirstLaws.{first_within}
use Rattle.layout.specs.Layout.{per_map}
use Rattle.areas.specs.Nest.{third}
use Rattle.write_line.specs.Put.{LineRoom, PutsOn}
use Rattle.write_line.proofs.PutLaws.{put_none, room_front, leads_self, leads_on}
use Rattle.valid.specs.Groups.{kind_need, Holds}
use Rattle.valid.proofs.Whole.{take_drop_take}
use Rattle.write_map.specs.OneMap.{map_blocks, slot_blocks, slot_map, slot_force}
use Rattle.write_maps.specs.KindRows.{first_map, kind_rows, kind_force, part_values, part_rows, part_force}
use Rattle.write_maps.specs.Ready.{ReadyPart, PutPart}
use Rattle.write_map.specs.Ready.{Fine, ReadySlot, PutTo}
use Rattle.write_map.specs.declared.Reached.{Reached}
use Rattle.write_map.proofs.BlockLaws.{few_values, part_inside, part_next}
use Rattle.write_map.proofs.SlotLaws.{leads_same, map_absent, force_absent}

-- ---- the maps from an index on
module _ (q : Kind) (h : Header) (ts ms : List ℕ) (es vs : List ℤ) (i e from : ℕ) (k : ℤ) where
  abbrev B : ℕ
  B = per_map h

  abbrev W : ℕ
  W = per_map h * columns h.grid

  abbrev here : List Block
  here = first_map h (drop e es) (drop from vs)

  kind_next : i < length ts → i < length ms
      → kind_rows q h i k (drop i ts) (drop i ms) (drop e es) (drop from vs)
      ≡ slot_map q h (i + 1) (get_or ts i 0) (get_or ms i 0) k here
      ++ kind_rows q h (i + 1) (slot_force q (get_or ms i 0) k here) (drop (i + 1) ts) (drop (i + 1) ms) (drop (e + B) es) (drop (from + W) vs)
  unfolding kind_rows
  kind_next l r = rw (add-one i, drop-cons ts i 0 l, drop-cons ms i 0 r, ← drop-drop B e es, ← drop-drop W from vs) refl

  force_next : i < length ms
      → kind_force q h k (drop i ms) (drop e es) (drop from vs) ≡ kind_force q h (slot_force q (get_or ms i 0) k here) (drop (i + 1) ms) (drop (e + B) es) (drop (from + W) vs)
  unfolding kind_force
  force_next r = rw (add-one i, drop-cons ms i 0 r, ← drop-drop B e es, ← drop-drop W from vs) refl

  kind_end : length ts ≤ i → kind_rows q h i k (drop i ts) (drop i ms) (drop e es) (drop from vs) ≡ []
  unfolding kind_rows
  kind_end l = rw (drop_of_length-le ts l) refl

  force_end : length ms ≤ i → kind_force q h k (drop i ms) (drop e es) (drop from vs) ≡ k
  unfolding kind_force
  force_end l = rw (drop_of_length-le ms l) refl

absent_at : (q : Kind) (ms : List ℕ) (i : ℕ) → i < length ms → Nowhere q ms → ¬ Present q (get_or ms i 0)
absent_at q [] i l n = absurd (omega arith)
absent_at q (m ∷ ms) zero l n = n.0
absent_at q (m ∷ ms) (suc i) l n = absent_at q ms i (omega arith) n.1

-- ---- the map of an index, in the areas as they are lent
module _ (q : Kind) (h : Header) (epochs marks : List ℕ) (es vs : List ℤ) (f : Fine h) (u : h.times.maps ≤ length marks)
    (o : Holds q (per_map h) (columns h.grid) (take h.times.maps marks) vs es)
    (i begin from B' W' : ℕ) (p : B' ≡ per_map h) (w : W' ≡ per_map h * columns h.grid) (l : i < h.times.maps) (a : begin ≡ first_of q (blocks h) + i * per_map h) (b : from ≡ i * (per_map h * columns h.grid)) where
  abbrev n : ℕ
  n = h.times.maps

  abbrev ts : List ℕ
  ts = take n epochs

  abbrev ms : List ℕ
  ms = take n marks

  abbrev first : ℕ
  first = first_of q (blocks h)

  abbrev es' : List ℤ
  es' = third q (blocks h) es

  abbrev vs' : List ℤ
  vs' = part_values q h marks vs

  abbrev here' : List Block
  here' = slot_blocks h (take (begin + B' - begin) (drop begin es)) vs from

  count : length ms ≡ n
  count = length-take-le n marks u

  in_marks : i < length ms
  in_marks = omega (arith, count)

  exponents_here : i * per_map h + per_map h ≤ blocks h
  exponents_here = part_inside i n (per_map h) (i * per_map h) (blocks h) refl refl l

  -- the kind's exponents are within those of all three
  exponents_held : first + blocks h ≤ length es
  exponents_held = omega (arith, first_within q (blocks h), o.exponents, ap (λ (m : ℕ). m * per_map h) count)

  values_here : from + per_map h * columns h.grid ≤ length ms * (per_map h * columns h.grid)
  values_here = part_inside i (length ms) (per_map h * columns h.grid) from (length ms * (per_map h * columns h.grid)) b refl in_marks

  exponents_inside : begin + B' ≤ length es
  exponents_inside = omega (arith, exponents_here, a, p, exponents_held)

  values_few : from + W' ≤ 300 * 16657984
  values_few = omega (arith, values_here, w, mul-le-mul o.maps (few_values h f))

  part_is : take (begin + B' - begin) (drop begin es) ≡ take (per_map h) (drop (i * per_map h) es')
  part_is =
      let m : begin + B' - begin ≡ per_map h = omega (arith, p) in
      sym (take_drop_take (per_map h) (i * per_map h) (blocks h) (drop first es) exponents_here ∙ (λ j. take (sym m j) (drop-drop (i * per_map h) first es j)) ∙ ap (λ k. take (begin + B' - begin) (drop k es)) (sym a))

  needed : Present q (get_or ms i 0) → kind_need q (per_map h) (columns h.grid) ms ≡ length ms * (per_map h * columns h.grid)
  needed r = pick_no (nowhere? q ms) 0 _ (λ n. absent_at q ms i in_marks n r) ∙ mul_assoc (length ms) (per_map h) (columns h.grid)

  blocks_are : Present q (get_or ms i 0) → here' ≡ first_map h (drop (i * per_map h) es') (drop from vs')
  blocks_are r =
      λ j. map_blocks h (part_is j) (sym (take_drop_take (per_map h * columns h.grid) from (kind_need q (per_map h) (columns h.grid) ms) vs (omega (arith, values_here, needed r))) j)

  map_is : (k : ℤ) → Dec (Present q (get_or ms i 0))
      → slot_map q h (i + 1) (get_or ts i 0) (get_or ms i 0) k (first_map h (drop (i * per_map h) es') (drop from vs')) ≡ slot_map q h (i + 1) (get_or ts i 0) (get_or ms i 0) k here'
  map_is k (yes r) = ap (slot_map q h (i + 1) (get_or ts i 0) (get_or ms i 0) k) (sym (blocks_are r))
  map_is k (no r) = map_absent q h (i + 1) (get_or ts i 0) (get_or ms i 0) k _ r ∙ sym (map_absent q h (i + 1) (get_or ts i 0) (get_or ms i 0) k _ r)

  force_is : (k : ℤ) → Dec (Present q (get_or ms i 0)) → slot_force q (get_or ms i 0) k (first_map h (drop (i * per_map h) es') (drop from vs')) ≡ slot_force q (get_or ms i 0) k here'
  force_is k (yes r) = ap (slot_force q (get_or ms i 0) k) (sym (blocks_are r))
  force_is k (no r) = force_absent q (get_or ms i 0) k _ r ∙ sym (force_absent q (get_or ms i 0) k _ r)

  force_told : (k : ℤ) → slot_force q (get_or ms i 0) k (first_map h (drop (i * per_map h) es') (drop from vs')) ≡ slot_force q (get_or marks i 0) k here'
  force_told k = force_is k (present? q (get_or ms i 0)) ∙ ap (λ m. slot_force q m k here') (get_or-take n marks i 0 l)

  exponents_next : i * per_map h + per_map h ≡ (i + 1) * per_map h
  exponents_next = part_next i n (per_map h) (i * per_map h) (n * per_map h) refl refl l

  -- this map, then the others
  rows_next : n ≤ length epochs → (k : ℤ)
      → kind_rows q h i k (drop i ts) (drop i ms) (drop (i * per_map h) es') (drop from vs')
      ≡ slot_map q h (i + 1) (get_or epochs i 0) (get_or marks i 0) k here'
      ++ kind_rows q h (i + 1) (slot_force q (get_or marks i 0) k here') (drop (i + 1) ts) (drop (i + 1) ms) (drop ((i + 1) * per_map h) es') (drop (from + W') vs')
  rows_next v k =
      kind_next q h ts ms es' vs' i (i * per_map h) from k (omega (arith, length-take-le n epochs v)) in_marks
      ∙ (λ j. map_is k (present? q (get_or ms i 0)) j ++ kind_rows q h (i + 1) (force_told k j) (drop (i + 1) ts) (drop (i + 1) ms) (drop (exponents_next j) es') (drop (from + sym w j) vs'))
      ∙ (λ j. slot_map q h (i + 1) (get_or-take n epochs i 0 l j) (get_or-take n marks i 0 l j) k here' ++ kind_rows q h (i + 1) (slot_force q (get_or marks i 0) k here') (drop (i + 1) ts) (drop (i + 1) ms) (drop ((i + 1) * per_map h) es') (drop (from + W') vs'))

  force_after : (k : ℤ)
      → kind_force q h k (drop i ms) (drop (i * per_map h) es') (drop from vs') ≡ kind_force q h (slot_force q (get_or marks i 0) k here') (drop (i + 1) ms) (drop ((i + 1) * per_map h) es') (drop (from + W') vs')
  force_after k =
      force_next q h ts ms es' vs' i (i * per_map h) from k in_marks
      ∙ (λ j. kind_force q h (force_told k j) (drop (i + 1) ms) (drop (exponents_next j) es') (drop (from + sym w j) vs'))

  slot_ready : (at : ℕ) (k : ℤ) → LineRoom at (slot_map q h (i + 1) (get_or epochs i 0) (get_or marks i 0) k here')
      → ReadySlot h at q (i + 1) (get_or epochs i 0) (get_or marks i 0) k (take (begin + B' - begin) (drop begin es)) vs from (from + W')
  slot_ready at k m =
      record {
        ready = record { fine = f; room = m };
        number = omega (arith, count, o.maps);
        exponents = ap length part_is ∙ length-take-le (per_map h) (drop (i * per_map h) es') (omega (arith, exponents_here, length-drop (i * per_map h) es', length-take-le (blocks h) (drop first es) (omega (arith, exponents_held, length-drop first es))));
        width = ap (λ n. from + n) w;
        values = λ r. omega (arith, values_here, w, o.values, needed (rw (get_or-take n marks i 0 l) r));
        low = omega (arith, values_few);
      }

-- ---- the maps before an index are put
pub record Going (q : Kind) (h : Header) (epochs marks : List ℕ) (es vs : List ℤ) (k₀ : ℤ) (o₀ : List ℕ) (at : ℕ) (o : List ℕ) (next : ℕ) (k : ℤ) (i begin from : ℕ) : Type 0 where
  pub exponents : begin ≡ first_of q (blocks h) + i * per_map h
  pub values : from ≡ i * (per_map h * columns h.grid)
  pub force : kind_force q h k (drop i (take h.times.maps marks)) (drop (i * per_map h) (third q (blocks h) es)) (drop from (part_values q h marks vs))
      ≡ part_force q h k₀ marks es vs
  pub leads : PutsOn o₀ at (part_rows q h k₀ epochs marks es vs) o next
      (kind_rows q h i k (drop i (take h.times.maps epochs)) (drop i (take h.times.maps marks)) (drop (i * per_map h) (third q (blocks h) es)) (drop from (part_values q h marks vs)))

module _ {q : Kind} {h : Header} {epochs marks : List ℕ} {es vs : List ℤ} {k₀ : ℤ} {o₀ : List ℕ} {at : ℕ} where
  pub going_start : {begin : ℕ} → begin ≡ first_of q (blocks h) → Going q h epochs marks es vs k₀ o₀ at o₀ at k₀ 0 begin 0
  going_start e = let z : 0 * per_map h ≡ 0 = omega arith in record { exponents = omega (arith, e); values = omega arith; force = rw z refl; leads = rw z leads_self }

  module _ {o : List ℕ} {next : ℕ} {k : ℤ} {i begin from : ℕ} (d : ReadyPart h at q k₀ epochs marks es vs) (g : Going q h epochs marks es vs k₀ o₀ at o next k i begin from) where
    pub going_end : h.times.maps ≤ i → PutPart h o₀ at q k₀ epochs marks es vs o (record { at = next; exponent = k })
    going_end m =
        let e = kind_end q h (take h.times.maps epochs) (take h.times.maps marks) (third q (blocks h) es) (part_values q h marks vs) i (i * per_map h) from k (omega (arith, length-take-le h.times.maps epochs d.epochs)) in
        let f = force_end q h (take h.times.maps epochs) (take h.times.maps marks) (third q (blocks h) es) (part_values q h marks vs) i (i * per_map h) from k (omega (arith, length-take-le h.times.maps marks d.marks)) in
        record { put = (leads_same g.leads e).rest _ _ put_none; force = sym f ∙ g.force }

    module _ {B' W' : ℕ} (p : B' ≡ per_map h) (w : W' ≡ per_map h * columns h.grid) (l : i < h.times.maps) where
      abbrev this : List Block
      this = slot_blocks h (take (begin + B' - begin) (drop begin es)) vs from

      abbrev row_list : List (List ℕ)
      row_list = slot_map q h (i + 1) (get_or epochs i 0) (get_or marks i 0) k this

      leads_here : PutsOn o₀ at (part_rows q h k₀ epochs marks es vs) o next (row_list ++ kind_rows q h (i + 1) (slot_force q (get_or marks i 0) k this) (drop (i + 1) (take h.times.maps epochs)) (drop (i + 1) (take h.times.maps marks)) (drop ((i + 1) * per_map h) (third q (blocks h) es)) (drop (from + W') (part_values q h marks vs)))
      leads_here = leads_same g.leads (rows_next q h epochs marks es vs d.ready.fine d.marks d.holds i begin from B' W' p w l g.exponents g.values d.epochs k)

      pub going_inside : begin + B' ≤ length es
      going_inside = exponents_inside q h epochs marks es vs d.ready.fine d.marks d.holds i begin from B' W' p w l g.exponents g.values

      pub going_few : from + W' ≤ 300 * 16657984
      going_few = values_few q h epochs marks es vs d.ready.fine d.marks d.holds i begin from B' W' p w l g.exponents g.values

      pub going_ready : ReadySlot h next q (i + 1) (get_or epochs i 0) (get_or marks i 0) k (take (begin + B' - begin) (drop begin es)) vs from (from + W')
      going_ready = slot_ready q h epochs marks es vs d.ready.fine d.marks d.holds i begin from B' W' p w l g.exponents g.values next k (room_front _ _ (leads_here.room d.ready.room))

      pub going_next : {o' : List ℕ} {k' : ℤ} (r : Reached) → k' ≡ r.exponent → PutTo o next row_list (slot_force q (get_or marks i 0) k this) o' r
          → Going q h epochs marks es vs k₀ o₀ at o' r.at k' (i + 1) (begin + B') (from + W')
      going_next r e t =
          rw (e ∙ t.force) (record {
            exponents = omega (arith, g.exponents, p, part_next i h.times.maps (per_map h) _ _ refl refl l);
            values = ap (λ m. from + m) w ∙ part_next _ _ _ _ _ g.values refl l;
            force = sym (force_after q h epochs marks es vs d.ready.fine d.marks d.holds i begin from B' W' p w l g.exponents g.values k) ∙ g.force;
            leads = leads_on _ _ leads_here t.put;
          })
