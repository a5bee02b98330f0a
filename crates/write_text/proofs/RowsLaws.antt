-- The rows of canonical text are those that the lent areas hold, kind by kind.
use mathlib.Core.Path.{◌≡◌, refl, sym, ap, ◌∙◌}
use mathlib.Core.Option.{none, some}
use mathlib.Core.List.{List, [], ◌∷◌, ◌++◌, append_assoc}
use Prim.Native.Nat.{ℕ, zero, suc, ◌*◌, ◌≤◌}
use native.Mathlib.Omega.{arith}
use lib.IntN.{ℤ, pos, negsuc}
use lib.ListN.{length, take, drop}
use lib.Seq.{length-take-le}
use Rattle.kit.specs.Answer.{pick}
use Rattle.mapset.specs.declared.Kind.{Kind}
use Rattle.mapset.specs.declared.Kind.TheVariants.{Tec, Rms, Height}
use Rattle.mapset.specs.declared.Header.{Header}
use Rattle.mapset.specs.Described.{FullTexts}
use Rattle.mapset.specs.Grid.{columns}
use Rattle.mapset.specs.MapSet.{Block}
use Rattle.mapset.specs.Areas.{Areas, present?, blocks}
use Rattle.layout.specs.Labels.{epoch, header_end, file_end, start, end}
use Rattle.layout.specs.Layout.{Other, per_map}
use Rattle.areas.specs.Lists.{zipw}
use Rattle.areas.specs.Flat.{Slots}
use Rattle.areas.specs.Nest.{a_tec, cut, third, if_there, kept, nest}
use Rattle.areas.specs.Valid.{needed, values_in}
use Rattle.areas.specs.Nesting.{nested}
use Rattle.valid.specs.Groups.{Long}
use Rattle.valid.proofs.Whole.{count, values_are, exponents_are}
use Rattle.canonical.specs.Canon.{row_of, date_of, six, block_rows, in_force, other_rows, tec_rows, map_rows, version_row, header_rows, canon_rows}
use Rattle.write_head.specs.Header.{whole_header}
use Rattle.write_head.proofs.Laws.{header_rest}
use Rattle.write_map.specs.OneMap.{epoch_rows, one_map, slot_map, slot_force}
use Rattle.write_maps.specs.KindRows.{first_map, kind_rows, kind_force, area_rows, area_force, all_rows}
use Rattle.write_map.proofs.BlockLaws.{blocks_append}
use Rattle.write_map.proofs.SlotLaws.{map_there, force_there}

-- ---- a map, and what follows it
map_then : (q : Kind) (h : Header) (i t : ℕ) (k : ℤ) (bs : List Block) (rest : List (List ℕ))
    → one_map q h i t k bs ++ rest ≡ row_of (start q) (pos i, tt) ∷ (epoch_rows q t ++ block_rows h 0 k bs (row_of (end q) (pos i, tt) ∷ rest))
unfolding one_map
map_then q h i t k bs rest =
    let e = row_of (end q) (pos i, tt) in
    let b = block_rows h 0 k bs [] in
    ap (λ r. row_of (start q) (pos i, tt) ∷ r)
    (append_assoc (epoch_rows q t) (b ++ (e ∷ [])) rest ∙ ap (λ r. epoch_rows q t ++ r) (append_assoc b (e ∷ []) rest ∙ sym (blocks_append h 0 k bs (e ∷ rest))))

no_epoch : (q : Kind) → Other q → (t : ℕ) → epoch_rows q t ≡ []
no_epoch Tec o t = absurd o
no_epoch Rms o t = refl
no_epoch Height o t = refl

-- ---- TEC maps
module _ (h : Header) (rest : ℤ → List (List ℕ)) where
  tecs_are : (n i : ℕ) (k : ℤ) (ts ms : List ℕ) (es vs : List ℤ) → length ts ≡ n → length ms ≡ n
      → tec_rows h k i (zipw a_tec ts (cut n (per_map h) (columns h.grid) es vs)) rest ≡ kind_rows Tec h i k ts ms es vs ++ rest (kind_force Tec h k ms es vs)
  unfolding tec_rows kind_rows kind_force
  tecs_are zero i k [] [] es vs l r = refl
  tecs_are zero i k [] (m ∷ ms) es vs l r = absurd (omega arith)
  tecs_are zero i k (t ∷ ts) ms es vs l r = absurd (omega arith)
  tecs_are (suc n) i k [] ms es vs l r = absurd (omega arith)
  tecs_are (suc n) i k (t ∷ ts) [] es vs l r = absurd (omega arith)
  tecs_are (suc n) i k (t ∷ ts) (m ∷ ms) es vs l r =
      let b : List Block = first_map h es vs in
      let es' : List ℤ = drop (per_map h) es in
      let vs' : List ℤ = drop (per_map h * columns h.grid) vs in
      let x = tecs_are n (suc i) (in_force k b) ts ms es' vs' (omega arith) (omega arith) in
      let f : slot_force Tec m k b ≡ in_force k b = force_there Tec m k b tt in
      let xs : List (List ℕ) = kind_rows Tec h (suc i) (in_force k b) ts ms es' vs' in
      let y : List (List ℕ) = rest (kind_force Tec h (in_force k b) ms es' vs') in
      ap (λ r. row_of (start Tec) (pos (suc i), tt) ∷ row_of epoch (six (date_of t)) ∷ block_rows h 0 k b (row_of (end Tec) (pos (suc i), tt) ∷ r)) x
      ∙ sym (map_then Tec h (suc i) t k b (xs ++ y))
      ∙ sym (append_assoc (one_map Tec h (suc i) t k b) xs y)
      ∙ (λ j. (sym (map_there Tec h (suc i) t m k b tt) j ++ kind_rows Tec h (suc i) (sym f j) ts ms es' vs') ++ rest (kind_force Tec h (sym f j) ms es' vs'))

-- ---- RMS or height maps
module _ (q : Kind) (o : Other q) (h : Header) (rest : ℤ → List (List ℕ)) where
  slot_case : (i t : ℕ) {P : Type 0} (d : Dec P) (k : ℤ) (b : List Block) (ss : Slots) (xs : ℤ → List (List ℕ)) (f : ℤ → ℤ)
      → ((k : ℤ) → other_rows q h k (kept (suc (suc i)) ss) rest ≡ xs k ++ rest (f k))
      → other_rows q h k (kept (suc i) (pick d (some b) none ∷ ss)) rest ≡ (pick d (one_map q h (suc i) t k b) [] ++ xs (pick d (in_force k b) k)) ++ rest (f (pick d (in_force k b) k))
  unfolding pick other_rows
  slot_case i t (yes p) k b ss xs f e =
      let j : ℤ = in_force k b in
      let r : List (List ℕ) = xs j ++ rest (f j) in
      let s = row_of (start q) (pos (suc i), tt) in
      let y : List (List ℕ) = block_rows h 0 k b (row_of (end q) (pos (suc i), tt) ∷ r) in
      ap (λ r. s ∷ block_rows h 0 k b (row_of (end q) (pos (suc i), tt) ∷ r)) (e j)
      ∙ ap (λ n. s ∷ (n ++ y)) (sym (no_epoch q o t))
      ∙ sym (map_then q h (suc i) t k b r)
      ∙ sym (append_assoc (one_map q h (suc i) t k b) (xs j) (rest (f j)))
  slot_case i t (no n) k b ss xs f e = e k

  others_are : (n i : ℕ) (k : ℤ) (ts ms : List ℕ) (es vs : List ℤ) → length ts ≡ n → length ms ≡ n
      → other_rows q h k (kept (suc i) (zipw (if_there q) ms (cut n (per_map h) (columns h.grid) es vs))) rest ≡ kind_rows q h i k ts ms es vs ++ rest (kind_force q h k ms es vs)
  unfolding other_rows kind_rows kind_force slot_map slot_force
  others_are zero i k [] [] es vs l r = refl
  others_are zero i k [] (m ∷ ms) es vs l r = absurd (omega arith)
  others_are zero i k (t ∷ ts) ms es vs l r = absurd (omega arith)
  others_are (suc n) i k [] ms es vs l r = absurd (omega arith)
  others_are (suc n) i k (t ∷ ts) [] es vs l r = absurd (omega arith)
  others_are (suc n) i k (t ∷ ts) (m ∷ ms) es vs l r =
      let es' : List ℤ = drop (per_map h) es in
      let vs' : List ℤ = drop (per_map h * columns h.grid) vs in
      slot_case i t (present? q m) k (first_map h es vs) (zipw (if_there q) ms (cut n (per_map h) (columns h.grid) es' vs'))
      (λ k. kind_rows q h (suc i) k ts ms es' vs') (λ k. kind_force q h k ms es' vs') (λ k. others_are n (suc i) k ts ms es' vs' (omega arith) (omega arith))

-- ---- all of them
module _ (h : Header) (a : Areas) (l : Long h a) (u : h.times.maps ≤ length a.epochs) where
  abbrev ts : List ℕ
  ts = take h.times.maps a.epochs

  abbrev ms : List ℕ
  ms = take h.times.maps a.marks

  dates : length ts ≡ h.times.maps
  dates = length-take-le h.times.maps a.epochs u

  -- what is lent of a kind, and what is needed of it
  rows_are : (q : Kind) (k : ℤ) → kind_rows q h 0 k ts ms (third q (blocks h) (needed h a).exponents) (values_in q (needed h a)) ≡ area_rows h a q k
  unfolding area_rows
  rows_are q k = λ i. kind_rows q h 0 k ts ms (sym (exponents_are h a l q) i) (sym (values_are h a l q) i)

  force_is : (q : Kind) (k : ℤ) → kind_force q h k ms (third q (blocks h) (needed h a).exponents) (values_in q (needed h a)) ≡ area_force h a q k
  unfolding area_force
  force_is q k = λ i. kind_force q h k ms (sym (exponents_are h a l q) i) (sym (values_are h a l q) i)

  maps_are : (t : FullTexts) → map_rows (nested h t a) ≡ all_rows h a
  unfolding map_rows nest needed
  maps_are t =
      let last_row : List (List ℕ) = row_of file_end tt ∷ [] in
      let B = per_map h in
      let C = columns h.grid in
      let n = h.times.maps in
      let third_rows : ℤ → List (List ℕ) = λ k. other_rows Height h k (nest n B C (needed h a)).height (λ k. last_row) in
      let second_rows : ℤ → List (List ℕ) = λ k. other_rows Rms h k (nest n B C (needed h a)).rms third_rows in
      let c = count h a l in
      let x : (k : ℤ) → third_rows k ≡ area_rows h a Height k ++ last_row =
      λ k. others_are Height tt h (λ k. last_row) n 0 k ts ms _ _ dates c ∙ ap (λ r. r ++ last_row) (rows_are Height k) in
      let y : (k : ℤ) → second_rows k ≡ area_rows h a Rms k ++ (area_rows h a Height (area_force h a Rms k) ++ last_row) =
      λ k. others_are Rms tt h third_rows n 0 k ts ms _ _ dates c ∙ (λ i. rows_are Rms k i ++ third_rows (force_is Rms k i)) ∙ ap (λ r. area_rows h a Rms k ++ r) (x (area_force h a Rms k)) in
      tecs_are h second_rows n 0 (negsuc 0) ts ms _ _ dates c
      ∙ (λ i. rows_are Tec (negsuc 0) i ++ second_rows (force_is Tec (negsuc 0) i))
      ∙ ap (λ r. area_rows h a Tec (negsuc 0) ++ r) (y (area_force h a Tec (negsuc 0)))

  pub canon_are : (t : FullTexts) → canon_rows (nested h t a) ≡ whole_header h t ++ all_rows h a
  unfolding canon_rows
  canon_are t =
      ap (λ r. version_row h.version ∷ header_rows h t (row_of header_end tt ∷ r)) (maps_are t)
      ∙ ap (λ r. version_row h.version ∷ r) (header_rest h t (row_of header_end tt ∷ []) (all_rows h a))
