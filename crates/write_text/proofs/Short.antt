-- Canonical text is shorter than 2^62 bytes.
use mathlib.Core.Path.{◌≡◌, refl, ap}
use mathlib.Core.Option.{Option, none, some}
use mathlib.Core.List.{List, [], ◌∷◌, ◌++◌}
use Prim.Native.Nat.{ℕ, zero, suc, ◌+◌, ◌*◌, ◌≤◌}
use native.Mathlib.Omega.{arith}
use native.Mathlib.Nat.{suc-mul, mul-le-mul}
use native.Mathlib.Decide.{ℕ_discrete, dec_le}
use lib.IntN.{ℤ, pos, negsuc}
use lib.ListN.{length, take, drop, get_or, set, length-append}
use Rattle.kit.specs.Answer.{All, all_dec}
use Rattle.kit.proofs.AnswerLaws.{pick_elim}
use Rattle.kit.specs.Integer.{int?}
use Rattle.mapset.specs.declared.Kind.{Kind}
use Rattle.mapset.specs.declared.Kind.TheVariants.{Tec, Rms, Height}
use Rattle.mapset.specs.declared.Header.{Header}
use Rattle.mapset.specs.Described.{FullTexts}
use Rattle.mapset.specs.Lines.{lines_in}
use Rattle.mapset.proofs.DescribedLaws.{lines_length}
use Rattle.mapset.specs.Grid.{columns}
use Rattle.mapset.specs.Header.{Said, says}
use Rattle.mapset.proofs.Groups.{sound_groups}
use Rattle.mapset.specs.MapSet.{Block}
use Rattle.mapset.specs.Areas.{Areas, present?, blocks}
use Rattle.layout.specs.Labels.{block, header_end, file_end, end}
use Rattle.layout.specs.Layout.{Slots, per_map}
use Rattle.areas.specs.Lists.{chop, zipw}
use Rattle.areas.specs.Nest.{a_block, third}
use Rattle.areas.specs.Valid.{values_in, Valid}
use Rattle.areas.specs.Nesting.{nested}
use Rattle.areas.proofs.ValidFormed.{nested_formed}
use Rattle.valid.proofs.Whole.{sound_long}
use Rattle.canonical.specs.Canon.{version_row, slot_rows, before_lines, order, head_rows, description_rows, header_rows, canon_rows, row_of, opening, value_rows, exponent_rows, block_rows, trimmed, lines_of}
use Rattle.canonical.proofs.RowLaws.{GoodRow}
use Rattle.canonical.proofs.Made.{rows_good}
use Rattle.write_line.specs.Put.{LineRoom}
use Rattle.write_map.specs.OneMap.{epoch_rows, one_map, slot_map, slot_force}
use Rattle.write_maps.specs.KindRows.{first_map, kind_rows, part_values, area_rows, area_force, all_rows}
use Rattle.write_map.specs.Ready.{Fine}
use Rattle.write_map.proofs.BlockLaws.{few_blocks}
use Rattle.write_text.proofs.RowsLaws.{canon_are}

-- ---- a line has at most 81 bytes
trimmed_short : (r : List ℕ) → length (trimmed r) ≤ length r
unfolding trimmed
trimmed_short [] = omega arith
trimmed_short (b ∷ bs) = pick_elim (λ t. length t ≤ suc (length bs)) (all_dec (λ c. ℕ_discrete c 32) (b ∷ bs)) {x = []} {y = b ∷ trimmed bs} (λ _. omega arith) (λ _. let i = trimmed_short bs in omega arith)

lines_short : (rs : List (List ℕ)) → All GoodRow rs → length (lines_of rs) ≤ length rs * 81
unfolding lines_of
lines_short [] a = omega arith
lines_short (r ∷ rs) a = omega (arith, length-append (trimmed r) (10 ∷ lines_of rs), trimmed_short r, a.0.width, lines_short rs a.1, suc-mul (length rs) 81)

-- ---- the rows of a block
value_count : (n : ℕ) (zs : List ℤ) → length (value_rows n zs) ≤ n + 1
unfolding value_rows
value_count zero zs = omega arith
value_count (suc n) zs = pick_elim (λ (rs : List (List ℕ)). length rs ≤ suc n + 1) (dec_le (length zs) 16) (λ _. omega arith) (λ _. let i = value_count n (drop 16 zs) in omega arith)

exponent_count : (k e : ℤ) → length (exponent_rows k e) ≤ 1
exponent_count k e = pick_elim (λ (rs : List (List ℕ)). length rs ≤ 1) (int? k e) (λ _. omega arith) (λ _. omega arith)

-- blocks of at most C values
abbrev Narrow : ℕ → List Block → Type 0
Narrow C bs = All (λ (b : Block). length b.values ≤ C) bs

block_count : (h : Header) (C d : ℕ) (k : ℤ) (bs : List Block) → Narrow C bs → length (block_rows h d k bs []) ≤ length bs * (C + 3)
unfolding block_rows
block_count h C d k [] a = omega arith
block_count h C d k (b ∷ bs) a =
    let vs = value_rows (length b.values) b.values in
    let xs = block_rows h (suc d) b.exponent bs [] in
    omega (
      arith,
      length-append (exponent_rows k b.exponent) (row_of block (opening h d) ∷ (vs ++ xs)),
      exponent_count k b.exponent,
      length-append vs xs,
      value_count (length b.values) b.values,
      a.0,
      block_count h C (suc d) b.exponent bs a.1,
      suc-mul (length bs) (C + 3),
    )

-- ---- the rows of a map
take_most : {A : Type 0} (k : ℕ) (l : List A) → length (take k l) ≤ k
take_most zero l = omega arith
take_most (suc k) [] = omega arith
take_most (suc k) (x ∷ l) = let i = take_most k l in omega arith

narrow_map : (es : List ℤ) (k C : ℕ) (vs : List ℤ) → Narrow C (zipw a_block es (chop k C vs))
narrow_map [] k C vs = tt
narrow_map (e ∷ es) zero C vs = tt
narrow_map (e ∷ es) (suc k) C vs = (take_most C vs, narrow_map es k C (drop C vs))

zip_most : (es : List ℤ) (ls : List (List ℤ)) → length (zipw a_block es ls) ≤ length es
zip_most [] ls = omega arith
zip_most (e ∷ es) [] = omega arith
zip_most (e ∷ es) (l ∷ ls) = let i = zip_most es ls in omega arith

module _ (h : Header) (few : per_map h ≤ 23104) (narrow : columns h.grid ≤ 721) where
  first_count : (k : ℤ) (es vs : List ℤ) → length (block_rows h 0 k (first_map h es vs) []) ≤ 16727296
  first_count k es vs =
      let b : List Block = first_map h es vs in
      let c = block_count h (columns h.grid) 0 k b (narrow_map (take (per_map h) es) (per_map h) (columns h.grid) _) in
      let n : length b ≤ 23104 = omega (arith, zip_most (take (per_map h) es) (chop (per_map h) (columns h.grid) (take (per_map h * columns h.grid) vs)), take_most (per_map h) es) in
      omega (arith, c, mul-le-mul {n₁ = length b} {m₁ = columns h.grid + 3} {n₂ = 23104} {m₂ = 724} n (omega arith))

  epoch_count : (q : Kind) (t : ℕ) → length (epoch_rows q t) ≤ 1
  epoch_count Tec t = omega arith
  epoch_count Rms t = omega arith
  epoch_count Height t = omega arith

  map_count : (q : Kind) (i t : ℕ) (k : ℤ) (es vs : List ℤ) → length (one_map q h i t k (first_map h es vs)) ≤ 16727299
  unfolding one_map
  map_count q i t k es vs =
      let b = block_rows h 0 k (first_map h es vs) [] in
      omega (arith, length-append (epoch_rows q t) (b ++ (row_of (end q) (pos i, tt) ∷ [])), length-append b (row_of (end q) (pos i, tt) ∷ []), epoch_count q t, first_count k es vs)

  slot_count : (q : Kind) (i t m : ℕ) (k : ℤ) (es vs : List ℤ) → length (slot_map q h i t m k (first_map h es vs)) ≤ 16727299
  unfolding slot_map
  slot_count q i t m k es vs = pick_elim (λ (rs : List (List ℕ)). length rs ≤ 16727299) (present? q m) (λ _. map_count q i t k es vs) (λ _. omega arith)

  pub kind_count : (q : Kind) (i : ℕ) (k : ℤ) (ts ms : List ℕ) (es vs : List ℤ) → length (kind_rows q h i k ts ms es vs) ≤ length ms * 16727299
  unfolding kind_rows
  kind_count q i k [] ms es vs = omega arith
  kind_count q i k (t ∷ ts) [] es vs = omega arith
  kind_count q i k (t ∷ ts) (m ∷ ms) es vs =
      let x = slot_map q h (suc i) t m k (first_map h es vs) in
      let y = kind_rows q h (suc i) (slot_force q m k (first_map h es vs)) ts ms (drop (per_map h) es) (drop (per_map h * columns h.grid) vs) in
      omega (arith, length-append x y, slot_count q (suc i) t m k es vs, kind_count q (suc i) (slot_force q m k (first_map h es vs)) ts ms (drop (per_map h) es) (drop (per_map h * columns h.grid) vs), suc-mul (length ms) 16727299)

-- ---- the header
slot_rows_count : (i : ℕ) (s : Option Said) → length (slot_rows i s) ≤ 1
slot_rows_count i none = omega arith
slot_rows_count i (some s) = omega arith

head_count : (is : List ℕ) (left : Slots) (rest : List (List ℕ)) → length (head_rows is left rest) ≤ length is + length rest
unfolding head_rows
head_count [] left rest = omega arith
head_count (i ∷ is) left rest =
    omega (arith, length-append (slot_rows i (get_or left i none)) (head_rows is (set left i none) rest), slot_rows_count i (get_or left i none), head_count is (set left i none) rest)

line_count : (ds : List (List ℕ)) → length (description_rows ds) ≡ length ds
unfolding description_rows
line_count [] = refl
line_count (d ∷ ds) = ap suc (line_count ds)

header_count : (h : Header) (t : FullTexts) (rest : List (List ℕ)) → length (header_rows h t rest) ≤ 30 + h.descriptions + length rest
unfolding header_rows
header_count h t rest =
    let ds = lines_in h.descriptions t.descriptions in
    let behind = head_rows order (set (says h t) 0 none) rest in
    omega (
      arith,
      head_count before_lines (says h t) (description_rows ds ++ behind),
      length-append (description_rows ds) behind,
      line_count ds,
      lines_length h.descriptions t.descriptions,
      head_count order (set (says h t) 0 none) rest,
    )

-- ---- all of it
pub valid_fine : (h : Header) (t : FullTexts) (a : Areas) → Valid h t a → Fine h
valid_fine h t a v =
    let g = (sound_groups h t a v.sound).0 in
    let l = sound_long h t a v.sound in
    let x = g.1.1.1.1.0 in
    record { axes = record { heights = x.0; latitudes = x.1.0; longitudes = x.1.1 }; maps = l.maps; limits = l.limits }

module _ (h : Header) (t : FullTexts) (a : Areas) (v : Valid h t a) where
  area_count : (q : Kind) (k : ℤ) → length (area_rows h a q k) ≤ 300 * 16727299
  unfolding area_rows
  area_count q k =
      let f = valid_fine h t a v in
      let l = sound_long h t a v.sound in
      let ms : List ℕ = take h.times.maps a.marks in
      let c = kind_count h (few_blocks h f) f.limits.1 q 0 k (take h.times.maps a.epochs) ms
      (third q (blocks h) a.exponents) (part_values q h a.marks (values_in q a)) in
      omega (arith, c, mul-le-mul {n₁ = length ms} {m₁ = 16727299} {n₂ = 300} {m₂ = 16727299} (omega (arith, take_most h.times.maps a.marks, l.maps)) (omega arith))

  row_count : length (canon_rows (nested h t a)) ≤ 100000000000
  row_count =
      let k1 = area_force h a Tec (negsuc 0) in
      let k2 = area_force h a Rms k1 in
      let x = area_rows h a Tec (negsuc 0) in
      let y = area_rows h a Rms k1 in
      let z = area_rows h a Height k2 in
      let e : List (List ℕ) = row_of file_end tt ∷ [] in
      let b = header_rows h t (row_of header_end tt ∷ []) in
      omega (
        arith,
        ap length (canon_are h a (sound_long h t a v.sound) v.sound.room.epochs t),
        length-append (version_row h.version ∷ b) (all_rows h a),
        header_count h t (row_of header_end tt ∷ []),
        (sound_groups h t a v.sound).0.1.0.1.1.1.1.1.0,
        length-append x (y ++ (z ++ e)),
        length-append y (z ++ e),
        length-append z e,
        area_count Tec (negsuc 0),
        area_count Rms k1,
        area_count Height k2,
      )

  pub canon_short : LineRoom 0 (canon_rows (nested h t a))
  canon_short = record { fits = omega (arith, lines_short (canon_rows (nested h t a)) (rows_good (nested h t a) (nested_formed h t a v)), row_count) }
