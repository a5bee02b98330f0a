-- The rows of a map's blocks, one block at a time.
use mathlib.Core.Path.{◌≡◌, refl, sym, ap, ◌∙◌}
use mathlib.Core.List.{List, [], ◌∷◌, ◌++◌, append_assoc}
use Prim.Native.Nat.{ℕ, zero, suc, ◌+◌, ◌-◌, ◌*◌, ◌≤◌, ◌<◌}
use native.Mathlib.Numerals.{add-one}
use native.Mathlib.Omega.{arith}
use native.Mathlib.Nat.{mul-le-mul, suc-mul}
use lib.IntN.{ℤ, pos}
use lib.ListN.{length, get_or, take, drop, drop_of_length-le}
use lib.Seq.{drop-cons, drop-drop}
use Rattle.mapset.specs.declared.Header.{Header}
use Rattle.mapset.specs.Grid.{layers, rows, columns}
use Rattle.mapset.proofs.SoundLaws.{some_nodes}
use Rattle.mapset.specs.MapSet.{Block}
use Rattle.layout.specs.Labels.{block}
use Rattle.layout.specs.Layout.{per_map}
use Rattle.areas.specs.Lists.{chop, zipw}
use Rattle.areas.specs.Nest.{a_block}
use Rattle.canonical.specs.Canon.{row_of, opening, exponent_rows, value_rows, block_rows, in_force}
use Rattle.write_map.specs.Ready.{Fine}

-- ---- what follows the blocks follows their rows
pub blocks_append : (h : Header) (d : ℕ) (k : ℤ) (bs : List Block) (rest : List (List ℕ)) → block_rows h d k bs rest ≡ block_rows h d k bs [] ++ rest
unfolding block_rows
blocks_append h d k [] rest = refl
blocks_append h d k (b ∷ bs) rest =
    let vs = value_rows (length b.values) b.values in
    let xs = block_rows h (suc d) b.exponent bs [] in
    ap (λ r. exponent_rows k b.exponent ++ (row_of block (opening h d) ∷ (vs ++ r))) (blocks_append h (suc d) b.exponent bs rest)
    ∙ ap (λ r. exponent_rows k b.exponent ++ (row_of block (opening h d) ∷ r)) (sym (append_assoc vs xs rest))
    ∙ sym (append_assoc (exponent_rows k b.exponent) (row_of block (opening h d) ∷ (vs ++ xs)) rest)

-- ---- the blocks after d others, from their exponents and values
abbrev pub one_block : Header → (d : ℕ) (k e : ℤ) → List ℤ → List (List ℕ)
one_block h d k e zs = exponent_rows k e ++ (row_of block (opening h d) ∷ value_rows (length zs) zs)

module _ (h : Header) (C : ℕ) (es vs : List ℤ) where
  abbrev pub blocks_from : (d from : ℕ) (k : ℤ) → List (List ℕ)
  blocks_from d from k = block_rows h d k (zipw a_block (drop d es) (chop (length es - d) C (drop from vs))) []

  pub blocks_next : (d from : ℕ) (k : ℤ) → d < length es
      → blocks_from d from k ≡ one_block h d k (get_or es d (pos 0)) (take C (drop from vs)) ++ blocks_from (d + 1) (from + C) (get_or es d (pos 0))
  unfolding block_rows
  blocks_next d from k l =
      let e : ℤ = get_or es d (pos 0) in
      let zs : List ℤ = take C (drop from vs) in
      let n : length es - d ≡ suc (length es - suc d) = omega arith in
      let xs = block_rows h (suc d) e (zipw a_block (drop (suc d) es) (chop (length es - suc d) C (drop (from + C) vs))) [] in
      rw (add-one d, drop-cons es d (pos 0) l, n, drop-drop C from vs)
      (sym (append_assoc (exponent_rows k e) (row_of block (opening h d) ∷ value_rows (length zs) zs) xs))

  pub blocks_end : (d from : ℕ) (k : ℤ) → length es ≤ d → blocks_from d from k ≡ []
  unfolding block_rows
  blocks_end d from k l = rw (drop_of_length-le es l) refl

-- ---- the exponent in force after them
pub last_in_force : (C : ℕ) (k : ℤ) (n : ℕ) (es vs : List ℤ) → length es ≡ n → 0 < n → in_force k (zipw a_block es (chop n C vs)) ≡ get_or es (n - 1) (pos 0)
last_in_force C k zero es vs e p = absurd (omega arith)
last_in_force C k (suc n) [] vs e p = absurd (omega arith)
last_in_force C k (suc zero) (x ∷ []) vs e p = refl
last_in_force C k (suc zero) (x ∷ y ∷ es) vs e p = absurd (omega arith)
last_in_force C k (suc (suc n)) (x ∷ []) vs e p = absurd (omega arith)
last_in_force C k (suc (suc n)) (x ∷ y ∷ es) vs e p =
    let i = last_in_force C x (suc n) (y ∷ es) (drop C vs) (omega arith) (omega arith) in
    let a : suc n - 1 ≡ n = omega arith in
    let b : suc (suc n) - 1 ≡ suc n = omega arith in
    rw b (rw a at i)

-- ---- a map is small
module _ (h : Header) (f : Fine h) where
  pub few_blocks : per_map h ≤ 23104
  few_blocks = mul-le-mul f.limits.2 f.limits.0

  pub few_values : per_map h * columns h.grid ≤ 16657984
  few_values = mul-le-mul few_blocks f.limits.1

pub some_blocks : (h : Header) → 0 < per_map h
some_blocks h = omega (arith, mul-le-mul {n₁ = 1} {m₁ = 1} {n₂ = layers h.grid} {m₂ = rows h.grid} (some_nodes h.grid.heights) (some_nodes h.grid.latitudes))

-- ---- parts of equal width, one after the other
module _ (i n w from whole : ℕ) (e : from ≡ i * w) (t : whole ≡ n * w) (h : i < n) where
  pub part_inside : from + w ≤ whole
  part_inside = omega (arith, suc-mul i w, mul-le-mul {n₁ = suc i} {m₁ = w} {n₂ = n} {m₂ = w} h (omega arith))

  pub part_next : from + w ≡ (i + 1) * w
  part_next = omega (arith, suc-mul i w, ap (λ k. k * w) (add-one i))

pub blocks_start : (h : Header) (es vs : List ℤ) (k : ℤ) → length es ≡ per_map h
    → blocks_from h (columns h.grid) es vs 0 0 k ≡ block_rows h 0 k (zipw a_block es (chop (per_map h) (columns h.grid) vs)) []
blocks_start h es vs k e = let z : length es - 0 ≡ per_map h = omega arith in ap (λ n. block_rows h 0 k (zipw a_block es (chop n (columns h.grid) vs)) []) z
