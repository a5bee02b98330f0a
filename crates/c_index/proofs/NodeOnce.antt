-- No second answer fits.
use mathlib.Core.Path.{◌≡◌, refl, sym, ◌∙◌}
use mathlib.Core.List.{List}
use Prim.Native.Nat.{ℕ}
use native.Mathlib.Omega.{arith}
use lib.IntN.{ℤ}
use Rattle.kit.specs.Lists.{front}
use Rattle.index.specs.Index.{Entries, Node, position}
use Rattle.index.proofs.Once.{reply_once}
use Rattle.c_index.specs.Crossed.{told_number, told_value, told_bounds, index_of, NodeCrosses, short, answered, BlockCrosses}

module _ (h : List ℤ) (x : List ℕ) (l : Entries) (t : List ℕ) (q : Node) where
  pub ionex_indexed_node_once : (v : List ℤ) {n m : ℕ} {u w : List ℤ} → NodeCrosses h x l t q v n u → NodeCrosses h x l t q v m w → (n ≡ m) × (u ≡ w)
  ionex_indexed_node_once v (short k e a) (short j f b) = (e ∙ sym f, refl)
  ionex_indexed_node_once v (short k e a) (answered f b s) = absurd (omega (arith, e, f))
  ionex_indexed_node_once v (answered e b s) (short k f a) = absurd (omega (arith, e, f))
  ionex_indexed_node_once v (answered e a r) (answered f b s) =
      let p = reply_once (index_of h x l) t q a b r s in
      (λ i. told_number (p i), λ i. front (told_value (p i)) v)

  pub ionex_indexed_block_once : (v : List ℕ) {n m : ℕ} {u w : List ℕ} → BlockCrosses h x l t q v n u → BlockCrosses h x l t q v m w → (n ≡ m) × (u ≡ w)
  ionex_indexed_block_once v (short k e a) (short j f b) = (e ∙ sym f, refl)
  ionex_indexed_block_once v (short k e a) (answered f b s) = absurd (omega (arith, e, f))
  ionex_indexed_block_once v (answered e b s) (short k f a) = absurd (omega (arith, e, f))
  ionex_indexed_block_once v (answered e a r) (answered f b s) =
      let p = reply_once (index_of h x l) t q a b r s in
      (λ i. told_number (p i), λ i. front (told_bounds (position (index_of h x l) q) (p i)) v)
