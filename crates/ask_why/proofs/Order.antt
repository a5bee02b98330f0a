-- The needed nodes come in the order map, row, column, and none of them twice.
use mathlib.Core.Path.{◌≡◌, refl, ap, ◌∙◌}
use mathlib.Core.Logic.{◌⊎◌, inr, ⊎_elim}
use mathlib.Core.List.{List, [], ◌∷◌, ◌++◌, map}
use Prim.Native.Nat.{ℕ, ◌+◌, ◌*◌, ◌≤◌, ◌<◌}
use native.Mathlib.Decide.{ℕ_discrete}
use native.Mathlib.Omega.{arith}
use lib.IntN.{ℤ, nat_abs}
use Rattle.kit.specs.Answer.{All, pick}
use Rattle.kit.proofs.ListLaws.{all_append}
use Rattle.mapset.specs.Grid.{longitudes, AxisRules, nodes}
use Rattle.mapset.specs.Areas.{Sound}
use Rattle.mapset.specs.declared.Axis.{Axis}
use Rattle.ask_cells.specs.Place.{RightOf, first, next, InCell}
use Rattle.ask_cells.specs.declared.Cell.{Cell}
use Rattle.ask_cells.proofs.EarthLaws.{strip_turn}
use Rattle.ask_nodes.specs.declared.Weighed.{Weighed}
use Rattle.ask_sums.specs.Mean.{corners, spread}
use Rattle.ask_sums.proofs.SumLaws.{corners_elim, all_corners}
use Rattle.ask.specs.Ask.{Question, Served, Weighs}
use Rattle.ask.specs.Sun.{unit_of}
use Rattle.ask.proofs.ReachLaws.{longitude_step}
use Rattle.ask.proofs.AskLaws.{other}
use Rattle.ask.proofs.Strip.{longitudes_ok}
use Rattle.ask_why.specs.Explain.{needed, listed}
use Rattle.ask_why.specs.Shown.{Before, by_map, by_row, by_column, Rising}

-- the columns of a cell are two
apart : (a : Axis) → AxisRules longitudes a → nat_abs a.step ≤ 150 → {i r : ℕ} → RightOf a i r → ¬ (r < i) → i < r
apart a ok h {i} (first p e) n =
    let z : i ≡ 0 = omega (arith, n) in
    let o : nodes a ≡ 1 = omega (arith, e) in
    let t : nat_abs a.step * 1 ≡ 3600 = ap (λ (k : ℕ). nat_abs a.step * k) (omega (arith, o)) ∙ strip_turn a ok p in
    absurd (omega (arith, t, h))
apart a ok h (next k) n = omega arith

module _ (q : Question) where
  -- one of two has no weight, or they stand in order
  abbrev Pair : Weighed → Weighed → Type 0
  Pair m n = (m.weight ≡ 0) ⊎ ((n.weight ≡ 0) ⊎ Before (listed q m) (listed q n))

  abbrev Pairs : List Weighed → Type 0
  Pairs [] = Unit {0}
  Pairs (n ∷ ns) = All (Pair n) ns × Pairs ns

  rise_one : (n : Weighed) (ns : List Weighed) → ¬ (n.weight ≡ 0) → All (Pair n) ns → All (Before (listed q n)) (map (listed q) (needed ns))
  unfolding needed pick
  rise_one n [] z p = tt
  rise_one n (m ∷ ns) z p = by (ℕ_discrete m.weight 0) p.0 (rise_one n ns z p.1)
    where
      by : (d : Dec (m.weight ≡ 0)) → Pair n m → All (Before (listed q n)) (map (listed q) (needed ns)) → All (Before (listed q n)) (map (listed q) (pick d (needed ns) (m ∷ needed ns)))
      by (yes e) x r = r
      by (no e) x r = (⊎_elim (λ k. absurd (z k)) (λ y. ⊎_elim (λ k. absurd (e k)) (λ b. b) y) x, r)

  rise : (ns : List Weighed) → Pairs ns → Rising (map (listed q) (needed ns))
  unfolding needed pick
  rise [] p = tt
  rise (n ∷ ns) p = by (ℕ_discrete n.weight 0) (λ z. rise_one n ns z p.0) (rise ns p.1)
    where
      by : (d : Dec (n.weight ≡ 0)) → (¬ (n.weight ≡ 0) → All (Before (listed q n)) (map (listed q) (needed ns))) → Rising (map (listed q) (needed ns)) → Rising (map (listed q) (pick d (needed ns) (n ∷ needed ns)))
      by (yes e) f r = r
      by (no e) f r = (f e, r)

  -- of one map and of the next
  all_later : (k : ℕ) (n : Weighed) (ms : List Weighed) → n.map ≡ k → All (λ (m : Weighed). m.map ≡ k + 1) ms → All (Pair n) ms
  all_later k n [] e a = tt
  all_later k n (m ∷ ms) e a = (inr (inr (by_map (omega (arith, e, a.0)))), all_later k n ms e a.1)

  pairs_append : (k : ℕ) (ns ms : List Weighed) → Pairs ns → Pairs ms → All (λ (n : Weighed). n.map ≡ k) ns → All (λ (m : Weighed). m.map ≡ k + 1) ms → Pairs (ns ++ ms)
  pairs_append k [] ms p r a b = r
  pairs_append k (n ∷ ns) ms p r a b = (all_append (Pair n) ns ms p.0 (all_later k n ms a.0 b), pairs_append k ns ms p.1 r a.1 b)

  -- of one cell
  pairs_corners : (t m : ℕ) (c : Cell) → (¬ (c.right < c.column) → c.column < c.right) → Pairs (corners t m c)
  pairs_corners t m c f =
      corners_elim t m c Pairs
      (λ n. let a = f n in (
        (inr (inr (by_column refl refl a)), (inr (inr (by_row refl (omega arith))), (inr (inr (by_row refl (omega arith))), tt))),
        ((inr (inr (by_row refl (omega arith))), (inr (inr (by_row refl (omega arith))), tt)), ((inr (inr (by_column refl refl a)), tt), (tt, tt))),
      ))
      (λ a. (
        (inr (inr (by_column refl refl a)), (inr (inr (by_row refl (omega arith))), (inr (inr (by_row refl (omega arith))), tt))),
        ((inr (inr (by_row refl (omega arith))), (inr (inr (by_row refl (omega arith))), tt)), ((inr (inr (by_column refl refl a)), tt), (tt, tt))),
      ))

  of_map : (t m : ℕ) (c : Cell) → All (λ (n : Weighed). n.map ≡ m) (corners t m c)
  of_map t m c = all_corners t m c (λ (n : Weighed). n.map ≡ m) refl refl refl refl

module _ (q : Question) (sound : Sound q.header q.texts q.areas) (served : Served q) where
  two_columns : (unit : ℕ) (lat lon : ℤ) (c : Cell) → InCell unit q.header.grid lat lon c → ¬ (c.right < c.column) → c.column < c.right
  two_columns unit lat lon c i n = apart q.header.grid.longitudes (longitudes_ok q sound) (longitude_step q sound).1 i.column.right n

  pub in_order : (ns : List Weighed) → Weighs q ns → Rising (map (listed q) (needed ns))
  in_order ns w =
      let h = w.shares in
      let o = other q sound served h w.uses w.first w.second w.cells in
      let p : Pairs q (spread h w.first w.second) = unfold spread in
      pairs_append q h.map (corners h.early h.map w.first) (corners h.late (h.map + 1) w.second)
      (pairs_corners q h.early h.map w.first (two_columns (unit_of q.method) q.lat _ w.first w.cells.first_in))
      (pairs_corners q h.late (h.map + 1) w.second (two_columns (unit_of q.method) q.lat o.0 w.second o.1))
      (of_map q h.early h.map w.first) (of_map q h.late (h.map + 1) w.second) in
      rise q ns (rw w.nodes p)
