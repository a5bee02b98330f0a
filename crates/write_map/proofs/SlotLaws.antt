-- A map that is there, or not.
use mathlib.Core.Path.{◌≡◌}
use mathlib.Core.List.{List, []}
use Prim.Native.Nat.{ℕ}
use lib.IntN.{ℤ}
use Rattle.kit.proofs.AnswerLaws.{pick_yes, pick_no}
use Rattle.mapset.specs.declared.Kind.{Kind}
use Rattle.mapset.specs.declared.Header.{Header}
use Rattle.mapset.specs.MapSet.{Block}
use Rattle.mapset.specs.Areas.{Present, present?}
use Rattle.canonical.specs.Canon.{in_force}
use Rattle.write_line.specs.Put.{PutsOn}
use Rattle.write_map.specs.OneMap.{one_map, slot_map, slot_force}

pub leads_same : {o₀ o : List ℕ} {at₀ at : ℕ} {xs ys zs : List (List ℕ)} → PutsOn o₀ at₀ xs o at ys → ys ≡ zs → PutsOn o₀ at₀ xs o at zs
leads_same l e = rw e at l

module _ (q : Kind) (h : Header) (i t m : ℕ) (k : ℤ) (bs : List Block) where
  pub map_there : Present q m → slot_map q h i t m k bs ≡ one_map q h i t k bs
  unfolding slot_map
  map_there p = pick_yes (present? q m) (one_map q h i t k bs) [] p

  pub map_absent : ¬ Present q m → slot_map q h i t m k bs ≡ []
  unfolding slot_map
  map_absent n = pick_no (present? q m) (one_map q h i t k bs) [] n

module _ (q : Kind) (m : ℕ) (k : ℤ) (bs : List Block) where
  pub force_there : Present q m → slot_force q m k bs ≡ in_force k bs
  unfolding slot_force
  force_there p = pick_yes (present? q m) (in_force k bs) k p

  pub force_absent : ¬ Present q m → slot_force q m k bs ≡ k
  unfolding slot_force
  force_absent n = pick_no (present? q m) (in_force k bs) k n
