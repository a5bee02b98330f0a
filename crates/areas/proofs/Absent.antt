-- Which maps are absent, by the marks, and what they hold.
use mathlib.Core.Path.{◌≡◌, refl, sym, ap, ◌∙◌}
use mathlib.Core.Bool.{true, false}
use mathlib.Core.Logic.{inl, inr}
use mathlib.Core.Option.{none, some}
use mathlib.Core.List.{List, [], ◌∷◌, map}
use Prim.Native.Nat.{ℕ, zero, suc, ◌*◌}
use native.Mathlib.Omega.{arith}
use lib.ListN.{length, replicate, drop, length-replicate}
use lib.Seq.{take_at, drop_at}
use lib.IntN.{ℤ}
use Rattle.kit.specs.Answer.{All}
use Rattle.kit.proofs.AnswerLaws.{pick_no}
use Rattle.kit.proofs.ListLaws.{all_replicate}
use Rattle.mapset.specs.declared.Kind.{Kind}
use Rattle.mapset.specs.declared.Kind.TheVariants.{Tec}
use Rattle.mapset.specs.MapSet.{Block, Maps}
use Rattle.mapset.specs.Areas.{Present, present?}
use Rattle.layout.specs.Layout.{Other}
use Rattle.areas.specs.Lists.{flat, tab}
use Rattle.areas.specs.Flat.{found, absent_block, Slots, slots, reads, there}
use Rattle.areas.specs.Formed.{MapRules}
use Rattle.areas.specs.Stores.{has}
use Rattle.areas.specs.Valid.{Blank}
use Rattle.areas.proofs.ListLaws.{tab_ext}
use Rattle.areas.proofs.KindLaws.{widths, Fits}
use Rattle.areas.proofs.Needs.{marks_of, others, bit_found}
use Rattle.areas.proofs.Seams.{cells, cells_cons, cells_length, cells_same}
use Rattle.areas.proofs.Marked.{has_mark}

-- ---- the marks agree with what is there

tab_map : {A D : Type 0} (f : A → D) (i k : ℕ) (g : ℕ → A) → map f (tab i k g) ≡ tab i k (λ j. f (g j))
tab_map f i zero g = refl
tab_map f i (suc k) g = ap (λ r. f (g i) ∷ r) (tab_map f (suc i) k g)

pub agree : (n : ℕ) (k : Kind) → Other k → (m : Maps) → map (has k) (marks_of n m) ≡ map there (slots n (others k m))
agree n k o m =
    tab_map (has k) 1 n _
    ∙ tab_ext 1 n _ _ (λ j h. has_mark k (there (found m.rms j)) (there (found m.height j)) ∙ bit_found k m j o)
    ∙ sym (tab_map there 1 n (found (others k m)))

pub has_present : (k : Kind) (m : ℕ) → has k m ≡ true → Present k m
has_present k m e = go (present? k m) refl
  where
    go : (d : Dec (Present k m)) → present? k m ≡ d → Present k m
    go (yes p) q = p
    go (no n) q = let z = pick_no (present? k m) true false n in let y : ◌≡◌ {A = ℕ} 0 1 = cc in absurd (omega arith)

-- ---- absent maps

module _ (n B C w : ℕ) (k : Kind) (g : Block → List ℤ) (gl : (x : Block) → length x.values ≡ C → length (g x) ≡ w) (v : ℤ) (h : g (absent_block C) ≡ replicate w v) where
  pub map_length : (bs : List Block) → MapRules B C bs → length (flat (map g bs)) ≡ B * w
  map_length bs r = cells_length n B C w g k gl bs (widths B C bs r.blocks) ∙ ap (λ j. j * w) r.count

  gone_length : length (flat (map g (replicate B (absent_block C)))) ≡ B * w
  gone_length = ap length (cells_same g w v (absent_block C) h B) ∙ length-replicate (B * w) v

  gone_all : All (λ x. x ≡ v) (flat (map g (replicate B (absent_block C))))
  gone_all = rw (cells_same g w v (absent_block C) h B) (all_replicate (λ x. x ≡ v) v refl (B * w))

  pub blank_cells : (ms : List ℕ) (ss : Slots) → map (has k) ms ≡ map there ss → All (Fits n B C) ss → Blank k (B * w) v ms (cells g (reads B C ss))
  blank_cells [] ss e a = tt
  blank_cells (m ∷ ms) [] e a = let z = ap length e in absurd (omega arith)
  blank_cells (m ∷ ms) (none ∷ ss) e a =
      let bs : List Block = replicate B (absent_block C) in
      let t : map (has k) ms ≡ map there ss = cc in
      rw (cells_cons g bs (reads B C ss), take_at (flat (map g bs)) (cells g (reads B C ss)) (B * w) gone_length, drop_at (flat (map g bs)) (cells g (reads B C ss)) (B * w) gone_length)
      (inr gone_all, blank_cells ms ss t a.1)
  blank_cells (m ∷ ms) (some bs ∷ ss) e a =
      let b : has k m ≡ true = cc in
      let t : map (has k) ms ≡ map there ss = cc in
      rw (cells_cons g bs (reads B C ss), drop_at (flat (map g bs)) (cells g (reads B C ss)) (B * w) (map_length bs a.0))
      (inl (has_present k m b), blank_cells ms ss t a.1)

pub blank_tec : {X : Type 0} (w : ℕ) (v : X) (ms : List ℕ) (l : List X) → Blank Tec w v ms l
blank_tec w v [] l = tt
blank_tec w v (m ∷ ms) l = (inl tt, blank_tec w v ms (drop w l))

pub blank_nothing : {X : Type 0} (k : Kind) (w : ℕ) (v : X) (ms : List ℕ) → Blank k w v ms []
blank_nothing k w v [] = tt
blank_nothing k zero v (m ∷ ms) = (inr tt, blank_nothing k zero v ms)
blank_nothing k (suc w) v (m ∷ ms) = (inr tt, blank_nothing k (suc w) v ms)
