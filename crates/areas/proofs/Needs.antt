-- The lengths of the six lists are the needs of refusal 11.
use mathlib.Core.Path.{◌≡◌, refl, sym, ap, ◌∙◌}
use mathlib.Core.Bool.{Bool, true, false}
use mathlib.Core.Logic.{◌⊎◌, inl, inr, ⊎_elim}
use mathlib.Core.List.{List, [], ◌∷◌}
use Prim.Native.Nat.{ℕ, ◌*◌}
use native.Mathlib.Omega.{arith}
use lib.ListN.{length, length-append, length-map}
use Rattle.kit.specs.Answer.{All, pick}
use Rattle.kit.proofs.AnswerLaws.{pick_yes, pick_no}
use Rattle.kit.proofs.ListLaws.{all_map}
use Rattle.kit.proofs.TruthLaws.{clash}
use Rattle.mapset.specs.declared.Kind.{Kind}
use Rattle.mapset.specs.declared.Kind.TheVariants.{Tec, Rms, Height}
use Rattle.mapset.specs.MapSet.{OtherMap, Maps, MapSet}
use Rattle.mapset.specs.Grid.{columns}
use Rattle.mapset.specs.Areas.{Present, Nowhere, nowhere?, blocks}
use Rattle.layout.specs.Layout.{Other, per_map}
use Rattle.areas.specs.Lists.{tab}
use Rattle.areas.specs.Flat.{found, slots, reads, tec_blocks, values_of, exponents_of, wanted, mark, there, areas_of, areas}
use Rattle.areas.specs.Exact.{Exact}
use Rattle.areas.specs.Formed.{MapRules, Rising, MapsRules, Formed}
use Rattle.areas.proofs.ListLaws.{tab_length, tab_all, all_tab}
use Rattle.areas.proofs.KindLaws.{found_here, exponents_length, values_length, kind_exponents, kind_values}

-- ---- the marks say which maps are there

-- what a mark says of a kind; every TEC map is there
abbrev pub of_kind : Kind → Bool → Bool → Bool
of_kind Tec a b = true
of_kind Rms a b = a
of_kind Height a b = b

neither : {m a b : ℕ} {X : Type 0} → ¬ (m ≡ a) → ¬ (m ≡ b) → (m ≡ a) ⊎ (m ≡ b) → X
neither p q s = absurd (⊎_elim p q s)

pub present_bit : (k : Kind) (a b : Bool) → Present k (mark a b) → of_kind k a b ≡ true
present_bit Tec a b p = refl
present_bit Rms true b p = refl
present_bit Rms false true p = neither (λ e. omega arith) (λ e. omega arith) p
present_bit Rms false false p = neither (λ e. omega arith) (λ e. omega arith) p
present_bit Height a true p = refl
present_bit Height true false p = neither (λ e. omega arith) (λ e. omega arith) p
present_bit Height false false p = neither (λ e. omega arith) (λ e. omega arith) p

pub bit_present : (k : Kind) (a b : Bool) → of_kind k a b ≡ true → Present k (mark a b)
bit_present Tec a b e = tt
bit_present Rms true true e = inr refl
bit_present Rms true false e = inl refl
bit_present Rms false b e = clash (cc)
bit_present Height true true e = inr refl
bit_present Height false true e = inl refl
bit_present Height a false e = clash (cc)

-- ---- a kind has a map exactly when some mark says so

abbrev pub marks_of : ℕ → Maps → List ℕ
marks_of n m = tab 1 n (λ i. mark (there (found m.rms i)) (there (found m.height i)))

abbrev pub others : Kind → Maps → List OtherMap
others Tec m = []
others Rms m = m.rms
others Height m = m.height

pub bit_found : (k : Kind) (m : Maps) (i : ℕ) → Other k → of_kind k (there (found m.rms i)) (there (found m.height i)) ≡ there (found (others k m) i)
bit_found Rms m i o = refl
bit_found Height m i o = refl
bit_found Tec m i o = elim o [ ]

module _ (n B C : ℕ) (k : Kind) (o : Other k) (m : Maps) where
  -- none
  pub kind_nowhere : others k m ≡ [] → Nowhere k (marks_of n m)
  kind_nowhere e =
      tab_all (λ c. ¬ Present k c) 1 n _
      (λ i p. let z : true ≡ there (found (others k m) i) = sym (present_bit k _ _ p) ∙ bit_found k m i o in clash (cc))

  -- one
  kind_somewhere : (x : OtherMap) (xs : List OtherMap) → others k m ≡ x ∷ xs → Rising n B C 0 (x ∷ xs) → ¬ Nowhere k (marks_of n m)
  kind_somewhere x xs e r a =
      let z : of_kind k (there (found m.rms x.of)) (there (found m.height x.of)) ≡ true =
      bit_found k m x.of o ∙ ap (λ l. there (found l x.of)) e ∙ ap there (found_here x xs x.of refl) in
      all_tab (λ c. ¬ Present k c) 1 n _ a x.of (omega (arith, r.0)) (omega (arith, r.1)) (bit_present k _ _ z)

  pub wanted_length : Rising n B C 0 (others k m)
      → length (wanted (others k m) (values_of (reads B C (slots n (others k m))))) ≡ pick (nowhere? k (marks_of n m)) 0 (n * B * C)
  wanted_length r = go (others k m) refl r
    where
      go : (xs : List OtherMap) → others k m ≡ xs → Rising n B C 0 xs → length (wanted xs (values_of (reads B C (slots n xs)))) ≡ pick (nowhere? k (marks_of n m)) 0 (n * B * C)
      go [] e r = sym (pick_yes (nowhere? k (marks_of n m)) 0 (n * B * C) (kind_nowhere e))
      go (x ∷ xs) e r = kind_values n B C 0 (x ∷ xs) r ∙ sym (pick_no (nowhere? k (marks_of n m)) 0 (n * B * C) (kind_somewhere x xs e r))

-- ---- the lengths

module _ (n B C : ℕ) (m : Maps) (f : MapsRules n B C m) where
  pub tec_rules : All (MapRules B C) (tec_blocks m)
  tec_rules = all_map (MapRules B C) (λ t. t.blocks) m.tec f.tec

  pub tec_count : length (tec_blocks m) ≡ n
  tec_count = length-map m.tec (λ t. t.blocks) ∙ f.count

  pub tec_values : length (values_of (tec_blocks m)) ≡ n * B * C
  tec_values = values_length B C (tec_blocks m) tec_rules ∙ ap (λ k. k * B * C) tec_count

  pub tec_exponents : length (exponents_of (tec_blocks m)) ≡ n * B
  tec_exponents = exponents_length B C (tec_blocks m) tec_rules ∙ ap (λ k. k * B) tec_count

  pub all_exponents : length (areas_of n B C m).exponents ≡ 3 * (n * B)
  unfolding areas_of
  all_exponents =
      simp length-append (omega (arith, tec_exponents, kind_exponents n B C 0 m.rms f.rms, kind_exponents n B C 0 m.height f.height))

-- refusal 11's needs
pub needs : (m : MapSet) → Formed m → Exact m.header (areas m)
unfolding areas_of
needs m f =
    let n : ℕ = m.header.times.maps in
    let B : ℕ = per_map m.header in
    let C : ℕ = columns m.header.grid in
    record {
      tec = tec_values n B C m.maps f.maps;
      rms = wanted_length n B C Rms tt m.maps f.maps.rms;
      height = wanted_length n B C Height tt m.maps f.maps.height;
      exponents = all_exponents n B C m.maps f.maps;
      epochs = length-map m.maps.tec (λ t. t.epoch) ∙ f.maps.count;
      marks = tab_length 1 n _;
    }
