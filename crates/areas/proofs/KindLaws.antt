-- The maps of one kind: their values and exponents, and a slot for each number.
use mathlib.Core.Path.{◌≡◌, refl, ap, ◌∙◌}
use mathlib.Core.Option.{Option, none, some}
use mathlib.Core.List.{List, [], ◌∷◌, map}
use Prim.Native.Nat.{ℕ, ◌*◌, ◌≤◌}
use native.Mathlib.Omega.{arith}
use native.Mathlib.Decide.{ℕ_discrete}
use lib.ListN.{length, replicate, length-map, length-replicate}
use Rattle.kit.specs.Answer.{All}
use Rattle.kit.proofs.AnswerLaws.{pick_yes, pick_no, pick_elim}
use Rattle.kit.proofs.ListLaws.{all_turn, all_map, all_replicate}
use Rattle.mapset.specs.MapSet.{Block, OtherMap}
use Rattle.areas.specs.Lists.{flat}
use Rattle.areas.specs.Flat.{found, absent_block, or_absent, Slots, slots, reads, values_of, exponents_of}
use Rattle.areas.specs.Formed.{BlockRules, MapRules, Rising}
use Rattle.areas.specs.Value.{Value}
use Rattle.areas.proofs.ListLaws.{all_flat, flat_length, tab_length, tab_all}

-- ---- maps, and their values and exponents

module _ (B C : ℕ) where
  pub counts : (g : List (List Block)) → All (MapRules B C) g → All (λ bs. length bs ≡ B) g
  counts g p = all_turn (MapRules B C) (λ bs. length bs ≡ B) g (λ x h. h.count) p

  pub all_blocks : (g : List (List Block)) → All (MapRules B C) g → All (BlockRules C) (flat g)
  all_blocks g p = all_flat (BlockRules C) g (all_turn (MapRules B C) (All (BlockRules C)) g (λ x h. h.blocks) p)

  pub widths : (bs : List Block) → All (BlockRules C) bs → All (λ b. length b.values ≡ C) bs
  widths bs p = all_turn (BlockRules C) (λ b. length b.values ≡ C) bs (λ x h. h.width) p

  pub exponents_length : (g : List (List Block)) → All (MapRules B C) g → length (exponents_of g) ≡ length g * B
  exponents_length g p = length-map (flat g) (λ b. b.exponent) ∙ flat_length B g (counts g p)

  pub values_length : (g : List (List Block)) → All (MapRules B C) g → length (values_of g) ≡ length g * B * C
  values_length g p =
      flat_length C (map (λ b. b.values) (flat g)) (all_map (λ l. length l ≡ C) (λ b. b.values) (flat g) (widths (flat g) (all_blocks g p)))
      ∙ ap (λ k. k * C) (length-map (flat g) (λ b. b.values) ∙ flat_length B g (counts g p))

-- ---- numbered maps

pub found_here : (x : OtherMap) (xs : List OtherMap) (i : ℕ) → x.of ≡ i → found (x ∷ xs) i ≡ some x.blocks
found_here x xs i e = pick_yes (ℕ_discrete x.of i) (some x.blocks) (found xs i) e

pub found_past : (x : OtherMap) (xs : List OtherMap) (i : ℕ) → ¬ (x.of ≡ i) → found (x ∷ xs) i ≡ found xs i
found_past x xs i e = pick_no (ℕ_discrete x.of i) (some x.blocks) (found xs i) e

module _ (n B C : ℕ) where
  -- none below the first
  pub found_low : (last : ℕ) (xs : List OtherMap) (i : ℕ) → i ≤ last → Rising n B C last xs → found xs i ≡ none
  found_low last [] i h r = refl
  found_low last (x ∷ xs) i h r = found_past x xs i (λ z. omega (arith, r.0)) ∙ found_low x.of xs i (omega (arith, r.0)) r.3

  abbrev pub Fits : Option (List Block) → Type 0
  Fits none = Unit {0}
  Fits (some bs) = MapRules B C bs

  found_fits : (last : ℕ) (xs : List OtherMap) → Rising n B C last xs → (j : ℕ) → Fits (found xs j)
  found_fits last [] r j = tt
  found_fits last (x ∷ xs) r j = pick_elim Fits (ℕ_discrete x.of j) (λ _. r.2) (λ _. found_fits x.of xs r.3 j)

  pub slots_fit : (last : ℕ) (xs : List OtherMap) → Rising n B C last xs → All Fits (slots n xs)
  slots_fit last xs r = tab_all Fits 1 n (found xs) (found_fits last xs r)

  -- 9999 is a value, and -1 an exponent
  absent_rules : MapRules B C (replicate B (absent_block C))
  absent_rules =
      record {
        count = length-replicate B (absent_block C);
        blocks = all_replicate (BlockRules C) (absent_block C) (record {
          width = length-replicate C _;
          exponent = record { from = record { le = tt }; to = record { le = tt } };
          values = all_replicate Value _ (record { from = record { le = tt }; to = record { le = tt } }) C;
        }) B;
      }

  pub reads_rules : (ss : Slots) → All Fits ss → All (MapRules B C) (reads B C ss)
  reads_rules [] p = tt
  reads_rules (none ∷ ss) p = (absent_rules, reads_rules ss p.1)
  reads_rules (some bs ∷ ss) p = (p.0, reads_rules ss p.1)

  module _ (last : ℕ) (xs : List OtherMap) (r : Rising n B C last xs) where
    pub kind_rules : All (MapRules B C) (reads B C (slots n xs))
    kind_rules = reads_rules (slots n xs) (slots_fit last xs r)

    pub kind_count : length (reads B C (slots n xs)) ≡ n
    kind_count = length-map (slots n xs) (or_absent B C) ∙ tab_length 1 n (found xs)

    pub kind_exponents : length (exponents_of (reads B C (slots n xs))) ≡ n * B
    kind_exponents = exponents_length B C (reads B C (slots n xs)) kind_rules ∙ ap (λ k. k * B) kind_count

    pub kind_values : length (values_of (reads B C (slots n xs))) ≡ n * B * C
    kind_values = values_length B C (reads B C (slots n xs)) kind_rules ∙ ap (λ k. k * B * C) kind_count
