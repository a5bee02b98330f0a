-- An accepted text: what the six areas need is the lengths of its map set's lists.
use mathlib.Core.Path.{◌≡◌, refl, sym, ap, ◌∙◌}
use mathlib.Core.Bool.{cond}
use mathlib.Core.List.{List, [], ◌∷◌}
use Prim.Native.Nat.{ℕ, ◌*◌, ◌≤◌}
use lib.IntN.{ℤ}
use lib.ListN.{length}
use Rattle.mapset.specs.declared.Header.{Header}
use Rattle.mapset.specs.Described.{FullTexts}
use Rattle.mapset.specs.Grid.{columns, Limits}
use Rattle.mapset.specs.MapSet.{OtherMap, MapSet}
use Rattle.mapset.proofs.SoundLaws.{few_values, few_blocks}
use Rattle.layout.specs.Layout.{per_map}
use Rattle.reading.proofs.Exact.{made_read}
use Rattle.areas.specs.Flat.{slots, reads, values_of, wanted, areas_of, areas}
use Rattle.areas.specs.Formed.{Rising, Formed}
use Rattle.areas.proofs.KindLaws.{kind_values}
use Rattle.areas.proofs.Needs.{needs}
use Rattle.areas.proofs.Made.{made_formed}
use Rattle.maps.specs.Turns.{stands}
use Rattle.read_needs.specs.Needs.{lengths, needs_of}
use Rattle.read_needs.specs.declared.Elements.{Elements}
use Rattle.read_needs.specs.declared.Others.{Others}
use Rattle.read_judge.specs.Scanned.{set_of, Accepts}

-- a kind with no map needs no value area
stands_length : (n B C : ℕ) (xs : List OtherMap) → Rising n B C 0 xs → length (wanted xs (values_of (reads B C (slots n xs)))) ≡ cond (stands xs) (n * B * C) 0
stands_length n B C [] r = refl
stands_length n B C (x ∷ xs) r = kind_values n B C 0 (x ∷ xs) r

module _ (t : List ℕ) (x : FullTexts) (h : Header) (e : ℤ) (at : ℕ) (o : Others) (a : Accepts t x h e at o) where
  abbrev m : MapSet
  m = set_of h x a.maps

  pub formed : Formed m
  formed = made_formed (made_read t a.reads)

  pub limits : Limits h.times.maps h.grid
  limits = formed.header.limits

  few : (h.times.maps * per_map h * columns h.grid ≤ 2000000) × (h.times.maps * per_map h ≤ 2000000)
  few = (few_values h.times.maps h.grid limits, few_blocks h.times.maps h.grid limits)

  abbrev need : Elements
  need = needs_of h.times.maps (per_map h) (columns h.grid) o

  rms_need : length (areas m).rms ≡ need.rms
  unfolding areas_of
  rms_need = stands_length _ _ _ a.maps.rms formed.maps.rms ∙ ap (λ b. cond b (h.times.maps * per_map h * columns h.grid) 0) (sym a.rms)

  height_need : length (areas m).height ≡ need.height
  unfolding areas_of
  height_need = stands_length _ _ _ a.maps.height formed.maps.height ∙ ap (λ b. cond b (h.times.maps * per_map h * columns h.grid) 0) (sym a.height)

  need_is : need ≡ lengths (areas m)
  need_is =
      let z = needs m formed in
      λ i. record { tec = sym z.tec i; rms = sym rms_need i; height = sym height_need i; exponents = sym z.exponents i; epochs = sym z.epochs i; marks = sym z.marks i }

  -- by the code's own numbers
  module _ {n B C : ℕ} (p : n ≡ h.times.maps) (q : B ≡ per_map h) (r : C ≡ columns h.grid) where
    pub few_by : (n * B * C ≤ 2000000) × (n * B ≤ 2000000)
    few_by = rw (p, q, r) few

    pub need_by : {N : Elements} → N ≡ needs_of n B C o → N ≡ lengths (areas m)
    need_by s = s ∙ (λ i. needs_of (p i) (q i) (r i) o) ∙ need_is
