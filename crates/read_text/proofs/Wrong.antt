-- The wrong readers that 01 names, each on an input where what it does contradicts the contract of `read`; and so for `needs`.
use mathlib.Core.Path.{◌≡◌, refl, sym, ap, ◌∙◌}
use mathlib.Core.List.{[], ◌∷◌}
use Prim.Native.Nat.{ℕ}
use native.Mathlib.Omega.{arith}
use native.Mathlib.Decide.{ℕ_discrete, dec_le}
use lib.IntN.{pos, nat_abs}
use lib.ListN.{get_or, replicate}
use Rattle.std.specs.Prelude.{Result, Ok, Err}
use Rattle.kit.specs.Answer.{pick}
use Rattle.mapset.specs.declared.Header.{Header}
use Rattle.mapset.specs.declared.Texts.{Texts}
use Rattle.mapset.specs.declared.Descriptions.{Descriptions}
use Rattle.mapset.specs.Areas.{Areas}
use Rattle.layout.specs.Samples.{lines}
use Rattle.reading.proofs.Vectors.{two_faults, eight_before_seven, small_text, small_set, small_read, two_text, two_set, two_read}
use Rattle.areas.specs.Flat.{areas_of, areas}
use Rattle.areas.specs.Fronts.{fronts}
use Rattle.read_needs.specs.Needs.{first_short}
use Rattle.read_needs.specs.declared.Elements.{Elements}
use Rattle.read_outcome.specs.Measures.{Measures}
use Rattle.read_outcome.proofs.Once.{needs_once}
use Rattle.read_outcome.specs.Outcome.{ToldReading, accepted, at_place, eleven, with_room, outcome_of, outcome}
use Rattle.read_text.proofs.Once.{Reads, not_accepted}
use Rattle.read_outcome.specs.declared.Reason.{Reason}
use Rattle.read_outcome.specs.declared.Reason.TheVariants.{Disagrees, AreaTooShort}
use Rattle.read_outcome.specs.declared.ReadOut.{ReadOut}

-- areas of these lengths, 0 everywhere
abbrev zeros : (tec rms exponents maps : ℕ) → Areas
zeros t r e n = record { tec = replicate t (pos 0); rms = replicate r (pos 0); height = []; exponents = replicate e (pos 0); epochs = replicate n 0; marks = replicate n 0 }

-- a text with one TEC map and its RMS map, and one with two TEC maps, each in areas of just the needed lengths; and the first where TEC has one element less
abbrev small_areas : Areas
small_areas = zeros 6 6 6 1

abbrev two_areas : Areas
two_areas = zeros 4 0 6 2

abbrev short_areas : Areas
short_areas = zeros 5 6 6 1

small_comes : outcome (lines small_text) small_areas ≡ record { told = accepted small_set.header; texts = small_set.texts; areas = fronts (areas small_set) small_areas }
unfolding outcome_of with_room first_short pick dec_le ℕ_discrete areas_of small_set
small_comes = ap (λ a. outcome_of a small_areas) small_read

two_comes : outcome (lines two_text) two_areas ≡ record { told = accepted two_set.header; texts = two_set.texts; areas = fronts (areas two_set) two_areas }
unfolding outcome_of with_room first_short pick dec_le ℕ_discrete areas_of two_set
two_comes = ap (λ a. outcome_of a two_areas) two_read

short_comes : (outcome (lines small_text) short_areas).told ≡ eleven 1 6
unfolding outcome_of with_room first_short pick dec_le ℕ_discrete areas_of small_set
short_comes = ap (λ a. (outcome_of a short_areas).told) small_read

faults_come : (l : Areas) → (outcome (lines two_faults) l).told ≡ at_place 8 15 0
unfolding outcome_of
faults_come l = ap (λ a. (outcome_of a l).told) eight_before_seven

-- a reader that refuses everything
pub not_refused : (w : Reason) (x : Texts) (d : Descriptions) (l' : Areas) → ¬ Reads (lines small_text) small_areas (record { answer = Err w; texts = x; descriptions = d }) l'
not_refused w x d l' c = not_accepted w (ap (λ o. o.told) (c ∙ small_comes))

-- a constant map set
pub not_constant : (h : Header) (x y : Texts) (d f : Descriptions) (l' l'' : Areas)
    → Reads (lines small_text) small_areas (record { answer = Ok h; texts = x; descriptions = d }) l' → ¬ Reads (lines two_text) two_areas (record { answer = Ok h; texts = y; descriptions = f }) l''
unfolding small_set two_set
not_constant h x y g f l' l'' c d =
    let p : accepted h ≡ accepted small_set.header = ap (λ o. o.told) (c ∙ small_comes) in
    let q : accepted h ≡ accepted two_set.header = ap (λ o. o.told) (d ∙ two_comes) in
    let e : ◌≡◌ {A = ℕ} 1 2 = ap maps_of (sym p ∙ q) in omega arith
  where
    maps_of : ToldReading → ℕ
    maps_of (accepted h) = h.times.maps
    maps_of (at_place k l c) = 0
    maps_of (eleven a n) = 0

-- areas left as found
pub not_left : (r : ReadOut) → ¬ Reads (lines small_text) small_areas r small_areas
unfolding areas_of fronts small_set
not_left r c = let e : ◌≡◌ {A = ℕ} 0 100 = ap (λ o. nat_abs (get_or o.areas.tec 0 (pos 0))) (c ∙ small_comes) in omega arith

-- map 1 filled and 9999 in the others
pub not_map_one : (r : ReadOut) (l' : Areas) → l'.tec ≡ pos 11 ∷ pos 12 ∷ pos 9999 ∷ pos 9999 ∷ [] → ¬ Reads (lines two_text) two_areas r l'
unfolding areas_of fronts two_set
not_map_one r l' t c =
    let e : nat_abs (get_or l'.tec 2 (pos 0)) ≡ 21 = ap (λ o. nat_abs (get_or o.areas.tec 2 (pos 0))) (c ∙ two_comes) in
    let f : nat_abs (get_or l'.tec 2 (pos 0)) ≡ 9999 = ap (λ v. nat_abs (get_or v 2 (pos 0))) t in omega arith

-- an invented need
pub not_another_need : (n : ℕ) (x : Texts) (d : Descriptions) (l' : Areas) → Reads (lines small_text) short_areas (record { answer = Err (AreaTooShort 1 n); texts = x; descriptions = d }) l' → n ≡ 6
not_another_need n x d l' c = let e : eleven 1 n ≡ eleven 1 6 = ap (λ o. o.told) c ∙ short_comes in cc

-- an invented line number
pub not_another_line : (n : ℕ) (x : Texts) (d : Descriptions) (l l' : Areas) → Reads (lines two_faults) l (record { answer = Err (Disagrees n 0); texts = x; descriptions = d }) l' → n ≡ 15
not_another_line n x d l l' c = let e : at_place 8 n 0 ≡ at_place 8 15 0 = ap (λ o. o.told) c ∙ faults_come l in cc

-- other needs than these, or a refusal, told of a text with one TEC map and its RMS map
pub not_other_needs : (r : Result Elements Reason) → Measures (lines small_text) r → r ≡ Ok (record { tec = 6; rms = 6; height = 0; exponents = 6; epochs = 1; marks = 1 })
unfolding pick ℕ_discrete areas_of small_set
not_other_needs r s = needs_once (lines small_text) r _ s (small_set, (small_read, refl))
