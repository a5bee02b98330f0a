-- Where remarks begin to matter: to the bias reader, which reads what stands in an aux block; and to an index, where a remark makes its line longer.
use mathlib.Core.Path.{◌≡◌, refl, sym, ap, ◌∙◌}
use mathlib.Core.Logic.{inl, inr}
use mathlib.Core.List.{List, [], ◌∷◌, map}
use Prim.Native.Nat.{ℕ, zero, suc}
use native.Mathlib.Omega.{arith}
use native.Mathlib.Decide.{ℕ_discrete, dec_le}
use lib.IntN.{ℤ, pos, negsuc}
use lib.ListN.{drop, get_or}
use Rattle.kit.specs.Answer.{Answer, ok, refused, pick, ×_dec, ⊎_dec}
use Rattle.kit.specs.Range.{within?}
use Rattle.kit.specs.Truth.{truth}
use Rattle.kit.proofs.TruthLaws.{truth_true}
use Rattle.mapset.specs.MapSet.{MapSet}
use Rattle.layout.specs.Text.{pad}
use Rattle.layout.specs.Labels.{aux_start, aux_end, name}
use Rattle.reading.specs.declared.Why.{Why}
use Rattle.reading.specs.Feed.{front, opens?, split}
use Rattle.reading.specs.Read.{read}
use Rattle.reading.proofs.Vectors.{whole_reading}
use Rattle.layout.specs.Samples.{lines}
use Rattle.areas.specs.Scan.{or_else, second_of, brought, body, events}
use Rattle.read_lines.specs.Cuts.{cuts}
use Rattle.index.specs.Found.{clean?, blank?}
use Rattle.index.specs.Made.{placed, placed_from, opened, maps_of, positions_of}
use Rattle.biases.specs.Biases.{Biases}
use Rattle.biases.specs.Read.{biases}
use Rattle.biases.proofs.Vectors.{whole_biases}
use Rattle.remarks.specs.Remarks.{Bears, inside, Reworded, Remarked}
use Rattle.remarks.proofs.Likes.{Like, like_length}
use Rattle.remarks.proofs.Nothing.{nothing_from_remarks}
use Rattle.remarks.proofs.Pairs.{like?, like_at, rest, with_remarks, wet, bias, one}

-- a satellite's bias, and another one
unfoldable pub below : List ℕ
below = lines (with_remarks wet "   G01    -1.234     0.020                                  PRN / BIAS / RMS" [])

unfoldable pub above : List ℕ
above = lines (with_remarks wet "   G01     1.234     0.020                                  PRN / BIAS / RMS" [])

abbrev one_told : ℤ → Biases
one_told z = record { satellites = record { system = 71; number = 1; bias = z; rms = pos 20 } ∷ []; stations = [] }

pub biases_told : (biases below ≡ ok (one_told (negsuc 1233))) × (biases above ≡ ok (one_told (pos 1234)))
unfolding below above rest whole_biases
biases_told = (refl, refl)

-- ---- they differ only in a remark

close_texts : Like below above
unfolding below above truth like? rest ×_dec ⊎_dec ℕ_discrete within? dec_le
close_texts = truth_true (like? below above) refl

-- lines that differ in the fourth
fourth_line : (a c s x x' : List ℕ) (ls : List (List ℕ)) → Bears aux_start s → ¬ Bears aux_end x → drop 60 x ≡ drop 60 x' → (k : ℕ) → Reworded (a ∷ c ∷ s ∷ x ∷ ls) (a ∷ c ∷ s ∷ x' ∷ ls) k
fourth_line a c s x x' ls b n d zero = inl refl
fourth_line a c s x x' ls b n d (suc zero) = inl refl
fourth_line a c s x x' ls b n d (suc (suc zero)) = inl refl
fourth_line a c s x x' ls b n d (suc (suc (suc zero))) = inr (inside 2 (omega arith) b (λ y h k. let z : y ≡ 3 = omega arith in rw z n), d)
fourth_line a c s x x' ls b n d (suc (suc (suc (suc k)))) = inl refl

reword : (k : ℕ) → Reworded (split below) (split above) k
unfolding below above rest split front opens? pick ×_dec ℕ_discrete pad name
reword = fourth_line _ _ _ _ _ _ refl (λ e. let z : ◌≡◌ {A = ℕ} 80 69 = ap (λ l. get_or l 0 0) e in omega arith) refl

pub bias_remarked : Remarked below above
bias_remarked = record { as_long = like_length below above close_texts; close = like_at below above close_texts; reworded = reword }

-- ---- the map reading is the same, the bias reading is not

abbrev told_biases : Answer Why Biases → List ℤ
told_biases (ok b) = map (λ s. s.bias) b.satellites
told_biases (refused w) = []

pub biases_differ : (read below ≡ read above) × ¬ (biases below ≡ biases above)
biases_differ = (
  nothing_from_remarks below above bias_remarked,
  λ e.
      let z : negsuc 1233 ∷ [] ≡ pos 1234 ∷ [] = ap told_biases (sym biases_told.0 ∙ e ∙ biases_told.1) in
      let y : ◌≡◌ {A = ℕ} 0 1 = cc in omega arith,
)

-- ---- a line that is longer by one blank is read the same, and moves the blocks behind it: the length in `Remarked` counts

unfoldable pub longer : List ℕ
longer = lines (with_remarks "rain over the north                                         COMMENT " bias [])

pub moved :
    (m : MapSet)
    × (read one ≡ ok m)
    × (read longer ≡ ok m)
    × (positions_of m.header (placed_from one 0) ≡ 1560 ∷ 0 ∷ 0 ∷ [])
    × (positions_of m.header (placed_from longer 0) ≡ 1561 ∷ 0 ∷ 0 ∷ [])
unfolding one longer rest cuts clean? blank? placed opened maps_of positions_of or_else second_of brought body events whole_reading
moved = (_, refl, refl, refl, refl)
