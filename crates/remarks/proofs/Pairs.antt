-- Two different texts that differ only in their remarks, both accepted; and texts that show where remarks end.
use mathlib.Core.Path.{◌≡◌, refl, sym, ap, ◌∙◌}
use mathlib.Core.Logic.{inl, inr}
use mathlib.Core.List.{List, [], ◌∷◌, ◌++◌}
use Prim.Native.Nat.{ℕ, zero, suc}
use Prim.Native.String.{String}
use native.Mathlib.Omega.{arith}
use native.Mathlib.Decide.{ℕ_discrete, dec_le}
use lib.ListN.{drop, get_or}
use Rattle.kit.specs.Answer.{ok, refused, pick, ×_dec, ⊎_dec}
use Rattle.kit.specs.Range.{within?}
use Rattle.kit.specs.Truth.{truth}
use Rattle.kit.proofs.TruthLaws.{truth_true}
use Rattle.mapset.specs.MapSet.{MapSet}
use Rattle.layout.specs.Text.{pad}
use Rattle.layout.specs.Labels.{comment, aux_start, aux_end, name}
use Rattle.reading.specs.Feed.{why, front, opens?, split}
use Rattle.reading.specs.Read.{read}
use Rattle.reading.proofs.Vectors.{whole_reading}
use Rattle.layout.specs.Samples.{lines, mix_line, one_map_lines, pair_axes, pair_map}
use Rattle.remarks.specs.Remarks.{Bears, Remark, inside, Reworded, Close, Remarked}
use Rattle.remarks.proofs.Likes.{Like, like_length}
use Rattle.remarks.proofs.Nothing.{nothing_from_remarks}
use Rattle.remarks.proofs.Accepted.{accepted_comment}

-- ---- close texts, decided

unfoldable pub like? : (t t' : List ℕ) → Dec (Like t t')
like? [] [] = yes tt
like? [] (b ∷ t') = no (λ h. h)
like? (b ∷ t) [] = no (λ h. h)
like? (b ∷ t) (b' ∷ t') = ×_dec (⊎_dec (ℕ_discrete b b') (×_dec (within? 32 126 b) (within? 32 126 b'))) (like? t t')

pub like_at : (t t' : List ℕ) → Like t t' → (i : ℕ) → Close (get_or t i 0) (get_or t' i 0)
like_at [] [] h i = inl refl
like_at [] (b ∷ t') h i = absurd h
like_at (b ∷ t) [] h i = absurd h
like_at (b ∷ t) (b' ∷ t') h zero = h.0
like_at (b ∷ t) (b' ∷ t') h (suc i) = like_at t t' h.1 i

-- ---- texts: a comment c, an aux block of one line x, and what may stand (d) before a block's values

unfoldable pub rest : List String → List String
rest d = one_map_lines ++ (pair_axes ++ pair_map "     5.0   0.0   5.0   5.0 450.0                            LAT/LON1/LON2/DLON/H" d)

abbrev pub with_remarks : String → String → List String → List String
with_remarks c x d =
    mix_line
    ∷ c
    ∷ "DIFFERENTIAL CODE BIASES                                    START OF AUX DATA"
    ∷ x
    ∷ "DIFFERENTIAL CODE BIASES                                    END OF AUX DATA"
    ∷ rest d

abbrev pub wet : String
wet = "rain over the north                                         COMMENT"

abbrev pub bias : String
bias = "   G01    -1.234     0.020"

unfoldable pub one : List ℕ
one = lines (with_remarks wet bias [])

-- another comment, and a blank line in the aux block
unfoldable pub other : List ℕ
other = lines (with_remarks "sunny, RMS by station 7                                     COMMENT" "                          " [])

-- another byte in column 61 of the comment
unfoldable pub unknown : List ℕ
unknown = lines (with_remarks "rain over the north                                         ZOMMENT" bias [])

-- a comment among a block's values
unfoldable pub among : String → List ℕ
among c = lines (with_remarks wet bias (c ∷ []))

-- the first is accepted. In column 61 a byte more or less is another answer; and so it is in columns 1 to 60 of a COMMENT that stands where 01
-- allows none
pub readings :
    ((m : MapSet) × (read one ≡ ok m))
    × (read unknown ≡ refused (why 4 2 61))
    × (read (among "   11   12                                                  COMMENT") ≡ refused (why 6 23 61))
    × (read (among wet) ≡ refused (why 6 23 1))
unfolding one unknown among rest whole_reading
readings = ((_, refl), refl, refl, refl)

-- ---- the first two differ, and only in their remarks

pub not_same : ¬ (one ≡ other)
unfolding one other
not_same e = let z : ◌≡◌ {A = ℕ} 114 115 = ap (λ t. get_or t 81 0) e in omega arith

close_texts : Like one other
unfolding one other truth like? rest ×_dec ⊎_dec ℕ_discrete within? dec_le
close_texts = truth_true (like? one other) refl

-- lines that differ in the second and the fourth
two_lines : (a c c' s x x' : List ℕ) (ls : List (List ℕ)) → (Bears comment c → Remark (a ∷ c ∷ s ∷ x ∷ ls) 1) → Bears comment c → drop 60 c ≡ drop 60 c'
    → Bears aux_start s → ¬ Bears aux_end x → drop 60 x ≡ drop 60 x' → (k : ℕ) → Reworded (a ∷ c ∷ s ∷ x ∷ ls) (a ∷ c' ∷ s ∷ x' ∷ ls) k
two_lines a c c' s x x' ls r e d b n d' zero = inl refl
two_lines a c c' s x x' ls r e d b n d' (suc zero) = inr (r e, d)
two_lines a c c' s x x' ls r e d b n d' (suc (suc zero)) = inl refl
two_lines a c c' s x x' ls r e d b n d' (suc (suc (suc zero))) = inr (inside 2 (omega arith) b (λ y h k. let z : y ≡ 3 = omega arith in rw z n), d')
two_lines a c c' s x x' ls r e d b n d' (suc (suc (suc (suc k)))) = inl refl

remark_one : (k : ℕ) → Bears comment (get_or (split one) k []) → Remark (split one) k
remark_one k = accepted_comment one readings.0.0 k readings.0.1

reword : (k : ℕ) → Reworded (split one) (split other) k
unfolding one other rest split front opens? pick ×_dec ℕ_discrete pad name
reword = two_lines _ _ _ _ _ _ _ (remark_one 1) refl refl refl (λ e. let z : ◌≡◌ {A = ℕ} 32 69 = ap (λ l. get_or l 0 0) e in omega arith) refl

pub remarked : Remarked one other
remarked = record { as_long = like_length one other close_texts; close = like_at one other close_texts; reworded = reword }

-- so the second is accepted too, as the same map set
pub both_read : read other ≡ ok readings.0.0
both_read = sym (nothing_from_remarks one other remarked) ∙ readings.0.1
