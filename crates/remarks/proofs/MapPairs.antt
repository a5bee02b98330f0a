-- Two different texts, both accepted, that differ only in a COMMENT between two blocks and one between two maps.
use mathlib.Core.Path.{◌≡◌, refl, sym, ap, ◌∙◌}
use mathlib.Core.Logic.{◌⊎◌, inl, inr, ⊎_elim}
use mathlib.Core.List.{List, [], ◌∷◌}
use Prim.Native.Nat.{ℕ, zero, suc}
use Prim.Native.String.{String}
use native.Mathlib.Omega.{arith}
use native.Mathlib.Decide.{ℕ_discrete, dec_le}
use lib.ListN.{drop, get_or}
use Rattle.kit.specs.Answer.{ok, pick, ×_dec, ⊎_dec, same, sames}
use Rattle.kit.specs.Range.{within?}
use Rattle.kit.specs.Truth.{truth}
use Rattle.kit.proofs.TruthLaws.{truth_true}
use Rattle.mapset.specs.MapSet.{MapSet}
use Rattle.layout.specs.Text.{pad}
use Rattle.layout.specs.Labels.{comment, name}
use Rattle.layout.specs.Samples.{lines}
use Rattle.reading.specs.Feed.{front, opens?, split}
use Rattle.reading.specs.Read.{read}
use Rattle.reading.proofs.Vectors.{whole_reading, add, small_text}
use Rattle.remarks.specs.Remarks.{Bears, SameLabel, Reworded, Remarked}
use Rattle.remarks.proofs.Likes.{Like, like_length}
use Rattle.remarks.proofs.Nothing.{nothing_from_remarks}
use Rattle.remarks.proofs.Accepted.{accepted_comment}
use Rattle.remarks.proofs.Pairs.{wet, like?, like_at}

-- ---- lines that are the same, or two COMMENT lines that are the same from column 61 on

abbrev Alike : List ℕ → List ℕ → Type 0
Alike l l' = (l ≡ l') ⊎ (Bears comment l × SameLabel l l')

abbrev AllAlike : List (List ℕ) → List (List ℕ) → Type 0
AllAlike [] [] = Unit {0}
AllAlike [] (l ∷ ls) = ⊥
AllAlike (l ∷ ls) [] = ⊥
AllAlike (l ∷ ls) (l' ∷ ls') = Alike l l' × AllAlike ls ls'

unfoldable alike? : (ls ls' : List (List ℕ)) → Dec (AllAlike ls ls')
alike? [] [] = yes tt
alike? [] (l ∷ ls) = no (λ h. h)
alike? (l ∷ ls) [] = no (λ h. h)
alike? (l ∷ ls) (l' ∷ ls') = ×_dec (⊎_dec (same l l') (×_dec (same (drop 60 (pad l)) (name comment)) (same (drop 60 l) (drop 60 l')))) (alike? ls ls')

alike_at : (ls ls' : List (List ℕ)) → AllAlike ls ls' → (k : ℕ) → Alike (get_or ls k []) (get_or ls' k [])
alike_at [] [] h k = inl refl
alike_at [] (l ∷ ls) h k = absurd h
alike_at (l ∷ ls) [] h k = absurd h
alike_at (l ∷ ls) (l' ∷ ls') h zero = h.0
alike_at (l ∷ ls) (l' ∷ ls') h (suc k) = alike_at ls ls' h.1 k

-- ---- the texts: c before the second block of the TEC map, and before the RMS map

unfoldable pub in_maps : String → List ℕ
in_maps c = lines (add 27 c (add 23 c small_text))

abbrev pub dry : String
dry = "sunny, RMS by station 7                                     COMMENT"

pub in_maps_read : (m : MapSet) × (read (in_maps wet) ≡ ok m)
unfolding in_maps small_text whole_reading
in_maps_read = (_, refl)

pub not_same_in_maps : ¬ (in_maps wet ≡ in_maps dry)
unfolding in_maps small_text
not_same_in_maps e = let z : ◌≡◌ {A = ℕ} 114 115 = ap (λ t. get_or t 1552 0) e in omega arith

close_texts : Like (in_maps wet) (in_maps dry)
unfolding in_maps small_text truth like? ×_dec ⊎_dec ℕ_discrete within? dec_le
close_texts = truth_true (like? (in_maps wet) (in_maps dry)) refl

all_alike : AllAlike (split (in_maps wet)) (split (in_maps dry))
unfolding in_maps small_text truth alike? split front opens? pick ×_dec ⊎_dec same sames ℕ_discrete pad name
all_alike = truth_true (alike? (split (in_maps wet)) (split (in_maps dry))) refl

reword : (k : ℕ) → Reworded (split (in_maps wet)) (split (in_maps dry)) k
reword k =
    ⊎_elim inl (λ q. inr (accepted_comment (in_maps wet) in_maps_read.0 k in_maps_read.1 q.0, q.1))
    (alike_at (split (in_maps wet)) (split (in_maps dry)) all_alike k)

pub remarked_in_maps : Remarked (in_maps wet) (in_maps dry)
remarked_in_maps = record { as_long = like_length (in_maps wet) (in_maps dry) close_texts; close = like_at (in_maps wet) (in_maps dry) close_texts; reworded = reword }

-- so the second is accepted too, as the same map set
pub both_read_in_maps : read (in_maps dry) ≡ ok in_maps_read.0
both_read_in_maps = sym (nothing_from_remarks (in_maps wet) (in_maps dry) remarked_in_maps) ∙ in_maps_read.1
