-- What a header record says that is written is accepted.
use mathlib.Core.Path.{◌≡◌, refl}
use mathlib.Core.Option.{Option, none, some}
use mathlib.Core.List.{List, [], ◌∷◌}
use Prim.Native.Nat.{ℕ, zero, suc, ◌+◌, ◌≤◌}
use native.Mathlib.Omega.{arith}
use native.Mathlib.Decide.{ℕ_discrete}
use lib.ListN.{length, get_or, set}
use lib.Seq.{get_or-set_other}
use lib.IntN.{ℤ}
use Rattle.kit.specs.Answer.{All}
use Rattle.mapset.specs.Header.{Content, count, system, contents, Said, number, counts, Accepts, a_count, says, Stand, stand_end, stand_some, stand_none}
use Rattle.mapset.specs.MapSet.{MapSet}
use Rattle.layout.specs.Labels.{content}
use Rattle.layout.specs.Layout.{Slots, Lines, Mode, Heads, h_description, h_comment, h_exponent, h_field, h_system, h_aux, h_skip, h_back, h_end}
use Rattle.reading.proofs.SlotLaws.{system_content}

-- where a record is left to be written, it is one that is accepted
abbrev Fit : Content → Option Said → Type 0
Fit k none = Unit {0}
Fit k (some s) = Accepts k s

nothing_left : (left : Slots) (i : ℕ) → All (λ o. o ≡ none) left → get_or left i none ≡ none
nothing_left [] i a = refl
nothing_left (o ∷ left) zero a = a.0
nothing_left (o ∷ left) (suc i) a = nothing_left left i a.1

one_written : (left : Slots) (i : ℕ) (s : Said) → get_or left i none ≡ some s → Accepts (content i) s
    → ((j : ℕ) → Fit (content j) (get_or (set left i none) j none)) → (j : ℕ) → Fit (content j) (get_or left j none)
one_written left i s e a ih j = go (ℕ_discrete j i)
  where
    go : Dec (j ≡ i) → Fit (content j) (get_or left j none)
    go (yes q) = rw (q, e) a
    go (no q) = rw (get_or-set_other left i j none none q) at (ih j)

heads_fit : {m : MapSet} {a : Mode} {e : ℤ} {left : Slots} {ds : Lines} {rs : List (List ℕ)} → Heads m a e left ds rs → (i : ℕ) → Fit (content i) (get_or left i none)
heads_fit (h_description c hw) = heads_fit hw
heads_fit (h_comment c hw) = heads_fit hw
heads_fit (h_exponent c u hw) = heads_fit hw
heads_fit (h_field i {s} v {left} l e c u a hw) = one_written left i s e a (heads_fit hw)
heads_fit (h_system j a b {left} l e c u hw) = one_written left (15 + j) (counts a b) e (rw (system_content j) u) (heads_fit hw)
heads_fit (h_aux c hw) = heads_fit hw
heads_fit (h_skip n hw) = heads_fit hw
heads_fit (h_back c hw) = heads_fit hw
heads_fit (h_end {left = left} c a f d l hw) = λ i. rw (nothing_left left i a) tt

stand : (ks : List Content) (ss : Slots) → length ks ≡ length ss → ((i : ℕ) → Fit (get_or ks i system) (get_or ss i none)) → Stand ks ss
stand [] [] e f = stand_end
stand [] (s ∷ ss) e f = absurd (omega arith)
stand (k ∷ ks) [] e f = absurd (omega arith)
stand (k ∷ ks) (some s ∷ ss) e f = stand_some (f 0) (stand ks ss (omega arith) (λ i. f (suc i)))
stand (k ∷ ks) (none ∷ ss) e f = stand_none (stand ks ss (omega arith) (λ i. f (suc i)))

module _ {m : MapSet} {a : Mode} {e : ℤ} {ds : Lines} {rs : List (List ℕ)} (hw : Heads m a e (says m.header m.texts) ds rs) where
  pub heads_stand : Stand contents (says m.header m.texts)
  heads_stand = stand contents (says m.header m.texts) refl (heads_fit hw)

  -- at least one TEC map
  pub some_map : 1 ≤ m.header.times.maps
  some_map = go (heads_fit hw 4)
    where
      go : Accepts (count 1 300) (number m.header.times.maps) → 1 ≤ m.header.times.maps
      go (a_count w) = w.0
