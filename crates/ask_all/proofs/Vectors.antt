-- Three questions in one call, worked out by hand: 100, 200 over 300, 400 under -1 at rows 1.0 and 0.0 and columns 0.0 and 1.0, one map. The second is beyond
-- LON2; the third longitude is the last, so what stands behind it is not asked.
use mathlib.Core.Path.{◌≡◌, refl}
use mathlib.Core.List.{[], ◌∷◌}
use Prim.Native.Nat.{ℕ, zero, suc, ◌≤◌, ◌<◌}
use native.Mathlib.Decide.{dec_lt}
use native.Mathlib.Omega.{arith}
use lib.IntN.{ℤ, pos}
use lib.ListN.{get_or}
use Rattle.kit.specs.Answer.{pick}
use Rattle.ask.specs.Ask.{Question, question, tecu, refused, Answers}
use Rattle.ask.proofs.Sample.{header, texts, held}
use Rattle.ask.proofs.Reckonings.{corners_asked, sample_open}
use Rattle.kit.specs.Range.{lesser}
use Rattle.ask_all.specs.AskAll.{Places, Slots, places, slots, count, Fills, AsksAll, answered}

abbrev at : ℤ → ℤ → ℕ → Question
at = question header texts held 0 0 0

abbrev asked : Places
asked = places (pos 100 ∷ pos 0 ∷ pos 0 ∷ pos 0 ∷ []) (pos 0 ∷ pos 101 ∷ pos 100 ∷ []) (0 ∷ 0 ∷ 0 ∷ 0 ∷ [])

abbrev before : Slots
before = slots (9 ∷ 9 ∷ 9 ∷ 9 ∷ 9 ∷ []) (pos 7 ∷ pos 7 ∷ pos 7 ∷ pos 7 ∷ [])

abbrev behind : Slots
behind = slots (0 ∷ 21 ∷ 0 ∷ 9 ∷ 9 ∷ []) (pos 10000 ∷ pos 7 ∷ pos 40000 ∷ pos 7 ∷ [])

-- as many as the shortest has
pub three_asked : count asked before ≡ 3
unfolding lesser pick dec_lt
three_asked = refl

each : (k : ℕ) → k < 3
    → Fills (Answers (at (get_or asked.lats k (pos 0)) (get_or asked.lons k (pos 0)) (get_or asked.seconds k 0))) (get_or before.values k (pos 0)) (get_or behind.answers k 0) (get_or behind.values k (pos 0))
each zero h = record { answer = tecu (pos 10000); given = corners_asked.0; number = refl; value = refl }
each (suc zero) h = record { answer = refused 21; given = corners_asked.1; number = refl; value = refl }
each (suc (suc zero)) h = record { answer = tecu (pos 40000); given = corners_asked.2; number = refl; value = refl }
each (suc (suc (suc k))) h = absurd (omega arith)

answers_stay : (k : ℕ) → 3 ≤ k → get_or behind.answers k 0 ≡ get_or before.answers k 0
answers_stay zero h = absurd (omega arith)
answers_stay (suc zero) h = absurd (omega arith)
answers_stay (suc (suc zero)) h = absurd (omega arith)
answers_stay (suc (suc (suc k))) h = refl

values_stay : (k : ℕ) → 3 ≤ k → get_or behind.values k (pos 0) ≡ get_or before.values k (pos 0)
values_stay zero h = absurd (omega arith)
values_stay (suc zero) h = absurd (omega arith)
values_stay (suc (suc zero)) h = absurd (omega arith)
values_stay (suc (suc (suc k))) h = refl

pub three_answered : AsksAll at asked before 0 behind
unfolding lesser pick dec_lt
three_answered =
    answered sample_open behind
    (record { as_many_answers = refl; as_many_values = refl; each = each; answers_behind = answers_stay; values_behind = values_stay })
