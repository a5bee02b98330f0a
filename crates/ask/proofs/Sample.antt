-- A question that has a value, so that nothing that refuses every question meets the contract: the corners 100, 200 over 300, 400
-- under exponent -1, halfway between the rows and the columns, give 25,000.
use mathlib.Core.Path.{◌≡◌, refl}
use mathlib.Core.Logic.{inl, inr}
use mathlib.Core.List.{[], ◌∷◌}
use Prim.Native.Nat.{ℕ}
use native.Mathlib.Decide.{ℕ_discrete, dec_lt}
use native.Mathlib.Omega.{arith}
use lib.IntN.{pos, negsuc}
use lib.ListN.{replicate}
use Rattle.kit.specs.Answer.{pick, ×_dec, ⊎_dec, ¬_dec, all_dec}
use Rattle.kit.specs.Truth.{dec_by}
use Rattle.kit.proofs.TruthLaws.{truth_true}
use Rattle.kit.specs.Integer.{le?, int?, between?}
use Rattle.mapset.specs.Areas.{Areas, present?, Sound, six}
use Rattle.mapset.specs.SoundDecided.{sound?}
use Rattle.ask_round.specs.Rounded.{rounded}
use Rattle.ask_cells.specs.Place.{next, InCell100}
use Rattle.ask_spans.specs.Time.{alone, Uses, nearest}
use Rattle.ask_nodes.specs.Value.{is_value?, worth, value}
use Rattle.ask_sums.specs.Mean.{by_column, corners, spread, terms, weighted, weight}
use Rattle.ask_sums.specs.Sums.{valued?, mean}
unfoldable pub use Rattle.ask.specs.Sample.{header, texts}
use Rattle.ask.specs.Ask.{Question, epochs, question, tecu, refused, Answers}
use Rattle.ask.proofs.AskLaws.{answered}
use Rattle.ask.proofs.Once.{answers_once}
use Rattle.ask.proofs.Reckoned.{judged_sound}
use Rattle.ask_cells.specs.declared.Cell.{Cell}

unfoldable pub held : Areas
held = six (pos 100 ∷ pos 200 ∷ pos 300 ∷ pos 400 ∷ []) [] [] (replicate 6 (negsuc 0)) (0 ∷ []) (0 ∷ [])

-- TEC at 0.50, 0.50
unfoldable pub sample : Question
sample = question header texts held 0 0 0 (pos 50) (pos 50) 0

pub sound : Sound header texts held
unfolding judged_sound header texts held
sound = truth_true (sound? header texts held) refl

-- half of a step past the first row and the first column
unfoldable middle : Cell
middle = record { row = 0; down = 50; tall = 100; column = 0; right = 1; across = 50; wide = 100 }

inside : InCell100 header.grid (pos 50) (pos 50) middle
unfolding header middle
inside = record {
  row = record { far = 50; from_first = refl; sits = record { place = refl; less = omega arith; node = omega arith; next = inr (omega arith) } };
  tall = refl;
  column = record { east = 50; from_first = record { below = omega arith; turns = pos 0; whole = refl }; right = next (λ h. omega (arith, h.1)); sits = record { place = refl; less = omega arith; node = omega arith; next = inr (omega arith) } };
  wide = refl;
}

uses : Uses (epochs sample) 0 0 (alone 0)
unfolding sample header held
uses = nearest 0 refl (record { map = omega arith; near = λ j h. omega arith; earlier = λ j h. absurd (omega arith) })

sample_answer : Answers sample (tecu (pos 25000))
unfolding sample header middle held rounded mean valued? weighted weight ⊎_dec all_dec terms spread corners by_column dec_lt value worth is_value? between? present? pick ×_dec ¬_dec dec_by le? int? ℕ_discrete
sample_answer =
    answered sample sound (inl (omega arith)) (alone 0) uses middle middle (record { first_in = inside; second_in = inl (refl, refl) })
    (omega arith, omega arith) (omega arith, omega arith) (record { layer = omega arith; cell = middle; place = inside }) (tecu (pos 25000)) refl

-- it is not refused
pub not_refused : (n : ℕ) → ¬ Answers sample (refused n)
not_refused n a = let e = answers_once sample (tecu (pos 25000)) (refused n) sample_answer a in let z : ◌≡◌ {A = ℕ} 0 1 = cc in omega arith
