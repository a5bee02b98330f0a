-- `labels::letter_place` meets its contract.
use mathlib.Core.Path.{refl}
use Rattle.kit.specs.Answer.{pick}
use Rattle.kit.proofs.AnswerLaws.{pick_no}
use native.Mathlib.Decide.{ℕ_discrete}
use Rattle.reading.specs.Head.{place}
use Rattle.labels.proofs.letter_place.Goals as goal

pub returns-in-71-clause-place : goal.returns-in-71-clause-place
unfolding place pick ℕ_discrete
returns-in-71-clause-place c = rw c.in-71.is refl

pub returns-in-82-clause-place : goal.returns-in-82-clause-place
unfolding place pick ℕ_discrete
returns-in-82-clause-place c = rw c.in-82.is refl

pub returns-in-69-clause-place : goal.returns-in-69-clause-place
unfolding place pick ℕ_discrete
returns-in-69-clause-place c = rw c.in-69.is refl

pub returns-in-67-clause-place : goal.returns-in-67-clause-place
unfolding place pick ℕ_discrete
returns-in-67-clause-place c = rw c.in-67.is refl

pub returns-in-74-clause-place : goal.returns-in-74-clause-place
unfolding place pick ℕ_discrete
returns-in-74-clause-place c = rw c.in-74.is refl

pub returns-in-73-clause-place : goal.returns-in-73-clause-place
unfolding place pick ℕ_discrete
returns-in-73-clause-place c = rw c.in-73.is refl

pub returns-in-83-clause-place : goal.returns-in-83-clause-place
unfolding place pick ℕ_discrete
returns-in-83-clause-place c = rw c.in-83.is refl

pub returns-in_default-clause-place : goal.returns-in_default-clause-place
unfolding place
returns-in_default-clause-place c = rw (pick_no (ℕ_discrete c.args.b 71) _ _ c.in_default.in_default-own.rest.0.0.0.0.0.0.1, pick_no (ℕ_discrete c.args.b 82) _ _ c.in_default.in_default-own.rest.0.0.0.0.0.1, pick_no (ℕ_discrete c.args.b 69) _ _ c.in_default.in_default-own.rest.0.0.0.0.1, pick_no (ℕ_discrete c.args.b 67) _ _ c.in_default.in_default-own.rest.0.0.0.1, pick_no (ℕ_discrete c.args.b 74) _ _ c.in_default.in_default-own.rest.0.0.1, pick_no (ℕ_discrete c.args.b 73) _ _ c.in_default.in_default-own.rest.0.1, pick_no (ℕ_discrete c.args.b 83) _ _ c.in_default.in_default-own.rest.1) refl
