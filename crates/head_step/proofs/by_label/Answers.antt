use mathlib.Core.Path.{refl, sym, ap, ◌∙◌}
use Rattle.std.proofs.lemmas.Result.{err_from_is_err_and}
use Rattle.std.specs.Prelude.{Result}
use Rattle.mapset.specs.declared.Header.{Header}
use Rattle.reading.specs.declared.Fault.{Fault}
use Rattle.head_state.specs.Got.{slots_of, slot, told_kept}
use Rattle.head_step.specs.declared.Action.TheVariants as A
use Rattle.head_step.specs.Step.{acted, told_end}
use Rattle.head_step.proofs.StepLaws.{known_is, description_step, place_below}
use Rattle.head_step.proofs.by_label.Goals as goal

pub at_place-requires : goal.at_place-requires
at_place-requires c = (place_below c.args.k _ c.requires.label.1 c.in-Record.is, c.requires.state.0)

pub returns-in-Misplaced : goal.returns-in-Misplaced
unfolding acted
returns-in-Misplaced c = let a = c.args in known_is a.s.now a.version a.lines.now a.line.now c.requires.state.0 c.requires.state.2 c.requires.state.1 a.k c.requires.label.0 c.requires.label.1 A.Misplaced c.in-Misplaced.is tt _ _ refl

pub returns-in-Skipped : goal.returns-in-Skipped
unfolding acted
returns-in-Skipped c = let a = c.args in known_is a.s.now a.version a.lines.now a.line.now c.requires.state.0 c.requires.state.2 c.requires.state.1 a.k c.requires.label.0 c.requires.label.1 A.Skipped c.in-Skipped.is tt _ _ refl

pub returns-in-AuxStart : goal.returns-in-AuxStart
unfolding acted slots_of slot
returns-in-AuxStart c = let a = c.args in known_is a.s.now a.version a.lines.now a.line.now c.requires.state.0 c.requires.state.2 c.requires.state.1 a.k c.requires.label.0 c.requires.label.1 A.AuxStart c.in-AuxStart.is tt _ _ refl

pub returns-in_err-at_exponent-in-Exponent : goal.returns-in_err-at_exponent-in-Exponent
unfolding acted
returns-in_err-at_exponent-in-Exponent c =
    let a = c.args in
    let p = err_from_is_err_and c.from_residual.result c.from_residual.ensures.1 in
    rw (p.1, p.2) (known_is a.s.now a.version a.lines.now a.line.now c.requires.state.0 c.requires.state.2 c.requires.state.1 a.k c.requires.label.0 c.requires.label.1 A.Exponent c.in-Exponent.is tt _ _ (ap (λ (x : Result (Unit {0}) Fault). told_kept x c.at_exponent.new.s) (sym c.in_err-at_exponent-in-Exponent.was) ∙ c.at_exponent.ensures))

pub returns-in_ok-at_exponent-in-Exponent : goal.returns-in_ok-at_exponent-in-Exponent
unfolding acted
returns-in_ok-at_exponent-in-Exponent c =
    let a = c.args in
    known_is a.s.now a.version a.lines.now a.line.now c.requires.state.0 c.requires.state.2 c.requires.state.1 a.k c.requires.label.0 c.requires.label.1 A.Exponent c.in-Exponent.is tt _ _ (ap (λ (x : Result (Unit {0}) Fault). told_kept x c.at_exponent.new.s) (sym c.in_ok-at_exponent-in-Exponent.was) ∙ c.at_exponent.ensures)

pub returns-in_err-at_place-in-Record : goal.returns-in_err-at_place-in-Record
unfolding acted
returns-in_err-at_place-in-Record c =
    let a = c.args in
    let p = err_from_is_err_and c.from_residual-in_err-at_place-in-Record.result c.from_residual-in_err-at_place-in-Record.ensures.1 in
    rw (p.1, p.2) (known_is a.s.now a.version a.lines.now a.line.now c.requires.state.0 c.requires.state.2 c.requires.state.1 a.k c.requires.label.0 c.requires.label.1 (A.Record _) c.in-Record.is tt _ _ (ap (λ (x : Result (Unit {0}) Fault). told_kept x c.at_place.new.s) (sym c.in_err-at_place-in-Record.was) ∙ c.at_place.ensures))

pub returns-in_ok-at_place-in-Record : goal.returns-in_ok-at_place-in-Record
unfolding acted
returns-in_ok-at_place-in-Record c =
    let a = c.args in
    known_is a.s.now a.version a.lines.now a.line.now c.requires.state.0 c.requires.state.2 c.requires.state.1 a.k c.requires.label.0 c.requires.label.1 (A.Record _) c.in-Record.is tt _ _ (ap (λ (x : Result (Unit {0}) Fault). told_kept x c.at_place.new.s) (sym c.in_ok-at_place-in-Record.was) ∙ c.at_place.ensures)

pub returns-in_err-at_system-in-System : goal.returns-in_err-at_system-in-System
unfolding acted
returns-in_err-at_system-in-System c =
    let a = c.args in
    let p = err_from_is_err_and c.from_residual-in_err-at_system-in-System.result c.from_residual-in_err-at_system-in-System.ensures.1 in
    rw (p.1, p.2) (known_is a.s.now a.version a.lines.now a.line.now c.requires.state.0 c.requires.state.2 c.requires.state.1 a.k c.requires.label.0 c.requires.label.1 A.System c.in-System.is tt _ _ (ap (λ (x : Result (Unit {0}) Fault). told_kept x c.at_system.new.s) (sym c.in_err-at_system-in-System.was) ∙ c.at_system.ensures))

pub returns-in_ok-at_system-in-System : goal.returns-in_ok-at_system-in-System
unfolding acted
returns-in_ok-at_system-in-System c =
    let a = c.args in
    known_is a.s.now a.version a.lines.now a.line.now c.requires.state.0 c.requires.state.2 c.requires.state.1 a.k c.requires.label.0 c.requires.label.1 A.System c.in-System.is tt _ _ (ap (λ (x : Result (Unit {0}) Fault). told_kept x c.at_system.new.s) (sym c.in_ok-at_system-in-System.was) ∙ c.at_system.ensures)

pub returns-in_err-header-in-HeaderEnd : goal.returns-in_err-header-in-HeaderEnd
unfolding acted
returns-in_err-header-in-HeaderEnd c =
    let a = c.args in
    let p = err_from_is_err_and c.from_residual-in_err-header-in-HeaderEnd.result c.from_residual-in_err-header-in-HeaderEnd.ensures.1 in
    rw (p.1, p.2) (known_is a.s.now a.version a.lines.now a.line.now c.requires.state.0 c.requires.state.2 c.requires.state.1 a.k c.requires.label.0 c.requires.label.1 A.HeaderEnd c.in-HeaderEnd.is tt _ _ (ap (λ (x : Result (Header) Fault). told_end x a.s.now) (sym c.in_err-header-in-HeaderEnd.was) ∙ c.at_end.ensures))

pub returns-in_ok-header-in-HeaderEnd : goal.returns-in_ok-header-in-HeaderEnd
unfolding acted
returns-in_ok-header-in-HeaderEnd c =
    let a = c.args in
    known_is a.s.now a.version a.lines.now a.line.now c.requires.state.0 c.requires.state.2 c.requires.state.1 a.k c.requires.label.0 c.requires.label.1 A.HeaderEnd c.in-HeaderEnd.is tt _ _ (ap (λ (x : Result (Header) Fault). told_end x a.s.now) (sym c.in_ok-header-in-HeaderEnd.was) ∙ c.at_end.ensures)

pub returns-in_err-at_description-in-Description : goal.returns-in_err-at_description-in-Description
returns-in_err-at_description-in-Description c =
    let a = c.args in
    let p = err_from_is_err_and c.from_residual-in_err-at_description-in-Description.result c.from_residual-in_err-at_description-in-Description.ensures.1 in
    rw (p.1, p.2) (description_step a.s.now a.version a.lines.now a.line.now c.requires.state.0 c.requires.state.2 c.requires.state.1 a.k c.requires.label.0 c.requires.label.1 A.Description c.in-Description.is refl _ c.at_description.result _ _ (ap (λ (x : Result (Unit {0}) Fault). told_kept x c.at_description.new.s) (sym c.in_err-at_description-in-Description.was)) c.at_description.ensures)

pub returns-in_ok-at_description-in-Description : goal.returns-in_ok-at_description-in-Description
returns-in_ok-at_description-in-Description c =
    let a = c.args in
    description_step a.s.now a.version a.lines.now a.line.now c.requires.state.0 c.requires.state.2 c.requires.state.1 a.k c.requires.label.0 c.requires.label.1 A.Description c.in-Description.is refl _ c.at_description.result _ _ (ap (λ (x : Result (Unit {0}) Fault). told_kept x c.at_description.new.s) (sym c.in_ok-at_description-in-Description.was)) c.at_description.ensures
