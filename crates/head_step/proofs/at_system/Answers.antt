use mathlib.Core.Path.{refl, sym, ◌∙◌, subst}
use native.Mathlib.Omega.{arith}
use Prim.Native.Nat.{◌+◌, ◌<◌}
use Rattle.std.proofs.lemmas.Result.{err_from_is_err_and}
use Rattle.kit.specs.Answer.{bind}
use Rattle.layout.specs.Text.{pad}
use Rattle.mapset.specs.Header.{system}
use Rattle.reading.proofs.SlotLaws.{system_content}
use Rattle.head_said.specs.Tables.{OfNumbers}
use Rattle.head_step.specs.Step.{system_at}
use Rattle.head_step.proofs.StepLaws.{letter_is, is_repeated, heard_ok, heard_no}
use Rattle.head_step.proofs.at_system.Goals as goal

pub returns-in_err-system_record : goal.returns-in_err-system_record
unfolding system_at bind
returns-in_err-system_record c =
    let a = c.args in
    let l = letter_is a.s.now a.line.now c.letter_place.result c.byte_at.result c.byte_at.ensures c.letter_place.ensures.place in
    let p = err_from_is_err_and c.from_residual.result c.from_residual.ensures.1 in
    rw (p.1, p.2, ← l, c.in_default.is, sym c.system_record.ensures, c.in_err-system_record.was) refl

pub returns-in_default : goal.returns-in_default
unfolding system_at bind
returns-in_default c =
    let a = c.args in
    let l = letter_is a.s.now a.line.now c.letter_place.result c.byte_at.result c.byte_at.ensures c.letter_place.ensures.place in
    rw (← l, c.in_default.is, sym c.system_record.ensures, c.in_ok-system_record.was) refl

pub returns-then-is_some : goal.returns-then-is_some
unfolding system_at
returns-then-is_some c =
    let a = c.args in
    let l = letter_is a.s.now a.line.now c.letter_place.result c.byte_at.result c.byte_at.ensures c.letter_place.ensures.place in
    let b : c.in-Some.j < 7 = c.in-Some.ensures.below in
    rw (← l, c.in-Some.is) (sym (is_repeated a.s.now (15 + c.in-Some.j) _ (omega arith) (sym c.is_some.ensures ∙ c.if-is_some.true)))

pub returns-in_err-value : goal.returns-in_err-value
unfolding system_at
returns-in_err-value c =
    let a = c.args in
    let j = c.in-Some.j in
    let l = letter_is a.s.now a.line.now c.letter_place.result c.byte_at.result c.byte_at.ensures c.letter_place.ensures.place in
    let b : j < 7 = c.in-Some.ensures.below in
    let p = err_from_is_err_and c.from_residual-in_err-value.result c.from_residual-in_err-value.ensures.1 in
    rw (← l, c.in-Some.is, p.1, p.2)
    (heard_no a.s.now (15 + j) system (pad a.line.now) (system_content j) (omega arith) (sym c.is_some.ensures ∙ c.if-is_some.false) c.hear_system.result c.hear_system.ensures _ c.in_err-value.was)

pub keep-requires : goal.keep-requires
keep-requires c = let b : c.in-Some.j < 7 = c.in-Some.ensures.below in (omega arith, subst OfNumbers (sym (system_content c.in-Some.j)) tt)

pub returns : goal.returns
unfolding system_at
returns c =
    let a = c.args in
    let j = c.in-Some.j in
    let l = letter_is a.s.now a.line.now c.letter_place.result c.byte_at.result c.byte_at.ensures c.letter_place.ensures.place in
    let b : j < 7 = c.in-Some.ensures.below in
    rw (← l, c.in-Some.is, c.keep.ensures)
    (heard_ok a.s.now (15 + j) system (pad a.line.now) (system_content j) (omega arith) (sym c.is_some.ensures ∙ c.if-is_some.false) c.hear_system.result c.hear_system.ensures _ c.in_ok-value.was)
