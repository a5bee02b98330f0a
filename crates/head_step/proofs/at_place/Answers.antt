use mathlib.Core.Path.{◌≡◌, sym, ap, ◌∙◌}
use native.Mathlib.Omega.{arith}
use Rattle.std.proofs.lemmas.Result.{err_from_is_err_and}
use Rattle.layout.specs.Text.{pad}
use Rattle.layout.specs.Labels.{content}
use Rattle.mapset.specs.Header.{Content, program, mapping, observables}
use Rattle.head_said.specs.Records.{entry}
use Rattle.head_said.specs.Tables.{numbers_of, content_of}
use Rattle.head_said.proofs.TableLaws.{content_at, numbers}
use Rattle.head_state.proofs.GotLaws.{program_place, mapping_place, observables_place}
use Rattle.head_step.specs.Step.{fresh}
use Rattle.head_step.proofs.StepLaws.{is_repeated, fresh_at, heard_ok, heard_no}
use Rattle.head_step.proofs.at_place.Goals as goal

pub returns-then-is_some : goal.returns-then-is_some
returns-then-is_some c = sym (is_repeated c.args.s.now c.args.i _ (omega arith) (sym c.is_some.ensures ∙ c.if-is_some.true))

pub keep-requires : goal.keep-requires
keep-requires c =
    let e : content c.args.i ≡ numbers_of c.in-Numbers.which = sym (content_at c.args.i _ (omega arith)) ∙ ap content_of c.in-Numbers.is in
    (omega arith, rw e (numbers c.in-Numbers.which))

pub returns-in_err-value-in-Numbers : goal.returns-in_err-value-in-Numbers
returns-in_err-value-in-Numbers c =
    let s = c.args.s.now in
    let i = c.args.i in
    let r = pad c.args.line.now in
    let e : content i ≡ numbers_of c.in-Numbers.which = sym (content_at i _ (omega arith)) ∙ ap content_of c.in-Numbers.is in
    let p = err_from_is_err_and c.from_residual.result c.from_residual.ensures.1 in
    rw (p.1, p.2) (heard_no s i _ r e (omega arith) (sym c.is_some.ensures ∙ c.if-is_some.false) c.hear.result c.hear.ensures _ c.in_err-value-in-Numbers.was ∙ ap (λ (k : Content). fresh s i (entry k r)) (sym e))

pub returns-in_ok-value-in-Numbers : goal.returns-in_ok-value-in-Numbers
returns-in_ok-value-in-Numbers c =
    let s = c.args.s.now in
    let i = c.args.i in
    let r = pad c.args.line.now in
    let e : content i ≡ numbers_of c.in-Numbers.which = sym (content_at i _ (omega arith)) ∙ ap content_of c.in-Numbers.is in
    rw c.keep.ensures (heard_ok s i _ r e (omega arith) (sym c.is_some.ensures ∙ c.if-is_some.false) c.hear.result c.hear.ensures _ c.in_ok-value-in-Numbers.was ∙ ap (λ (k : Content). fresh s i (entry k r)) (sym e))

pub returns-in-Program : goal.returns-in-Program
returns-in-Program c =
    let i = c.args.i in
    let e : content i ≡ program = sym (content_at i _ (omega arith)) ∙ ap content_of c.in-Program.is in
    c.keep_program.ensures ∙ fresh_at c.args.s.now i 0 program _ (program_place i e) e (omega arith) (sym c.is_some.ensures ∙ c.if-is_some.false)

pub returns-in-Mapping : goal.returns-in-Mapping
returns-in-Mapping c =
    let i = c.args.i in
    let e : content i ≡ mapping = sym (content_at i _ (omega arith)) ∙ ap content_of c.in-Mapping.is in
    c.keep_mapping.ensures ∙ fresh_at c.args.s.now i 5 mapping _ (mapping_place i e) e (omega arith) (sym c.is_some.ensures ∙ c.if-is_some.false)

pub returns-in-Observables : goal.returns-in-Observables
returns-in-Observables c =
    let i = c.args.i in
    let e : content i ≡ observables = sym (content_at i _ (omega arith)) ∙ ap content_of c.in-Observables.is in
    c.keep_observables.ensures ∙ fresh_at c.args.s.now i 7 observables _ (observables_place i e) e (omega arith) (sym c.is_some.ensures ∙ c.if-is_some.false)
