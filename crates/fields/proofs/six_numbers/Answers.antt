-- `fields::six_numbers` meets its contract.
use mathlib.Core.Path.{◌≡◌, sym, ◌∙◌}
use mir.Syntax.{w32}
use mir.Val.{to_z, of_z}
use borrow.Author.Rules.{rules}
use Rattle.std.proofs.lemmas.Result.{err_from_is_err_and}
use Rattle.fields.proofs.Threes.{six_is, six_right, six_left}
use Rattle.fields.proofs.six_numbers.Goals as goal

pub returns-in_err-a : goal.returns-in_err-a
returns-in_err-a c =
    let p = err_from_is_err_and c.from_residual.result c.from_residual.ensures.1 in
    rw (p.1, p.2) (six_left _ (sym c.three_numbers.ensures ∙ c.in_err-a.was))

pub returns-in_err-d : goal.returns-in_err-d
returns-in_err-d c =
    let p = err_from_is_err_and c.from_residual-in_err-d.result c.from_residual-in_err-d.ensures.1 in
    rw (p.1, p.2) (six_right _ (sym c.three_numbers.ensures ∙ c.in_ok-a.was) (sym c.three_numbers-2.ensures ∙ c.in_err-d.was))

pub returns : goal.returns
returns c =
    let a : to_z w32 (of_z w32 c.in_ok-a.a) ≡ c.in_ok-a.a = search rules in
    let b : to_z w32 (of_z w32 c.in_ok-a.b) ≡ c.in_ok-a.b = search rules in
    let p : to_z w32 (of_z w32 c.in_ok-a.c) ≡ c.in_ok-a.c = search rules in
    let d : to_z w32 (of_z w32 c.in_ok-d.d) ≡ c.in_ok-d.d = search rules in
    let e : to_z w32 (of_z w32 c.in_ok-d.e) ≡ c.in_ok-d.e = search rules in
    let f : to_z w32 (of_z w32 c.in_ok-d.f) ≡ c.in_ok-d.f = search rules in
    rw (a, b, p, d, e, f) (six_is _ (sym c.three_numbers.ensures ∙ c.in_ok-a.was) (sym c.three_numbers-2.ensures ∙ c.in_ok-d.was))
