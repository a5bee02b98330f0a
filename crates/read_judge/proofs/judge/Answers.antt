use mathlib.Core.Path.{◌≡◌}
use mir.Syntax.{w32}
use mir.Val.{to_z, of_z}
use Rattle.std.proofs.lemmas.Result.{err_from_is_err_and}
use Rattle.read_judge.proofs.JudgeLaws.{refused_maps, accepted_maps}
use borrow.Author.Rules.{rules}
use Rattle.read_judge.proofs.judge.Goals as goal

pub judge_maps-requires : goal.judge_maps-requires
judge_maps-requires c =
    let m = c.in_ok-h.ensures.sound in
    ((m.within, m.passed), (m.header.maps.1, m.header.limits))

pub returns-in_err-some : goal.returns-in_err-some
returns-in_err-some c =
    let e : to_z w32 (of_z w32 c.in_ok-h.h.exponent) ≡ c.in_ok-h.h.exponent = search rules in
    let p = err_from_is_err_and c.from_residual-in_err-some.result c.from_residual-in_err-some.ensures.1 in
    rw (p.1, p.2) (refused_maps _ _ _ c.in_ok-h.ensures (rw e at c.in_err-some.ensures))

pub returns : goal.returns
returns c =
    let e : to_z w32 (of_z w32 c.in_ok-h.h.exponent) ≡ c.in_ok-h.h.exponent = search rules in
    let z = accepted_maps _ _ _ c.in_ok-h.ensures (rw e at c.in_ok-some.ensures) in
    rw e z
