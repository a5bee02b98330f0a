-- `kit::copy_at` meets its contract.
use mathlib.Core.Path.{◌≡◌, ap, sym, ◌∙◌}
use mathlib.Core.List.{◌++◌}
use Prim.Native.Nat.{◌+◌}
use native.Mathlib.Omega.{arith}
use lib.ListN.{length, set, take, drop}
use lib.Seq.{paste, sets-eq, take-length}
use Rattle.std.proofs.lemmas.List.Edits.{paste_more}
use Rattle.kit.proofs.copy_at.Goals as goal

pub loop-i-preserved : goal.loop-i-preserved
loop-i-preserved g c =
    let l = c.loop-i in
    let a = c.args in
    (λ i. set (l.invariant i) (a.at + l.i) (c.index-from-i.is i)) ∙ paste_more a.out.now a.at a.from.now l.i c.index-from-i.result (omega (arith, c.requires, c.loop-i-test.true)) (omega (arith, c.loop-i-test.true))

pub returns : goal.returns
returns g c =
    let l = c.loop-i in
    let a = c.args in
    let e : l.i ≡ length a.from.now = omega arith in
    let s = a.from.now in
    let d = a.out.now in
    l.invariant ∙ ap (paste d a.at s) e ∙ ap (λ x. (take a.at d ++ x) ++ drop (a.at + length s) d) (take-length s) ∙ sym (sets-eq s d a.at c.requires)
