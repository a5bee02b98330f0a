use mathlib.Core.Path.{◌∙◌}
use Prim.Native.Nat.{◌+◌}
use native.Mathlib.Omega.{arith}
use lib.ListN.{set}
use Rattle.std.proofs.lemmas.List.Edits.{paste_more}
use Rattle.join_lists.proofs.copy_at.Goals as goal

pub loop-j-preserved : goal.loop-j-preserved
loop-j-preserved g c =
    let l = c.loop-j in
    let a = c.args in
    (λ i. set (l.invariant i) (a.at + l.j) (c.index-src-j.is i)) ∙ paste_more a.out.now a.at a.src.now l.j c.index-src-j.result (omega (arith, c.requires, c.loop-j-test.true)) (omega (arith, c.loop-j-test.true))
