use mathlib.Core.Path.{◌≡◌, ◌∙◌, sym}
use mathlib.Core.List.{List}
use Prim.Native.Nat.{ℕ, ◌+◌, ◌≤◌}
use native.Mathlib.Omega.{arith}
use lib.ListN.{drop, length, drop_of_length-le}
use Rattle.layout.specs.Labels.{name}
use Rattle.layout.specs.Names.{names, number_of, place_of}
use Rattle.layout.proofs.Laws.{label_length}
use Rattle.labels.proofs.Laws.{place_of_next, place_of_here}
use Rattle.labels.proofs.search.Goals as goal

pub has_label-requires : goal.has_label-requires
unfolding names name
has_label-requires c = label_length c.loop-k.k c.loop-k-test.true

pub returns-then-has_label : goal.returns-then-has_label
unfolding names name number_of
returns-then-has_label c =
    let k = c.loop-k.k in
    omega (arith, c.loop-k.invariant, place_of_here c.args.line.now 60 names k c.loop-k-test.true (sym c.has_label.ensures ∙ c.if-has_label.true))

pub loop-k-preserved : goal.loop-k-preserved
unfolding names name
loop-k-preserved c =
    let k = c.loop-k.k in
    omega (arith, c.loop-k.invariant, place_of_next c.args.line.now 60 names k c.loop-k-test.true (sym c.has_label.ensures ∙ c.if-has_label.false))

no_more : (s : List ℕ) (k : ℕ) → k ≤ 32 → 32 ≤ k → k + place_of s 60 (drop k names) ≡ place_of s 60 names → ◌≡◌ {A = ℕ} 32 (number_of s)
unfolding number_of
no_more s k h g i =
    let n : length names ≤ k = unfold names in g in
    omega (arith, rw (drop_of_length-le names n) at i)

pub returns : goal.returns
returns c = no_more _ c.loop-k.k (omega arith) (omega arith) c.loop-k.invariant
