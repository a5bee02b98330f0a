use mathlib.Core.Path.{◌≡◌, refl, ap₂, ◌∙◌}
use mathlib.Core.List.{List, ◌++◌}
use Prim.Native.Nat.{ℕ, ◌+◌, ◌*◌, ◌-◌}
use native.Mathlib.Omega.{arith}
use lib.ListN.{length, take, drop, length-take, length-drop}
use Rattle.forms.specs.Columns.{columns}
use Rattle.head_state.specs.Got.{slots_of, slot}
use Rattle.head_step.proofs.LinesLaws.{twenty_first, one_more}
use Rattle.head_step.proofs.at_description.Goals as goal

pub returns-then-s-ge20 : goal.returns-then-s-ge20
returns-then-s-ge20 c = let a = c.args in twenty_first a.s.now a.lines.now a.line.now c.requires.1 _ a.s.now (omega arith) refl

pub returns : goal.returns
unfolding slots_of slot
returns c =
    let a = c.args in
    let s = a.s.now in
    let bs = a.lines.now in
    let line = a.line.now in
    let at = 60 * s.descriptions in
    let n : at + 60 - at ≡ 60 = omega arith in
    let z : length (take (at + 60 - at) (drop at bs)) ≡ 60 = simp (length-take, length-drop) (omega (arith, c.requires.1.whole)) in
    let d : c.text_into.new.out ≡ columns line 0 60 = c.text_into.ensures ∙ (λ i. columns line 0 (z i)) in
    one_more s bs line c.requires.1 _ _ c.requires.0 (omega arith) _
    (ap₂ (λ (ys : List ℕ) (k : ℕ). take at bs ++ (ys ++ drop k (drop at bs))) d n) refl
