use native.Mathlib.Omega.{arith}
use lib.ListN.{length}
use mathlib.Core.Path.{◌≡◌, ap}
use Rattle.layout.specs.Layout.{Slots, mode}
use Rattle.head_state.specs.Got.{went}
use Rattle.head_state.proofs.GotLaws.{value_kept}
use borrow.Author.Rules.{rules}
use Rattle.head_state.proofs.keep.Goals as goal

pub returns : goal.returns
returns c =
    let a = c.args in
    let s = a.s.now in
    let n : length s.values ≡ 22 = search rules in
    ap (λ (z : Slots). went (mode s.aux) s.exponent z s.descriptions) (value_kept s a.i a.value (omega arith) c.requires.1)
