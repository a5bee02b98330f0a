-- `bias_line::pair_after` meets its contract.
use mathlib.Core.Path.{refl}
use mir.Syntax.{w32}
use mir.Val.{SFits}
use mir.Facts.{to_z-of_z}
use Rattle.kit.specs.Answer.{bind}
use Rattle.bias_line.specs.Lines.{pair_in, pair_after}
use Rattle.bias_line.proofs.LineLaws.{number_binds, unless_binds}
use borrow.Author.Rules.{rules}
use Rattle.bias_line.proofs.pair_after.Goals as goal

pub returns-in_err-x : goal.returns-in_err-x
unfolding pair_after pair_in bind
returns-in_err-x c = rw (← c.thousandths_at.ensures, number_binds, ← c.in_err-x.ensures) (search rules)

pub returns-in_err-y : goal.returns-in_err-y
unfolding pair_after pair_in bind
returns-in_err-y c = rw (← c.thousandths_at.ensures, number_binds, ← c.in_ok-x.ensures, ← c.thousandths_at-2.ensures, number_binds, ← c.in_err-y.ensures) (search rules)

pub returns-in_err-blank : goal.returns-in_err-blank
unfolding pair_after pair_in bind
returns-in_err-blank c = rw (← c.thousandths_at.ensures, number_binds, ← c.in_ok-x.ensures, ← c.thousandths_at-2.ensures, number_binds, ← c.in_ok-y.ensures, unless_binds, ← c.in_err-blank.ensures) (search rules)

pub returns : goal.returns
unfolding pair_after pair_in bind
returns c =
    let x : SFits w32 c.in_ok-x.x = search rules in
    let y : SFits w32 c.in_ok-y.y = search rules in
    rw (to_z-of_z x, to_z-of_z y, ← c.thousandths_at.ensures, number_binds, ← c.in_ok-x.ensures, ← c.thousandths_at-2.ensures, number_binds, ← c.in_ok-y.ensures, unless_binds, ← c.in_ok-blank.ensures) refl
