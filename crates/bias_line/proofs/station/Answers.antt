-- `bias_line::station` meets its contract.
use mir.Syntax.{w32}
use mir.Val.{SFits}
use mir.Facts.{to_z-of_z}
use Rattle.kit.specs.Answer.{bind}
use Rattle.bias_line.proofs.LineLaws.{unless_binds, station_is}
use borrow.Author.Rules.{rules}
use Rattle.bias_line.proofs.station.Goals as goal

pub returns-in_err-blank : goal.returns-in_err-blank
unfolding bind
returns-in_err-blank c = rw (station_is c.args.line.now c.requires, unless_binds, ← c.in_err-blank.ensures) (search rules)

pub returns-in_err-blank-2 : goal.returns-in_err-blank-2
unfolding bind
returns-in_err-blank-2 c = rw (station_is c.args.line.now c.requires, unless_binds, ← c.in_ok-blank.ensures, unless_binds, ← c.in_err-blank-2.ensures) (search rules)

pub returns-in_err-bias : goal.returns-in_err-bias
unfolding bind
returns-in_err-bias c = rw (station_is c.args.line.now c.requires, unless_binds, ← c.in_ok-blank.ensures, unless_binds, ← c.in_ok-blank-2.ensures, ← c.in_err-bias.ensures) (search rules)

pub returns : goal.returns
unfolding bind
returns c =
    let b : SFits w32 c.in_ok-bias.bias = search rules in
    let e : SFits w32 c.in_ok-bias.rms = search rules in
    rw (station_is c.args.line.now c.requires, unless_binds, ← c.in_ok-blank.ensures, unless_binds, ← c.in_ok-blank-2.ensures, ← c.in_ok-bias.ensures)
    (rw (to_z-of_z b, to_z-of_z e) at c.station_meant.ensures)
