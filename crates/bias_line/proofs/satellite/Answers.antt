-- `bias_line::satellite` meets its contract.
use mir.Syntax.{w32}
use mir.Val.{SFits}
use mir.Facts.{to_z-of_z}
use Rattle.kit.specs.Answer.{bind}
use Rattle.forms.proofs.ColumnLaws.{one_column}
use Rattle.bias_line.proofs.LineLaws.{number_binds, unless_binds, satellite_is}
use borrow.Author.Rules.{rules}
use Rattle.bias_line.proofs.satellite.Goals as goal

pub returns-in_err-blank : goal.returns-in_err-blank
unfolding bind
returns-in_err-blank c = rw (satellite_is c.args.line.now c.requires, unless_binds, ← c.in_err-blank.ensures) (search rules)

pub returns-in_err-prn : goal.returns-in_err-prn
unfolding bind
returns-in_err-prn c = rw (satellite_is c.args.line.now c.requires, unless_binds, ← c.in_ok-blank.ensures, ← c.int_at.ensures, number_binds, ← c.in_err-prn.ensures) (search rules)

pub returns-in_err-bias : goal.returns-in_err-bias
unfolding bind
returns-in_err-bias c = rw (satellite_is c.args.line.now c.requires, unless_binds, ← c.in_ok-blank.ensures, ← c.int_at.ensures, number_binds, ← c.in_ok-prn.ensures, ← c.in_err-bias.ensures) (search rules)

pub returns : goal.returns
unfolding bind
returns c =
    let n : SFits w32 c.in_ok-prn.prn = search rules in
    let b : SFits w32 c.in_ok-bias.bias = search rules in
    let e : SFits w32 c.in_ok-bias.rms = search rules in
    rw (satellite_is c.args.line.now c.requires, unless_binds, ← c.in_ok-blank.ensures, ← c.int_at.ensures, number_binds, ← c.in_ok-prn.ensures, ← c.in_ok-bias.ensures, one_column c.args.line.now 3, ← c.byte_at.ensures)
    (rw (to_z-of_z n, to_z-of_z b, to_z-of_z e) at c.satellite_meant.ensures)
