-- `ask_round::round_half_away` meets its contract.
use mathlib.Core.Path.{sym, ◌∙◌}
use mir.Syntax.{w64}
use mir.Facts.{to_z-of_z}
use Rattle.ask_round.proofs.RoundLaws.{round_by_sign}
use Rattle.ask_round.proofs.round_half_away.Goals as goal

pub returns : goal.returns
returns c =
    to_z-of_z {w = w64} (record { sfits = c.with_sign.type_inv })
    ∙ (rw (to_z-of_z c.ranges.s, c.round_abs-m.ensures, c.unsigned_abs.ensures.value, to_z-of_z c.ranges.s) at c.with_sign.ensures)
    ∙ sym (round_by_sign c.args.s c.args.d)
