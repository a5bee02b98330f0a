use mathlib.Core.Path.{sym, ap, ◌∙◌}
use mathlib.Core.List.{[]}
use Prim.Native.Nat.{suc}
use Rattle.reading.specs.declared.Place.{Place}
use Rattle.maps_bounds.specs.Steps.{force_of}
use Rattle.maps.specs.Turns.{ended_with}
use Rattle.maps.proofs.TurnLaws.{finish_ended, finish_early}
use Rattle.maps.proofs.finish_at.Goals as goal

pub returns-in-Ended : goal.returns-in-Ended
returns-in-Ended c =
    let a = c.args in
    finish_ended a.past (suc a.lines) ∙ sym (ap (λ (q : Place). ended_with q (force_of a.past []) (suc a.lines)) c.in-Ended.is)

pub returns-in-Between : goal.returns-in-Between
returns-in-Between c = let a = c.args in finish_early (force_of a.past []) a.lines c.requires a.place c.in-Between.is
