use mathlib.Core.Path.{sym, ap, ◌∙◌}
use mathlib.Core.Logic.{⊎_elim}
use Rattle.std.specs.Prelude.{Result}
use Rattle.layout.specs.Text.{pad}
use Rattle.reading.specs.Maps.{on_epoch}
use Rattle.reading.specs.declared.Fault.{Fault}
use Rattle.reading.specs.declared.Place.{Place}
use Rattle.maps_bounds.specs.Steps.{force_of, moved}
use Rattle.maps_bounds.specs.declared.Next.{Next}
use Rattle.maps_body.proofs.on_epoch.Goals as goal

pub returns-in-Ended : goal.returns-in-Ended
unfolding on_epoch moved
returns-in-Ended c =
    let a = c.args in
    let at : Place → Result Next Fault = λ q. moved a.epochs.now (on_epoch a.header q (force_of a.past a.epochs.now) (pad a.line.now)) in
    ⊎_elim (λ e. sym (ap at e)) (λ e. sym (ap at e)) c.in-Ended.is

pub returns-in-Early : goal.returns-in-Early
unfolding on_epoch moved
returns-in-Early c =
    let a = c.args in
    c.epoch_tec.ensures ∙ sym (ap (λ (q : Place). moved a.epochs.now (on_epoch a.header q (force_of a.past a.epochs.now) (pad a.line.now))) c.in-Early.is)

pub returns-in-Inside : goal.returns-in-Inside
unfolding on_epoch moved
returns-in-Inside c =
    let a = c.args in
    c.epoch_other.ensures ∙ sym (ap (λ (q : Place). moved a.epochs.now (on_epoch a.header q (force_of a.past a.epochs.now) (pad a.line.now))) c.in-Inside.is)
