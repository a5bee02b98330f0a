use mathlib.Core.Path.{sym, ap, ◌∙◌}
use mathlib.Core.Logic.{⊎_elim}
use Rattle.std.specs.Prelude.{Result}
use Rattle.layout.specs.Text.{pad}
use Rattle.reading.specs.Maps.{on_end}
use Rattle.reading.specs.declared.Fault.{Fault}
use Rattle.reading.specs.declared.Place.{Place}
use Rattle.maps_bounds.specs.Steps.{force_of, moved}
use Rattle.maps_bounds.specs.declared.Next.{Next}
use Rattle.maps_bounds.proofs.on_end.Goals as goal

pub returns-in-Ended : goal.returns-in-Ended
unfolding on_end moved
returns-in-Ended c =
    λ h es. let a = c.args in
    let at : Place → Result Next Fault = λ q. moved es (on_end h q (force_of a.past es) a.kind (pad a.line.now)) in
    ⊎_elim (λ e. sym (ap at e)) (λ e. sym (ap at e)) c.in-Ended.is

pub returns-in-Early : goal.returns-in-Early
unfolding on_end moved
returns-in-Early c =
    λ h es. let a = c.args in
    c.end_early.ensures h es ∙ sym (ap (λ (q : Place). moved es (on_end h q (force_of a.past es) a.kind (pad a.line.now))) c.in-Early.is)

pub returns-in-Inside : goal.returns-in-Inside
unfolding on_end moved
returns-in-Inside c =
    λ h es. let a = c.args in
    c.end_map.ensures h es ∙ sym (ap (λ (q : Place). moved es (on_end h q (force_of a.past es) a.kind (pad a.line.now))) c.in-Inside.is)
