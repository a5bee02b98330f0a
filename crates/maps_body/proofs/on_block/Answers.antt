use mathlib.Core.Path.{sym, ap, ◌∙◌}
use mathlib.Core.Logic.{⊎_elim}
use Rattle.std.specs.Prelude.{Result}
use Rattle.layout.specs.Text.{pad}
use Rattle.reading.specs.Maps.{on_block}
use Rattle.reading.specs.declared.Fault.{Fault}
use Rattle.reading.specs.declared.Place.{Place}
use Rattle.maps_bounds.specs.Steps.{force_of, moved}
use Rattle.maps_bounds.specs.declared.Next.{Next}
use Rattle.maps_body.proofs.on_block.Goals as goal

pub returns-in-Ended : goal.returns-in-Ended
unfolding on_block moved
returns-in-Ended c =
    λ h es. let a = c.args in
    let at : Place → Result Next Fault = λ q. moved es (on_block a.header q (force_of a.past es) (pad a.line.now)) in
    ⊎_elim (λ e. sym (ap at e)) (λ s. ⊎_elim (λ e. sym (ap at e)) (λ e. sym (ap at e)) s) c.in-Ended.is

pub returns-in-Inside : goal.returns-in-Inside
unfolding on_block moved
returns-in-Inside c =
    λ h es. let a = c.args in
    c.open_block.ensures h es ∙ sym (ap (λ (q : Place). moved es (on_block a.header q (force_of a.past es) (pad a.line.now))) c.in-Inside.is)
