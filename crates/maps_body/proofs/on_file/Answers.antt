use mathlib.Core.Path.{sym, ap}
use mathlib.Core.Logic.{⊎_elim}
use Rattle.std.specs.Prelude.{Result}
use Rattle.layout.specs.Text.{pad}
use Rattle.reading.specs.Maps.{on_file}
use Rattle.reading.specs.declared.Fault.{Fault}
use Rattle.reading.specs.declared.Place.{Place}
use Rattle.maps_bounds.specs.Steps.{force_of, moved}
use Rattle.maps_bounds.specs.declared.Next.{Next}
use Rattle.maps_body.proofs.on_file.Goals as goal

pub returns-in-Ended : goal.returns-in-Ended
unfolding on_file moved
returns-in-Ended c =
    let a = c.args in
    let at : Place → Result Next Fault = λ q. moved a.epochs.now (on_file a.header q (force_of a.past a.epochs.now) (pad a.line.now)) in
    ⊎_elim (λ e. sym (ap at e)) (λ s. ⊎_elim (λ e. sym (ap at e)) (λ x. sym (ap at x.1)) s) c.in-Ended.is
