use mathlib.Core.Path.{refl, sym, ap, ◌∙◌}
use mathlib.Core.List.{[], ◌∷◌}
use Rattle.areas.specs.Events as event
use Rattle.areas.specs.Scan.{Now, goes}
use Rattle.read_events.proofs.RowLaws.{started}
use Rattle.read_events.proofs.start_other.Goals as goal

pub returns : goal.returns
returns c =
    let a = c.args in
    let i = c.number_in-i.result in
    λ C rs. started a.s a.kind c.requires.1 _ c.number_in-i.ensures refl C rs ∙ ap (λ (z : Now). goes (event.marked a.kind i ∷ []) z) (sym c.begun.ensures)
