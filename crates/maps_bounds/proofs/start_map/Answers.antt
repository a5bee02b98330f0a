use mathlib.Core.Path.{◌≡◌, refl, sym, ap, ◌∙◌}
use mathlib.Core.Logic.{◌⊎◌, ⊎_elim}
use mathlib.Core.List.{List}
use Prim.Native.Nat.{ℕ}
use Rattle.mapset.specs.declared.Kind.{Kind}
use Rattle.mapset.specs.declared.Kind.TheVariants.{Tec, Rms, Height}
use Rattle.mapset.specs.declared.Header.{Header}
use Rattle.layout.specs.Layout.{Force}
use Rattle.layout.specs.Text.{pad}
use Rattle.reading.specs.Maps.{start_other, start_map}
use Rattle.maps_bounds.specs.Steps.{force_of, moved}
use Rattle.maps_bounds.proofs.start_map.Goals as goal

pub returns-in-Tec : goal.returns-in-Tec
unfolding start_map
returns-in-Tec c =
    let a = c.args in
    c.start_tec.ensures ∙ sym (ap (λ (k : Kind). moved a.epochs.now (start_map k a.header (force_of a.past a.epochs.now) (pad a.line.now))) c.in-Tec.is)

other : (k : Kind) (h : Header) (p : Force) (r : List ℕ) → (k ≡ Rms) ⊎ (k ≡ Height) → start_other k h p r ≡ start_map k h p r
unfolding start_map
other Tec h p r s = absurd (⊎_elim (λ e. cc) (λ e. cc) s)
other Rms h p r s = refl
other Height h p r s = refl

pub returns-in-Rms : goal.returns-in-Rms
returns-in-Rms c =
    let a = c.args in
    c.start_other.ensures ∙ ap (moved a.epochs.now) (other a.kind a.header (force_of a.past a.epochs.now) (pad a.line.now) c.in-Rms.is)
