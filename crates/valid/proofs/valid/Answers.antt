-- `valid::valid` meets its contract.
use mathlib.Core.Path.{◌≡◌, sym, ◌∙◌}
use Rattle.kit.specs.Truth.{truth}
use Rattle.kit.proofs.TruthLaws.{truth_true, truth_false}
use Rattle.mapset.specs.Described.{full}
use Rattle.mapset.specs.Areas.{six}
use Rattle.areas.specs.Valid.{needed}
use Rattle.valid.specs.Groups.{rest?}
use Rattle.valid.proofs.Whole.{validity_rest, validity_unsound, sound_long}
use Rattle.valid.proofs.valid.Goals as goal

pub rest_fits-requires : goal.rest_fits-requires
rest_fits-requires c =
    let s = c.args in
    let t = full s.texts s.descriptions.now in
    let a = six s.tec.now s.rms.now s.height.now s.exponents.now s.epochs.now s.marks.now in
    let l = sound_long s.header t a (truth_true _ (sym c.sound.ensures ∙ c.if-sound.true)) in
    record { maps = l.maps; limits = l.limits; marks = l.marks; lengths = l.lengths }

pub returns-then-sound : goal.returns-then-sound
unfolding rest? needed
returns-then-sound c =
    let s = c.args in
    let t = full s.texts s.descriptions.now in
    let a = six s.tec.now s.rms.now s.height.now s.exponents.now s.epochs.now s.marks.now in
    let e : c.rest_fits.result ≡ truth (rest? s.header a) = c.rest_fits.ensures in
    e ∙ validity_rest s.header t a (truth_true _ (sym c.sound.ensures ∙ c.if-sound.true))

pub returns-else-sound : goal.returns-else-sound
returns-else-sound c =
    let s = c.args in
    let t = full s.texts s.descriptions.now in
    let a = six s.tec.now s.rms.now s.height.now s.exponents.now s.epochs.now s.marks.now in
    c.if-sound.false ∙ validity_unsound s.header t a (truth_false _ (sym c.sound.ensures ∙ c.if-sound.false))
