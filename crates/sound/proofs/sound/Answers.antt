-- `sound::sound` meets its contract.
use mathlib.Core.Path.{sym, ◌∙◌}
use mathlib.Core.Logic.{⊎_elim}
use native.Mathlib.Omega.{arith}
use lib.ListN.{take}
use Rattle.kit.specs.Answer.{×_dec}
use Rattle.kit.proofs.TruthLaws.{truth_true, truth_false, fails, both, truth_same}
use Rattle.mapset.specs.Described.{full}
use Rattle.mapset.specs.Areas.{six}
use Rattle.mapset.specs.Sound.{lengths, epochs?, marks?, lengths?}
use Rattle.mapset.specs.SoundDecided.{sound?}
use Rattle.mapset.proofs.Groups.{sound_groups, groups_sound}
use Rattle.sound.proofs.sound.Goals as goal

pub returns-then-not-header_fits : goal.returns-then-not-header_fits
returns-then-not-header_fits c = fails (sound? _ _ _) (λ s. truth_false _ (sym c.header_fits.ensures ∙ c.if-not-header_fits.true) (sound_groups _ _ _ s).0)

pub returns-then-epochs-maps : goal.returns-then-epochs-maps
returns-then-epochs-maps c = fails (sound? _ _ _) (λ s. ⊎_elim (λ h. omega (arith, h, s.room.epochs)) (λ h. omega (arith, h.1, s.room.marks)) c.then-epochs-maps.either)

pub lengths_fit-requires : goal.lengths_fit-requires
lengths_fit-requires c = (truth_true _ (sym c.header_fits.ensures ∙ c.if-not-header_fits.false)).1.1.1.1.1.1.1.1.1

pub returns : goal.returns
unfolding marks?
returns c =
    let s = c.args in
    let h = s.header in
    let t = full s.texts s.descriptions.now in
    let a = six s.tec.now s.rms.now s.height.now s.exponents.now s.epochs.now s.marks.now in
    let e = epochs? h.times (take h.times.maps s.epochs.now) in
    let m = marks? (take h.times.maps s.marks.now) in
    let l = lengths? h (take h.times.maps s.marks.now) (lengths a) in
    both e (×_dec m l) c.epochs_fit.ensures (both m l c.all_within.ensures c.lengths_fit.ensures)
    ∙ truth_same (×_dec e (×_dec m l)) (sound? h t a)
    (λ g. groups_sound h t a (truth_true _ (sym c.header_fits.ensures ∙ c.if-not-header_fits.false), (c.if-epochs-maps.false, (c.if-marks-maps.false, g))))
    (λ g. (sound_groups h t a g).1.1.1)
