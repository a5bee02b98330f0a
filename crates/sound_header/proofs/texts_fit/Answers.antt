-- `sound_header::texts_fit` meets its contract.
use borrow.Author.Rules.{rules}
use Rattle.kit.specs.Answer.{×_dec}
use Rattle.kit.proofs.TruthLaws.{both}
use Rattle.mapset.specs.Sound.{texts?, lines?}
use Rattle.mapset.specs.SoundDecided.{written?}
use Rattle.mapset.proofs.SoundLaws.{written}
use Rattle.sound_header.proofs.texts_fit.Goals as goal

pub returns : goal.returns
unfolding texts?
returns c =
    let a = c.args in
    let t = a.t in
    let d = lines? a.n a.lines.now in
    both (written? 20 t.program) (×_dec (written? 20 t.agency) (×_dec (written? 20 t.date) (×_dec (written? 4 t.mapping) (×_dec (written? 60 t.observables) d)))) (written 20 t.program (search rules) c.all_within.ensures)
    (both (written? 20 t.agency) (×_dec (written? 20 t.date) (×_dec (written? 4 t.mapping) (×_dec (written? 60 t.observables) d))) (written 20 t.agency (search rules) c.all_within-2.ensures)
    (both (written? 20 t.date) (×_dec (written? 4 t.mapping) (×_dec (written? 60 t.observables) d)) (written 20 t.date (search rules) c.all_within-3.ensures)
    (both (written? 4 t.mapping) (×_dec (written? 60 t.observables) d) (written 4 t.mapping (search rules) c.all_within-4.ensures)
    (both (written? 60 t.observables) d (written 60 t.observables (search rules) c.all_within-5.ensures) c.descriptions_fit.ensures))))
