-- `sound_header::systems_fit` meets its contract.
use Rattle.kit.specs.Answer.{×_dec}
use Rattle.kit.proofs.TruthLaws.{both}
use Rattle.mapset.specs.Sound.{system?, systems?}
use Rattle.sound_header.proofs.systems_fit.Goals as goal

pub returns : goal.returns
unfolding systems?
returns c =
    let s = c.args.s in
    both (system? s.g) (×_dec (system? s.r) (×_dec (system? s.e) (×_dec (system? s.c) (×_dec (system? s.j) (×_dec (system? s.i) (system? s.s)))))) c.system_fits.ensures
    (both (system? s.r) (×_dec (system? s.e) (×_dec (system? s.c) (×_dec (system? s.j) (×_dec (system? s.i) (system? s.s))))) c.system_fits-2.ensures
    (both (system? s.e) (×_dec (system? s.c) (×_dec (system? s.j) (×_dec (system? s.i) (system? s.s)))) c.system_fits-3.ensures
    (both (system? s.c) (×_dec (system? s.j) (×_dec (system? s.i) (system? s.s))) c.system_fits-4.ensures
    (both (system? s.j) (×_dec (system? s.i) (system? s.s)) c.system_fits-5.ensures
    (both (system? s.i) (system? s.s) c.system_fits-6.ensures c.system_fits-7.ensures)))))
