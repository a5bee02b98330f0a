-- The groups of Sound hold exactly when `Sound` of Areas holds.
use mathlib.Core.Bool.{Bool, true, false}
use mathlib.Core.Logic.{inl, inr}
use mathlib.Core.List.{List, [], ◌∷◌}
use mathlib.Core.Option.{Option}
use Prim.Native.Nat.{ℕ, suc, ◌≤◌, ◌<◌, zero}
use native.Mathlib.Omega.{arith}
use lib.ListN.{length, take, get_or}
use Rattle.kit.specs.Answer.{All}
use Rattle.kit.specs.Range.{Within}
use Rattle.mapset.specs.Header.{Content, count, system, Said, number, counts, a_count, a_tenths, a_epoch, a_axis, a_program, a_mapping, a_observables, a_system, if_stands, Filled, TakesCode, Stand, stand_end, stand_some, stand_none, HeaderRules}
use Rattle.mapset.specs.Areas.{Areas, EpochRules, Sound, Run, Present, Nowhere}
use Rattle.mapset.specs.Sound.{Count, HeaderSays, EpochsSay, SoundSays}
use Rattle.mapset.specs.SoundDecided.{took_count, took_tenths, took_epoch, took_axis, took_program, took_mapping, took_observables, took_system, here}
use Rattle.mapset.specs.declared.Header.{Header}
use Rattle.mapset.specs.Described.{FullTexts}
use Rattle.mapset.specs.declared.Kind.{Kind}

-- a code that a version takes is one of the list's eleven
pub takes_known : {v c : ℕ} → TakesCode v c → c < 11
takes_known (inl h) = omega arith
takes_known (inr h) = h.1

-- ---- a record taken off the list, and put on it
filled : (b : Bool) (n : ℕ) → Count b n → Filled b n
filled true n c = tt
filled false n c = c

module _ {ks : List Content} {ss : List (Option Said)} where
  count_off : (b : Bool) (n : ℕ) → Stand (count 0 999999 ∷ ks) (if_stands b (number n) ∷ ss) → Filled b n → Count b n × Stand ks ss
  count_off true n (stand_some a r) f = (took_count a, r)
  count_off false n (stand_none r) f = (f, r)

  count_on : (b : Bool) (n : ℕ) → Count b n → Stand ks ss → Stand (count 0 999999 ∷ ks) (if_stands b (number n) ∷ ss)
  count_on true n c r = stand_some (a_count c) r
  count_on false n c r = stand_none r

  system_off : (b : Bool) (m n : ℕ) → Stand (system ∷ ks) (if_stands b (counts m n) ∷ ss) → Filled b m × Filled b n → (Count b m × Count b n) × Stand ks ss
  system_off true m n (stand_some a r) f = (took_system a, r)
  system_off false m n (stand_none r) f = (f, r)

  system_on : (b : Bool) (m n : ℕ) → Count b m × Count b n → Stand ks ss → Stand (system ∷ ks) (if_stands b (counts m n) ∷ ss)
  system_on true m n c r = stand_some (a_system c.0 c.1) r
  system_on false m n c r = stand_none r

system_filled : (b : Bool) (m n : ℕ) → Count b m × Count b n → Filled b m × Filled b n
system_filled b m n c = (filled b m c.0, filled b n c.1)

-- ---- the header
pub header_groups : (h : Header) (t : FullTexts) → HeaderRules h t → HeaderSays h t
header_groups h t r =
    let f = r.fillers in
    let pgm = here r.records in
    let first = here pgm.1 in
    let last = here first.1 in
    let interval = here last.1 in
    let maps = here interval.1 in
    let map = here maps.1 in
    let cutoff = here map.1 in
    let obs = here cutoff.1 in
    let sta = count_off h.stations.stands h.stations.count obs.1 f.stations in
    let sat = count_off h.satellites.stands h.satellites.count sta.1 f.satellites in
    let radius = here sat.1 in
    let dim = here radius.1 in
    let hgt = here dim.1 in
    let lat = here hgt.1 in
    let lon = here lat.1 in
    let y = h.systems in
    let g = system_off y.g.stands y.g.stations y.g.satellites lon.1 f.g in
    let r' = system_off y.r.stands y.r.stations y.r.satellites g.1 f.r in
    let e = system_off y.e.stands y.e.stations y.e.satellites r'.1 f.e in
    let c = system_off y.c.stands y.c.stations y.c.satellites e.1 f.c in
    let j = system_off y.j.stands y.j.stations y.j.satellites c.1 f.j in
    let i = system_off y.i.stands y.i.stations y.i.satellites j.1 f.i in
    let s = system_off y.s.stands y.s.stations y.s.satellites i.1 f.s in
    let p = took_program pgm.0 in (
      (r.version.tenths, (r.version.kind, r.version.code)),
      (
        (p.0, (p.1.0, (p.1.1, (took_mapping map.0, (took_observables obs.0, (r.descriptions.few, (r.descriptions.written, r.descriptions.blank))))))),
        (
          (took_epoch first.0, (took_epoch last.0, (took_count interval.0, took_count maps.0))),
          (
            (took_tenths cutoff.0, (took_tenths radius.0, took_count dim.0)),
            (
              (took_axis hgt.0, (took_axis lat.0, took_axis lon.0)),
              (
                sta.0,
                (
                  sat.0,
                  (
                    (g.0, (r'.0, (e.0, (c.0, (j.0, (i.0, s.0)))))),
                    (r.dimension, r.limits),
                  ),
                ),
              ),
            ),
          ),
        ),
      ),
    )

pub groups_header : (h : Header) (t : FullTexts) → HeaderSays h t → HeaderRules h t
groups_header h t (v, (x, (m, (o, (a, (sta, (sat, ((g, (r, (e, (c, (j, (i, s)))))), (d, l))))))))) =
    let y = h.systems in
    record {
      version = record { tenths = v.0; kind = v.1.0; code = v.1.1 };
      records =
          stand_some (a_program x.0 x.1.0 x.1.1.0)
          (stand_some (a_epoch m.0)
          (stand_some (a_epoch m.1.0)
          (stand_some (a_count m.1.1.0)
          (stand_some (a_count m.1.1.1)
          (stand_some (a_mapping x.1.1.1.0)
          (stand_some (a_tenths o.0)
          (stand_some (a_observables x.1.1.1.1.0)
          (count_on h.stations.stands h.stations.count sta
          (count_on h.satellites.stands h.satellites.count sat
          (stand_some (a_tenths o.1.0)
          (stand_some (a_count o.1.1)
          (stand_some (a_axis a.0)
          (stand_some (a_axis a.1.0)
          (stand_some (a_axis a.1.1)
          (system_on y.g.stands y.g.stations y.g.satellites g
          (system_on y.r.stands y.r.stations y.r.satellites r
          (system_on y.e.stands y.e.stations y.e.satellites e
          (system_on y.c.stands y.c.stations y.c.satellites c
          (system_on y.j.stands y.j.stations y.j.satellites j
          (system_on y.i.stands y.i.stations y.i.satellites i
          (system_on y.s.stands y.s.stations y.s.satellites s
          stand_end)))))))))))))))))))));
      fillers = record {
        stations = filled h.stations.stands h.stations.count sta;
        satellites = filled h.satellites.stands h.satellites.count sat;
        g = system_filled y.g.stands y.g.stations y.g.satellites g;
        r = system_filled y.r.stands y.r.stations y.r.satellites r;
        e = system_filled y.e.stands y.e.stations y.e.satellites e;
        c = system_filled y.c.stands y.c.stations y.c.satellites c;
        j = system_filled y.j.stands y.j.stations y.j.satellites j;
        i = system_filled y.i.stands y.i.stations y.i.satellites i;
        s = system_filled y.s.stands y.s.stations y.s.satellites s;
      };
      dimension = d;
      limits = l;
      descriptions = record { few = x.1.1.1.1.1.0; written = x.1.1.1.1.1.1.0; blank = x.1.1.1.1.1.1.1 };
    }

-- ---- epochs and marks
epochs_say : (h : Header) (es : List ℕ) → EpochRules h es → EpochsSay h.times es
epochs_say h [] r = absurd r
epochs_say h (e ∷ es) r = (r.0, r.1)

say_epochs : (h : Header) (es : List ℕ) → EpochsSay h.times es → EpochRules h es
say_epochs h [] r = absurd r.0
say_epochs h (e ∷ es) r = (r.0, r.1)

pub run_below : (i last e : ℕ) (fs : List ℕ) → Run i last e fs → e ≤ last
run_below i last e [] r = omega (arith, r)
run_below i last e (f ∷ fs) r = let b = run_below i last f fs r.1 in omega (arith, r.0.0)

pub marked : (k : Kind) (ms : List ℕ) (i : ℕ) → i < length ms → Present k (get_or ms i 0) → ¬ Nowhere k ms
marked k [] i h p n = omega arith
marked k (m ∷ ms) zero h p n = n.0 p
marked k (m ∷ ms) (suc i) h p n = marked k ms i (omega arith) p n.1

pub from_zero : (ms : List ℕ) → All (λ m. m ≤ 3) ms → All (Within 0 3) ms
from_zero [] a = tt
from_zero (m ∷ ms) a = ((omega arith, a.0), from_zero ms a.1)

pub to_three : (ms : List ℕ) → All (Within 0 3) ms → All (λ m. m ≤ 3) ms
to_three [] a = tt
to_three (m ∷ ms) a = (a.0.1, to_three ms a.1)

-- ---- all of it
pub sound_groups : (h : Header) (t : FullTexts) (a : Areas) → Sound h t a → SoundSays h t a
sound_groups h t a s =
    (header_groups h t s.header, (s.room.epochs, (s.room.marks, (epochs_say h (take h.times.maps a.epochs) s.epochs, (from_zero (take h.times.maps a.marks) s.marks, (s.room.tec, (s.room.rms, (s.room.height, s.room.exponents))))))))

pub groups_sound : (h : Header) (t : FullTexts) (a : Areas) → SoundSays h t a → Sound h t a
groups_sound h t a (r, (e, (m, (es, (ms, (p, (q, (u, x)))))))) =
    record {
      header = groups_header h t r;
      room = record { tec = p; rms = q; height = u; exponents = x; epochs = e; marks = m };
      epochs = say_epochs h (take h.times.maps a.epochs) es;
      marks = to_three (take h.times.maps a.marks) ms;
    }
