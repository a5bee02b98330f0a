-- `Sound` of Areas is decided, clause by clause. The types say all.
use Rattle.std.specs.Prelude.{Bool, true, false, List, [], ◌∷◌, ℕ, ◌*◌, ◌<◌, length, take, drop}
use Rattle.std.proofs.Math.Option.{Option, none, some}
use Rattle.std.proofs.Math.Decide.{ℕ_discrete, dec_le, dec_lt}
use Rattle.kit.specs.Answer.{×_dec, all_dec}
use Rattle.kit.specs.Range.{Within, within?}
use Rattle.kit.specs.Truth.{dec_by}
use Rattle.calendar.specs.End.{end}
use Rattle.mapset.specs.Grid.{Line, AxisRules}
use Rattle.mapset.specs.Header.{Content, count, tenths, epoch, axis, program, mapping, observables, system, contents, Said, number, along, words, counts}
use Rattle.mapset.specs.Header.{Written, Accepts, a_count, a_tenths, a_epoch, a_axis, a_program, a_mapping, a_observables, a_system, if_stands, says}
use Rattle.mapset.specs.Header.{Filled, SystemFilled, Fillers, VersionRules, Stand, stand_end, stand_some, stand_none, DescriptionRules, HeaderRules}
use Rattle.mapset.specs.Areas.{Areas, blocks, values, value_need, Room, Run, EpochRules, Sound}
use Rattle.mapset.specs.Decisions.{×₃_dec, end?, step?, together?, takes_code?, dimension?, limits?, follows?}
use Rattle.mapset.specs.Described.{most_lines, line_width, lines_width, FullTexts}
use Rattle.mapset.specs.declared.Axis.{Axis}
use Rattle.mapset.specs.declared.Version.{Version}
use Rattle.mapset.specs.declared.System.{System}
use Rattle.mapset.specs.declared.Header.{Header}
use Rattle.mapset.specs.declared.Kind.TheVariants as K

-- ---- what is accepted of each content
unfoldable pub written? : (w : ℕ) (t : List ℕ) → Dec (Written w t)
written? w t = ×_dec (ℕ_discrete (length t) w) (all_dec (within? 32 126) t)

unfoldable pub axis? : (l : Line) (a : Axis) → Dec (AxisRules l a)
axis? l a =
    dec_by (λ h. record { first = h.0; last = h.1.0; step = h.1.1.0; together = h.1.1.1 }) (λ r. (r.first, (r.last, (r.step, r.together))))
    (×_dec (end? l a.first) (×_dec (end? l a.last) (×_dec (step? l a.step) (together? l a))))

pub took_count : {low high n : ℕ} → Accepts (count low high) (number n) → Within low high n
took_count (a_count w) = w

abbrev a_count? : {low high n : ℕ} → Dec (Accepts (count low high) (number n))
a_count? {low} {high} {n} = dec_by a_count took_count (within? low high n)

pub took_tenths : {low high n : ℕ} → Accepts (tenths low high) (number n) → Within low high n
took_tenths (a_tenths w) = w

abbrev a_tenths? : {low high n : ℕ} → Dec (Accepts (tenths low high) (number n))
a_tenths? {low} {high} {n} = dec_by a_tenths took_tenths (within? low high n)

pub took_epoch : {n : ℕ} → Accepts epoch (number n) → n < end
took_epoch (a_epoch h) = h

abbrev an_epoch? : {n : ℕ} → Dec (Accepts epoch (number n))
an_epoch? {n} = dec_by a_epoch took_epoch (dec_lt n end)

pub took_axis : {l : Line} {a : Axis} → Accepts (axis l) (along a) → AxisRules l a
took_axis (a_axis r) = r

abbrev an_axis? : {l : Line} {a : Axis} → Dec (Accepts (axis l) (along a))
an_axis? {l} {a} = dec_by a_axis took_axis (axis? l a)

pub took_program : {a b c : List ℕ} → Accepts program (words (a ∷ b ∷ c ∷ [])) → Written 20 a × (Written 20 b × Written 20 c)
took_program (a_program p q r) = (p, (q, r))

abbrev a_program? : {a b c : List ℕ} → Dec (Accepts program (words (a ∷ b ∷ c ∷ [])))
a_program? {a} {b} {c} = dec_by (λ w. a_program w.0 w.1.0 w.1.1) took_program (×_dec (written? 20 a) (×_dec (written? 20 b) (written? 20 c)))

pub took_mapping : {a : List ℕ} → Accepts mapping (words (a ∷ [])) → Written 4 a
took_mapping (a_mapping p) = p

abbrev a_mapping? : {a : List ℕ} → Dec (Accepts mapping (words (a ∷ [])))
a_mapping? {a} = dec_by a_mapping took_mapping (written? 4 a)

pub took_observables : {a : List ℕ} → Accepts observables (words (a ∷ [])) → Written 60 a
took_observables (a_observables p) = p

abbrev an_observables? : {a : List ℕ} → Dec (Accepts observables (words (a ∷ [])))
an_observables? {a} = dec_by a_observables took_observables (written? 60 a)

pub took_system : {a b : ℕ} → Accepts system (counts a b) → Within 0 999999 a × Within 0 999999 b
took_system (a_system p q) = (p, q)

abbrev a_system? : {a b : ℕ} → Dec (Accepts system (counts a b))
a_system? {a} {b} = dec_by (λ w. a_system w.0 w.1) took_system (×_dec (within? 0 999999 a) (within? 0 999999 b))

-- ---- the records, one after the other
pub here : {k : Content} {ks : List Content} {s : Said} {ss : List (Option Said)} → Stand (k ∷ ks) (some s ∷ ss) → Accepts k s × Stand ks ss
here (stand_some a r) = (a, r)

pub past : {k : Content} {ks : List Content} {ss : List (Option Said)} → Stand (k ∷ ks) (none ∷ ss) → Stand ks ss
past (stand_none r) = r

module _ {k : Content} {ks : List Content} {ss : List (Option Said)} where
  abbrev next? : {s : Said} → Dec (Accepts k s) → Dec (Stand ks ss) → Dec (Stand (k ∷ ks) (some s ∷ ss))
  next? a r = dec_by (λ p. stand_some p.0 p.1) here (×_dec a r)

  -- a starred one
  abbrev next*? : (b : Bool) (s : Said) → Dec (Accepts k s) → Dec (Stand ks ss) → Dec (Stand (k ∷ ks) (if_stands b s ∷ ss))
  next*? true s a r = next? a r
  next*? false s a r = dec_by stand_none past r

abbrev next_system? : {ks : List Content} {ss : List (Option Said)} (s : System) → Dec (Stand ks ss)
    → Dec (Stand (system ∷ ks) (if_stands s.stands (counts s.stations s.satellites) ∷ ss))
next_system? s r = next*? s.stands (counts s.stations s.satellites) a_system? r

unfoldable pub records? : (h : Header) (t : FullTexts) → Dec (Stand contents (says h t))
records? h t =
    next? a_program? (next? an_epoch? (next? an_epoch? (next? a_count? (next? a_count? (next? a_mapping? (next? a_tenths? (next? an_observables?
    (next*? h.stations.stands (number h.stations.count) a_count? (next*? h.satellites.stands (number h.satellites.count) a_count?
    (next? a_tenths? (next? a_count? (next? an_axis? (next? an_axis? (next? an_axis?
    (next_system? h.systems.g (next_system? h.systems.r (next_system? h.systems.e (next_system? h.systems.c
    (next_system? h.systems.j (next_system? h.systems.i (next_system? h.systems.s (yes stand_end))))))))))))))))))))))

-- ---- the header
abbrev filled? : (b : Bool) (n : ℕ) → Dec (Filled b n)
filled? true n = yes tt
filled? false n = ℕ_discrete n 0

abbrev system_filled? : (s : System) → Dec (SystemFilled s)
system_filled? s = ×_dec (filled? s.stands s.stations) (filled? s.stands s.satellites)

unfoldable pub fillers? : (h : Header) → Dec (Fillers h)
fillers? h =
    dec_by
    (λ f. record { stations = f.0.0; satellites = f.0.1; g = f.0.2; r = f.1.0; e = f.1.1; c = f.1.2; j = f.2.0; i = f.2.1; s = f.2.2 })
    (λ f. ((f.stations, f.satellites, f.g), (f.r, f.e, f.c), (f.j, f.i, f.s)))
    (×₃_dec
    (×₃_dec (filled? h.stations.stands h.stations.count) (filled? h.satellites.stands h.satellites.count) (system_filled? h.systems.g))
    (×₃_dec (system_filled? h.systems.r) (system_filled? h.systems.e) (system_filled? h.systems.c))
    (×₃_dec (system_filled? h.systems.j) (system_filled? h.systems.i) (system_filled? h.systems.s)))

abbrev version? : (v : Version) → Dec (VersionRules v)
version? v =
    dec_by (λ r. record { tenths = r.0; kind = r.1; code = r.2 }) (λ r. (r.tenths, r.kind, r.code))
    (×₃_dec (within? 10 11 v.tenths) (ℕ_discrete v.kind 73) (takes_code? v.tenths v.code))

abbrev descriptions? : (n : ℕ) (bs : List ℕ) → Dec (DescriptionRules n bs)
descriptions? n bs =
    dec_by (λ r. record { few = r.0; written = r.1; blank = r.2 }) (λ r. (r.few, r.written, r.blank))
    (×₃_dec (dec_le n most_lines) (written? lines_width bs) (all_dec (λ b. ℕ_discrete b 32) (drop (line_width * n) bs)))

unfoldable pub header_rules? : (h : Header) (t : FullTexts) → Dec (HeaderRules h t)
header_rules? h t =
    dec_by (λ r. record { version = r.0.0; records = r.0.1; fillers = r.0.2; dimension = r.1.0; limits = r.1.1; descriptions = r.1.2 })
    (λ r. ((r.version, r.records, r.fillers), (r.dimension, r.limits, r.descriptions)))
    (×_dec (×₃_dec (version? h.version) (records? h t) (fillers? h))
    (×₃_dec (dimension? h.model.dimension h.grid.heights) (limits? h.times.maps h.grid) (descriptions? h.descriptions t.descriptions)))

-- ---- the areas
unfoldable pub room? : (h : Header) (ms : List ℕ) (a : Areas) → Dec (Room h ms a)
room? h ms a =
    dec_by (λ r. record { tec = r.0.0; rms = r.0.1; height = r.0.2; exponents = r.1.0; epochs = r.1.1; marks = r.1.2 })
    (λ r. ((r.tec, r.rms, r.height), (r.exponents, r.epochs, r.marks)))
    (×_dec (×₃_dec (dec_le (values h) (length a.tec)) (dec_le (value_need K.Rms h ms) (length a.rms)) (dec_le (value_need K.Height h ms) (length a.height)))
    (×₃_dec (dec_le (3 * blocks h) (length a.exponents)) (dec_le h.times.maps (length a.epochs)) (dec_le h.times.maps (length a.marks))))

unfoldable pub run? : (interval last e : ℕ) (es : List ℕ) → Dec (Run interval last e es)
run? interval last e [] = ℕ_discrete e last
run? interval last e (f ∷ es) = ×_dec (follows? interval e f) (run? interval last f es)

unfoldable pub epoch_rules? : (h : Header) (es : List ℕ) → Dec (EpochRules h es)
epoch_rules? h [] = no (λ e. e)
epoch_rules? h (e ∷ es) = ×_dec (ℕ_discrete e h.times.first) (run? h.times.interval h.times.last e es)

unfoldable pub sound? : (h : Header) (t : FullTexts) (a : Areas) → Dec (Sound h t a)
sound? h t a =
    dec_by (λ s. record { header = s.0.0; room = s.0.1; epochs = s.1.0; marks = s.1.1 }) (λ s. ((s.header, s.room), (s.epochs, s.marks)))
    (×_dec (×_dec (header_rules? h t) (room? h (take h.times.maps a.marks) a))
    (×_dec (epoch_rules? h (take h.times.maps a.epochs)) (all_dec (λ m. dec_le m 3) (take h.times.maps a.marks))))
