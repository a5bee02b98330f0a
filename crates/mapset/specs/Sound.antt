-- The rules of Header and Areas in the groups in which code looks at them, as decisions. No public contract needs them.
use Rattle.std.specs.Prelude.{◌≡◌, Bool, true, false, List, [], ◌∷◌, ℕ, ◌*◌, ◌≤◌, ◌<◌, length, take, drop}
use Rattle.std.proofs.Math.Decide.{ℕ_discrete, dec_le, dec_lt}
use Rattle.kit.specs.Answer.{All, all_dec, ×_dec}
use Rattle.kit.specs.Range.{Within, within?}
use Rattle.calendar.specs.End.{end}
use Rattle.mapset.specs.Grid.{heights, latitudes, longitudes, AxisRules, Limits}
use Rattle.mapset.specs.Header.{Written, TakesCode, Dimension}
use Rattle.mapset.specs.Areas.{Areas, blocks, values, value_need, Run}
use Rattle.mapset.specs.declared.Kind.TheVariants as K
use Rattle.mapset.specs.Decisions.{takes_code?, dimension?, limits?}
use Rattle.mapset.specs.SoundDecided.{written?, axis?, run?}
use Rattle.mapset.specs.declared.Grid.{Grid}
use Rattle.mapset.specs.declared.Version.{Version}
use Rattle.mapset.specs.declared.Times.{Times}
use Rattle.mapset.specs.declared.Model.{Model}
use Rattle.mapset.specs.declared.System.{System}
use Rattle.mapset.specs.declared.Systems.{Systems}
use Rattle.mapset.specs.declared.Header.{Header}
use Rattle.mapset.specs.Described.{most_lines, line_width, lines_width, FullTexts}
use Rattle.mapset.specs.declared.Lengths.{Lengths}

-- ---- the groups of a header

abbrev pub VersionSays : Version → Type 0
VersionSays v = Within 10 11 v.tenths × ((v.kind ≡ 73) × TakesCode v.tenths v.code)

-- the bytes of n DESCRIPTION lines
abbrev pub LinesSay : ℕ → List ℕ → Type 0
LinesSay n bs = (n ≤ most_lines) × (Written lines_width bs × All (λ b. b ≡ 32) (drop (line_width * n) bs))

-- with n DESCRIPTION lines
abbrev TextsSay : ℕ → FullTexts → Type 0
TextsSay n t =
    Written 20 t.program × (Written 20 t.agency × (Written 20 t.date × (Written 4 t.mapping × (Written 60 t.observables
    × LinesSay n t.descriptions))))

abbrev pub TimesSay : Times → Type 0
TimesSay t = (t.first < end) × ((t.last < end) × (Within 0 21600 t.interval × Within 1 300 t.maps))

abbrev pub ModelSays : Model → Type 0
ModelSays m = Within 0 900 m.cutoff × (Within 10000 999999 m.radius × Within 2 3 m.dimension)

abbrev GridSays : Grid → Type 0
GridSays g = AxisRules heights g.heights × (AxisRules latitudes g.latitudes × AxisRules longitudes g.longitudes)

-- a count of a starred record: in its range where the record stands, 0 where it does not
abbrev pub Count : Bool → ℕ → Type 0
Count true n = Within 0 999999 n
Count false n = n ≡ 0

abbrev pub SystemSays : System → Type 0
SystemSays s = Count s.stands s.stations × Count s.stands s.satellites

abbrev pub SystemsSay : Systems → Type 0
SystemsSay s = SystemSays s.g × (SystemSays s.r × (SystemSays s.e × (SystemSays s.c × (SystemSays s.j × (SystemSays s.i × SystemSays s.s)))))

abbrev pub HeaderSays : Header → FullTexts → Type 0
HeaderSays h t =
    VersionSays h.version × (TextsSay h.descriptions t × (TimesSay h.times × (ModelSays h.model × (GridSays h.grid
    × (Count h.stations.stands h.stations.count × (Count h.satellites.stands h.satellites.count
    × (SystemsSay h.systems × (Dimension h.model.dimension h.grid.heights × Limits h.times.maps h.grid))))))))

-- ---- the same as decisions
unfoldable pub version? : (v : Version) → Dec (VersionSays v)
version? v = ×_dec (within? 10 11 v.tenths) (×_dec (ℕ_discrete v.kind 73) (takes_code? v.tenths v.code))

unfoldable pub lines? : (n : ℕ) (bs : List ℕ) → Dec (LinesSay n bs)
lines? n bs = ×_dec (dec_le n most_lines) (×_dec (written? lines_width bs) (all_dec (λ b. ℕ_discrete b 32) (drop (line_width * n) bs)))

unfoldable pub texts? : (n : ℕ) (t : FullTexts) → Dec (TextsSay n t)
texts? n t =
    ×_dec (written? 20 t.program) (×_dec (written? 20 t.agency) (×_dec (written? 20 t.date) (×_dec (written? 4 t.mapping) (×_dec (written? 60 t.observables)
    (lines? n t.descriptions)))))

unfoldable pub times? : (t : Times) → Dec (TimesSay t)
times? t = ×_dec (dec_lt t.first end) (×_dec (dec_lt t.last end) (×_dec (within? 0 21600 t.interval) (within? 1 300 t.maps)))

unfoldable pub model? : (m : Model) → Dec (ModelSays m)
model? m = ×_dec (within? 0 900 m.cutoff) (×_dec (within? 10000 999999 m.radius) (within? 2 3 m.dimension))

unfoldable pub grid? : (g : Grid) → Dec (GridSays g)
grid? g = ×_dec (axis? heights g.heights) (×_dec (axis? latitudes g.latitudes) (axis? longitudes g.longitudes))

unfoldable pub count? : (b : Bool) (n : ℕ) → Dec (Count b n)
count? true n = within? 0 999999 n
count? false n = ℕ_discrete n 0

unfoldable pub system? : (s : System) → Dec (SystemSays s)
system? s = ×_dec (count? s.stands s.stations) (count? s.stands s.satellites)

unfoldable pub systems? : (s : Systems) → Dec (SystemsSay s)
systems? s =
    ×_dec (system? s.g) (×_dec (system? s.r) (×_dec (system? s.e) (×_dec (system? s.c) (×_dec (system? s.j) (×_dec (system? s.i) (system? s.s))))))

unfoldable pub header? : (h : Header) (t : FullTexts) → Dec (HeaderSays h t)
header? h t =
    ×_dec (version? h.version) (×_dec (texts? h.descriptions t) (×_dec (times? h.times) (×_dec (model? h.model) (×_dec (grid? h.grid)
    (×_dec (count? h.stations.stands h.stations.count) (×_dec (count? h.satellites.stands h.satellites.count)
    (×_dec (systems? h.systems) (×_dec (dimension? h.model.dimension h.grid.heights) (limits? h.times.maps h.grid)))))))))

-- ---- epochs

-- the epochs of a header's maps; its own times are all that is looked at
abbrev pub Runs : ℕ → ℕ → List ℕ → Type 0
Runs interval last [] = ⊥
Runs interval last (e ∷ es) = Run interval last e es

abbrev pub StartsAt : ℕ → List ℕ → Type 0
StartsAt first [] = ⊥
StartsAt first (e ∷ es) = e ≡ first

abbrev pub EpochsSay : Times → List ℕ → Type 0
EpochsSay t es = StartsAt t.first es × Runs t.interval t.last es

unfoldable pub runs? : (interval last : ℕ) (es : List ℕ) → Dec (Runs interval last es)
runs? interval last [] = no (λ e. e)
runs? interval last (e ∷ es) = run? interval last e es

unfoldable pub starts? : (first : ℕ) (es : List ℕ) → Dec (StartsAt first es)
starts? first [] = no (λ e. e)
starts? first (e ∷ es) = ℕ_discrete e first

unfoldable pub epochs? : (t : Times) (es : List ℕ) → Dec (EpochsSay t es)
epochs? t es = ×_dec (starts? t.first es) (runs? t.interval t.last es)

-- ---- marks
unfoldable pub marks? : (ms : List ℕ) → Dec (All (Within 0 3) ms)
marks? ms = all_dec (within? 0 3) ms

-- ---- lengths
abbrev pub LengthsSay : Header → List ℕ → Lengths → Type 0
LengthsSay h ms l =
    (values h ≤ l.tec) × ((value_need K.Rms h ms ≤ l.rms) × ((value_need K.Height h ms ≤ l.height) × (3 * blocks h ≤ l.exponents)))

unfoldable pub lengths? : (h : Header) (ms : List ℕ) (l : Lengths) → Dec (LengthsSay h ms l)
lengths? h ms l =
    ×_dec (dec_le (values h) l.tec) (×_dec (dec_le (value_need K.Rms h ms) l.rms) (×_dec (dec_le (value_need K.Height h ms) l.height) (dec_le (3 * blocks h) l.exponents)))

-- ---- all of it
abbrev pub lengths : Areas → Lengths
lengths a = record { tec = length a.tec; rms = length a.rms; height = length a.height; exponents = length a.exponents }

abbrev pub SoundSays : Header → FullTexts → Areas → Type 0
SoundSays h t a =
    HeaderSays h t × ((h.times.maps ≤ length a.epochs) × ((h.times.maps ≤ length a.marks)
    × (EpochsSay h.times (take h.times.maps a.epochs) × (All (Within 0 3) (take h.times.maps a.marks)
    × LengthsSay h (take h.times.maps a.marks) (lengths a)))))
