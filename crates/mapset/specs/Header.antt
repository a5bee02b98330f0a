-- 01, 'Header records': what each record of a header says, and what is accepted. No text stands here.
use Rattle.std.specs.Prelude.{◌≡◌, Bool, true, false, ◌⊎◌, List, [], ◌∷◌, ℕ, ◌*◌, ◌≤◌, ◌<◌, length, drop, pos}
use Rattle.std.proofs.Math.Option.{Option, none, some}
use Rattle.kit.specs.Answer.{All}
use Rattle.kit.specs.Range.{Within}
use Rattle.calendar.specs.End.{end}
use Rattle.mapset.specs.Grid.{Line, heights, latitudes, longitudes, AxisRules, Limits}
use Rattle.mapset.specs.declared.Axis.{Axis}
use Rattle.mapset.specs.declared.Version.{Version}
use Rattle.mapset.specs.declared.Counted.{Counted}
use Rattle.mapset.specs.declared.System.{System}
use Rattle.mapset.specs.declared.Header.{Header}
use Rattle.mapset.specs.Described.{most_lines, line_width, lines_width, FullTexts}

-- what a record may hold: a whole number or tenths in a range, an epoch, an axis, texts, or the two counts of a system
pub data Content : Type 0 where
  count tenths : (low high : ℕ) → Content
  epoch : Content
  axis : Line → Content
  program mapping observables : Content
  system : Content

-- the records of the header after the version record, in 01's order; the seven systems G R E C J I S stand last
abbrev pub contents : List Content
contents =
    program  -- PGM / RUN BY / DATE
    ∷ epoch  -- EPOCH OF FIRST MAP
    ∷ epoch  -- EPOCH OF LAST MAP
    ∷ count 0 21600  -- INTERVAL
    ∷ count 1 300  -- # OF MAPS IN FILE
    ∷ mapping  -- MAPPING FUNCTION
    ∷ tenths 0 900  -- ELEVATION CUTOFF
    ∷ observables  -- OBSERVABLES USED
    ∷ count 0 999999  -- # OF STATIONS
    ∷ count 0 999999  -- # OF SATELLITES
    ∷ tenths 10000 999999  -- BASE RADIUS
    ∷ count 2 3  -- MAP DIMENSION
    ∷ axis heights  -- HGT1 / HGT2 / DHGT
    ∷ axis latitudes  -- LAT1 / LAT2 / DLAT
    ∷ axis longitudes  -- LON1 / LON2 / DLON
    ∷ system ∷ system ∷ system ∷ system ∷ system ∷ system ∷ system
    ∷ []

-- which of them are starred
abbrev pub starred : List Bool
starred =
    false ∷ false ∷ false ∷ false ∷ false ∷ false ∷ false ∷ false ∷ true ∷ true ∷ false ∷ false ∷ false ∷ false ∷ false
    ∷ true ∷ true ∷ true ∷ true ∷ true ∷ true ∷ true ∷ []

-- what a record says: a number (an epoch as its second), an axis, texts, or the counts of stations and satellites
pub data Said : Type 0 where
  number : ℕ → Said
  along : Axis → Said
  words : List (List ℕ) → Said
  counts : ℕ → ℕ → Said

-- each byte from 32 to 126, w of them
abbrev pub Written : ℕ → List ℕ → Type 0
Written w t = (length t ≡ w) × All (Within 32 126) t

-- what is accepted
pub data Accepts : Content → Said → Type 0 where
  a_count : {low high n : ℕ} → Within low high n → Accepts (count low high) (number n)
  a_tenths : {low high n : ℕ} → Within low high n → Accepts (tenths low high) (number n)
  a_epoch : {t : ℕ} → t < end → Accepts epoch (number t)
  a_axis : {l : Line} {a : Axis} → AxisRules l a → Accepts (axis l) (along a)
  a_program : {a b c : List ℕ} → Written 20 a → Written 20 b → Written 20 c → Accepts program (words (a ∷ b ∷ c ∷ []))
  a_mapping : {a : List ℕ} → Written 4 a → Accepts mapping (words (a ∷ []))
  a_observables : {a : List ℕ} → Written 60 a → Accepts observables (words (a ∷ []))
  a_system : {a b : ℕ} → Within 0 999999 a → Within 0 999999 b → Accepts system (counts a b)

-- ---- the header record

-- a starred record that stands, or not
abbrev pub if_stands : Bool → Said → Option Said
if_stands true s = some s
if_stands false s = none

abbrev pub counted : Counted → Option Said
counted c = if_stands c.stands (number c.count)

abbrev pub of_system : System → Option Said
of_system s = if_stands s.stands (counts s.stations s.satellites)

-- what each record of `contents` says in a header
abbrev pub says : Header → FullTexts → List (Option Said)
says h t =
    some (words (t.program ∷ t.agency ∷ t.date ∷ []))
    ∷ some (number h.times.first)
    ∷ some (number h.times.last)
    ∷ some (number h.times.interval)
    ∷ some (number h.times.maps)
    ∷ some (words (t.mapping ∷ []))
    ∷ some (number h.model.cutoff)
    ∷ some (words (t.observables ∷ []))
    ∷ counted h.stations
    ∷ counted h.satellites
    ∷ some (number h.model.radius)
    ∷ some (number h.model.dimension)
    ∷ some (along h.grid.heights)
    ∷ some (along h.grid.latitudes)
    ∷ some (along h.grid.longitudes)
    ∷ of_system h.systems.g
    ∷ of_system h.systems.r
    ∷ of_system h.systems.e
    ∷ of_system h.systems.c
    ∷ of_system h.systems.j
    ∷ of_system h.systems.i
    ∷ of_system h.systems.s
    ∷ []

-- the field of a starred record that does not stand holds 0
abbrev pub Filled : Bool → ℕ → Type 0
Filled true n = Unit {0}
Filled false n = n ≡ 0

abbrev pub SystemFilled : System → Type 0
SystemFilled s = Filled s.stands s.stations × Filled s.stands s.satellites

pub record Fillers (h : Header) : Type 0 where
  pub stations : Filled h.stations.stands h.stations.count
  pub satellites : Filled h.satellites.stands h.satellites.count
  pub g : SystemFilled h.systems.g
  pub r : SystemFilled h.systems.r
  pub e : SystemFilled h.systems.e
  pub c : SystemFilled h.systems.c
  pub j : SystemFilled h.systems.j
  pub i : SystemFilled h.systems.i
  pub s : SystemFilled h.systems.s

-- a version's codes, by their places: the nine, and under 1.0 GPS and GLO besides
abbrev pub TakesCode : ℕ → ℕ → Type 0
TakesCode v c = (c < 9) ⊎ ((v ≡ 10) × (c < 11))

-- the version record: 1.0 or 1.1, `I`, one of that version's codes
pub record VersionRules (v : Version) : Type 0 where
  pub tenths : Within 10 11 v.tenths
  pub kind : v.kind ≡ 73
  pub code : TakesCode v.tenths v.code

-- dimension 2 exactly when DHGT is 0
abbrev pub Dimension : ℕ → Axis → Type 0
Dimension d a = ((d ≡ 2) × (a.step ≡ pos 0)) ⊎ ((d ≡ 3) × ¬ (a.step ≡ pos 0))

-- where a record stands, what it says is accepted
pub data Stand : List Content → List (Option Said) → Type 0 where
  stand_end : Stand [] []
  stand_some : {k : Content} {s : Said} {ks : List Content} {ss : List (Option Said)} → Accepts k s → Stand ks ss → Stand (k ∷ ks) (some s ∷ ss)
  stand_none : {k : Content} {ks : List Content} {ss : List (Option Said)} → Stand ks ss → Stand (k ∷ ks) (none ∷ ss)

-- the DESCRIPTION lines: at most 20, in 1,200 printable bytes; what stands behind the last line is blank, so one map set has one form
pub record DescriptionRules (n : ℕ) (bs : List ℕ) : Type 0 where
  pub few : n ≤ most_lines
  pub written : Written lines_width bs
  pub blank : All (λ b. b ≡ 32) (drop (line_width * n) bs)

-- a header that some text can have
pub record HeaderRules (h : Header) (t : FullTexts) : Type 0 where
  pub version : VersionRules h.version
  pub records : Stand contents (says h t)
  pub fillers : Fillers h
  pub dimension : Dimension h.model.dimension h.grid.heights
  pub limits : Limits h.times.maps h.grid
  pub descriptions : DescriptionRules h.descriptions t.descriptions
