-- The layout: rules that make texts from map sets. No reader stands here.
use Rattle.std.specs.Prelude.{◌≡◌, Bool, true, false, ◌⊎◌, List, [], ◌∷◌, ◌++◌, ℕ, suc, ◌+◌, ◌-◌, ◌*◌, ◌/◌, ◌%◌, ◌≤◌, ◌<◌, ℤ, pos, negsuc, ◌+ℤ◌, ◌*ℤ◌, length, get_or, set, drop}
use Rattle.std.proofs.Math.Option.{Option, none, some}
use Rattle.kit.specs.Answer.{All}
use Rattle.kit.specs.Integer.{Between, between?}
use Rattle.calendar.specs.Calendar.{Dated}
use Rattle.mapset.specs.declared.Kind.{Kind}
use Rattle.mapset.specs.declared.Kind.TheVariants.{Tec, Rms, Height}
use Rattle.mapset.specs.declared.Axis.{Axis}
use Rattle.mapset.specs.declared.Header.{Header}
use Rattle.mapset.specs.Grid.{Line, layers, rows, columns, Limits}
use Rattle.mapset.specs.Lines.{lines_in}
use Rattle.mapset.specs.Header.{Content, count, tenths, epoch as an_epoch, axis, program, mapping, observables, system as a_system}
use Rattle.mapset.specs.Header.{Said, number, along, words, counts, Accepts, says, VersionRules, Fillers, Dimension, DescriptionRules}
use Rattle.mapset.specs.Areas.{Follows}
use Rattle.mapset.specs.MapSet.{Block, TecMap, OtherMap, Maps, MapSet}
use Rattle.layout.specs.Text.{Ended, Laid}
use Rattle.layout.specs.Records.{Vals, ValueRows}
use Rattle.layout.specs.Labels.{version, description, comment, system, exponent, aux_start, aux_end, header_end, epoch, block, file_end}
use Rattle.layout.specs.Labels.{head, start, end, name, items, content, layout, codes, letters, Rec}

-- ---- 01, 'Maps'

-- what is in force: the exponent, the epochs of the TEC maps so far, and the numbers of the last RMS and height map, 0 before the first
pub record Force : Type 0 where
  pub exponent : ℤ
  pub epochs : List ℕ
  pub rms : ℕ
  pub height : ℕ

-- before the first map
abbrev pub begins : ℤ → Force
begins e = record { exponent = e; epochs = []; rms = 0; height = 0 }

abbrev pub under : ℤ → Force → Force
under e p = record { exponent = e; epochs = p.epochs; rms = p.rms; height = p.height }

abbrev pub with_epoch : ℕ → Force → Force
with_epoch e p = record { exponent = p.exponent; epochs = p.epochs ++ (e ∷ []); rms = p.rms; height = p.height }

-- RMS and height maps rise within their kind
abbrev pub last_of : Kind → Force → ℕ
last_of Tec p = length p.epochs
last_of Rms p = p.rms
last_of Height p = p.height

abbrev pub with_last : Kind → ℕ → Force → Force
with_last Tec i p = p
with_last Rms i p = record { exponent = p.exponent; epochs = p.epochs; rms = i; height = p.height }
with_last Height i p = record { exponent = p.exponent; epochs = p.epochs; rms = p.rms; height = i }

-- one more map of a kind, in front
abbrev pub one_more : Kind → OtherMap → Maps → Maps
one_more Tec x ms = ms
one_more Rms x ms = record { tec = ms.tec; rms = x ∷ ms.rms; height = ms.height }
one_more Height x ms = record { tec = ms.tec; rms = ms.rms; height = x ∷ ms.height }

abbrev pub one_tec : TecMap → Maps → Maps
one_tec m ms = record { tec = m ∷ ms.tec; rms = ms.rms; height = ms.height }

abbrev pub Other : Kind → Type 0
Other Tec = ⊥
Other Rms = Unit {0}
Other Height = Unit {0}

-- what is left to be written: nothing; the maps; a TEC map that waits for its epoch, and the maps; a map's blocks, and the maps,
-- where `e` says whether the map's own epoch may still stand
pub data Left : Type 0 where
  nothing : Left
  maps : Maps → Left
  early : TecMap → Maps → Left
  blocks : (e : Bool) (k : Kind) (i : ℕ) → List Block → Maps → Left

-- EXPONENT and COMMENT may stand anywhere before END OF FILE (and a block is written whole, so not inside one)
abbrev pub Loose : Left → Type 0
Loose nothing = ⊥
Loose (maps ms) = Unit {0}
Loose (early m ms) = Unit {0}
Loose (blocks e k i bs ms) = Unit {0}

abbrev pub Exponent : ℤ → Type 0
Exponent e = Between (negsuc 2) (pos 0) e

-- the six numbers of an epoch record, with the second that they are
abbrev pub Date : Type 0
Date = Vals (items an_epoch)

abbrev pub DateOf : Date → ℕ → Type 0
DateOf d t = Dated d.0 d.1.0 d.1.1.0 d.1.1.1.0 d.1.1.1.1.0 d.1.1.1.1.1.0 t

-- the epoch that follows those so far: the first is the header's first, each follows the one before
abbrev pub After : Header → List ℕ → ℕ → Type 0
After h [] e = e ≡ h.times.first
After h (x ∷ xs) e = Follows h.times.interval (get_or (x ∷ xs) (length xs) 0) e

-- the n-th is the header's last
abbrev pub InTime : Header → List ℕ → ℕ → Type 0
InTime h es e = After h es e × (suc (length es) ≡ h.times.maps → e ≡ h.times.last)

-- each map has L-as-R blocks: layers from HGT1, in each the rows from LAT1
abbrev pub per_map : Header → ℕ
per_map h = layers h.grid * rows h.grid

abbrev pub node : Axis → ℕ → ℤ
node a i = a.first +ℤ pos i *ℤ a.step

-- the opening of the block after d others of its map; in dimension 2 H may be any number of that layout
abbrev pub HeightOf : Header → ℕ → ℤ → Type 0
HeightOf h d z = (h.model.dimension ≡ 2) ⊎ (z ≡ node h.grid.heights (d / rows h.grid))

pub record Opens (h : Header) (d : ℕ) (v : Vals (layout block)) : Type 0 where
  pub latitude : v.0 ≡ node h.grid.latitudes (d % rows h.grid)
  pub first : v.1.0 ≡ h.grid.longitudes.first
  pub last : v.1.1.0 ≡ h.grid.longitudes.last
  pub step : v.1.1.1.0 ≡ h.grid.longitudes.step
  pub height : HeightOf h d v.1.1.1.1.0

-- `Writes h p w rs`: with p in force, the rows rs write what w says is left
pub data Writes (h : Header) : Force → Left → List (List ℕ) → Type 0 where
  w_end : {p : Force} → Writes h p nothing []
  w_comment : {p : Force} {w : Left} {r : List ℕ} {rs : List (List ℕ)} → Loose w → Rec comment tt r → Writes h p w rs → Writes h p w (r ∷ rs)
  w_exponent : {e : ℤ} {p : Force} {w : Left} {r : List ℕ} {rs : List (List ℕ)}
      → Loose w → Rec exponent (e, tt) r → Exponent e → Writes h (under e p) w rs → Writes h p w (r ∷ rs)
  -- TEC maps carry 1 to n in order; each has its epoch once, before its first block
  w_tec : {p : Force} {m : TecMap} {ms : Maps} {r : List ℕ} {rs : List (List ℕ)}
      → Rec (start Tec) (pos (suc (length p.epochs)), tt) r → length p.epochs < h.times.maps
      → Writes h p (early m ms) rs → Writes h p (maps (one_tec m ms)) (r ∷ rs)
  w_epoch : {p : Force} {m : TecMap} {ms : Maps} (d : Date) {r : List ℕ} {rs : List (List ℕ)}
      → Rec epoch d r → DateOf d m.epoch → InTime h p.epochs m.epoch → length m.blocks ≡ per_map h
      → Writes h (with_epoch m.epoch p) (blocks false Tec (suc (length p.epochs)) m.blocks ms) rs → Writes h p (early m ms) (r ∷ rs)
  -- an RMS or height map i comes after TEC map i has ended, in rising order within its kind
  w_other : {p : Force} (k : Kind) {x : OtherMap} {ms : Maps} {r : List ℕ} {rs : List (List ℕ)}
      → Other k → Rec (start k) (pos x.of, tt) r → last_of k p < x.of → x.of ≤ length p.epochs → length x.blocks ≡ per_map h
      → Writes h (with_last k x.of p) (blocks true k x.of x.blocks ms) rs → Writes h p (maps (one_more k x ms)) (r ∷ rs)
  -- it may have its TEC map's epoch once, before its first block
  w_again : {p : Force} {k : Kind} {i : ℕ} {bs : List Block} {ms : Maps} (d : Date) {r : List ℕ} {rs : List (List ℕ)}
      → Rec epoch d r → DateOf d (get_or p.epochs (i - 1) 0)
      → Writes h p (blocks false k i bs ms) rs → Writes h p (blocks true k i bs ms) (r ∷ rs)
  -- a block: its opening, then C values, under the exponent in force
  w_block : {p : Force} {e : Bool} {k : Kind} {i : ℕ} {zs : List ℤ} {bs : List Block} {ms : Maps} (v : Vals (layout block)) {r : List ℕ} {vs rs : List (List ℕ)}
      → Rec block v r → Opens h (per_map h - suc (length bs)) v → length zs ≡ columns h.grid → ValueRows zs vs
      → Writes h p (blocks false k i bs ms) rs → Writes h p (blocks e k i (record { exponent = p.exponent; values = zs } ∷ bs) ms) (r ∷ (vs ++ rs))
  -- END carries its START's number
  w_close : {p : Force} {e : Bool} {k : Kind} {i : ℕ} {ms : Maps} {r : List ℕ} {rs : List (List ℕ)}
      → Rec (end k) (pos i, tt) r → Writes h p (maps ms) rs → Writes h p (blocks e k i [] ms) (r ∷ rs)
  -- END OF FILE comes when n TEC maps have ended
  w_file : {p : Force} {r : List ℕ} {rs : List (List ℕ)}
      → Rec file_end tt r → length p.epochs ≡ h.times.maps → Writes h p nothing rs
      → Writes h p (maps (record { tec = []; rms = []; height = [] })) (r ∷ rs)

-- ---- 01, 'Header records'

abbrev pub Slots : Type 0
Slots = List (Option Said)

-- the columns 1 to 60 of DESCRIPTION lines
abbrev pub Lines : Type 0
Lines = List (List ℕ)

-- `Shows k v s`: the values v of a record that holds k say s
pub data Shows : (k : Content) → Vals (items k) → Said → Type 0 where
  s_count : {low high n : ℕ} → Shows (count low high) (pos n, tt) (number n)
  s_tenths : {low high n : ℕ} → Shows (tenths low high) (pos n, tt) (number n)
  s_epoch : {d : Date} {t : ℕ} → DateOf d t → Shows an_epoch d (number t)
  s_axis : {l : Line} {a : Axis} → Shows (axis l) (a.first, (a.last, (a.step, tt))) (along a)
  s_program : {a b c : List ℕ} → Shows program (a, (b, (c, tt))) (words (a ∷ b ∷ c ∷ []))
  s_mapping : {a : List ℕ} → Shows mapping (a, tt) (words (a ∷ []))
  s_observables : {a : List ℕ} → Shows observables (a, tt) (words (a ∷ []))

-- the place of the first system among the slots, and the number of header records that are none
abbrev pub systems : ℕ
systems = 15

-- whether an aux block is open
pub data Mode : Type 0 where
  plain aux : Mode

abbrev pub mode : Bool → Mode
mode true = aux
mode false = plain

-- `Heads m a e left ds rs`: with the exponent e in force, the records `left` and the DESCRIPTION lines ds still to be written, rs write those, the
-- records in any order and the lines in theirs, and then the maps
pub data Heads (m : MapSet) : Mode → ℤ → Slots → Lines → List (List ℕ) → Type 0 where
  h_description : {e : ℤ} {left : Slots} {d : List ℕ} {ds : Lines} {r : List ℕ} {rs : List (List ℕ)}
      → Rec description (d, tt) r → Heads m plain e left ds rs → Heads m plain e left (d ∷ ds) (r ∷ rs)
  h_comment : {e : ℤ} {left : Slots} {ds : Lines} {r : List ℕ} {rs : List (List ℕ)} → Rec comment tt r → Heads m plain e left ds rs → Heads m plain e left ds (r ∷ rs)
  h_exponent : {e e' : ℤ} {left : Slots} {ds : Lines} {r : List ℕ} {rs : List (List ℕ)}
      → Rec exponent (e', tt) r → Exponent e' → Heads m plain e' left ds rs → Heads m plain e left ds (r ∷ rs)
  h_field : {e : ℤ} (i : ℕ) {s : Said} (v : Vals (items (content i))) {left : Slots} {ds : Lines} {r : List ℕ} {rs : List (List ℕ)}
      → i < systems → get_or left i none ≡ some s → Rec (head i) v r → Shows (content i) v s → Accepts (content i) s
      → Heads m plain e (set left i none) ds rs → Heads m plain e left ds (r ∷ rs)
  -- SYS once per letter
  h_system : {e : ℤ} (j a b : ℕ) {left : Slots} {ds : Lines} {r : List ℕ} {rs : List (List ℕ)}
      → j < length letters → get_or left (systems + j) none ≡ some (counts a b) → Rec system (get_or letters j 0 ∷ [], (pos a, (pos b, tt))) r
      → Accepts a_system (counts a b) → Heads m plain e (set left (systems + j) none) ds rs → Heads m plain e left ds (r ∷ rs)
  -- aux blocks: lines between are skipped
  h_aux : {e : ℤ} {left : Slots} {ds : Lines} {r : List ℕ} {rs : List (List ℕ)} → Rec aux_start tt r → Heads m aux e left ds rs → Heads m plain e left ds (r ∷ rs)
  h_skip : {e : ℤ} {left : Slots} {ds : Lines} {r : List ℕ} {rs : List (List ℕ)} → ¬ (drop 60 r ≡ name aux_end) → Heads m aux e left ds rs → Heads m aux e left ds (r ∷ rs)
  h_back : {e : ℤ} {left : Slots} {ds : Lines} {r : List ℕ} {rs : List (List ℕ)} → Rec aux_end tt r → Heads m plain e left ds rs → Heads m aux e left ds (r ∷ rs)
  -- END OF HEADER needs no line left
  h_end : {e : ℤ} {left : Slots} {r : List ℕ} {rs : List (List ℕ)}
      → Rec header_end tt r → All (λ o. o ≡ none) left → Fillers m.header
      → Dimension m.header.model.dimension m.header.grid.heights → Limits m.header.times.maps m.header.grid
      → Writes m.header (begins e) (maps m.maps) rs → Heads m plain e left [] (r ∷ rs)

-- ---- the text

-- the version record comes first; the exponent starts at -1; the DESCRIPTION lines are those in the texts
pub data Rows (m : MapSet) : List (List ℕ) → Type 0 where
  rows_of : {r : List ℕ} {rs : List (List ℕ)}
      → VersionRules m.header.version → DescriptionRules m.header.descriptions m.texts.descriptions
      → Rec version (pos m.header.version.tenths, (73 ∷ [], (get_or codes m.header.version.code [], tt))) r
      → Heads m plain (negsuc 0) (says m.header m.texts) (lines_in m.header.descriptions m.texts.descriptions) rs → Rows m (r ∷ rs)

-- `Makes m t`: the map set m makes the text t
pub data Makes (m : MapSet) : List ℕ → Type 0 where
  makes : {rs ls : List (List ℕ)} {t : List ℕ} → Rows m rs → Laid rs ls → Ended ls t → Makes m t

-- ---- decisions
unfoldable pub exponent? : (e : ℤ) → Dec (Exponent e)
exponent? e = between? (negsuc 2) (pos 0) e
