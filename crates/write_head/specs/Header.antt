-- The rows of the header in groups, by the places of their labels in 01's list.
use Rattle.std.specs.Prelude.{Bool, true, false, List, [], ◌∷◌, ◌++◌, map, ℕ, pos}
use Rattle.mapset.specs.declared.Axis.{Axis}
use Rattle.mapset.specs.declared.Counted.{Counted}
use Rattle.mapset.specs.declared.Header.{Header}
use Rattle.mapset.specs.declared.Model.{Model}
use Rattle.mapset.specs.declared.Grid.{Grid}
use Rattle.mapset.specs.declared.System.{System}
use Rattle.mapset.specs.declared.Systems.{Systems}
use Rattle.mapset.specs.declared.Texts.{Texts}
use Rattle.mapset.specs.declared.Times.{Times}
use Rattle.mapset.specs.declared.Version.{Version}
use Rattle.mapset.specs.Described.{FullTexts}
use Rattle.mapset.specs.Lines.{lines_in}
use Rattle.mapset.specs.Sound.{ModelSays, Count}
use Rattle.layout.specs.Labels.{header_end}
use Rattle.layout.specs.Records.{X}
use Rattle.canonical.specs.Canon.{row_of, version_row, date_of, six, header_rows}
use Rattle.write_row.specs.Rows.{row_at, whole, three, six_whole}
use Rattle.write_head_row.specs.HeadRows.{tenths_row, program_row, description_row, mapping_row, observables_row, system_row}

-- the row of a starred record, where it stands
abbrev pub if_stands : Bool → List ℕ → List (List ℕ)
if_stands true r = r ∷ []
if_stands false r = []

abbrev pub number_row : ℕ → ℕ → List ℕ
number_row k n = row_at k whole (pos n, tt)

abbrev pub epoch_row : ℕ → ℕ → List ℕ
epoch_row k t = row_at k six_whole (six (date_of t))

abbrev pub axis_row : ℕ → Axis → List ℕ
axis_row k a = row_at k three (a.first, (a.last, (a.step, tt)))

abbrev pub counted_rows : ℕ → Counted → List (List ℕ)
counted_rows k c = if_stands c.stands (number_row k c.count)

abbrev pub system_rows : ℕ → System → List (List ℕ)
system_rows j s = if_stands s.stands (system_row j s)

-- IONEX VERSION / TYPE, PGM / RUN BY / DATE
unfoldable pub first_rows : Version → Texts → List (List ℕ)
first_rows v t = version_row v ∷ program_row t ∷ []

-- DESCRIPTION
unfoldable pub lines_rows : ℕ → List ℕ → List (List ℕ)
lines_rows n bs = map description_row (lines_in n bs)

-- EPOCH OF FIRST MAP to # OF MAPS IN FILE
unfoldable pub times_rows : Times → List (List ℕ)
times_rows t = epoch_row 4 t.first ∷ epoch_row 5 t.last ∷ number_row 6 t.interval ∷ number_row 7 t.maps ∷ []

-- MAPPING FUNCTION to # OF SATELLITES, and what is asked of the numbers among them
abbrev pub Middling : Header → Type 0
Middling h = ModelSays h.model × (Count h.stations.stands h.stations.count × Count h.satellites.stands h.satellites.count)

unfoldable pub middle_rows : Header → Texts → List (List ℕ)
middle_rows h t =
    mapping_row t ∷ tenths_row 9 h.model.cutoff ∷ observables_row t ∷ (counted_rows 11 h.stations ++ counted_rows 12 h.satellites)

-- SYS / #STA / #SAT, in the order listed
unfoldable pub systems_rows : Systems → List (List ℕ)
systems_rows s =
    system_rows 0 s.g
    ++ (system_rows 1 s.r ++ (system_rows 2 s.e ++ (system_rows 3 s.c ++ (system_rows 4 s.j ++ (system_rows 5 s.i ++ system_rows 6 s.s)))))

-- BASE RADIUS to END OF HEADER
unfoldable pub last_rows : Model → Grid → List (List ℕ)
last_rows m g =
    tenths_row 14 m.radius
    ∷ number_row 15 m.dimension
    ∷ axis_row 16 g.heights
    ∷ axis_row 17 g.latitudes
    ∷ axis_row 18 g.longitudes
    ∷ row_at 22 (X 60 ∷ []) tt
    ∷ []

-- the whole header of canonical text
abbrev pub whole_header : Header → FullTexts → List (List ℕ)
whole_header h t = version_row h.version ∷ header_rows h t (row_of header_end tt ∷ [])
