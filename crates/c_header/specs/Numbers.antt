-- The header record as 45 numbers, and its texts as 1,324 bytes: the form in which they cross to other languages.
use Rattle.std.specs.Prelude.{Bool, cond, List, [], ◌∷◌, ◌++◌, ℕ, ℤ, pos}
use Rattle.mapset.specs.declared.Version.{Version}
use Rattle.mapset.specs.declared.Times.{Times}
use Rattle.mapset.specs.declared.Model.{Model}
use Rattle.mapset.specs.declared.Axis.{Axis}
use Rattle.mapset.specs.declared.Grid.{Grid}
use Rattle.mapset.specs.declared.Counted.{Counted}
use Rattle.mapset.specs.declared.System.{System}
use Rattle.mapset.specs.declared.Header.{Header}
use Rattle.mapset.specs.declared.Texts.{Texts}
use Rattle.mapset.specs.Described.{FullTexts}

abbrev pub flag : Bool → ℤ
flag b = cond b (pos 1) (pos 0)

abbrev version_numbers : Version → List ℤ
version_numbers v = pos v.tenths ∷ pos v.kind ∷ pos v.code ∷ []

abbrev times_numbers : Times → List ℤ
times_numbers t = pos t.first ∷ pos t.last ∷ pos t.interval ∷ pos t.maps ∷ []

abbrev model_numbers : Model → List ℤ
model_numbers m = pos m.cutoff ∷ pos m.radius ∷ pos m.dimension ∷ []

abbrev pub axis_numbers : Axis → List ℤ
axis_numbers a = a.first ∷ a.last ∷ a.step ∷ []

abbrev pub counted_numbers : Counted → List ℤ
counted_numbers c = flag c.stands ∷ pos c.count ∷ []

abbrev pub system_numbers : System → List ℤ
system_numbers s = flag s.stands ∷ pos s.stations ∷ pos s.satellites ∷ []

abbrev pub first_numbers : Header → List ℤ
first_numbers h = version_numbers h.version ++ (times_numbers h.times ++ model_numbers h.model)

abbrev pub grid_numbers : Grid → List ℤ
grid_numbers g = axis_numbers g.heights ++ (axis_numbers g.latitudes ++ axis_numbers g.longitudes)

-- the starred records
abbrev pub starred_numbers : Header → List ℤ
starred_numbers h =
    counted_numbers h.stations
    ++ (counted_numbers h.satellites
    ++ (system_numbers h.systems.g
    ++ (system_numbers h.systems.r
    ++ (system_numbers h.systems.e
    ++ (system_numbers h.systems.c
    ++ (system_numbers h.systems.j ++ (system_numbers h.systems.i ++ system_numbers h.systems.s)))))))

-- 0 to 2 the version record, 3 to 6 the times, 7 to 9 the model, 10 to 18 the axes, 19 to 22 stations and satellites, 23 to 43 the systems, 44 how many lines
abbrev pub numbers : Header → List ℤ
numbers h = first_numbers h ++ (grid_numbers h.grid ++ (starred_numbers h ++ (pos h.descriptions ∷ [])))

-- program, agency, date, mapping function, observables
abbrev pub five_bytes : Texts → List ℕ
five_bytes x = x.program ++ (x.agency ++ (x.date ++ (x.mapping ++ x.observables)))

-- and the lines of the description
abbrev pub text_bytes : FullTexts → List ℕ
text_bytes x = x.program ++ (x.agency ++ (x.date ++ (x.mapping ++ (x.observables ++ x.descriptions))))
