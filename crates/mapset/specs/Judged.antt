-- An axis judged: the rules of Grid as decisions, in the order in which they are told.
use Rattle.std.specs.Prelude.{pos, Result, Ok, Err}
use Rattle.kit.specs.Answer.{pick, ×_dec, ⊎_dec}
use Rattle.kit.specs.Integer.{le?, lt?}
use Rattle.mapset.specs.Grid.{heights, latitudes, longitudes, Multiple, Toward}
use Rattle.mapset.specs.Grid as G
use Rattle.mapset.specs.Decisions.{end?, step?, multiple?, together?}
use Rattle.mapset.specs.declared.Axis.{Axis}
use Rattle.mapset.specs.declared.axes.Line.{Line}
use Rattle.mapset.specs.declared.axes.Line.TheVariants as L
use Rattle.mapset.specs.declared.axes.Misfit.{Misfit}
use Rattle.mapset.specs.declared.axes.Misfit.TheVariants.{First, Last, Step, Together}

-- the code's name of an axis
abbrev pub line : Line → G.Line
line L.Heights = heights
line L.Latitudes = latitudes
line L.Longitudes = longitudes

-- both ends are multiples of the step
abbrev pub Ends : Axis → Type 0
Ends a = Multiple a.step a.first × Multiple a.step a.last

unfoldable pub ends? : (a : Axis) → Dec (Ends a)
ends? a = ×_dec (multiple? a.step a.first) (multiple? a.step a.last)

unfoldable pub toward? : (a : Axis) → Dec (Toward a)
toward? a = ⊎_dec (×_dec (lt? (pos 0) a.step) (le? a.first a.last)) (×_dec (lt? a.step (pos 0)) (le? a.last a.first))

-- the first field outside its own range, else the rule over several fields if it is broken
unfoldable pub judged : G.Line → Axis → Result (Unit {0}) Misfit
judged l a =
    pick (end? l a.first)
    (pick (end? l a.last)
    (pick (step? l a.step)
    (pick (together? l a) (Ok tt) (Err Together))
    (Err Step))
    (Err Last))
    (Err First)
