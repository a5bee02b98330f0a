-- The labels of START in 01's list; that of END stands behind it.
use Rattle.std.specs.Prelude.{ℕ}
use Rattle.mapset.specs.declared.Kind.{Kind}
use Rattle.mapset.specs.declared.Kind.TheVariants.{Tec, Rms, Height}

abbrev pub start_place : Kind → ℕ
start_place Tec = 23
start_place Rms = 25
start_place Height = 27
