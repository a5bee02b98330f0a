-- The labels of START and END in 01's list: those of a kind stand together.
use mathlib.Core.Path.{◌≡◌, refl}
use Prim.Native.Nat.{◌+◌, ◌<◌}
use native.Mathlib.Omega.{arith}
use lib.IntN.{ℤ}
use Rattle.mapset.specs.declared.Kind.{Kind}
use Rattle.mapset.specs.declared.Kind.TheVariants.{Tec, Rms, Height}
use Rattle.layout.specs.Labels.{start, end}
use Rattle.layout.specs.Names.{names}
use Rattle.canonical.specs.Canon.{row_of}
use Rattle.write_row.specs.Rows.{row_at, whole}
use Rattle.write_line.specs.Starts.{start_place}

pub start_row : (k : Kind) (z : ℤ) → row_at (start_place k) whole (z, tt) ≡ row_of (start k) (z, tt)
unfolding row_at row_of names
start_row Tec z = refl
start_row Rms z = refl
start_row Height z = refl

pub end_row : (k : Kind) (z : ℤ) → row_at (start_place k + 1) whole (z, tt) ≡ row_of (end k) (z, tt)
unfolding row_at row_of names
end_row Tec z = refl
end_row Rms z = refl
end_row Height z = refl

pub start_within : (k : Kind) → start_place k < 31
start_within Tec = omega arith
start_within Rms = omega arith
start_within Height = omega arith
