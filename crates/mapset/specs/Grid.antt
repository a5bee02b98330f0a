-- 01, 'Header records': the rules of the three axes, and the limits of the grid. Tenths of a degree and of a kilometre.
use Rattle.std.specs.Prelude.{◌≡◌, ◌⊎◌, ℕ, ◌+◌, ◌*◌, ◌/◌, ◌%◌, ◌≤◌, ◌<◌, ℤ, pos, negsuc, nat_abs, ◌-ℤ◌, ◌≤ℤ◌, ◌<ℤ◌}
use Rattle.kit.specs.Integer.{Between}
use Rattle.mapset.specs.declared.Axis.{Axis}
use Rattle.mapset.specs.declared.Grid.{Grid}

-- the three axes
pub data Line : Type 0 where
  heights latitudes longitudes : Line

-- the ends' own range: heights 0.0 to 9999.9, latitudes -90.0 to 90.0, longitudes -180.0 to 360.0
abbrev pub End : Line → ℤ → Type 0
End heights x = Between (pos 0) (pos 99999) x
End latitudes x = Between (negsuc 899) (pos 900) x
End longitudes x = Between (negsuc 1799) (pos 3600) x

-- the step's own range: DHGT 0.0 to 9999.9, 0 < |DLAT| ≤ 15.0, 0 < DLON ≤ 15.0
abbrev pub Step : Line → ℤ → Type 0
Step heights d = Between (pos 0) (pos 99999) d
Step latitudes d = (0 < nat_abs d) × (nat_abs d ≤ 150)
Step longitudes d = Between (pos 1) (pos 150) d

-- x is a whole multiple of d; n % 0 is n, so that of 0 only 0 is one
abbrev pub Multiple : ℤ → ℤ → Type 0
Multiple d x = nat_abs x % nat_abs d ≡ 0

-- first to last in the step's direction; equal ends make one row
abbrev pub Toward : Axis → Type 0
Toward a = ((pos 0 <ℤ a.step) × (a.first ≤ℤ a.last)) ⊎ ((a.step <ℤ pos 0) × (a.last ≤ℤ a.first))

-- the rule over the axis' three fields
abbrev pub Together : Line → Axis → Type 0
Together heights a =
    ((a.step ≡ pos 0) × (a.first ≡ a.last)) ⊎ ((a.first <ℤ a.last) × Multiple a.step (a.last -ℤ a.first))
Together latitudes a = Multiple a.step a.first × Multiple a.step a.last × Toward a
Together longitudes a = Multiple a.step a.first × Multiple a.step a.last × Between (pos 0) (pos 3600) (a.last -ℤ a.first)

-- an axis that is accepted
pub record AxisRules (l : Line) (a : Axis) : Type 0 where
  pub first : End l a.first
  pub last : End l a.last
  pub step : Step l a.step
  pub together : Together l a

-- how many nodes lie on an axis; n / 0 is 0, so that there is one where the step is 0
abbrev pub nodes : Axis → ℕ
nodes a = nat_abs (a.last -ℤ a.first) / nat_abs a.step + 1

abbrev pub layers : Grid → ℕ
layers g = nodes g.heights

abbrev pub rows : Grid → ℕ
rows g = nodes g.latitudes

abbrev pub columns : Grid → ℕ
columns g = nodes g.longitudes

-- the limits of R, C, L and n·L·R·C
abbrev pub Limits : ℕ → Grid → Type 0
Limits n g = (rows g ≤ 361) × (columns g ≤ 721) × (layers g ≤ 64) × (n * layers g * rows g * columns g ≤ 2000000)
