-- The header record and texts that a caller's numbers and bytes stand for. A number that its field cannot hold is taken as the largest that it
-- can hold, which no rule accepts.
use Rattle.std.specs.Prelude.{Bool, true, cond, List, ℕ, ◌+◌, ltb, ℤ, pos, negsuc, nat_abs, get_or, take, drop}
use Rattle.std.specs.Int.Signed.{lt_z}
use Rattle.forms.specs.Columns.{columns}
use Rattle.mapset.specs.declared.Version.{Version}
use Rattle.mapset.specs.declared.Times.{Times}
use Rattle.mapset.specs.declared.Model.{Model}
use Rattle.mapset.specs.declared.Axis.{Axis}
use Rattle.mapset.specs.declared.Grid.{Grid}
use Rattle.mapset.specs.declared.Counted.{Counted}
use Rattle.mapset.specs.declared.System.{System}
use Rattle.mapset.specs.declared.Systems.{Systems}
use Rattle.mapset.specs.declared.Header.{Header}
use Rattle.mapset.specs.declared.Texts.{Texts}
use Rattle.mapset.specs.Described.{FullTexts, full}

abbrev pub bounded : ℕ → ℤ → ℕ
bounded high z = cond (lt_z z (pos 0)) high (cond (ltb high (nat_abs z)) high (nat_abs z))

abbrev pub axis_number : ℤ → ℤ
axis_number z = cond (lt_z z (negsuc 2147483646)) (pos 2147483647) (cond (lt_z (pos 2147483647) z) (pos 2147483647) z)

-- any number but 0 says that a record stands
abbrev pub stands_of : ℤ → Bool
stands_of z = cond (lt_z z (pos 0)) true (lt_z (pos 0) z)

abbrev pub nth : List ℤ → ℕ → ℤ
nth l i = get_or l i (pos 0)

abbrev pub count_at : List ℤ → ℕ → ℕ
count_at l i = bounded 4294967295 (nth l i)

abbrev pub version_of : List ℤ → Version
version_of l = record { tenths = count_at l 0; kind = bounded 255 (nth l 1); code = count_at l 2 }

abbrev pub times_of : List ℤ → Times
times_of l =
    record {
      first = bounded 18446744073709551615 (nth l 3);
      last = bounded 18446744073709551615 (nth l 4);
      interval = count_at l 5;
      maps = count_at l 6;
    }

abbrev pub model_of : List ℤ → Model
model_of l = record { cutoff = count_at l 7; radius = count_at l 8; dimension = count_at l 9 }

abbrev pub axis_at : List ℤ → ℕ → Axis
axis_at l i = record { first = axis_number (nth l i); last = axis_number (nth l (i + 1)); step = axis_number (nth l (i + 2)) }

abbrev pub grid_of : List ℤ → Grid
grid_of l = record { heights = axis_at l 10; latitudes = axis_at l 13; longitudes = axis_at l 16 }

abbrev pub counted_at : List ℤ → ℕ → Counted
counted_at l i = record { stands = stands_of (nth l i); count = count_at l (i + 1) }

abbrev pub system_at : List ℤ → ℕ → System
system_at l i = record { stands = stands_of (nth l i); stations = count_at l (i + 1); satellites = count_at l (i + 2) }

abbrev pub systems_of : List ℤ → Systems
systems_of l =
    record {
      g = system_at l 23;
      r = system_at l 26;
      e = system_at l 29;
      c = system_at l 32;
      j = system_at l 35;
      i = system_at l 38;
      s = system_at l 41;
    }

unfoldable pub header_of : List ℤ → Header
header_of l =
    record {
      version = version_of l;
      times = times_of l;
      model = model_of l;
      grid = grid_of l;
      stations = counted_at l 19;
      satellites = counted_at l 21;
      systems = systems_of l;
      descriptions = count_at l 44;
    }

unfoldable pub five_of : List ℕ → Texts
five_of b =
    record { program = columns b 0 20; agency = columns b 20 20; date = columns b 40 20; mapping = columns b 60 4; observables = columns (drop 64 b) 0 60 }

-- and the bytes of the description, where they stand
abbrev pub texts_of : List ℕ → FullTexts
texts_of b = full (five_of b) (take 1200 (drop 124 b))
