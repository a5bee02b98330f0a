-- What sample headers and maps are made of, so that the vectors of every crate say it once. No contract rests on this.
use Rattle.std.specs.Prelude.{true, false, [], ◌∷◌, ℕ, ◌*◌, ◌-◌, ℤ, pos}
use Rattle.mapset.specs.declared.Times.{Times}
use Rattle.mapset.specs.declared.Axis.{Axis}
use Rattle.mapset.specs.declared.Counted.{Counted}
use Rattle.mapset.specs.declared.System.{System}
use Rattle.mapset.specs.declared.Systems.{Systems}
use Rattle.mapset.specs.declared.Header.{Header}
use Rattle.mapset.specs.Said.{axis_of}
use Rattle.mapset.specs.MapSet.{Block}

-- k nodes from 0.0 on, 1.0 apart
abbrev pub nodes_of : ℕ → Axis
nodes_of k = axis_of (pos 0) (pos (10 * (k - 1))) (pos 10)

-- the one height 450.0
abbrev pub one_shell : Axis
one_shell = axis_of (pos 4500) (pos 4500) (pos 0)

-- a starred record that stands, and one that does not
abbrev pub given_count : ℕ → Counted
given_count n = record { stands = true; count = n }

abbrev pub absent_count : Counted
absent_count = record { stands = false; count = 0 }

abbrev pub given_system : (stations satellites : ℕ) → System
given_system a b = record { stands = true; stations = a; satellites = b }

abbrev pub absent_system : System
absent_system = record { stands = false; stations = 0; satellites = 0 }

abbrev pub absent_systems : Systems
absent_systems =
    record { g = absent_system; r = absent_system; e = absent_system; c = absent_system; j = absent_system; i = absent_system; s = absent_system }

-- version 1.1, MIX, ELEVATION CUTOFF 0.0, MAP DIMENSION 2, one height, without # OF SATELLITES and SYS / #STA / #SAT; BASE RADIUS in tenths
abbrev pub shell_header : (radius : ℕ) → Times → (latitudes longitudes : Axis) (stations : Counted) (descriptions : ℕ) → Header
shell_header radius times latitudes longitudes stations descriptions =
    record {
      version = record { tenths = 11; kind = 73; code = 6 };
      times = times;
      model = record { cutoff = 0; radius = radius; dimension = 2 };
      grid = record { heights = one_shell; latitudes = latitudes; longitudes = longitudes };
      stations = stations;
      satellites = absent_count;
      systems = absent_systems;
      descriptions = descriptions;
    }

-- and with BASE RADIUS 6371.0, without # OF STATIONS and DESCRIPTION
abbrev pub plain_header : Times → (latitudes longitudes : Axis) → Header
plain_header times latitudes longitudes = shell_header 63710 times latitudes longitudes absent_count 0

-- a row of three nodes under an exponent
abbrev pub row_of_three : (exponent a b c : ℤ) → Block
row_of_three e a b c = record { exponent = e; values = a ∷ b ∷ c ∷ [] }
