-- A short whole text with bias blocks: what it tells, and which fault is told first.
use mathlib.Core.Path.{◌≡◌, refl}
use mathlib.Core.List.{List, [], ◌∷◌, ◌++◌}
use Prim.Native.Nat.{ℕ}
use lib.IntN.{pos, negsuc}
use Prim.Native.String.{String}
use Rattle.kit.specs.Answer.{Answer, ok, refused}
use Rattle.mapset.specs.MapSet.{MapSet}
use Rattle.layout.specs.Labels.{bytes}
use Rattle.reading.specs.declared.Why.{Why}
use Rattle.reading.specs.Feed.{why}
use Rattle.reading.proofs.Vectors.{whole_reading}
use Rattle.layout.specs.Samples.{lines, mix_line, one_map_lines, pair_axes, pair_map}
use Rattle.biases.specs.Biases.{Biases}
use Rattle.biases.specs.Rules.{title, of_satellite, of_station, Makes}
use Rattle.biases.specs.Read.{role, system_of, satellite_meant, station_meant, satellite_of, station_of, same_satellite?, same_station?, new, new_satellite, new_station, on_role, gather, biases}
use Rattle.biases.proofs.Exact.{read_biases}

-- what the bias reader tells of a text. To unfold this is to unfold each step of `biases`
unfoldable pub whole_biases : List ℕ → Answer Why Biases
unfolding whole_reading title of_satellite of_station role system_of satellite_of satellite_meant station_of station_meant same_satellite? same_station? new new_satellite new_station on_role gather biases
whole_biases = biases

-- a text with this first line, and these aux blocks behind line 14
abbrev text_with : String → List String → List ℕ
text_with v ls = lines (v ∷ (one_map_lines ++ (pair_axes ++ (ls ++ pair_map "     5.0   0.0   5.0   5.0 450.0                            LAT/LON1/LON2/DLON/H" []))))

-- of version 1.0
abbrev text_of : List String → List ℕ
text_of = text_with "     1.0            IONOSPHERE MAPS     GPS                 IONEX VERSION / TYPE"

unfoldable pub told : Biases
told =
    record {
      satellites =
          record { system = 71; number = 1; bias = negsuc 1249; rms = pos 4 }
          ∷ record { system = 71; number = 2; bias = pos 0; rms = pos 10 }
          ∷ record { system = 82; number = 1; bias = pos 12345; rms = pos 100 }
          ∷ record { system = 71; number = 99; bias = pos 1000; rms = pos 0 }
          ∷ [];
      stations =
          record { system = 71; name = bytes "BRUS 13101M004      "; bias = negsuc 0; rms = pos 999999999 }
          ∷ record { system = 82; name = bytes "BRUS 13101M004      "; bias = pos 3000; rms = pos 20 }
          ∷ [];
    }

-- two bias blocks after another aux block: a blank letter is G, unknown records are skipped, R is another system
pub two_blocks : List String
two_blocks =
    "SOMETHING ELSE                                              START OF AUX DATA"
    ∷ "   X00                                                      PRN / BIAS / RMS"
    ∷ "DIFFERENTIAL CODE BIASES                                    END OF AUX DATA"
    ∷ "DIFFERENTIAL CODE BIASES                                    START OF AUX DATA"
    ∷ "   G01    -1.250     0.004                                  PRN / BIAS / RMS"
    ∷ "     2     0.000     0.010                                  PRN / BIAS / RMS"
    ∷ "   R01    12.345     0.100                                  PRN / BIAS / RMS"
    ∷ "   G  BRUS 13101M004          -0.001999999.999              STATION / BIAS / RMS"
    ∷ "   what is this                                             NOT KNOWN"
    ∷ "DCB values in ns                                            COMMENT"
    ∷ "   R  BRUS 13101M004           3.000     0.020              STATION / BIAS / RMS"
    ∷ "anything                                                    END OF AUX DATA"
    ∷ "remark                                                      COMMENT"
    ∷ "DIFFERENTIAL CODE BIASES                                    START OF AUX DATA"
    ∷ "   G99     1.000    -0.000                                  PRN / BIAS / RMS"
    ∷ "DIFFERENTIAL CODE BIASES                                    END OF AUX DATA"
    ∷ []

pub two_blocks_read : biases (text_of two_blocks) ≡ ok told
unfolding two_blocks told whole_biases
two_blocks_read = refl

-- and of 1.1
pub later_read : biases (text_with mix_line two_blocks) ≡ ok told
unfolding two_blocks told whole_biases
later_read = refl

pub two_blocks_made : (m : MapSet) × Makes m told (text_of two_blocks)
two_blocks_made = read_biases (text_of two_blocks) two_blocks_read

-- 6 at the RMS before 7 for the letter and the number
pub six_first : List String
six_first =
    "DIFFERENTIAL CODE BIASES                                    START OF AUX DATA"
    ∷ "   X00     1.000      0.01                                  PRN / BIAS / RMS"
    ∷ "DIFFERENTIAL CODE BIASES                                    END OF AUX DATA"
    ∷ []

pub six_first_read : biases (text_of six_first) ≡ refused (why 6 16 17)
unfolding six_first whole_biases
six_first_read = refl

-- 7 for the letter before 7 for the number
pub letter_first : List String
letter_first =
    "DIFFERENTIAL CODE BIASES                                    START OF AUX DATA"
    ∷ "   X00     1.000     0.010                                  PRN / BIAS / RMS"
    ∷ "DIFFERENTIAL CODE BIASES                                    END OF AUX DATA"
    ∷ []

pub letter_first_read : biases (text_of letter_first) ≡ refused (why 7 16 4)
unfolding letter_first whole_biases
letter_first_read = refl

-- 7 for the number 0
pub number_zero : List String
number_zero =
    "DIFFERENTIAL CODE BIASES                                    START OF AUX DATA"
    ∷ "    00     1.000     0.010                                  PRN / BIAS / RMS"
    ∷ "DIFFERENTIAL CODE BIASES                                    END OF AUX DATA"
    ∷ []

pub number_zero_read : biases (text_of number_zero) ≡ refused (why 7 16 5)
unfolding number_zero whole_biases
number_zero_read = refl

-- blank and G are one system, over two blocks
pub twice : List String
twice =
    "DIFFERENTIAL CODE BIASES                                    START OF AUX DATA"
    ∷ "   G01     1.000     0.010                                  PRN / BIAS / RMS"
    ∷ "DIFFERENTIAL CODE BIASES                                    END OF AUX DATA"
    ∷ "DIFFERENTIAL CODE BIASES                                    START OF AUX DATA"
    ∷ "     1     2.000     0.010                                  PRN / BIAS / RMS"
    ∷ "DIFFERENTIAL CODE BIASES                                    END OF AUX DATA"
    ∷ []

pub twice_read : biases (text_of twice) ≡ refused (why 5 19 61)
unfolding twice whole_biases
twice_read = refl

-- a station with its system given twice
pub twice_station : List String
twice_station =
    "DIFFERENTIAL CODE BIASES                                    START OF AUX DATA"
    ∷ "   R  BRUS 13101M004           1.000     0.010              STATION / BIAS / RMS"
    ∷ "   R  BRUS 13101M004           1.000     0.010              STATION / BIAS / RMS"
    ∷ "DIFFERENTIAL CODE BIASES                                    END OF AUX DATA"
    ∷ []

pub twice_station_read : biases (text_of twice_station) ≡ refused (why 5 17 61)
unfolding twice_station whole_biases
twice_station_read = refl

-- 6 before 5
pub six_before_five : List String
six_before_five =
    "DIFFERENTIAL CODE BIASES                                    START OF AUX DATA"
    ∷ "   R  BRUS 13101M004           1.000     0.010              STATION / BIAS / RMS"
    ∷ "   R  BRUS 13101M004             1.0     0.010              STATION / BIAS / RMS"
    ∷ "DIFFERENTIAL CODE BIASES                                    END OF AUX DATA"
    ∷ []

pub six_before_five_read : biases (text_of six_before_five) ≡ refused (why 6 17 27)
unfolding six_before_five whole_biases
six_before_five_read = refl

-- a byte behind the fields: 6 at its own column
pub behind : List String
behind =
    "DIFFERENTIAL CODE BIASES                                    START OF AUX DATA"
    ∷ "   G01     1.000     0.010                        x         PRN / BIAS / RMS"
    ∷ "DIFFERENTIAL CODE BIASES                                    END OF AUX DATA"
    ∷ []

pub behind_read : biases (text_of behind) ≡ refused (why 6 16 51)
unfolding behind whole_biases
behind_read = refl

-- a fault of the maps, on a later line, before those of the biases
pub map_first : List String
map_first =
    "DIFFERENTIAL CODE BIASES                                    START OF AUX DATA"
    ∷ "   X00     1.000     0.010                                  PRN / BIAS / RMS"
    ∷ "DIFFERENTIAL CODE BIASES                                    END OF AUX DATA"
    ∷ "                                                            NOT KNOWN"
    ∷ []

pub map_first_read : biases (text_of map_first) ≡ refused (why 4 18 61)
unfolding map_first whole_biases
map_first_read = refl
