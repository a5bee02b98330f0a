-- A map set with records of every kind, written out by hand from 01: a text in no canonical order, the map set that it means, its six areas and
-- its canonical text.
use mathlib.Core.Path.{◌≡◌, refl, ap, ◌∙◌}
use mathlib.Core.List.{List, [], ◌∷◌, ◌++◌, map}
use Prim.Native.Nat.{ℕ}
use Prim.Native.String.{String}
use native.Mathlib.Omega.{arith}
use native.Mathlib.Decide.{ℕ_discrete, dec_le, dec_lt}
use lib.IntN.{pos, negsuc}
use lib.ListN.{take, drop, replicate}
use Rattle.kit.specs.Answer.{ok, pick, ×_dec, all_dec}
use Rattle.kit.specs.Integer.{int?}
use Rattle.kit.specs.Range.{within?, natural?}
use Rattle.days.specs.Years.{is_leap, month_days, year_days}
use Rattle.days.specs.Sums.{sum}
use Rattle.calendar.specs.Calendar.{dated, second}
use Rattle.calendar.proofs.DateLaws.{date_once}
use Rattle.calendar.proofs.FieldLaws.{dated_ok}
use Rattle.calendar.specs.declared.Epoch.{Epoch}
use Rattle.forms.specs.Show.{digits, aligned, show_field}
use Rattle.mapset.specs.Areas.{six}
use Rattle.mapset.specs.Described.{full}
use Rattle.mapset.specs.Lines.{lines_in}
use Rattle.mapset.specs.MapSet.{MapSet}
use Rattle.mapset.specs.Said.{axis_of}
use Rattle.mapset.specs.Samples.{given_count, given_system, absent_system, row_of_three}
use Rattle.layout.specs.Text.{pad}
use Rattle.layout.specs.Labels.{epoch, head, bytes, name}
use Rattle.reading.specs.Read.{read}
use Rattle.layout.specs.Samples.{lines, head_texts}
use Rattle.reading.proofs.Vectors.{whole_reading}
use Rattle.areas.specs.Flat.{areas_of, areas}
use Rattle.canonical.specs.Canon.{columns_of, row_of, version_row, date_of, six as date, slot_row, head_rows, description_rows, header_rows, cells_of, value_row, value_rows, block_rows, other_rows, tec_rows, map_rows, canon_rows, trimmed, lines_of, canon}
use Rattle.canonical.proofs.HeadRows.{date_is}

-- SYS out of order, an exponent in the header, two descriptions, one of them blank, a comment, an aux block; map 1 with a height map, map 2 with an RMS map
unfoldable pub full_text : List String
full_text =
    "     1.1            I not looked at     MIX not looked at   IONEX VERSION / TYPE"
    ∷ "     S     0     1                                          SYS / #STA / #SAT"
    ∷ "one shell, spherical harmonics of degree 15                 DESCRIPTION"
    ∷ "     5.0   0.0  -5.0                                        LAT1 / LAT2 / DLAT"
    ∷ "    -5.0   5.0   5.0                                        LON1 / LON2 / DLON"
    ∷ "   450.0 450.0   0.0                                        HGT1 / HGT2 / DHGT"
    ∷ "    -2                                                      EXPONENT"
    ∷ "maker               agency              15-nov-26 06:00     PGM / RUN BY / DATE"
    ∷ "  1995    10    15     0     0     0                        EPOCH OF FIRST MAP"
    ∷ "  1995    10    15     1     0     0                        EPOCH OF LAST MAP"
    ∷ "any words                                                   COMMENT"
    ∷ "                                                            DESCRIPTION"
    ∷ "  3600                                                      INTERVAL"
    ∷ "     2                                                      # OF MAPS IN FILE"
    ∷ "  COSZ                                                      MAPPING FUNCTION"
    ∷ "    10.0                                                    ELEVATION CUTOFF"
    ∷ "carrier phase                                               OBSERVABLES USED"
    ∷ "  6371.0                                                    BASE RADIUS"
    ∷ "     2                                                      MAP DIMENSION"
    ∷ "    32                                                      # OF SATELLITES"
    ∷ "    80                                                      # OF STATIONS"
    ∷ "     R    51     7                                          SYS / #STA / #SAT"
    ∷ "     G    80    24                                          SYS / #STA / #SAT"
    ∷ "biases                                                      START OF AUX DATA"
    ∷ "   G01    -1.234"
    ∷ "biases                                                      END OF AUX DATA"
    ∷ "                                                            END OF HEADER"
    ∷ "     1                                                      START OF TEC MAP"
    ∷ "  1995    10    15     0     0     0                        EPOCH OF CURRENT MAP"
    ∷ "     5.0  -5.0   5.0   5.0 450.0                            LAT/LON1/LON2/DLON/H"
    ∷ "   11   12 9999"
    ∷ "     0.0  -5.0   5.0   5.0   0.0                            LAT/LON1/LON2/DLON/H"
    ∷ "   13  -14   15"
    ∷ "     1                                                      END OF TEC MAP"
    ∷ "     1                                                      START OF HEIGHT MAP"
    ∷ "     0                                                      EXPONENT"
    ∷ "     5.0  -5.0   5.0   5.0 450.0                            LAT/LON1/LON2/DLON/H"
    ∷ "  401  402  403"
    ∷ "     0.0  -5.0   5.0   5.0 450.0                            LAT/LON1/LON2/DLON/H"
    ∷ "  404  405  406"
    ∷ "     1                                                      END OF HEIGHT MAP"
    ∷ "     2                                                      START OF TEC MAP"
    ∷ "  1995    10    15     1     0     0                        EPOCH OF CURRENT MAP"
    ∷ "     5.0  -5.0   5.0   5.0 450.0                            LAT/LON1/LON2/DLON/H"
    ∷ "   21   22   23"
    ∷ "    -1                                                      EXPONENT"
    ∷ "     0.0  -5.0   5.0   5.0 450.0                            LAT/LON1/LON2/DLON/H"
    ∷ "   24   25   26"
    ∷ "     2                                                      END OF TEC MAP"
    ∷ "     2                                                      START OF RMS MAP"
    ∷ "     5.0  -5.0   5.0   5.0 450.0                            LAT/LON1/LON2/DLON/H"
    ∷ "    1    2    3"
    ∷ "     0.0  -5.0   5.0   5.0 450.0                            LAT/LON1/LON2/DLON/H"
    ∷ "    4    5    6"
    ∷ "     2                                                      END OF RMS MAP"
    ∷ "                                                            END OF FILE"
    ∷ []

-- map 1 under the header's exponent -2; its height map and the first row of map 2 under 0; then -1
unfoldable pub full_set : MapSet
full_set =
    record {
      header = record {
        version = record { tenths = 11; kind = 73; code = 6 };
        times = record { first = 3022704000; last = 3022707600; interval = 3600; maps = 2 };
        model = record { cutoff = 100; radius = 63710; dimension = 2 };
        grid = record {
          heights = axis_of (pos 4500) (pos 4500) (pos 0);
          latitudes = axis_of (pos 50) (pos 0) (negsuc 49);
          longitudes = axis_of (negsuc 49) (pos 50) (pos 50);
        };
        stations = given_count 80;
        satellites = given_count 32;
        systems = record { g = given_system 80 24; r = given_system 51 7; e = absent_system; c = absent_system; j = absent_system; i = absent_system; s = given_system 0 1 };
        descriptions = 2;
      };
      texts = full head_texts (bytes "one shell, spherical harmonics of degree 15                 " ++ replicate 1140 32);
      maps = record {
        tec =
            record { epoch = 3022704000; blocks = row_of_three (negsuc 1) (pos 11) (pos 12) (pos 9999) ∷ row_of_three (negsuc 1) (pos 13) (negsuc 13) (pos 15) ∷ [] }
            ∷ record { epoch = 3022707600; blocks = row_of_three (pos 0) (pos 21) (pos 22) (pos 23) ∷ row_of_three (negsuc 0) (pos 24) (pos 25) (pos 26) ∷ [] }
            ∷ [];
        rms = record { of = 2; blocks = row_of_three (negsuc 0) (pos 1) (pos 2) (pos 3) ∷ row_of_three (negsuc 0) (pos 4) (pos 5) (pos 6) ∷ [] } ∷ [];
        height = record { of = 1; blocks = row_of_three (pos 0) (pos 401) (pos 402) (pos 403) ∷ row_of_three (pos 0) (pos 404) (pos 405) (pos 406) ∷ [] } ∷ [];
      };
    }

pub full_read : read (lines full_text) ≡ ok full_set
unfolding full_text full_set whole_reading
full_read = refl

-- TEC, RMS and height values, the exponents of the three kinds, epochs, marks; an absent map reads as 9999 under -1
pub full_areas : areas full_set
    ≡ six
    (pos 11 ∷ pos 12 ∷ pos 9999 ∷ pos 13 ∷ negsuc 13 ∷ pos 15 ∷ pos 21 ∷ pos 22 ∷ pos 23 ∷ pos 24 ∷ pos 25 ∷ pos 26 ∷ [])
    (pos 9999 ∷ pos 9999 ∷ pos 9999 ∷ pos 9999 ∷ pos 9999 ∷ pos 9999 ∷ pos 1 ∷ pos 2 ∷ pos 3 ∷ pos 4 ∷ pos 5 ∷ pos 6 ∷ [])
    (pos 401 ∷ pos 402 ∷ pos 403 ∷ pos 404 ∷ pos 405 ∷ pos 406 ∷ pos 9999 ∷ pos 9999 ∷ pos 9999 ∷ pos 9999 ∷ pos 9999 ∷ pos 9999 ∷ [])
    (negsuc 1 ∷ negsuc 1 ∷ pos 0 ∷ negsuc 0 ∷ negsuc 0 ∷ negsuc 0 ∷ negsuc 0 ∷ negsuc 0 ∷ pos 0 ∷ pos 0 ∷ negsuc 0 ∷ negsuc 0 ∷ [])
    (3022704000 ∷ 3022707600 ∷ [])
    (2 ∷ 1 ∷ [])
unfolding full_set areas_of pick ℕ_discrete
full_areas = refl

-- the header in the table's order, then TEC, RMS and height maps; EXPONENT where it changes
unfoldable pub full_canon : List String
full_canon =
    "     1.1            IONOSPHERE MAPS     MIX                 IONEX VERSION / TYPE"
    ∷ "maker               agency              15-nov-26 06:00     PGM / RUN BY / DATE"
    ∷ "one shell, spherical harmonics of degree 15                 DESCRIPTION"
    ∷ "                                                            DESCRIPTION"
    ∷ "  1995    10    15     0     0     0                        EPOCH OF FIRST MAP"
    ∷ "  1995    10    15     1     0     0                        EPOCH OF LAST MAP"
    ∷ "  3600                                                      INTERVAL"
    ∷ "     2                                                      # OF MAPS IN FILE"
    ∷ "  COSZ                                                      MAPPING FUNCTION"
    ∷ "    10.0                                                    ELEVATION CUTOFF"
    ∷ "carrier phase                                               OBSERVABLES USED"
    ∷ "    80                                                      # OF STATIONS"
    ∷ "    32                                                      # OF SATELLITES"
    ∷ "     G    80    24                                          SYS / #STA / #SAT"
    ∷ "     R    51     7                                          SYS / #STA / #SAT"
    ∷ "     S     0     1                                          SYS / #STA / #SAT"
    ∷ "  6371.0                                                    BASE RADIUS"
    ∷ "     2                                                      MAP DIMENSION"
    ∷ "   450.0 450.0   0.0                                        HGT1 / HGT2 / DHGT"
    ∷ "     5.0   0.0  -5.0                                        LAT1 / LAT2 / DLAT"
    ∷ "    -5.0   5.0   5.0                                        LON1 / LON2 / DLON"
    ∷ "                                                            END OF HEADER"
    ∷ "     1                                                      START OF TEC MAP"
    ∷ "  1995    10    15     0     0     0                        EPOCH OF CURRENT MAP"
    ∷ "    -2                                                      EXPONENT"
    ∷ "     5.0  -5.0   5.0   5.0 450.0                            LAT/LON1/LON2/DLON/H"
    ∷ "   11   12 9999"
    ∷ "     0.0  -5.0   5.0   5.0 450.0                            LAT/LON1/LON2/DLON/H"
    ∷ "   13  -14   15"
    ∷ "     1                                                      END OF TEC MAP"
    ∷ "     2                                                      START OF TEC MAP"
    ∷ "  1995    10    15     1     0     0                        EPOCH OF CURRENT MAP"
    ∷ "     0                                                      EXPONENT"
    ∷ "     5.0  -5.0   5.0   5.0 450.0                            LAT/LON1/LON2/DLON/H"
    ∷ "   21   22   23"
    ∷ "    -1                                                      EXPONENT"
    ∷ "     0.0  -5.0   5.0   5.0 450.0                            LAT/LON1/LON2/DLON/H"
    ∷ "   24   25   26"
    ∷ "     2                                                      END OF TEC MAP"
    ∷ "     2                                                      START OF RMS MAP"
    ∷ "     5.0  -5.0   5.0   5.0 450.0                            LAT/LON1/LON2/DLON/H"
    ∷ "    1    2    3"
    ∷ "     0.0  -5.0   5.0   5.0 450.0                            LAT/LON1/LON2/DLON/H"
    ∷ "    4    5    6"
    ∷ "     2                                                      END OF RMS MAP"
    ∷ "     1                                                      START OF HEIGHT MAP"
    ∷ "     0                                                      EXPONENT"
    ∷ "     5.0  -5.0   5.0   5.0 450.0                            LAT/LON1/LON2/DLON/H"
    ∷ "  401  402  403"
    ∷ "     0.0  -5.0   5.0   5.0 450.0                            LAT/LON1/LON2/DLON/H"
    ∷ "  404  405  406"
    ∷ "     1                                                      END OF HEIGHT MAP"
    ∷ "                                                            END OF FILE"
    ∷ []

abbrev hour : ℕ → Epoch
hour h = record { year = 1995; month = 10; day = 15; hour = h; minute = 0; second = 0 }

midnight : date_of 3022704000 ≡ hour 0
unfolding dated second sum year_days month_days is_leap natural? within? ×_dec dec_le pick
midnight = date_once 3022704000 (date_of 3022704000) (hour 0) (date_is 3022704000 (omega arith)) (dated_ok (pos 1995) (pos 10) (pos 15) (pos 0) (pos 0) (pos 0) 3022704000 refl)

one_o_clock : date_of 3022707600 ≡ hour 1
unfolding dated second sum year_days month_days is_leap natural? within? ×_dec dec_le pick
one_o_clock = date_once 3022707600 (date_of 3022707600) (hour 1) (date_is 3022707600 (omega arith)) (dated_ok (pos 1995) (pos 10) (pos 15) (pos 1) (pos 0) (pos 0) 3022707600 refl)

-- k lines after i others, as rows; and all rows, with the epochs of the two maps
abbrev some_rows : ℕ → ℕ → List (List ℕ)
some_rows i k = map (λ l. pad (bytes l)) (take k (drop i full_canon))

unfoldable full_rows : Epoch → Epoch → List (List ℕ)
full_rows a b =
    some_rows 0 4
    ++ (row_of (head 1) (date a) ∷ row_of (head 2) (date b) ∷ (some_rows 6 17 ++ (row_of epoch (date a) ∷ (some_rows 24 7 ++ (row_of epoch (date b) ∷ some_rows 32 21)))))

as_rows : canon_rows full_set ≡ full_rows (date_of 3022704000) (date_of 3022707600)
unfolding full_rows full_set full_canon canon_rows header_rows description_rows lines_in head_rows slot_row row_of columns_of version_row map_rows tec_rows other_rows block_rows value_rows value_row cells_of show_field aligned digits name pad pick all_dec ×_dec ℕ_discrete dec_le dec_lt int?
as_rows = refl

as_lines : lines_of (full_rows (hour 0) (hour 1)) ≡ lines full_canon
unfolding full_rows full_canon row_of columns_of lines_of trimmed show_field aligned digits name pad pick all_dec ×_dec ℕ_discrete dec_le
as_lines = refl

pub full_written : canon full_set ≡ lines full_canon
unfolding canon
full_written = ap lines_of (as_rows ∙ (λ i. full_rows (midnight i) (one_o_clock i))) ∙ as_lines
