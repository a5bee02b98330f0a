-- Texts that tell: an order of refusals that no rule of the layout shows, two small texts that are accepted, and numbers without a digit before the point.
use mathlib.Core.Path.{◌≡◌, refl}
use mathlib.Core.List.{List, [], ◌∷◌, ◌++◌}
use Prim.Native.Nat.{ℕ, ◌-◌}
use lib.IntN.{ℤ, pos, negsuc}
use lib.ListN.{take, drop, replicate}
use Prim.Native.String.{String}
use native.Mathlib.Decide.{ℕ_discrete, dec_le, dec_lt}
use Rattle.kit.specs.Answer.{Answer, ok, refused, need, bind, amap, get, pick, ×_dec, ⊎_dec, ¬_dec, all_dec, same, sames}
use Rattle.kit.specs.Integer.{int?, le?, lt?, between?}
use Rattle.kit.specs.Range.{within?, natural?}
use Rattle.days.specs.Years.{is_leap, month_days, year_days}
use Rattle.calendar.specs.Calendar.{dated, second}
use Rattle.days.specs.Sums.{sum}
use Rattle.forms.specs.Read.{read_field, number_of, formed?}
use Rattle.mapset.specs.Decisions.{×₃_dec, ×₄_dec, end?, step?, multiple?, together?, limits?, dimension?, follows?}
use Rattle.mapset.specs.Described.{full}
use Rattle.mapset.specs.Lines.{end_to_end, described, no_lines}
use Rattle.mapset.specs.MapSet.{Block, MapSet}
use Rattle.mapset.specs.Said.{axis_of}
use Rattle.mapset.specs.Samples.{given_count, shell_header, plain_header, row_of_three}
use Rattle.layout.specs.Text.{pad}
use Rattle.layout.specs.Labels.{version, bytes, name}
use Rattle.layout.specs.Layout.{Makes, exponent?}
use Rattle.layout.specs.Samples.{lines, mix_line, head_lines, one_map_lines, head_texts, pair_axes, pair_map}
use Rattle.reading.specs.declared.Why.{Why}
use Rattle.reading.specs.Feed.{fault, why, on_line, front, opens?, split, feed, bad_column}
use Rattle.reading.specs.Fields.{lookup, label, number, blanks, blank, scan, fields, cells}
use Rattle.reading.specs.Maps.{on_date, kind?, true?, after?, implies?, in_time?, height?, loose, on_comment, on_exponent, start_tec, start_other, start_map, on_start, end_map, on_end as on_map_end, epoch_tec, epoch_other, on_epoch, open_block, on_block, on_file, taken, step, finish, run, short}
use Rattle.reading.specs.Head.{meant, place, none?, complete?, made, made_texts, once, on_description, on_system, on_end, at_head, head_step, heading}
use Rattle.reading.specs.Read.{versioned, version_of, begin, read}
use Rattle.reading.proofs.Exact.{made_read}

-- what a text reads as. To unfold this is to unfold each step of `read`
unfoldable pub whole_reading : List ℕ → Answer Why MapSet
unfolding read begin feed split front opens? bad_column pad pick ×_dec ⊎_dec ¬_dec all_dec same sames need bind amap get ℕ_discrete dec_le dec_lt int? le? lt? between? within? natural? dated second is_leap month_days year_days sum read_field number_of formed? ×₃_dec ×₄_dec end? step? multiple? together? limits? dimension? follows? name on_line lookup label number blanks blank scan fields cells on_date exponent? kind? true? after? implies? in_time? height? loose on_comment on_exponent start_tec start_other start_map on_start end_map on_map_end epoch_tec epoch_other on_epoch open_block on_block on_file taken step finish run short meant place none? complete? made made_texts described end_to_end no_lines once on_description on_system on_end at_head head_step heading versioned version_of
whole_reading = read

-- a text with another line n; with one more line in front of line n
abbrev pub put : ℕ → String → List String → List String
put n s ls = take (n - 1) ls ++ (s ∷ drop n ls)

abbrev pub add : ℕ → String → List String → List String
add n s ls = take (n - 1) ls ++ (s ∷ drop (n - 1) ls)

-- dimension 3 with DHGT 0 (8) and 451 rows (7): 8 comes first
pub two_faults : List String
two_faults =
    put 11 "     3                                                      MAP DIMENSION"
    (mix_line ∷ (one_map_lines
    ++ ("    90.0 -90.0  -0.4                                        LAT1 / LAT2 / DLAT"
    ∷ "     0.0   0.0   5.0                                        LON1 / LON2 / DLON"
    ∷ "                                                            END OF HEADER"
    ∷ [])))

pub eight_before_seven : read (lines two_faults) ≡ refused (why 8 15 0)
unfolding two_faults whole_reading
eight_before_seven = refl

-- a small text: one TEC map and its RMS map, of two rows and three columns; LAT1 / LAT2 / DLAT is line 13
unfoldable pub small_text : List String
small_text =
    mix_line ∷ (one_map_lines
    ++ ("     5.0   0.0  -5.0                                        LAT1 / LAT2 / DLAT"
    ∷ "     0.0  10.0   5.0                                        LON1 / LON2 / DLON"
    ∷ "    80                                                      # OF STATIONS"
    ∷ "                                                            END OF HEADER"
    ∷ "     1                                                      START OF TEC MAP"
    ∷ "  1995    10    15     0     0     0                        EPOCH OF CURRENT MAP"
    ∷ "     5.0   0.0  10.0   5.0 450.0                            LAT/LON1/LON2/DLON/H"
    ∷ "  100 9999   -5"
    ∷ ""
    ∷ "    -2                                                      EXPONENT"
    ∷ "     0.0   0.0  10.0   5.0 450.0                            LAT/LON1/LON2/DLON/H"
    ∷ "    1    2    3"
    ∷ "     1                                                      END OF TEC MAP"
    ∷ "     1                                                      START OF RMS MAP"
    ∷ "     5.0   0.0  10.0   5.0 450.0                            LAT/LON1/LON2/DLON/H"
    ∷ "    4    5    6"
    ∷ "     0.0   0.0  10.0   5.0 450.0                            LAT/LON1/LON2/DLON/H"
    ∷ "    7    8    9"
    ∷ "     1                                                      END OF RMS MAP"
    ∷ "                                                            END OF FILE"
    ∷ []))

-- the map set that makes it, with n DESCRIPTION lines in these bytes: the second row and the RMS map stand under the exponent -2
abbrev small_with : ℕ → List ℕ → MapSet
small_with n bs =
    record {
      header =
          shell_header 63710 (record { first = 3022704000; last = 3022704000; interval = 0; maps = 1 })
          (axis_of (pos 50) (pos 0) (negsuc 49)) (axis_of (pos 0) (pos 100) (pos 50)) (given_count 80) n;
      texts = full head_texts bs;
      maps = record {
        tec = record { epoch = 3022704000; blocks = row_of_three (negsuc 0) (pos 100) (pos 9999) (negsuc 4) ∷ row_of_three (negsuc 1) (pos 1) (pos 2) (pos 3) ∷ [] } ∷ [];
        rms = record { of = 1; blocks = row_of_three (negsuc 1) (pos 4) (pos 5) (pos 6) ∷ row_of_three (negsuc 1) (pos 7) (pos 8) (pos 9) ∷ [] } ∷ [];
        height = [];
      };
    }

unfoldable pub small_set : MapSet
small_set = small_with 0 no_lines

pub small_read : read (lines small_text) ≡ ok small_set
unfolding small_text small_set whole_reading
small_read = refl

pub small_made : Makes small_set (lines small_text)
small_made = made_read (lines small_text) small_read

-- the small text with two DESCRIPTION lines, one of them blank, and other records between
unfoldable pub described_text : List String
described_text =
    add 11 "                                                            DESCRIPTION"
    (add 3 "global model of degree 15, one shell                        DESCRIPTION" small_text)

-- both are kept, in the text's order, each of 60 columns, and then blanks up to 1,200
pub described_read : read (lines described_text)
    ≡ ok (small_with 2 (bytes "global model of degree 15, one shell                        " ++ (bytes "                                                            " ++ replicate 1080 32)))
unfolding small_text described_text whole_reading
described_read = refl

-- a text with two TEC maps of one row and two columns
unfoldable pub two_text : List String
two_text =
    mix_line
    ∷ (head_lines
    "  1995    10    15     1     0     0                        EPOCH OF LAST MAP"
    "  3600                                                      INTERVAL"
    "     2                                                      # OF MAPS IN FILE"
    ++ (pair_axes
    ++ ("                                                            END OF HEADER"
    ∷ "     1                                                      START OF TEC MAP"
    ∷ "  1995    10    15     0     0     0                        EPOCH OF CURRENT MAP"
    ∷ "     5.0   0.0   5.0   5.0 450.0                            LAT/LON1/LON2/DLON/H"
    ∷ "   11   12"
    ∷ "     1                                                      END OF TEC MAP"
    ∷ "     2                                                      START OF TEC MAP"
    ∷ "  1995    10    15     1     0     0                        EPOCH OF CURRENT MAP"
    ∷ "     5.0   0.0   5.0   5.0 450.0                            LAT/LON1/LON2/DLON/H"
    ∷ "   21   22"
    ∷ "     2                                                      END OF TEC MAP"
    ∷ "                                                            END OF FILE"
    ∷ [])))

abbrev pair_of : ℤ → ℤ → Block
pair_of a b = record { exponent = negsuc 0; values = a ∷ b ∷ [] }

unfoldable pub two_set : MapSet
two_set =
    record {
      header =
          plain_header (record { first = 3022704000; last = 3022707600; interval = 3600; maps = 2 })
          (axis_of (pos 50) (pos 50) (pos 50)) (axis_of (pos 0) (pos 50) (pos 50));
      texts = full head_texts no_lines;
      maps = record {
        tec = record { epoch = 3022704000; blocks = pair_of (pos 11) (pos 12) ∷ [] } ∷ record { epoch = 3022707600; blocks = pair_of (pos 21) (pos 22) ∷ [] } ∷ [];
        rms = [];
        height = [];
      };
    }

pub two_read : read (lines two_text) ≡ ok two_set
unfolding two_text two_set whole_reading
two_read = refl

-- a text with half a degree in its axes and in its block's opening, as these lines spell it
pub half_text : String → String → String → List String
half_text lat lon opening = mix_line ∷ (one_map_lines ++ (lat ∷ lon ∷ pair_map opening []))

pub bare_text : List String
bare_text =
    half_text
    "      .5    .5    .5                                        LAT1 / LAT2 / DLAT"
    "     -.5    .0    .5                                        LON1 / LON2 / DLON"
    "      .5   -.5   -.0    .5 450.0                            LAT/LON1/LON2/DLON/H"

pub full_text : List String
full_text =
    half_text
    "     0.5   0.5   0.5                                        LAT1 / LAT2 / DLAT"
    "    -0.5   0.0   0.5                                        LON1 / LON2 / DLON"
    "     0.5  -0.5  -0.0   0.5 450.0                            LAT/LON1/LON2/DLON/H"

-- `.5` is accepted, and means what `0.5` means
pub bare_read : (s : MapSet) × (read (lines bare_text) ≡ ok s) × (read (lines full_text) ≡ ok s)
unfolding half_text bare_text full_text whole_reading
bare_read = (_, refl, refl)

-- the digit after the point is not left out: 6 at the field's first column
pub no_digit : read (lines (half_text "      .5    .5    .5                                        LAT1 / LAT2 / DLAT" "      -.    .0    .5                                        LON1 / LON2 / DLON" "")) ≡ refused (why 6 14 3)
unfolding half_text whole_reading
no_digit = refl

-- ---- versions: GPS and GLO stand under 1.0 and not under 1.1; the version is told before the type, the type before the code

abbrev version_row : String → List ℕ
version_row s = bytes s ++ name version

pub versions_read : (version_of (version_row "     1.0            IONOSPHERE MAPS     GPS                 ") ≡ ok (record { tenths = 10; kind = 73; code = 9 }))
    × (version_of (version_row "     1.0            IONOSPHERE MAPS     GLO                 ") ≡ ok (record { tenths = 10; kind = 73; code = 10 }))
    × (version_of (version_row "     1.0            IONOSPHERE MAPS     MIX                 ") ≡ ok (record { tenths = 10; kind = 73; code = 6 }))
    × (version_of (version_row "     1.1            IONOSPHERE MAPS     GPS                 ") ≡ refused (fault 3 41))
    × (version_of (version_row "     1.2            GEODESY             GPS                 ") ≡ refused (fault 3 1))
    × (version_of (version_row "     1.1            GEODESY             GPS                 ") ≡ refused (fault 3 21))
unfolding whole_reading
versions_read = (refl, refl, refl, refl, refl, refl)
