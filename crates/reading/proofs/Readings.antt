-- Short readings, written by hand from 01: small texts with a line or two changed, and the refusal that each gets; the header's records at the ends of what
-- is accepted; and the limits of the grid.
use mathlib.Core.Path.{◌≡◌, refl}
use mathlib.Core.List.{List, [], ◌∷◌, ◌++◌}
use mathlib.Core.Bool.{Bool, true, false}
use Prim.Native.Nat.{ℕ}
use Prim.Native.String.{String}
use lib.IntN.{ℤ, pos, negsuc}
use lib.ListN.{take, drop, replicate}
use native.Mathlib.Decide.{dec_le}
use Rattle.kit.specs.Answer.{Answer, refused, ok, All, bind, ×_dec}
use Rattle.kit.specs.Truth.{truth}
use Rattle.mapset.specs.Decisions.{×₃_dec, ×₄_dec, limits?}
use Rattle.mapset.specs.Said.{axis_of}
use Rattle.mapset.specs.Samples.{nodes_of}
use Rattle.mapset.specs.Header.{Said, number as number_said, along, counts}
use Rattle.mapset.specs.MapSet.{MapSet}
use Rattle.layout.specs.Text.{pad}
use Rattle.layout.specs.Labels.{bytes, head, content}
use Rattle.reading.specs.declared.Fault.{Fault}
use Rattle.reading.specs.Feed.{fault, why}
use Rattle.reading.specs.Fields.{fields}
use Rattle.layout.specs.Samples.{lines}
use Rattle.reading.specs.Head.{meant}
use Rattle.reading.specs.Read.{read}
use Rattle.reading.proofs.Vectors.{whole_reading, put, add, small_text, two_text}

abbrev pub description_line : String
description_line = "one shell                                                   DESCRIPTION"

-- a text, and the number, line and column of its refusal
pub record Reading : Type 0 where
  pub text : List String
  pub number : ℕ
  pub line : ℕ
  pub column : ℕ

abbrev pub of : List String → ℕ → ℕ → ℕ → Reading
of t k n c = record { text = t; number = k; line = n; column = c }

abbrev pub Refuses : Reading → Type 0
Refuses r = read (lines r.text) ≡ refused (why r.number r.line r.column)

pub readings : List Reading
readings =
    -- 1 and 2: 81 bytes, a byte above 126
    of (put 9 "carrier phase                                               OBSERVABLES USED     " small_text) 1 9 81
    ∷ of (put 9 "carrieréphase                                               OBSERVABLES USED" small_text) 2 9 8
    -- 3: the label, the version, the type, the code; 6 for columns 1 to 20 before any of these
    ∷ of (put 1 "     1.1            IONOSPHERE MAPS     MIX                 IONEX VERSION" small_text) 3 1 61
    ∷ of (put 1 "     1.2            OBSERVATIONS        XYZ                 IONEX VERSION / TYPE" small_text) 3 1 1
    ∷ of (put 1 "     1.1            OBSERVATIONS        XYZ                 IONEX VERSION / TYPE" small_text) 3 1 21
    ∷ of (put 1 "     1.1            IONOSPHERE MAPS     XYZ                 IONEX VERSION / TYPE" small_text) 3 1 41
    ∷ of (put 1 "     1.2 x          OBSERVATIONS        XYZ                 IONEX VERSION / TYPE" small_text) 6 1 10
    -- 4; 5 before 6: a record repeated, with an ill-formed field; a block too many, which is not looked at
    ∷ of (put 9 "carrier phase                                               OBSERVABLES" small_text) 4 9 61
    ∷ of (add 6 "  x600                                                      INTERVAL" small_text) 5 6 61
    ∷ of (add 25 "     x.0                                                    LAT/LON1/LON2/DLON/H" small_text) 5 25 61
    -- a twenty-first DESCRIPTION
    ∷ of (take 2 small_text ++ (replicate 21 description_line ++ drop 2 small_text)) 5 23 61
    -- 6 before 9: END OF HEADER with a bad column and without INTERVAL, END OF FILE with a bad column and without a map; then 9
    ∷ of (put 5 "" (put 16 "    x                                                       END OF HEADER" small_text)) 6 16 5
    ∷ of (put 5 "" small_text) 9 16 0
    ∷ of (put 6 "     2                                                      # OF MAPS IN FILE" (put 32 "    x                                                       END OF FILE" small_text)) 6 32 5
    ∷ of (put 6 "     2                                                      # OF MAPS IN FILE" small_text) 9 32 0
    -- 9 before 8: END OF HEADER without INTERVAL and with dimension 3, END with a wrong number and without a block; then 8
    ∷ of (put 5 "" (put 11 "     3                                                      MAP DIMENSION" small_text)) 9 16 0
    ∷ of (put 11 "     3                                                      MAP DIMENSION" small_text) 8 16 0
    ∷ of (put 22 "     2                                                      END OF TEC MAP" small_text) 9 22 0
    ∷ of (put 25 "     2                                                      END OF TEC MAP" small_text) 8 25 1
    -- 6, at the first column of the field, or at the column that is not blank
    ∷ of (put 14 "     0.0  1x.0   5.0                                        LON1 / LON2 / DLON" small_text) 6 14 9
    ∷ of (put 14 "     0.0  10.0   5.0  x                                     LON1 / LON2 / DLON" small_text) 6 14 23
    ∷ of (put 20 "  100 9x99   -5" small_text) 6 20 6
    ∷ of (put 20 "  100 9999   -5    1" small_text) 6 20 20
    -- 7: each end and the step before the rule over all three; an exponent of 1; a SYS letter, its counts
    ∷ of (put 13 "    90.1   0.0  -5.0                                        LAT1 / LAT2 / DLAT" small_text) 7 13 3
    ∷ of (put 14 "     0.0 360.1   5.0                                        LON1 / LON2 / DLON" small_text) 7 14 9
    ∷ of (put 14 "     0.0  10.0  15.1                                        LON1 / LON2 / DLON" small_text) 7 14 15
    ∷ of (put 14 "     0.0  11.0   5.0                                        LON1 / LON2 / DLON" small_text) 7 14 0
    ∷ of (put 22 "     1                                                      EXPONENT" small_text) 7 22 1
    ∷ of (put 22 "    -4                                                      EXPONENT" small_text) 7 22 1
    ∷ of (put 15 "     X     1     1                                          SYS / #STA / #SAT" small_text) 7 15 6
    ∷ of (put 15 "     G    -1     1                                          SYS / #STA / #SAT" small_text) 7 15 7
    ∷ of (put 15 "     G     1    -1                                          SYS / #STA / #SAT" small_text) 7 15 13
    ∷ of (put 5 " 21601                                                      INTERVAL" small_text) 7 5 1
    -- 7 in an epoch: the year, the month, a day that the month lacks, the hour, the minute, the second
    ∷ of (put 3 "  1899    10    15     0     0     0                        EPOCH OF FIRST MAP" small_text) 7 3 1
    ∷ of (put 3 "  1995    13    15     0     0     0                        EPOCH OF FIRST MAP" small_text) 7 3 7
    ∷ of (put 18 "  1995     2    29     0     0     0                        EPOCH OF CURRENT MAP" small_text) 7 18 13
    ∷ of (put 18 "  1995    10    15    24     0     0                        EPOCH OF CURRENT MAP" small_text) 7 18 19
    ∷ of (put 18 "  1995    10    15     0    60     0                        EPOCH OF CURRENT MAP" small_text) 7 18 25
    ∷ of (put 18 "  1995    10    15     0     0    60                        EPOCH OF CURRENT MAP" small_text) 7 18 31
    -- 8: an RMS map too early; a block's latitude, LON1, LON2, DLON, and in dimension 3 its H
    ∷ of (put 17 "     1                                                      START OF RMS MAP" small_text) 8 17 1
    ∷ of (put 19 "     0.0   0.0  10.0   5.0 450.0                            LAT/LON1/LON2/DLON/H" small_text) 8 19 3
    ∷ of (put 19 "     5.0   5.0  10.0   5.0 450.0                            LAT/LON1/LON2/DLON/H" small_text) 8 19 9
    ∷ of (put 19 "     5.0   0.0  15.0   5.0 450.0                            LAT/LON1/LON2/DLON/H" small_text) 8 19 15
    ∷ of (put 19 "     5.0   0.0  10.0  10.0 450.0                            LAT/LON1/LON2/DLON/H" small_text) 8 19 21
    ∷ of (put 11 "     3                                                      MAP DIMENSION" (put 12 "   450.0 500.0  50.0                                        HGT1 / HGT2 / DHGT" (put 19 "     5.0   0.0  10.0   5.0 451.0                            LAT/LON1/LON2/DLON/H" small_text))) 8 19 27
    -- 8: epochs 21,601 s apart; 10 at the line after the last
    ∷ of (put 4 "  1995    10    15     6     0     1                        EPOCH OF LAST MAP" (put 5 "     0                                                      INTERVAL" (put 22 "  1995    10    15     6     0     1                        EPOCH OF CURRENT MAP" two_text))) 8 22 1
    ∷ of (take 31 small_text) 10 32 0
    ∷ []

pub refused_readings : All Refuses readings
unfolding readings small_text two_text whole_reading
refused_readings = (refl, (refl, (refl, (refl, (refl, (refl, (refl, (refl, (refl, (refl, (refl, (refl, (refl, (refl, (refl, (refl, (refl, (refl, (refl, (refl, (refl, (refl, (refl, (refl, (refl, (refl, (refl, (refl, (refl, (refl, (refl, (refl, (refl, (refl, (refl, (refl, (refl, (refl, (refl, (refl, (refl, (refl, (refl, (refl, (refl, (refl, (refl, tt)))))))))))))))))))))))))))))))))))))))))))))))

-- ---- accepted: twenty DESCRIPTION lines, 80 bytes, exponents of 0 and -3, and epochs 21,600 s apart
pub accepted_texts : List (List String)
accepted_texts =
    (take 2 small_text ++ (replicate 20 description_line ++ drop 2 small_text))
    ∷ put 9 "carrier phase                                               OBSERVABLES USED    " small_text
    ∷ put 22 "     0                                                      EXPONENT" small_text
    ∷ put 22 "    -3                                                      EXPONENT" small_text
    ∷ put 4 "  1995    10    15     6     0     0                        EPOCH OF LAST MAP" (put 5 " 21600                                                      INTERVAL" (put 22 "  1995    10    15     6     0     0                        EPOCH OF CURRENT MAP" two_text))
    ∷ []

pub accepted_readings : All (λ t. (s : MapSet) × (read (lines t) ≡ ok s)) accepted_texts
unfolding accepted_texts small_text two_text whole_reading
accepted_readings = ((_, refl), ((_, refl), ((_, refl), ((_, refl), ((_, refl), tt)))))

-- ---- a header record by itself: its place in `contents`, its columns, and what it says or its refusal
pub record Edge : Type 0 where
  pub place : ℕ
  pub columns : String
  pub answer : Answer Fault Said

abbrev at : ℕ → String → Answer Fault Said → Edge
at i s a = record { place = i; columns = s; answer = a }

-- a number that is accepted, an axis that is, and 7 at a column
abbrev takes : ℕ → Answer Fault Said
takes n = ok (number_said n)

abbrev takes_axis : (first last step : ℤ) → Answer Fault Said
takes_axis a b d = ok (along (axis_of a b d))

abbrev refuses : ℕ → Answer Fault Said
refuses c = refused (fault 7 c)

abbrev pub Judges : Edge → Type 0
Judges x = bind (fields (head x.place) (pad (bytes x.columns))) (meant (content x.place)) ≡ x.answer

-- the ends of what 01 accepts, and what is next to them
pub edges : List Edge
edges =
    -- an epoch: years 1900 to 2199, each field's own range
    at 1 "  1900     1     1     0     0     0" (takes 0)
    ∷ at 1 "  2199    12    31    23    59    59" (takes 9467107199)
    ∷ at 1 "  1899    12    31    23    59    59" (refuses 1)
    ∷ at 1 "  2200     1     1     0     0     0" (refuses 1)
    ∷ at 2 "  1995     0    15     0     0     0" (refuses 7)
    ∷ at 2 "  1995     4     0     0     0     0" (refuses 13)
    ∷ at 2 "  1995     4    31     0     0     0" (refuses 13)
    ∷ at 2 "  1995     4    30    -1     0     0" (refuses 19)
    ∷ at 2 "  1995     4    30     0    -1     0" (refuses 25)
    ∷ at 2 "  1995     4    30     0     0    -1" (refuses 31)
    -- INTERVAL, # OF MAPS IN FILE, ELEVATION CUTOFF
    ∷ at 3 "     0" (takes 0)
    ∷ at 3 " 21600" (takes 21600)
    ∷ at 3 "    -1" (refuses 1)
    ∷ at 3 " 21601" (refuses 1)
    ∷ at 4 "     1" (takes 1)
    ∷ at 4 "   300" (takes 300)
    ∷ at 4 "     0" (refuses 1)
    ∷ at 4 "   301" (refuses 1)
    ∷ at 6 "     0.0" (takes 0)
    ∷ at 6 "    90.0" (takes 900)
    ∷ at 6 "    -0.1" (refuses 1)
    ∷ at 6 "    90.1" (refuses 1)
    -- # OF STATIONS, # OF SATELLITES, BASE RADIUS, MAP DIMENSION
    ∷ at 8 "     0" (takes 0)
    ∷ at 8 "999999" (takes 999999)
    ∷ at 8 "    -1" (refuses 1)
    ∷ at 9 "     0" (takes 0)
    ∷ at 9 "999999" (takes 999999)
    ∷ at 9 "    -1" (refuses 1)
    ∷ at 10 "  1000.0" (takes 10000)
    ∷ at 10 " 99999.9" (takes 999999)
    ∷ at 10 "   999.9" (refuses 1)
    ∷ at 10 "100000.0" (refuses 1)
    ∷ at 11 "     2" (takes 2)
    ∷ at 11 "     3" (takes 3)
    ∷ at 11 "     1" (refuses 1)
    ∷ at 11 "     4" (refuses 1)
    -- heights: DHGT 0 with equal ends, or the span a positive whole multiple of it
    ∷ at 12 "     0.09999.99999.9" (takes_axis (pos 0) (pos 99999) (pos 99999))
    ∷ at 12 "   450.0 450.0   0.0" (takes_axis (pos 4500) (pos 4500) (pos 0))
    ∷ at 12 "    -0.1 450.0   0.0" (refuses 3)
    ∷ at 12 "   450.0  -0.1   0.0" (refuses 9)
    ∷ at 12 "   450.0 500.0  -0.1" (refuses 15)
    ∷ at 12 "   450.0 450.0  50.0" (refuses 0)
    ∷ at 12 "   450.0 500.0   0.0" (refuses 0)
    ∷ at 12 "   500.0 450.0  50.0" (refuses 0)
    ∷ at 12 "   450.0 500.0  30.0" (refuses 0)
    -- latitudes: multiples of DLAT, in its direction; equal ends are one row
    ∷ at 13 "    90.0 -90.0 -15.0" (takes_axis (pos 900) (negsuc 899) (negsuc 149))
    ∷ at 13 "   -90.0  90.0  15.0" (takes_axis (negsuc 899) (pos 900) (pos 150))
    ∷ at 13 "     5.0   5.0  -5.0" (takes_axis (pos 50) (pos 50) (negsuc 49))
    ∷ at 13 "    90.1 -90.0  -5.0" (refuses 3)
    ∷ at 13 "   -90.1 -90.0  -5.0" (refuses 3)
    ∷ at 13 "    90.0 -90.1  -5.0" (refuses 9)
    ∷ at 13 "    90.0 -90.0 -15.1" (refuses 15)
    ∷ at 13 "   -90.0  90.0  15.1" (refuses 15)
    ∷ at 13 "     5.0   5.0   0.0" (refuses 15)
    ∷ at 13 "    90.0 -90.0   5.0" (refuses 0)
    ∷ at 13 "   -90.0  90.0  -5.0" (refuses 0)
    ∷ at 13 "     4.0   0.0  -5.0" (refuses 0)
    ∷ at 13 "     5.0   1.0  -5.0" (refuses 0)
    -- longitudes: multiples of DLON, from LON1 to at most 360.0 further east
    ∷ at 14 "  -180.0 180.0  15.0" (takes_axis (negsuc 1799) (pos 1800) (pos 150))
    ∷ at 14 "     0.0 360.0   0.1" (takes_axis (pos 0) (pos 3600) (pos 1))
    ∷ at 14 "  -180.1   0.0   0.1" (refuses 3)
    ∷ at 14 "   360.1 360.0   0.1" (refuses 3)
    ∷ at 14 "     0.0 360.1   0.1" (refuses 9)
    ∷ at 14 "     0.0 360.0  15.1" (refuses 15)
    ∷ at 14 "     0.0 360.0   0.0" (refuses 15)
    ∷ at 14 "     0.0   5.0  -5.0" (refuses 15)
    ∷ at 14 "    -0.1 360.0   0.1" (refuses 0)
    ∷ at 14 "     5.0   0.0   5.0" (refuses 0)
    ∷ at 14 "     4.0  10.0   5.0" (refuses 0)
    ∷ at 14 "     5.0  11.0   5.0" (refuses 0)
    -- the counts of SYS / #STA / #SAT
    ∷ at 15 "     G999999999999" (ok (counts 999999 999999))
    ∷ at 15 "     G     0     0" (ok (counts 0 0))
    ∷ at 15 "     G    -1    -1" (refuses 7)
    ∷ at 15 "     G     0    -1" (refuses 13)
    ∷ []

pub header_edges : All Judges edges
unfolding edges whole_reading
header_edges = (refl, (refl, (refl, (refl, (refl, (refl, (refl, (refl, (refl, (refl, (refl, (refl, (refl, (refl, (refl, (refl, (refl, (refl, (refl, (refl, (refl, (refl, (refl, (refl, (refl, (refl, (refl, (refl, (refl, (refl, (refl, (refl, (refl, (refl, (refl, (refl, (refl, (refl, (refl, (refl, (refl, (refl, (refl, (refl, (refl, (refl, (refl, (refl, (refl, (refl, (refl, (refl, (refl, (refl, (refl, (refl, (refl, (refl, (refl, (refl, (refl, (refl, (refl, (refl, (refl, (refl, (refl, (refl, (refl, (refl, (refl, (refl, (refl, (refl, tt))))))))))))))))))))))))))))))))))))))))))))))))))))))))))))))))))))))))))

-- ---- 361 rows, 721 columns, 64 layers, 2,000,000 nodes, and one more of each
-- n maps of L layers, R rows and C columns
pub record GridSize : Type 0 where
  pub n : ℕ
  pub L : ℕ
  pub R : ℕ
  pub C : ℕ

abbrev sized : ℕ → ℕ → ℕ → ℕ → GridSize
sized n l r c = record { n = n; L = l; R = r; C = c }

abbrev pub fits : GridSize → Bool
fits s = truth (limits? s.n (record { heights = nodes_of s.L; latitudes = nodes_of s.R; longitudes = nodes_of s.C }))

pub size_fits : All (λ s. fits s ≡ true) (sized 1 1 361 1 ∷ sized 1 1 1 721 ∷ sized 1 64 1 1 ∷ sized 8 10 250 100 ∷ sized 2000000 1 1 1 ∷ [])
unfolding truth limits? ×₄_dec ×₃_dec ×_dec dec_le
size_fits = (refl, (refl, (refl, (refl, (refl, tt)))))

pub size_too_big : All (λ s. fits s ≡ false) (sized 1 1 362 1 ∷ sized 1 1 1 722 ∷ sized 1 65 1 1 ∷ sized 8 10 250 101 ∷ sized 2000001 1 1 1 ∷ [])
unfolding truth limits? ×₄_dec ×₃_dec ×_dec dec_le
size_too_big = (refl, (refl, (refl, (refl, (refl, tt)))))
