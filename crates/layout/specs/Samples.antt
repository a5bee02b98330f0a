-- The lines that sample texts share, and what their header says in words. No contract rests on this.
use Rattle.std.specs.Prelude.{List, [], ◌∷◌, ◌++◌, ℕ}
use Prim.Native.String.{String}
use Rattle.mapset.specs.declared.Texts.{Texts}
use Rattle.layout.specs.Labels.{bytes}

-- the text of lines, each ended by LF
abbrev pub lines : List String → List ℕ
lines [] = []
lines (s ∷ ss) = bytes s ++ (10 ∷ lines ss)

-- line 1
abbrev pub mix_line : String
mix_line = "     1.1            IONOSPHERE MAPS     MIX                 IONEX VERSION / TYPE"

-- lines 2 to 12, up to the heights, with the epoch of the last map, INTERVAL and the number of maps
abbrev pub head_lines : (last interval maps : String) → List String
head_lines last interval maps =
    "maker               agency              15-nov-26 06:00     PGM / RUN BY / DATE"
    ∷ "  1995    10    15     0     0     0                        EPOCH OF FIRST MAP"
    ∷ last
    ∷ interval
    ∷ maps
    ∷ "  COSZ                                                      MAPPING FUNCTION"
    ∷ "     0.0                                                    ELEVATION CUTOFF"
    ∷ "carrier phase                                               OBSERVABLES USED"
    ∷ "  6371.0                                                    BASE RADIUS"
    ∷ "     2                                                      MAP DIMENSION"
    ∷ "   450.0 450.0   0.0                                        HGT1 / HGT2 / DHGT"
    ∷ []

-- and those of one map
abbrev pub one_map_lines : List String
one_map_lines =
    head_lines
    "  1995    10    15     0     0     0                        EPOCH OF LAST MAP"
    "     0                                                      INTERVAL"
    "     1                                                      # OF MAPS IN FILE"

-- what they say in words
abbrev pub head_texts : Texts
head_texts =
    record {
      program = bytes "maker               ";
      agency = bytes "agency              ";
      date = bytes "15-nov-26 06:00     ";
      mapping = bytes "COSZ";
      observables = bytes "carrier phase                                               ";
    }

-- the axes of one row of two nodes
abbrev pub pair_axes : List String
pair_axes =
    "     5.0   5.0   5.0                                        LAT1 / LAT2 / DLAT"
    ∷ "     0.0   5.0   5.0                                        LON1 / LON2 / DLON"
    ∷ []

-- END OF HEADER and behind it: one map of one row of two nodes, with its block's opening line and lines between that and the values
abbrev pub pair_map : (opening : String) (between : List String) → List String
pair_map opening between =
    "                                                            END OF HEADER"
    ∷ "     1                                                      START OF TEC MAP"
    ∷ "  1995    10    15     0     0     0                        EPOCH OF CURRENT MAP"
    ∷ opening
    ∷ (between ++ ("   11   12"
    ∷ "     1                                                      END OF TEC MAP"
    ∷ "                                                            END OF FILE"
    ∷ []))
