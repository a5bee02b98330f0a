-- Short readings likewise, for each way to earn 5 and 8: small texts with a line changed or added.
use mathlib.Core.Path.{refl}
use mathlib.Core.List.{List, [], ◌∷◌}
use Rattle.kit.specs.Answer.{All}
use Rattle.reading.proofs.Vectors.{whole_reading, put, add, small_text, two_text}
use Rattle.reading.proofs.Readings.{Reading, of, Refuses}

-- 5: a record where it may not stand
pub misplaced : List Reading
misplaced =
    -- a second version record; END OF AUX DATA alone; records of the maps before END OF HEADER, and of the header behind it; SYS twice for a letter
    of (add 2 "     1.1            IONOSPHERE MAPS     MIX                 IONEX VERSION / TYPE" small_text) 5 2 61
    ∷ of (add 3 "                                                            END OF AUX DATA" small_text) 5 3 61
    ∷ of (add 3 "     1                                                      START OF TEC MAP" small_text) 5 3 61
    ∷ of (add 17 "     0                                                      INTERVAL" small_text) 5 17 61
    ∷ of (add 17 "                                                            START OF AUX DATA" small_text) 5 17 61
    ∷ of (add 17 "one shell                                                   DESCRIPTION" small_text) 5 17 61
    ∷ of (add 16 "     G    80    24                                          SYS / #STA / #SAT" (put 15 "     G    80    24                                          SYS / #STA / #SAT" small_text)) 5 16 61
    -- EPOCH twice, outside a map, and behind the first block of an RMS map; a block outside a map, and before the map's epoch
    ∷ of (add 19 "  1995    10    15     0     0     0                        EPOCH OF CURRENT MAP" small_text) 5 19 61
    ∷ of (add 17 "  1995    10    15     0     0     0                        EPOCH OF CURRENT MAP" small_text) 5 17 61
    ∷ of (add 29 "  1995    10    15     0     0     0                        EPOCH OF CURRENT MAP" small_text) 5 29 61
    ∷ of (add 17 "     5.0   0.0  10.0   5.0 450.0                            LAT/LON1/LON2/DLON/H" small_text) 5 17 61
    ∷ of (add 18 "     5.0   0.0  10.0   5.0 450.0                            LAT/LON1/LON2/DLON/H" small_text) 5 18 61
    -- START and END OF FILE in a map that is open, before its epoch and behind; END of a map that is not open, and of another kind
    ∷ of (add 18 "     1                                                      START OF TEC MAP" small_text) 5 18 61
    ∷ of (add 19 "     1                                                      START OF RMS MAP" small_text) 5 19 61
    ∷ of (add 18 "                                                            END OF FILE" small_text) 5 18 61
    ∷ of (add 23 "                                                            END OF FILE" small_text) 5 23 61
    ∷ of (add 17 "     1                                                      END OF TEC MAP" small_text) 5 17 61
    ∷ of (put 25 "     1                                                      END OF RMS MAP" small_text) 5 25 61
    -- EXPONENT, COMMENT and END OF FILE behind END OF FILE
    ∷ of (add 33 "    -1                                                      EXPONENT" small_text) 5 33 61
    ∷ of (add 33 "no more                                                     COMMENT" small_text) 5 33 61
    ∷ of (add 33 "                                                            END OF FILE" small_text) 5 33 61
    ∷ []

pub misplaced_readings : All Refuses misplaced
unfolding misplaced small_text whole_reading
misplaced_readings = (refl, (refl, (refl, (refl, (refl, (refl, (refl, (refl, (refl, (refl, (refl, (refl, (refl, (refl, (refl, (refl, (refl, (refl, (refl, (refl, (refl, tt)))))))))))))))))))))

-- 8: a number or an epoch that disagrees
pub disagreeing : List Reading
disagreeing =
    -- the number of a TEC map, and a TEC map too many; the number of an RMS map, which is of a TEC map that has ended and rises; the number at its END
    of (put 17 "     2                                                      START OF TEC MAP" small_text) 8 17 1
    ∷ of (add 32 "     2                                                      START OF TEC MAP" small_text) 8 32 1
    ∷ of (put 26 "     2                                                      START OF RMS MAP" small_text) 8 26 1
    ∷ of (add 32 "     1                                                      START OF RMS MAP" small_text) 8 32 1
    ∷ of (put 31 "     2                                                      END OF RMS MAP" small_text) 8 31 1
    -- an RMS map's epoch, the first and the last TEC map's; one that is not later; one that is not INTERVAL later
    ∷ of (add 27 "  1995    10    15     0     0     1                        EPOCH OF CURRENT MAP" small_text) 8 27 1
    ∷ of (put 18 "  1995    10    15     0     0     1                        EPOCH OF CURRENT MAP" small_text) 8 18 1
    ∷ of (put 4 "  1995    10    15     2     0     0                        EPOCH OF LAST MAP" (put 5 "     0                                                      INTERVAL" two_text)) 8 22 1
    ∷ of (put 22 "  1995    10    15     0     0     0                        EPOCH OF CURRENT MAP" two_text) 8 22 1
    ∷ of (put 5 "  1800                                                      INTERVAL" two_text) 8 22 1
    ∷ []

pub disagreeing_readings : All Refuses disagreeing
unfolding disagreeing small_text two_text whole_reading
disagreeing_readings = (refl, (refl, (refl, (refl, (refl, (refl, (refl, (refl, (refl, (refl, tt))))))))))
