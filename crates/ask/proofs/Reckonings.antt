-- Questions with their answers, worked out by hand from 01, as rows of one table: the order of the refusals, whole turns, the grid's east end,
-- which map is the nearest, the one rounding, and where each kind's numbers and exponents stand.
use mathlib.Core.Path.{◌≡◌, ap}
use mathlib.Core.Logic.{inl, inr}
use mathlib.Core.List.{List, [], ◌∷◌, ◌++◌}
use Prim.Native.Nat.{ℕ, zero, suc, ◌<◌}
use native.Mathlib.Omega.{arith}
use lib.IntN.{ℤ, pos, negsuc, nat_abs}
use lib.ListN.{replicate}
use Rattle.kit.specs.Answer.{All}
use Rattle.mapset.specs.Areas.{Areas, six}
use Rattle.mapset.specs.declared.Axis.{Axis}
use Rattle.mapset.specs.declared.Header.{Header}
use Rattle.mapset.specs.Said.{axis_of}
use Rattle.mapset.specs.Samples.{absent_count, absent_systems, plain_header}
use Rattle.ask_round.specs.Rounded.{rounded}
use Rattle.ask_cells.specs.Place.{GoesRound}
use Rattle.ask_cells.specs.Found.{strip?, closed?, goes_round?, after}
use Rattle.ask_nodes.specs.Value.{is_value?, worth, value}
use Rattle.ask_sums.specs.Mean.{by_column, corners, spread, terms, weighted, weight}
use Rattle.ask_sums.specs.Sums.{valued?, mean}
use Rattle.ask.specs.Ask.{Question, question, tecu, km, refused, Answers, Open}
use Rattle.ask.specs.Sun.{Turns}
use Rattle.ask.proofs.Sample.{header as one_map, texts, held as sample_held, sound}
use Rattle.ask.proofs.Reckoned.{judged_sound, Row, unknown, unsound, unserved, untimely, no_layer, past_east, gives, says, reckoned, known?, timely?, same_told, all_answer}

-- n maps, 3,600 s apart: rows at 1.0 and 0.0, columns at 0.0 and 1.0
unfoldable header : ℕ → Header
header n = plain_header (record { first = 0; last = 3600; interval = 3600; maps = n }) (axis_of (pos 10) (pos 0) (negsuc 9)) (axis_of (pos 0) (pos 10) (pos 10))

-- 10, 20 over 30, 40 TECU at second 0; 50, 60 over 70 and a node without value at second 3,600
unfoldable held : Areas
held =
    six (pos 100 ∷ pos 200 ∷ pos 300 ∷ pos 400 ∷ pos 500 ∷ pos 600 ∷ pos 700 ∷ pos 9999 ∷ []) [] [] (replicate 12 (negsuc 0)) (0 ∷ 3600 ∷ []) (0 ∷ 0 ∷ [])

-- the same grid and epochs, in thousandths of a TECU: 1 at 1.0, 0.0 in the first map, all others 0
unfoldable fine : Areas
fine = six (pos 1 ∷ replicate 7 (pos 0)) [] [] (replicate 12 (negsuc 2)) (0 ∷ 3600 ∷ []) (0 ∷ 0 ∷ [])

-- two layers, two maps at seconds 900 and 4,500; the first has a height map, the second an RMS map. TEC values count from 100, RMS values from 200, heights
-- from 300; under -1, but the RMS block of the second map's layer 1, row 1 under 0, and the height block of the first map's layer 1, row 0 under -2
unfoldable two_layers : Header
two_layers = record {
  version = record { tenths = 11; kind = 73; code = 0 };
  times = record { first = 900; last = 4500; interval = 0; maps = 2 };
  model = record { cutoff = 0; radius = 63710; dimension = 3 };
  grid = record { heights = axis_of (pos 4500) (pos 5000) (pos 500); latitudes = axis_of (pos 10) (pos 0) (negsuc 9); longitudes = axis_of (pos 0) (pos 10) (pos 10) };
  stations = absent_count;
  satellites = absent_count;
  systems = absent_systems;
  descriptions = 0;
}

abbrev from : ℕ → ℕ → List ℤ
from a zero = []
from a (suc n) = pos a ∷ from (suc a) n

unfoldable kinds : Areas
kinds =
    six (from 100 16) (from 200 16) (from 300 16)
    (replicate 15 (negsuc 0) ++ (pos 0 ∷ (negsuc 0 ∷ negsuc 0 ∷ negsuc 1 ∷ replicate 5 (negsuc 0)))) (900 ∷ 4500 ∷ []) (2 ∷ 1 ∷ [])

-- numbers and exponents at the ends of what is a value, and next to them
unfoldable ends : Areas
ends =
    six (pos 99999 ∷ pos 100000 ∷ negsuc 9998 ∷ negsuc 9999 ∷ replicate 4 (pos 5)) [] []
    (negsuc 2 ∷ pos 0 ∷ negsuc 3 ∷ pos 1 ∷ replicate 8 (negsuc 0)) (0 ∷ 3600 ∷ []) (0 ∷ 0 ∷ [])

-- n TEC values, with these epochs and marks
unfoldable odd : ℕ → List ℕ → List ℕ → Areas
odd n epochs marks = six (replicate n (pos 5)) [] [] (replicate 12 (negsuc 0)) epochs marks

-- TEC of two maps; and of a header that no text has
abbrev ask : (kind method layer : ℕ) (lat lon : ℤ) (second : ℕ) → Question
ask = question (header 2) texts held

abbrev ask_unsound : (kind method layer : ℕ) (lat lon : ℤ) (second : ℕ) → Question
ask_unsound = question (header 0) texts held

pub rows : List Row
rows =
    -- 23 before 31, 31 before 24 and before 20, 24 before 20, 20 before 21, 21 before 22
    (ask_unsound 3 0 0 (pos 0) (pos 0) 3601, unknown)
    ∷ (ask_unsound 0 4 0 (pos 0) (pos 0) 3601, unknown)
    ∷ (ask_unsound 0 0 0 (pos 0) (pos 0) 3601, unsound)
    ∷ (ask_unsound 0 2 0 (pos 0) (pos 0) 3601, unsound)
    ∷ (ask 0 2 0 (pos 0) (pos 0) 3601, unserved)
    ∷ (ask 0 0 0 (pos 0) (pos 101) 3601, untimely)
    ∷ (ask 0 0 1 (pos 0) (pos 100) 3600, no_layer)
    ∷ (ask 0 0 0 (pos 0) (pos 101) 3600, past_east)
    ∷ (ask 0 0 0 (pos 0) (pos 100) 3600, gives (refused 22))
    -- a node that is not needed has no value
    ∷ (ask 0 0 0 (pos 0) (pos 0) 3600, gives (tecu (pos 70000)))
    -- whole turns: -360.00 is 0.00, 361.00 is 1.00; LON2 itself, and just beyond it, also by a turn
    ∷ (ask 0 0 0 (pos 100) (negsuc 35999) 0, gives (tecu (pos 10000)))
    ∷ (ask 0 0 0 (pos 100) (pos 36100) 0, gives (tecu (pos 20000)))
    ∷ (ask 0 0 0 (pos 100) (pos 100) 0, gives (tecu (pos 20000)))
    ∷ (ask 0 0 0 (pos 100) (negsuc 0) 0, past_east)
    -- the earlier of two equally near, a second later the other; by method 1 the mean
    ∷ (ask 0 0 0 (pos 100) (pos 0) 1800, gives (tecu (pos 10000)))
    ∷ (ask 0 0 0 (pos 100) (pos 0) 1801, gives (tecu (pos 50000)))
    ∷ (ask 0 1 0 (pos 100) (pos 0) 1800, gives (tecu (pos 30000)))
    -- rounded once: between two columns the first map gives 1/2 and the second 0, halfway between them 1/4; rounded in each map, 1 and 0, it would be 1
    ∷ (question (header 2) texts fine 0 1 0 (pos 100) (pos 50) 1800, gives (tecu (pos 0)))
    -- 31: an area one element short, epochs that do not end with the header's last, a mark above 3, RMS maps without their values
    ∷ (question (header 2) texts (odd 8 (0 ∷ 3600 ∷ []) (0 ∷ 0 ∷ [])) 0 0 0 (pos 0) (pos 0) 0, gives (tecu (pos 500)))
    ∷ (question (header 2) texts (odd 7 (0 ∷ 3600 ∷ []) (0 ∷ 0 ∷ [])) 0 0 0 (pos 0) (pos 0) 0, unsound)
    ∷ (question (header 2) texts (odd 8 (0 ∷ 3599 ∷ []) (0 ∷ 0 ∷ [])) 0 0 0 (pos 0) (pos 0) 0, unsound)
    ∷ (question (header 2) texts (odd 8 (0 ∷ 3600 ∷ []) (0 ∷ 4 ∷ [])) 0 0 0 (pos 0) (pos 0) 0, unsound)
    ∷ (question (header 2) texts (odd 8 (0 ∷ 3600 ∷ []) (0 ∷ 1 ∷ [])) 0 0 0 (pos 0) (pos 0) 0, unsound)
    -- each kind's own values and exponents, by map, layer, row and column; a map that is absent
    ∷ (question two_layers texts kinds 0 0 1 (pos 0) (pos 100) 4500, gives (tecu (pos 11500)))
    ∷ (question two_layers texts kinds 1 0 1 (pos 0) (pos 100) 4500, gives (tecu (pos 215000)))
    ∷ (question two_layers texts kinds 1 0 0 (pos 0) (pos 100) 4500, gives (tecu (pos 21100)))
    ∷ (question two_layers texts kinds 2 0 1 (pos 100) (pos 0) 900, gives (km (pos 3040)))
    ∷ (question two_layers texts kinds 2 0 0 (pos 100) (pos 0) 900, gives (km (pos 30000)))
    ∷ (question two_layers texts kinds 1 0 0 (pos 0) (pos 100) 900, gives (refused 22))
    ∷ (question two_layers texts kinds 2 0 0 (pos 0) (pos 100) 4500, gives (refused 22))
    ∷ (question two_layers texts kinds 0 0 2 (pos 0) (pos 100) 4500, no_layer)
    -- before the first epoch and after the last
    ∷ (question two_layers texts kinds 0 0 0 (pos 0) (pos 0) 899, untimely)
    ∷ (question two_layers texts kinds 0 0 0 (pos 0) (pos 0) 4501, untimely)
    -- numbers from -9999 to 99999 and exponents from -3 to 0 are values
    ∷ (question (header 2) texts ends 0 0 0 (pos 100) (pos 0) 0, gives (tecu (pos 99999)))
    ∷ (question (header 2) texts ends 0 0 0 (pos 100) (pos 100) 0, gives (refused 22))
    ∷ (question (header 2) texts ends 0 0 0 (pos 0) (pos 0) 0, gives (tecu (negsuc 9998999)))
    ∷ (question (header 2) texts ends 0 0 0 (pos 0) (pos 100) 0, gives (refused 22))
    ∷ (question (header 2) texts ends 0 0 0 (pos 100) (pos 0) 3600, gives (refused 22))
    ∷ (question (header 2) texts ends 0 0 0 (pos 0) (pos 0) 3600, gives (refused 22))
    ∷ []

pub reckonings : All (λ (r : Row). Answers r.0 (says r.1)) rows
unfolding rows header held fine two_layers kinds ends odd texts judged_sound known? timely? same_told strip? closed? goes_round? after rounded mean valued? weighted weight terms spread corners by_column value worth is_value?
reckonings = all_answer rows tt

-- ---- the sample's corners, for many questions in one call: the node at 1.0, 0.0, just beyond LON2, the node at 0.0, 1.0
abbrev of_sample : ℤ → ℤ → ℕ → Question
of_sample = question one_map texts sample_held 0 0 0

pub corners_asked : Answers (of_sample (pos 100) (pos 0) 0) (tecu (pos 10000)) × Answers (of_sample (pos 0) (pos 101) 0) (refused 21) × Answers (of_sample (pos 0) (pos 100) 0) (tecu (pos 40000))
unfolding one_map sample_held texts judged_sound known? timely? same_told strip? closed? goes_round? after rounded mean valued? weighted weight terms spread corners by_column value worth is_value?
corners_asked = (
  reckoned (of_sample (pos 100) (pos 0) 0) (gives (tecu (pos 10000))) tt,
  reckoned (of_sample (pos 0) (pos 101) 0) past_east tt,
  reckoned (of_sample (pos 0) (pos 100) 0) (gives (tecu (pos 40000))) tt,
)

pub sample_open : (lat lon : ℤ) (t : ℕ) → Open (of_sample lat lon t)
sample_open lat lon t = record { known = (omega arith, omega arith); sound = sound; served = inl (omega arith) }

-- ---- 24 (02, Ask 3): DLON of 6.0, epochs 7,201 s apart, a grid that ends a column too early; 5.0 and 7,200 s are served (`SunSample`)
far_apart : {a : Axis} {n : ℕ} → 7200 < n → ¬ Turns a (0 ∷ n ∷ [])
far_apart h t = omega (arith, t.close 0 (omega arith))

pub not_served : (¬ Turns (axis_of (pos 0) (pos 3540) (pos 60)) (0 ∷ 7200 ∷ [])) × (¬ Turns (axis_of (pos 0) (pos 3550) (pos 50)) (0 ∷ 7201 ∷ []))
    × (¬ GoesRound (axis_of (pos 0) (pos 3500) (pos 50)))
not_served = (λ t. omega (arith, t.step), far_apart (omega arith), denied)
  where
    denied : ¬ GoesRound (axis_of (pos 0) (pos 3500) (pos 50))
    denied (inl e) = let z : ◌≡◌ {A = ℕ} 3550 3600 = ap nat_abs e in omega arith
    denied (inr e) = let z : ◌≡◌ {A = ℕ} 3500 3600 = ap nat_abs e in omega arith
