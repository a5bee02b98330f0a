-- The index that is made of a text: each block's position is where its opening line starts.
use Rattle.std.specs.Prelude.{List, [], ◌∷◌, map, ℕ, zero, suc, ◌+◌, ◌-◌, ◌*◌, ℤ, negsuc, length, replicate, set, drop}
use Rattle.kit.specs.Answer.{pick, same}
use Rattle.kit.specs.Lists.{front}
use Rattle.mapset.specs.Grid.{columns}
use Rattle.mapset.specs.MapSet.{MapSet}
use Rattle.mapset.specs.declared.Header.{Header}
use Rattle.layout.specs.Text.{pad}
use Rattle.layout.specs.Labels.{name, block, aux_end}
use Rattle.layout.specs.Layout.{Mode, plain, aux, per_map}
use Rattle.reading.specs.Fields.{label}
use Rattle.areas.specs.Flat.{areas}
use Rattle.areas.specs.Events as event
use Rattle.areas.specs.Events.{Event}
use Rattle.mapset.specs.Areas.{first_of}
use Rattle.areas.specs.Places.{before}
use Rattle.areas.specs.Scan.{by_label, exponent_in, events}
use Rattle.read_lines.specs.Cuts.{Cut, cuts}
use Rattle.index.specs.Found.{clean?, blank?}
use Rattle.index.specs.Index.{Entries, entries}

-- ---- the rows of lines, each with its line's start; the first line starts at a. A line that is not clean ends them
abbrev pub Placed : Type 0
Placed = List (ℕ × List ℕ)

unfoldable pub placed : ℕ → List Cut → Placed
placed a [] = []
placed a (l ∷ ls) =
    pick (clean? l.0)
    (pick (blank? l.0) (placed (a + length l.0 + length l.1) ls) ((a, pad l.0) ∷ placed (a + length l.0 + length l.1) ls))
    []

-- the rows of a text from a line's start on
abbrev pub placed_from : List ℕ → ℕ → Placed
placed_from t at = placed at (cuts (drop at t))

abbrev pub just_rows : Placed → List (List ℕ)
just_rows ps = map (λ p. p.1) ps

-- ---- where blocks open, of C values each, where c values come first
unfoldable pub opened : (C c : ℕ) → Placed → List ℕ
opened C c [] = []
opened C zero (p ∷ ps) = pick (same (drop 60 p.1) (name block)) (p.0 ∷ opened C C ps) (opened C 0 ps)
opened C (suc c) (p ∷ ps) = opened C (suc c - 16) ps

-- the exponent in force at END OF HEADER, and the rows behind it; what stands in an aux block counts for neither
unfoldable pub maps_of : Mode → ℤ → Placed → ℤ × Placed
maps_of a e [] = (e, [])
maps_of plain e (p ∷ ps) = by_label (e, ps) (maps_of plain (exponent_in p.1) ps) (maps_of aux e ps) (maps_of plain e ps) (label p.1)
maps_of aux e (p ∷ ps) = pick (same (drop 60 p.1) (name aux_end)) (maps_of plain e ps) (maps_of aux e ps)

-- ---- the positions: of each event that is a block, in turn
abbrev pub put_starts : (n B : ℕ) → List Event → List ℕ → List ℕ → List ℕ
put_starts n B [] os l = l
put_starts n B (event.epoch i e ∷ es) os l = put_starts n B es os l
put_starts n B (event.marked k i ∷ es) os l = put_starts n B es os l
put_starts n B (event.block k i b x ∷ es) [] l = l
put_starts n B (event.block k i b x ∷ es) (a ∷ os) l = put_starts n B es os (set l (first_of k (n * B) + before B i b) a)

-- of each block of a map that is there, where its opening line starts; an absent map's entries hold position 0
unfoldable pub positions_of : Header → Placed → List ℕ
positions_of h ps =
    put_starts h.times.maps (per_map h) (events (columns h.grid) (just_rows ps)) (opened (columns h.grid) 0 (maps_of plain (negsuc 0) ps).1)
    (replicate (3 * (h.times.maps * per_map h)) 0)

-- the entries of a text's index, and these in front of what was lent
abbrev pub entries_of : MapSet → List ℕ → Entries
entries_of m t = entries (positions_of m.header (placed_from t 0)) (areas m).exponents (areas m).marks

abbrev pub fronts : (a l : Entries) → Entries
fronts a l = entries (front a.positions l.positions) (front a.exponents l.exponents) (front a.marks l.marks)
