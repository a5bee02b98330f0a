-- What is held while nodes are gone through, one after the other.
use Rattle.std.specs.Prelude.{◌≡◌, Option as Maybe, Some, None, ℕ, ◌*◌, ◌≤◌, ◌<◌, ℤ, pos, negsuc, nat_abs}
use Rattle.std.proofs.Math.Option.{Option}
use Rattle.week_tally.specs.Figures.{joined, single, nodes_in, Fit}
use Rattle.week_tally.specs.declared.Tally.{Tally}
use Rattle.week_tally.specs.declared.Range.{Range}
use Rattle.week_tally.specs.declared.Seen.{Seen}

-- the smallest and the largest; before the first, numbers that give way to any other
abbrev pub Spans : Maybe Range → ℤ → ℤ → Type 0
Spans None low high = (low ≡ pos 2147483647) × (high ≡ negsuc 2147483647)
Spans (Some r) low high = (low ≡ r.smallest) × (high ≡ r.largest)

-- the figures t are held
abbrev pub Holds : Tally → Seen → Type 0
Holds t s = (s.values ≡ t.given) × ((s.sum ≡ t.sum) × Spans t.range s.smallest s.largest)

-- room for a node more
abbrev pub Room : Seen → Type 0
Room s = (s.values < 1_000_000_000) × (nat_abs s.sum ≤ s.values * 99_999_000)

-- whatever figures are held, those with the node n are held then
abbrev pub Sees : Seen → Option ℤ → Seen → Type 0
Sees s n r = (t : Tally) → Holds t s → Holds (joined t (single n)) r

-- figures of so many nodes that are held
abbrev pub Tallies : Seen → ℕ → Tally → Type 0
Tallies s k r = (t : Tally) → Holds t s → Fit t.given t.range → nodes_in t ≡ k → r ≡ t
