use mathlib.Core.Path.{◌≡◌}
use mathlib.Core.List.{[]}
use Prim.Native.Nat.{suc, ◌-◌, ◌≤◌}
use lib.ListN.{length, drop}
use lib.IntN.{negsuc}
use Rattle.layout.specs.Layout.{plain}
use Rattle.reading.specs.Feed.{split, feed}
use Rattle.reading.specs.Head.{heading}
use Rattle.reading.specs.Read.{nothing_yet}
use Rattle.head.specs.Opened.{from_state, Keeps}
use Rattle.head.proofs.opening.header_from.Given as goal

-- the answer from the start is the answer from here
abbrev pub invariant-loop-record : goal.invariant-loop-record
invariant-loop-record l =
    (l.at ≤ length l.text) × (l.n ≤ l.at) × Keeps l.s l.lines
    × (heading l.version plain (negsuc 0) nothing_yet [] (feed (suc l.passed) (split (drop l.from l.text))) ≡ from_state l.version l.s l.lines l.text l.at l.n)

abbrev pub decreases-loop-record : goal.decreases-loop-record
decreases-loop-record l = length l.text - l.at
