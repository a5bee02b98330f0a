use Prim.Native.Nat.{ℕ, ◌-◌, ◌≤◌, ◌<◌}
use lib.ListN.{length, get_or}
use Rattle.bias_scan.specs.Held.{id, Before}
use Rattle.bias_scan.proofs.place_of.Given as goal

abbrev pub invariant-loop-low : goal.invariant-loop-low
invariant-loop-low l =
    (l.low ≤ l.high) × (l.high ≤ length l.starts) × ((i : ℕ) → i < l.low → Before (id l.text (get_or l.starts i 0)) (id l.text l.s)) × ((i : ℕ) → l.high ≤ i → i < length l.starts → Before (id l.text l.s) (id l.text (get_or l.starts i 0)))

abbrev pub decreases-loop-low : goal.decreases-loop-low
decreases-loop-low l = l.high - l.low
