use Prim.Native.Nat.{◌+◌, ◌-◌, ◌≤◌}
use Rattle.bias_scan.specs.Held.{Good, Clear, StoodAt}
use Rattle.bias_scan.proofs.fresh.Given as goal

abbrev pub invariant-loop-c : goal.invariant-loop-c
invariant-loop-c l =
    StoodAt l.text l.c.rows l.c.cursor × Good l.text l.c.rows × (l.c.rows ≤ l.c.limit) × (2048 ≤ l.c.count → Clear l.text l.c.rows l.c.limit)

abbrev pub decreases-loop-c : goal.decreases-loop-c
decreases-loop-c l = (l.c.limit - l.c.rows) + l.c.count
