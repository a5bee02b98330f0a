use mathlib.Core.Path.{◌≡◌}
use Prim.Native.Nat.{◌+◌, ◌-◌, ◌≤◌}
use lib.ListN.{length, take}
use Rattle.bias_scan.specs.Held.{Good, Fence, StoodAt, Table}
use Rattle.bias_scan.proofs.collect.Given as goal

abbrev pub invariant-loop-s : goal.invariant-loop-s
invariant-loop-s l =
    StoodAt l.text l.s.rows l.s.cursor × Good l.text l.s.rows × Fence l.text l.s.rows l.initial.s.limit (take l.s.count l.starts) × (l.initial.s.rows + l.s.count ≤ l.s.rows) × (l.s.rows ≤ l.initial.s.limit) × (length l.starts ≡ 2048) × (l.s.count ≤ 2048) × (l.s.limit ≡ l.initial.s.limit) × Table l.text (take l.s.count l.starts)

abbrev pub decreases-loop-s : goal.decreases-loop-s
decreases-loop-s l = l.s.limit - l.s.rows
