-- `ask_spans::halved` meets its contract.
use mathlib.Core.Logic.{inl, inr}
use Prim.Native.Nat.{◌+◌, ◌-◌, ◌≤◌}
use native.Mathlib.Decide.{dec_le, dec_lt}
use lib.ListN.{length}
use Rattle.std.proofs.Common.{leb, leb-true, arith, rules, ◌≡◌, true, false}
use Rattle.std.proofs.lemmas.Bool.{leb-false}
use Rattle.std.specs.List.Sorted.{IsPartitionPoint}
use Rattle.std.proofs.lemmas.List.Sorted.{IsPartitionPoint-from_clause, IsPartitionedBy-leb, IsNonDecreasingBy-from_default}
use Rattle.ask_spans.proofs.TimeLaws.{rises_to}
use Rattle.ask_spans.proofs.halved.Goals as goal
use Rattle.ask_spans.proofs.halved.Goals.{After-partition_point}

point : (c : After-partition_point) → let a = c.args in IsPartitionPoint (λ e. leb e a.second ≡ true) (λ e. leb e a.second ≡ false) a.epochs.now c.partition_point.result
point c =
    let es = c.args.epochs.now in
    let parted = IsPartitionedBy-leb (λ e. e) es c.args.second (IsNonDecreasingBy-from_default (λ e. e) es 0 (rises_to es c.requires.0)) in
    IsPartitionPoint-from_clause (λ e. leb e c.args.second) es _ c.partition_point.ensures.partitioned parted (λ a r q k. search rules)

-- the first map's epoch is not after the second
some_before : (c : After-partition_point) → 1 ≤ c.partition_point.result
some_before c =
    elim (dec_le 1 c.partition_point.result) [
      | yes p ↦ p
      | no n ↦ let z = (point c).1 0 0 (omega arith) (omega (arith, c.requires.1)) in absurd (omega (arith, leb-false _ _ z, c.requires.2))
    ]

pub overflow_sub-result : goal.overflow_sub-result
overflow_sub-result c = some_before c

pub returns : goal.returns
returns c =
    let r = c.partition_point.result in
    let h = some_before c in
    let e : (r - 1) + 1 ≡ r = omega arith in
    record {
      map = omega (arith, c.partition_point.ensures.bound);
      past = leb-true _ _ ((point c).0 (r - 1) 0 (omega arith) (omega arith));
      next = elim (dec_lt r (length c.args.epochs.now)) [ yes p ↦ inr (rw e (leb-false _ _ ((point c).1 r 0 (omega arith) p))) | no n ↦ inl (omega (arith, c.partition_point.ensures.bound)) ];
    }
