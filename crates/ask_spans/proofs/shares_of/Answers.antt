-- `ask_spans::shares_of` meets its contract.
use mathlib.Core.Path.{◌≡◌}
use mathlib.Core.Logic.{⊎_elim}
use native.Mathlib.Omega.{arith}
use Prim.Native.Nat.{◌+◌, ◌<◌}
use lib.ListN.{length}
use Rattle.ask_spans.specs.Time.{epoch, nearest, between}
use Rattle.ask_spans.proofs.TimeLaws.{nearest_early, nearest_late, uses_last}
use Rattle.ask_spans.proofs.shares_of.Goals as goal
use Rattle.ask_spans.proofs.shares_of.Goals.{After-map_before-i}

-- before the next map, where there is one
soon : (c : After-map_before-i) → c.map_before-i.result + 1 < length c.args.epochs.now → c.args.second < epoch c.args.epochs.now (c.map_before-i.result + 1)
soon c m = ⊎_elim (λ e. absurd (omega (arith, m))) (λ h. h) c.map_before-i.ensures.next

pub returns-then-epochs-i : goal.returns-then-epochs-i
returns-then-epochs-i c =
    let i = c.map_before-i.result in
    let e : i + 1 ≡ length c.args.epochs.now = omega (arith, c.map_before-i.ensures.map, c.if-epochs-i.true) in
    rw c.alone.ensures (uses_last c.args.epochs.now c.requires.0 c.args.second c.args.method i c.requires.2 e (omega (arith, c.map_before-i.ensures.past, c.requires.1.to i e)))

pub returns-then-method-eq1 : goal.returns-then-method-eq1
returns-then-method-eq1 c =
    let i = c.map_before-i.result in
    let m : i + 1 < length c.args.epochs.now = omega (arith, c.map_before-i.ensures.map, c.if-epochs-i.false) in
    between i c.if-method-eq1.true m c.map_before-i.ensures.past (soon (goal.at.returns-then-method-eq1 c).After-map_before-i m)

pub returns-then-early-late : goal.returns-then-early-late
returns-then-early-late c =
    let i = c.map_before-i.result in
    let m : i + 1 < length c.args.epochs.now = omega (arith, c.map_before-i.ensures.map, c.if-epochs-i.false) in
    rw c.alone-then-early-late.ensures (nearest (i + 1) (omega (arith, c.requires.2, c.if-method-eq1.false)) (nearest_late c.args.epochs.now c.requires.0 c.args.second i m c.map_before-i.ensures.past (soon (goal.at.returns-then-early-late c).After-map_before-i m) c.if-early-late.true))

pub returns : goal.returns
returns c =
    let i = c.map_before-i.result in
    let m : i + 1 < length c.args.epochs.now = omega (arith, c.map_before-i.ensures.map, c.if-epochs-i.false) in
    rw c.alone-2.ensures (nearest i (omega (arith, c.requires.2, c.if-method-eq1.false)) (nearest_early c.args.epochs.now c.requires.0 c.args.second i m c.map_before-i.ensures.past (soon (goal.at.returns c).After-map_before-i m) c.if-early-late.false))
