-- `bias_scan::place_of` meets its contract.
use mathlib.Core.Path.{◌≡◌, sym, subst, ◌∙◌}
use Prim.Native.Nat.{ℕ, ◌+◌, ◌-◌, ◌/◌, ◌≤◌, ◌<◌}
use native.Mathlib.Omega.{arith}
use lib.ListN.{length, get_or}
use Rattle.bias_scan.specs.Held.{id, Before}
use Rattle.bias_scan.proofs.HeldLaws.{low_on, high_on, before_of}
use Rattle.bias_scan.proofs.place_of.Goals as goal

pub loop-low-init : goal.loop-low-init
loop-low-init c = (omega arith, omega arith, λ i h. absurd (omega arith), λ i h k. absurd (omega arith))

pub compare-requires : goal.compare-requires
compare-requires c =
    let l = c.before.before in
    let s = l.before.before.before in
    let a = s.args in
    (s.requires.0.within (l.loop-low.low + (l.loop-low.high - l.loop-low.low) / 2) (omega arith), s.requires.1)

pub loop-low-preserved-in-Less : goal.loop-low-preserved-in-Less
loop-low-preserved-in-Less c =
    let l = c.before.before.before.before in
    let s = l.before.before.before in
    let a = s.args in
    let m = (l.loop-low.low + (l.loop-low.high - l.loop-low.low) / 2) in
    (omega arith, omega arith, low_on a.text.now a.starts.now s.requires.0 a.s m (omega arith) (sym c.compare.ensures ∙ c.in-Less.is), l.loop-low.invariant.3)

pub loop-low-preserved : goal.loop-low-preserved
loop-low-preserved c =
    let l = c.before.before.before.before in
    let s = l.before.before.before in
    let a = s.args in
    let m = (l.loop-low.low + (l.loop-low.high - l.loop-low.low) / 2) in
    let o = before_of (id a.text.now (get_or a.starts.now m 0)) (id a.text.now a.s) (sym c.in-Greater.is ∙ c.compare.ensures) in
    (omega arith, omega arith, l.loop-low.invariant.2, high_on a.text.now a.starts.now s.requires.0 a.s m o)

pub returns : goal.returns
returns c =
    let i = c.loop-low.invariant in
    let a = c.args in
    let e : c.loop-low.high ≡ c.loop-low.low = omega arith in
    record { inside = omega arith; low = i.2; high = subst (λ (h : ℕ). (k : ℕ) → h ≤ k → k < length a.starts.now → Before (id a.text.now a.s) (id a.text.now (get_or a.starts.now k 0))) e i.3 }
