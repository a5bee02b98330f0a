-- `bias_scan::collect` meets its contract.
use mathlib.Core.Path.{refl, ◌∙◌}
use Prim.Native.Nat.{◌<◌}
use native.Mathlib.Omega.{arith}
use lib.ListN.{length, take}
use Rattle.bias_scan.proofs.HeldLaws.{clear_good, fence_none, table_none, peeked_stood, peeked_new, good_on, fence_plain, fence_named, table_more}
use Rattle.bias_scan.proofs.collect.Goals as goal

pub loop-s-init : goal.loop-s-init
loop-s-init c =
    let a = c.args in
    let r = c.requires in
    (r.0, clear_good a.text.now a.from.rows a.from.limit r.2 r.1, fence_none a.text.now a.from.rows a.from.limit r.1, omega arith, r.2, r.3, omega arith, refl, table_none a.text.now)

pub returns-then-s-ge2048 : goal.returns-then-s-ge2048
returns-then-s-ge2048 c = c.loop-s.invariant

pub pass-requires : goal.pass-requires
pass-requires c = let i = c.loop-s.invariant in (i.0.within, i.0.lines, i.8)

pub returns-in_default : goal.returns-in_default
returns-in_default c = c.loop-s.invariant

pub loop-s-preserved-in-Some-slot : goal.loop-s-preserved-in-Some-slot
loop-s-preserved-in-Some-slot c =
    let a = c.args in
    let l = c.loop-s.starts in
    let s = c.loop-s.s in
    let i = c.loop-s.invariant in
    let p = c.in-Some.p in
    let x = c.in-Some-slot.slot in
    let h = c.loop-s-test.true in
    let f = c.if-s-ge2048.false in
    let z = c.insert.ensures in
    let o = rw c.in-Some-slot.is at c.in-Some.ensures in
    let u : s.count < length l = omega (arith, f, i.5) in (
      peeked_stood a.text.now s.rows s.cursor.at s.cursor.lines s.cursor.place i.0 (take s.count l) p.next p.slot c.in-Some.ensures,
      good_on a.text.now s.rows i.1 (peeked_new a.text.now s.rows s.cursor.at s.cursor.lines s.cursor.place i.0 (take s.count l) p.next a.from.limit i.2 (omega arith) p.slot c.in-Some.ensures),
      fence_named a.text.now s.rows s.cursor.at s.cursor.lines s.cursor.place i.0 p.next.place p.next.at p.next.lines x.start o.0 a.from.limit l c.insert.new.starts x.index s.count u i.8 o.1 z i.2,
      omega arith,
      omega arith,
      z.long ∙ i.5,
      omega arith,
      i.7,
      table_more a.text.now l c.insert.new.starts x.index s.count x.start u i.8 o.1 z o.0.whole,
    )

pub loop-s-preserved : goal.loop-s-preserved
loop-s-preserved c =
    let a = c.args in
    let l = c.loop-s.starts in
    let s = c.loop-s.s in
    let i = c.loop-s.invariant in
    let p = c.in-Some.p in (
      peeked_stood a.text.now s.rows s.cursor.at s.cursor.lines s.cursor.place i.0 (take s.count l) p.next p.slot c.in-Some.ensures,
      good_on a.text.now s.rows i.1 (peeked_new a.text.now s.rows s.cursor.at s.cursor.lines s.cursor.place i.0 (take s.count l) p.next a.from.limit i.2 (omega arith) p.slot c.in-Some.ensures),
      fence_plain a.text.now s.rows s.cursor.at s.cursor.lines s.cursor.place i.0 _ _ _ (rw c.in_default-slot.is at c.in-Some.ensures) a.from.limit (take s.count l) i.2,
      omega arith,
      omega arith,
      i.5,
      i.6,
      i.7,
      i.8,
    )

pub returns : goal.returns
returns c = c.loop-s.invariant
