-- `ask_all::answer_each` meets its contract: the questions so far are answered, and everything behind them is as it was.
use borrow.Author.Rules.{rules}
use mathlib.Core.Path.{◌≡◌, sym, subst}
use native.Mathlib.Omega.{arith}
use Prim.Native.Nat.{ℕ, ◌+◌}
use lib.IntN.{ℤ, pos}
use lib.ListN.{get_or}
use mir.Syntax.{w32}
use mir.Val.{to_z, of_z}
use Rattle.mapset.specs.Areas.{six}
use Rattle.ask.specs.Ask.{Told, told}
use Rattle.ask.specs.Looked.{ValueAt}
use Rattle.ask_all.specs.AskAll.{Places, places, Slots, slots, Each}
use Rattle.ask_all.proofs.EachLaws.{Reaches, reaches, each_next}
use Rattle.ask_all.proofs.answer_each.Goals as goal
use Rattle.ask_all.proofs.answer_each.Goals.{Start}

module _ (s : Start) where
  abbrev told_at : ℤ → ℤ → ℕ → Told → Type 0
  told_at =
      let a = s.args in
      ValueAt a.header a.s (six a.tec.now a.rms.now a.height.now a.exponents.now a.epochs.now a.marks.now) a.method

  abbrev asked : Places
  asked = places s.args.lats.now s.args.lons.now s.args.seconds.now

  abbrev found : Slots
  found = slots s.args.answers.now s.args.values.now

  -- question k has its place in each list
  room : Reaches s.args.n asked found
  room = reaches s.args.n asked found s.requires.1

pub offset_bounds-lats-k : goal.offset_bounds-lats-k
offset_bounds-lats-k c = let r = room (goal.at.offset_bounds-lats-k c).Start in search rules

pub bounds-lats-k : goal.bounds-lats-k
bounds-lats-k c = omega (arith, c.loop-k-test.true, (room (goal.at.bounds-lats-k c).Start).lats)

pub offset_bounds-lons-k : goal.offset_bounds-lons-k
offset_bounds-lons-k c = let r = room (goal.at.offset_bounds-lons-k c).Start in search rules

pub bounds-lons-k : goal.bounds-lons-k
bounds-lons-k c = omega (arith, c.loop-k-test.true, (room (goal.at.bounds-lons-k c).Start).lons)

pub offset_bounds-seconds-k : goal.offset_bounds-seconds-k
offset_bounds-seconds-k c = let r = room (goal.at.offset_bounds-seconds-k c).Start in search rules

pub bounds-seconds-k : goal.bounds-seconds-k
bounds-seconds-k c = omega (arith, c.loop-k-test.true, (room (goal.at.bounds-seconds-k c).Start).seconds)

pub value_at-answer-requires : goal.value_at-answer-requires
value_at-answer-requires c = c.requires.0 _ _ _

pub put-requires : goal.put-requires
put-requires c =
    let r = room (goal.at.put-requires c).Start in
    (omega (arith, c.loop-k-test.true, r.answers, c.loop-k.invariant.as_many_answers), omega (arith, c.loop-k-test.true, r.values, c.loop-k.invariant.as_many_values))

pub loop-k-preserved : goal.loop-k-preserved
loop-k-preserved c =
    let s = (goal.at.loop-k-preserved c).Start in
    let l = c.loop-k in
    let a = room s in
    let x : to_z w32 (of_z w32 (get_or s.args.lats.now l.k (pos 0))) ≡ get_or s.args.lats.now l.k (pos 0) = search rules in
    let y : to_z w32 (of_z w32 (get_or s.args.lons.now l.k (pos 0))) ≡ get_or s.args.lons.now l.k (pos 0) = search rules in
    let r = rw (x, y) at c.value_at-answer.ensures in
    subst (λ (m : Slots). Each (told_at s) (l.k + 1) (asked s) (found s) m) (sym c.put.ensures)
    (each_next (told_at s) (asked s) (found s) l.k (slots l.answers l.values) l.invariant (omega (arith, c.loop-k-test.true, a.answers)) (omega (arith, c.loop-k-test.true, a.values)) (told c.value_at-answer.result) r)
