-- `bias_scan::is_new` meets its contract.
use mathlib.Core.Path.{◌≡◌, subst}
use native.Mathlib.Omega.{arith}
use Prim.Native.Nat.{ℕ}
use Rattle.kit.specs.Answer.{all_dec, ¬_dec}
use Rattle.kit.proofs.TruthLaws.{holds, fails}
use Rattle.biases.specs.Read.{same_station?}
use Rattle.bias_scan.specs.Walk.{first, walked}
use Rattle.bias_scan.specs.Turns.{Looks, Unheard}
use Rattle.bias_scan.proofs.LookLaws.{looking_first, looking_on, looking_same, looking_still}
use Rattle.bias_scan.proofs.is_new.Goals as goal

pub loop-row-init : goal.loop-row-init
loop-row-init c = looking_first c.args.text.now c.args.x

pub look-requires : goal.look-requires
look-requires c = (c.loop-row.invariant.within, c.loop-row.invariant.lines)

pub returns-in-Same : goal.returns-in-Same
returns-in-Same c =
    let a = c.args in
    let l = c.loop-row in
    let o = subst (Looks a.text.now l.next.at l.next.lines l.next.place a.x) c.in-Same.is c.look.ensures in
    fails (all_dec (λ y. ¬_dec (same_station? a.x y)) (walked a.rows (first a.text.now)).given.stations) (looking_same a.text.now a.x l._row l.next.at l.next.lines l.next.place l.invariant a.rows (omega arith) o)

pub returns-in-Nothing : goal.returns-in-Nothing
returns-in-Nothing c =
    let a = c.args in
    let l = c.loop-row in
    let o = subst (Looks a.text.now l.next.at l.next.lines l.next.place a.x) c.in-Nothing.is c.look.ensures in
    holds (all_dec (λ y. ¬_dec (same_station? a.x y)) (walked a.rows (first a.text.now)).given.stations) (looking_still a.text.now a.x l._row l.next.at l.next.lines l.next.place l.invariant a.rows (omega arith) o)

pub loop-row-preserved : goal.loop-row-preserved
loop-row-preserved c =
    let a = c.args in
    let l = c.loop-row in
    looking_on a.text.now a.x l._row l.next.at l.next.lines l.next.place l.invariant _ _ _ (subst (Looks a.text.now l.next.at l.next.lines l.next.place a.x) c.in-Other.is c.look.ensures)

pub returns : goal.returns
returns c =
    let a = c.args in
    let e : c.loop-row._row ≡ a.rows = omega arith in
    holds (all_dec (λ y. ¬_dec (same_station? a.x y)) (walked a.rows (first a.text.now)).given.stations) (subst (λ (k : ℕ). Unheard a.x (walked k (first a.text.now)).given) e c.loop-row.invariant.unheard)
