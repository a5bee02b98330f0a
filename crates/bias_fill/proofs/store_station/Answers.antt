-- `bias_fill::store_station` meets its contract.
use mathlib.Core.Path.{◌≡◌, refl, sym}
use Prim.Native.Nat.{◌*◌}
use native.Mathlib.Omega.{arith}
use lib.ListN.{length}
use borrow.Author.Rules.{rules}
use Rattle.bias_fill.proofs.FilledLaws.{mid_sets}
use Rattle.bias_fill.proofs.store_station.Goals as goal

pub put_station-requires : goal.put_station-requires
put_station-requires c = rw (sym c.in-Ok.ensures) at c.requires.1

pub returns-in-Err : goal.returns-in-Err
returns-in-Err c = rw (← c.in-Err.ensures) (omega arith, refl, refl, refl)

pub returns-in-Ok : goal.returns-in-Ok
returns-in-Ok c =
    let n : length c.in-Ok.s.name ≡ 20 = search rules in
    let a = c.args in
    let h = rw (sym c.in-Ok.ensures) at c.requires.2 in
    rw (← c.in-Ok.ensures) (refl, n, c.put_station.ensures, mid_sets a.names.now c.in-Ok.s.name c.copy_from_slice.new.self (20 * a.k) 20 (sym n) (omega arith) c.copy_from_slice.ensures.after)
