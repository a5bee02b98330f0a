-- `bias_fill::store_satellite` meets its contract.
use mathlib.Core.Path.{refl, sym}
use native.Mathlib.Omega.{arith}
use Rattle.bias_scan.proofs.MarkLaws.{said_small}
use Rattle.bias_fill.proofs.store_satellite.Goals as goal

pub put_satellite-requires : goal.put_satellite-requires
put_satellite-requires c =
    let e = sym c.in-Ok.ensures in
    let z = (said_small _ c.in-Ok.s e).number in
    (omega (arith, z.1), rw e at c.requires.1)

pub returns-in-Err : goal.returns-in-Err
returns-in-Err c = rw (← c.in-Err.ensures) (omega arith, refl)

pub returns-in-Ok : goal.returns-in-Ok
returns-in-Ok c = rw (← c.in-Ok.ensures) (refl, c.put_satellite.ensures)
