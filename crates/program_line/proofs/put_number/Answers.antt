-- `program_line::put_number` meets its contract.
use native.Mathlib.Omega.{arith}
use Rattle.program_line.proofs.DigitLaws.{fewest, twenty}
use mathlib.Core.Path.{◌∙◌}
use Rattle.program_line.proofs.put_number.Goals as goal

pub put-requires : goal.put-requires
put-requires c =
    let d = c.decimal-k.ensures in
    omega (arith, d.in_bounds.1, twenty c.decimal-k.result c.args.n d.len c.ranges.n.fits)

pub returns : goal.returns
returns c =
    let d = c.decimal-k.ensures in
    let q = d.digits ∙ fewest c.decimal-k.result c.args.n d.len in
    let k = twenty c.decimal-k.result c.args.n d.len c.ranges.n.fits in
    (rw q at c.put.ensures, omega (arith, c.put.ensures.moved, d.in_bounds.1))
