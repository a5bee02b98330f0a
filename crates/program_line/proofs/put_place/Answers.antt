-- `program_line::put_place` meets its contract.
use native.Mathlib.Omega.{arith}
use Rattle.forms.specs.Show.{digits}
use Rattle.layout.specs.Labels.{bytes}
use Rattle.program_line.specs.Lines.{place_line}
use Rattle.program_line.proofs.LineLaws.{pair_then, last, begins}
use Rattle.program_line.proofs.put_place.Goals as goal

pub returns : goal.returns
unfolding place_line
returns c =
    begins
    (pair_then (bytes "refused ") (digits 1 c.args.number) c.put_pair-a.ensures.0
    (pair_then (bytes " line ") (digits 1 c.args.line) c.put_pair-b.ensures.0
    (pair_then (bytes " column ") (digits 1 c.args.column) c.put_pair-c.ensures.0 (last c.put.ensures))))
    (omega (arith, c.put_pair-a.ensures.1, c.put_pair-b.ensures.1, c.put_pair-c.ensures.1, c.put.ensures.moved))
