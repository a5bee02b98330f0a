-- `program_line::put_need` meets its contract.
use native.Mathlib.Omega.{arith}
use Rattle.forms.specs.Show.{digits}
use Rattle.layout.specs.Labels.{bytes}
use Rattle.program_line.specs.Lines.{need_line}
use Rattle.program_line.proofs.LineLaws.{pair_then, last, begins}
use Rattle.program_line.proofs.put_need.Goals as goal

pub returns : goal.returns
unfolding need_line
returns c =
    begins (pair_then (bytes "refused 30 needs ") (digits 1 c.args.need) c.put_pair-a.ensures.0 (last c.put.ensures))
    (omega (arith, c.put_pair-a.ensures.1, c.put.ensures.moved))
