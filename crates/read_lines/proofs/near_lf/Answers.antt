use mathlib.Core.Path.{sym}
use lib.Seq.{length-take-le}
use Rattle.read_lines.proofs.Passing.{lf_counted}
use Rattle.read_lines.proofs.Nearby.{near_lf}
use Rattle.read_lines.proofs.near_lf.Goals as goal

pub slice_bounds-before_lf-end : goal.slice_bounds-before_lf-end
slice_bounds-before_lf-end c = sym (length-take-le _ _ c.near-m.ensures.within)

pub returns : goal.returns
returns c = near_lf _ _ _ c.near-m.ensures (lf_counted _ _ c.before_lf.ensures)
