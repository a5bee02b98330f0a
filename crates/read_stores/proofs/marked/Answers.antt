use native.Mathlib.Omega.{arith}
use Rattle.read_stores.proofs.StoreLaws.{rms_both, rms_alone, height_both, height_alone}
use Rattle.read_stores.proofs.marked.Goals as goal

pub returns-then-m-eq3 : goal.returns-then-m-eq3
returns-then-m-eq3 c = rw c.in-Rms.is (rms_both c.args.m c.if-m-eq3.either)

pub returns-else-m-eq3 : goal.returns-else-m-eq3
returns-else-m-eq3 c = rw c.in-Rms.is (rms_alone c.args.m (λ e. omega arith) (λ e. omega arith))

pub returns-then-m-eq3-2 : goal.returns-then-m-eq3-2
returns-then-m-eq3-2 c = rw c.in-Height.is (height_both c.args.m c.if-m-eq3-2.either)

pub returns-else-m-eq3-2 : goal.returns-else-m-eq3-2
returns-else-m-eq3-2 c = rw c.in-Height.is (height_alone c.args.m (λ e. omega arith) (λ e. omega arith))
