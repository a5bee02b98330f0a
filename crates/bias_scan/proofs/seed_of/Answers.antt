-- `bias_scan::seed_of` meets its contract.
use Rattle.bias_scan.proofs.HeldLaws.{seed_r, seed_g}
use Rattle.bias_scan.proofs.seed_of.Goals as goal

pub returns-then-letter-eq82 : goal.returns-then-letter-eq82
returns-then-letter-eq82 c = seed_r _ c.if-letter-eq82.true

pub returns : goal.returns
returns c = seed_g _ c.if-letter-eq82.false
