-- `bias_scan::judge` meets its contract.
use Rattle.bias_scan.proofs.JudgedLaws.{stands_first}
use Rattle.bias_scan.proofs.judge.Goals as goal

pub loop-t-init : goal.loop-t-init
loop-t-init c = stands_first c.args.text.now
