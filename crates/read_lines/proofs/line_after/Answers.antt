use mathlib.Core.Path.{◌≡◌}
use Prim.Native.Nat.{suc}
use native.Mathlib.Omega.{arith}
use native.Mathlib.Decide.{dec_le}
use Rattle.kit.proofs.AnswerLaws.{pick_elim}
use Rattle.read_lines.proofs.line_after.Goals as goal

pub returns : goal.returns
returns c =
    let e = c.saturating_add.ensures in
    pick_elim (λ x. c.saturating_add.result ≡ x) (dec_le (suc c.args.n) 18446744073709551615) (λ h. omega arith) (λ h. omega arith)
