-- `bias_line::system_of` meets its contract.
use mathlib.Core.Logic.{inl, inr, ⊎_elim}
use native.Mathlib.Omega.{arith}
use Rattle.bias_line.proofs.LineLaws.{letter_g, letter_r, letter_none}
use Rattle.bias_line.proofs.system_of.Goals as goal

pub returns-in-71 : goal.returns-in-71
returns-in-71 c = letter_g c.args.letter (⊎_elim inr inl c.in-71.is)

pub returns-in-82 : goal.returns-in-82
returns-in-82 c = letter_r c.args.letter c.in-82.is

pub returns-in_default : goal.returns-in_default
returns-in_default c = letter_none c.args.letter (λ e. grind arith) (λ e. grind arith) (λ e. grind arith)
