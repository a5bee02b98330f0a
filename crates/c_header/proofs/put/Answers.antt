use Rattle.std.proofs.Common.{◌≡◌, ℤ, ℕ, List, ◌+◌, ◌≤◌, ◌++◌, length, take, drop, sym, ap, ◌∙◌, arith}
use Rattle.std.proofs.lemmas.Grind.{common_steps}
use lib.Seq.{sets, sets-eq, paste, take-length}
use Rattle.c_header.proofs.put.Goals as goal

sets_paste : (vs l : List ℤ) (i : ℕ) → i + length vs ≤ length l → sets l i vs ≡ paste l i vs (length vs)
sets_paste vs l i h = sets-eq vs l i h ∙ ap (λ r. take i l ++ r ++ drop (i + length vs) l) (sym (take-length vs))

pub returns : goal.returns
returns c = rw (sets_paste c.args.numbers.now c.args.out.now c.args.at c.requires) (grind (arith, common_steps))
