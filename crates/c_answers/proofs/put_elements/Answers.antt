use lib.ListN.{length-set}
use Rattle.c_header.proofs.SetLaws.{sets_front}
use Rattle.c_answers.specs.NeedsExported.{listed}
use borrow.Author.Rules.{rules}
use Rattle.c_answers.proofs.put_elements.Goals as goal

pub bounds-out-1 : goal.bounds-out-1
bounds-out-1 c = simp length-set (search rules)

pub bounds-out-2 : goal.bounds-out-2
bounds-out-2 c = simp length-set (search rules)

pub bounds-out-3 : goal.bounds-out-3
bounds-out-3 c = simp length-set (search rules)

pub bounds-out-4 : goal.bounds-out-4
bounds-out-4 c = simp length-set (search rules)

pub returns : goal.returns
returns c = sets_front (listed c.args.n) c.args.out.now c.requires
