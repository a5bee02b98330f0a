-- `c_why::put_lacking` meets its contract.
use borrow.Author.Rules.{rules}
use mathlib.Core.Path.{ap, ◌∙◌}
use mathlib.Core.List.{[], ◌∷◌}
use Prim.Native.Nat.{ℕ}
use lib.ListN.{length-set}
use lib.Seq.{sets}
use Rattle.c_header.proofs.SetLaws.{sets_front}
use Rattle.c_why.specs.ExplainExported.{lacking_numbers}
use Rattle.c_why.proofs.put_lacking.Goals as goal

pub bounds-out-1 : goal.bounds-out-1
bounds-out-1 c = simp length-set (search rules)

pub bounds-out-2 : goal.bounds-out-2
bounds-out-2 c = simp length-set (search rules)

pub bounds-out-3 : goal.bounds-out-3
bounds-out-3 c = simp length-set (search rules)

pub returns : goal.returns
returns c =
    let s = c.before.before in
    let l = s.args.l in
    ap (λ (k : ℕ). sets s.args.out.now 0 (l.map ∷ l.layer ∷ l.row ∷ l.column ∷ k ∷ [])) c.cause_number.ensures ∙ sets_front (lacking_numbers l) s.args.out.now s.requires
