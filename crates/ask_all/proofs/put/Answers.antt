-- `ask_all::put` meets its contract.
use borrow.Author.Rules.{rules}
use mathlib.Core.Path.{◌≡◌, ap, ap₂, ◌∙◌}
use Prim.Native.Nat.{ℕ}
use lib.IntN.{ℤ, pos}
use lib.ListN.{get_or, set}
use mir.Syntax.{w32}
use mir.Val.{to_z, of_z}
use Rattle.ask.specs.Ask.{told}
use Rattle.ask_all.specs.AskAll.{slots, value_or}
use Rattle.ask_all.proofs.put.Goals as goal

pub returns : goal.returns
returns c =
    let a = c.args in
    let v : to_z w32 (of_z w32 c.value_in.result) ≡ c.value_in.result = search rules in
    let f : to_z w32 (of_z w32 (get_or a.values.now a.k (pos 0))) ≡ get_or a.values.now a.k (pos 0) = search rules in
    ap₂ (λ (n : ℕ) (z : ℤ). slots (set a.answers.now a.k n) (set a.values.now a.k z)) c.number_in.ensures (v ∙ c.value_in.ensures ∙ ap (λ (z : ℤ). value_or z (told a.answer)) f)
