-- `ask_why::causes::look` meets its contract.
use mathlib.Core.Path.{◌≡◌, refl, sym, ap, ◌∙◌}
use Prim.Native.Nat.{ℕ}
use native.Mathlib.Omega.{arith}
use Rattle.std.specs.Prelude.{Some}
use Rattle.ask_nodes.specs.Value.{kind_of, value}
use Rattle.ask_why.specs.Parts.{lack_with, cause}
use Rattle.ask_why.specs.declared.Cause.{Cause}
use Rattle.ask_why.proofs.NodeList.{lacks_light, lacks_by, found_value, found_nothing}
use Rattle.ask_why.proofs.causes.look.Goals as goal

pub returns-then-n-eq0 : goal.returns-then-n-eq0
returns-then-n-eq0 c = let a = c.args in sym (lacks_light a.s a.values.now a.exponents.now a.marks.now a.n c.if-n-eq0.true)

-- a node that has its value is not the one
pub returns-in-Some : goal.returns-in-Some
returns-in-Some c =
    let a = c.args in
    found_value (kind_of a.s.kind) (value a.s a.values.now a.exponents.now a.marks.now a.n) (lack_with a.n a.s.layer (cause a.s a.values.now a.exponents.now a.marks.now a.n))
    (λ z. let e = sym c.in-Some.is ∙ c.node_at.ensures ∙ z in let z : ◌≡◌ {A = ℕ} 0 1 = cc in omega arith)
    ∙ sym (lacks_by a.s a.values.now a.exponents.now a.marks.now a.n c.if-n-eq0.false _ refl)

pub returns-in-None : goal.returns-in-None
returns-in-None c =
    let a = c.args in
    ap Some (c.named.ensures ∙ ap (λ (x : Cause). lack_with a.n a.s.layer x) c.cause_at.ensures)
    ∙ found_nothing (kind_of a.s.kind) (value a.s a.values.now a.exponents.now a.marks.now a.n) _ (sym c.node_at.ensures ∙ c.in-None.is)
    ∙ sym (lacks_by a.s a.values.now a.exponents.now a.marks.now a.n c.if-n-eq0.false _ refl)
