use mathlib.Core.Path.{◌≡◌, refl, ◌∙◌}
use mathlib.Core.List.{[], ◌∷◌}
use mir.Syntax.{w32}
use mir.Val.{to_z, of_z}
use lib.Seq.{sets}
use Rattle.kit.proofs.SetLaws.{sets_front}
use borrow.Author.Rules.{rules}
use Rattle.c_index.proofs.put_node.Goals as goal

pub returns-in-Ok : goal.returns-in-Ok
returns-in-Ok c =
    let r = c.before.before.before in
    let z = r.in-Ok.found.number in
    let e = r.in-Ok.found.exponent in
    let p : to_z w32 (of_z w32 z) ≡ z = search rules in
    let q : to_z w32 (of_z w32 e) ≡ e = search rules in
    let s = r in
    let v = s.args.value.now in
    rw r.in-Ok.is (refl, c.put_two.ensures ∙ (λ i. sets v 0 (p i ∷ q i ∷ [])) ∙ sets_front (z ∷ e ∷ []) v s.requires)
