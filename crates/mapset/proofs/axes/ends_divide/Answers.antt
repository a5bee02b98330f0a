use borrow.Author.Rules.{rules}
use mathlib.Core.Path.{◌≡◌, sym, ◌∙◌, refl}
use mir.Syntax.{w32}
use mir.Val.{to_z, of_z}
use mathlib.Core.Bool.{true, false}
use Rattle.kit.proofs.TruthLaws.{both}
use Rattle.mapset.specs.Decisions.{multiple?}
use Rattle.mapset.specs.Judged.{ends?}
use Rattle.mapset.proofs.JudgedLaws.{multiple_tells}
use Rattle.mapset.proofs.axes.ends_divide.Goals as goal

pub returns-then-is_multiple_of : goal.returns-then-is_multiple_of
unfolding ends?
returns-then-is_multiple_of c =
    let a = c.args.a in
    let s : to_z w32 (of_z w32 c.args.a.step) ≡ c.args.a.step = search rules in
    let f : to_z w32 (of_z w32 c.args.a.first) ≡ c.args.a.first = search rules in
    let l : to_z w32 (of_z w32 c.args.a.last) ≡ c.args.a.last = search rules in
    let i = multiple_tells a.step a.first _ c.is_multiple_of.ensures (rw f at c.unsigned_abs.ensures.value) (rw s at c.unsigned_abs-d.ensures.value) in
    let t = multiple_tells a.step a.last _ c.is_multiple_of-then-is_multiple_of.ensures (rw l at c.unsigned_abs-then-is_multiple_of.ensures.value) (rw s at c.unsigned_abs-d.ensures.value) in
    both (multiple? a.step a.first) (multiple? a.step a.last) {a = true} (sym c.if-is_multiple_of.true ∙ i) t

pub returns-else-is_multiple_of : goal.returns-else-is_multiple_of
unfolding ends?
returns-else-is_multiple_of c =
    let a = c.args.a in
    let s : to_z w32 (of_z w32 c.args.a.step) ≡ c.args.a.step = search rules in
    let f : to_z w32 (of_z w32 c.args.a.first) ≡ c.args.a.first = search rules in
    let i = multiple_tells a.step a.first _ c.is_multiple_of.ensures (rw f at c.unsigned_abs.ensures.value) (rw s at c.unsigned_abs-d.ensures.value) in
    c.if-is_multiple_of.false ∙ both (multiple? a.step a.first) (multiple? a.step a.last) {a = false} (sym c.if-is_multiple_of.false ∙ i) refl
