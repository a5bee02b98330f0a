use mathlib.Core.Path.{sym, ap, ◌∙◌}
use native.Mathlib.Omega.{arith}
use mir.Syntax.{w32}
use mir.ValLaws.{to_z-of_z}
use borrow.Author.Rules.{rules}
use Rattle.std.specs.Prelude.{Some}
use Rattle.forms.specs.Read.{is_number}
use Rattle.read_values.proofs.ValueLaws.{put_none, put_more, put_all, okay_at, okay_room, five, field_whole}
use Rattle.read_values.proofs.fill_row.Goals as goal

pub loop-k-init : goal.loop-k-init
loop-k-init c = put_none _ _

pub slice_bounds-int_value-end : goal.slice_bounds-int_value-end
slice_bounds-int_value-end c =
    let r = c.requires in
    let q = okay_room _ _ _ r.0 r.1.0 c.loop-k-test.true c.loop-k.invariant.passed r.1.1 in
    search rules

pub int_value-requires : goal.int_value-requires
int_value-requires c =
    let r = c.requires in
    let p = c.loop-k.invariant.passed in
    let q = okay_room _ _ _ r.0 r.1.0 c.loop-k-test.true p r.1.1 in
    (five _ _ q, ap is_number (field_whole _ _ q) ∙ okay_at _ _ _ r.0 r.1.0 c.loop-k-test.true p r.1.1)

pub loop-k-preserved : goal.loop-k-preserved
loop-k-preserved c =
    let r = c.requires in
    let u = c.loop-k.invariant in
    let q = okay_room _ _ _ r.0 r.1.0 c.loop-k-test.true u.passed r.1.1 in
    put_more u r.0 r.1.0 c.loop-k-test.true _ (sym (ap Some (to_z-of_z w32 _ (record { sfits = c.int_value.type_inv })) ∙ c.int_value.ensures ∙ field_whole _ _ q))

pub returns : goal.returns
returns c = put_all c.loop-k.invariant (omega arith) c.requires.1.1
