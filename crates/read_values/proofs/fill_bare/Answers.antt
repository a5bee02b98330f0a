use mathlib.Core.Path.{sym, ap, ◌∙◌}
use mathlib.Core.Bool.{false}
use native.Mathlib.Omega.{arith}
use lib.ListN.{length}
use mir.Syntax.{w32}
use mir.ValLaws.{to_z-of_z}
use Rattle.std.specs.Prelude.{Some}
use Rattle.forms.specs.Form.{signed}
use Rattle.read_values.proofs.ValueLaws.{put_none, put_more, put_all}
use Rattle.read_values.proofs.BareRows.{row_fits, bare_num, bare_value, bare_below, bare_last}
use Rattle.read_values.proofs.fill_bare.Goals as goal

pub loop-k-init : goal.loop-k-init
loop-k-init c = (c.pairs_in.ensures, put_none _ _)

pub five_digits-requires : goal.five_digits-requires
five_digits-requires c =
    let t = c.args.line.now in
    let m = length c.args.out.now in
    let i = c.loop-k.invariant in
    let q = bare_num t m c.loop-k.k c.requires.0 c.loop-k-test.true i.1.passed c.requires.1.1 in
    bare_last t _ m c.loop-k.k c.loop-k-test.true c.requires.1.0 i.0 q

pub positive-requires : goal.positive-requires
positive-requires c =
    let t = c.args.line.now in
    let m = length c.args.out.now in
    let i = c.loop-k.invariant in
    let q = bare_num t m c.loop-k.k c.requires.0 c.loop-k-test.true i.1.passed c.requires.1.1 in
    rw c.five_digits.ensures (bare_below t _ m c.loop-k.k c.loop-k-test.true c.requires.1.0 i.0 q)

pub loop-k-preserved : goal.loop-k-preserved
loop-k-preserved c =
    let t = c.args.line.now in
    let m = length c.args.out.now in
    let k = c.loop-k.k in
    let i = c.loop-k.invariant in
    let q = bare_num t m k c.requires.0 c.loop-k-test.true i.1.passed c.requires.1.1 in
    let v = bare_value t _ m k c.loop-k-test.true c.requires.1.0 i.0 q in
    let r = to_z-of_z w32 _ (record { sfits = c.positive.type_inv }) ∙ c.positive.ensures ∙ ap (signed false) c.five_digits.ensures in
    (i.0, put_more i.1 (row_fits t m c.requires.0) c.requires.0 c.loop-k-test.true _ (v ∙ sym (ap Some r)))

pub returns : goal.returns
returns c = put_all c.loop-k.invariant.1 (omega arith) c.requires.1.1
