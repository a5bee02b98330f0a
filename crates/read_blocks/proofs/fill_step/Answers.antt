use native.Mathlib.Omega.{arith}
use lib.ListN.{length}
use lib.Seq.{length-take-le}
use Rattle.read_blocks.proofs.BlockLaws.{bare_needs, bare_puts}
use Rattle.read_blocks.proofs.fill_step.Goals as goal

pub fill_bare-requires : goal.fill_bare-requires
fill_bare-requires c =
    let a = c.args in
    let r = c.requires in
    let m = c.on_row-m in
    let e = m.ensures in
    let k = length-take-le m.result a.out.now (omega arith) in
    bare_needs a.text.now a.at a.lines (length a.out.now) r.1.0 r.0.0 r.0.1 m.result e c.in-Some.next c.in-Some.ensures r.1.1 _ k

pub returns : goal.returns
returns c =
    let a = c.args in
    let r = c.requires in
    let m = c.on_row-m in
    let e = m.ensures in
    let k = length-take-le m.result a.out.now (omega arith) in
    bare_puts a.text.now a.at a.lines (length a.out.now) r.1.0 r.0.0 r.0.1 m.result e c.in-Some.next c.in-Some.ensures r.1.1 _ k _ _ c.fill_bare.ensures
