use native.Mathlib.Omega.{arith}
use lib.Seq.{length-take-le}
use Rattle.read_blocks.proofs.BlockLaws.{step_over, step_bad, refuse, short_not, puts_skip, puts_row, okay_one, row_front}
use Rattle.read_lines.proofs.Parts.{stands, row_fits}
use Rattle.read_blocks.proofs.any_fill_step.Goals as goal

pub fill_row-requires : goal.fill_row-requires
fill_row-requires c =
    let a = c.args in
    let r = c.requires in
    let h = stands a.text.now a.at _ _ c.line_in.ensures c.in-Row.is in
    let m = c.on_row-m in
    let k = length-take-le m.result a.out.now (omega (arith, m.ensures)) in
    (row_fits a.text.now a.at (omega arith) _ _ h, (omega (arith, m.ensures), okay_one a.text.now a.at a.lines _ r.1.0 r.0.0 r.0.1 _ _ h _ m.ensures r.1.1 _ k))

pub returns-in-Over : goal.returns-in-Over
returns-in-Over c =
    let a = c.args in
    short_not _ _ c.requires.1.1 (step_over a.text.now a.at _ _ c.requires.1.0 (stands a.text.now a.at _ _ c.line_in.ensures c.in-Over.is))

pub returns-in-Bad : goal.returns-in-Bad
returns-in-Bad c =
    let a = c.args in
    refuse _ c.requires.1.1 (step_bad a.text.now a.at _ _ c.requires.1.0 _ (stands a.text.now a.at _ _ c.line_in.ensures c.in-Bad.is))

pub returns-in-Skip : goal.returns-in-Skip
returns-in-Skip c =
    let a = c.args in
    let r = c.requires in
    puts_skip a.text.now a.at _ _ r.1.0 r.0.0 r.0.1 _ (stands a.text.now a.at _ _ c.line_in.ensures c.in-Skip.is) _

pub returns-in-Row : goal.returns-in-Row
returns-in-Row c =
    let a = c.args in
    let r = c.requires in
    let h = stands a.text.now a.at _ _ c.line_in.ensures c.in-Row.is in
    let m = c.on_row-m in
    let k = length-take-le m.result a.out.now (omega (arith, m.ensures)) in
    puts_row a.text.now a.at a.lines _ r.1.0 r.0.0 r.0.1 _ _ h _ m.ensures r.1.1 _
    (row_front a.text.now a.at a.lines _ r.1.0 r.0.0 r.0.1 _ _ h _ m.ensures r.1.1 _ k _ _ c.fill_row.ensures)
