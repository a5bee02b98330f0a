use Rattle.read_blocks.proofs.BlockLaws.{usual_step}
use Rattle.read_blocks.proofs.step_at.Goals as goal

pub returns-in-Some : goal.returns-in-Some
returns-in-Some c =
    let a = c.args in
    let r = c.requires in
    let m = c.on_row-m in
    usual_step a.text.now a.at a.lines a.left r.1.0 r.0.0 r.0.1 m.result m.ensures c.in-Some.next c.in-Some.ensures
