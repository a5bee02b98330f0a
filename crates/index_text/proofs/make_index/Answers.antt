use mathlib.Core.Path.{refl}
use Rattle.mapset.specs.Lines.{no_lines}
use Rattle.index.specs.Index.{entries}
use Rattle.read_judge.proofs.JudgeLaws.{one_to_ten}
use Rattle.index_text.proofs.MakeLaws.{made_refused}
use Rattle.index_text.proofs.make_index.Goals as goal

pub judge-requires : goal.judge-requires
unfolding no_lines
judge-requires c = refl

pub store-requires : goal.store-requires
store-requires c = (c.in-Ok.ensures.maps, c.in-Ok.ensures.reads)

pub returns-in-Err : goal.returns-in-Err
returns-in-Err c =
    let a = c.args in
    let f = c.refused.ensures in
    rw (f.0, f.1, c.from.ensures (one_to_ten a.text.now _ c.in-Err.ensures)) (made_refused a.text.now (entries a.positions.now a.exponents.now a.marks.now) _ c.in-Err.ensures)
