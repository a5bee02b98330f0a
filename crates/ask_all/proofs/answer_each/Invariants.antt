use Rattle.mapset.specs.Areas.{six}
use Rattle.ask.specs.Looked.{ValueAt}
use Rattle.ask_all.specs.AskAll.{places, slots, Each}
use Rattle.ask_all.proofs.answer_each.Given as goal

abbrev pub invariant-loop-k : goal.invariant-loop-k
invariant-loop-k l =
    Each (ValueAt l.header l.s (six l.tec l.rms l.height l.exponents l.epochs l.marks) l.method) l.k (places l.lats l.lons l.seconds) (slots l.initial.answers l.initial.values) (slots l.answers l.values)
