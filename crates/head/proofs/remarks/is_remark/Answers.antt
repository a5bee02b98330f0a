use Rattle.layout.specs.Labels.{name}
use Rattle.layout.specs.Names.{names}
use Rattle.head.proofs.PastLaws.{leaves_aux, leaves_comment}
use Rattle.head.proofs.remarks.is_remark.Goals as goal

pub returns-then-aux : goal.returns-then-aux
unfolding name names
returns-then-aux c =
    let b = c.before.before.before.before in
    leaves_aux b.args.line.now b.requires b.args.aux c.if-aux.true c.has_label.result c.has_label.ensures

pub returns : goal.returns
unfolding name names
returns c =
    let b = c.before.before.before.before in
    leaves_comment b.args.line.now b.requires b.args.aux c.if-aux.false c.has_label-2.result c.has_label-2.ensures
