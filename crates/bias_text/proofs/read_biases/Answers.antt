-- `bias_text::read_biases` meets its contract.
use mathlib.Core.Path.{refl}
use Rattle.std.proofs.lemmas.Result.{err_from_is_err_and}
use Rattle.mapset.specs.Lines.{no_lines}
use Rattle.bias_fill.specs.Flat.{lent}
use Rattle.bias_text.proofs.BiasedLaws.{maps_refused, maps_number}
use Rattle.bias_text.proofs.read_biases.Goals as goal

pub judge-requires : goal.judge-requires
unfolding no_lines
judge-requires c = refl

pub returns-in_err-judge : goal.returns-in_err-judge
returns-in_err-judge c =
    let p = err_from_is_err_and c.from_residual.result c.from_residual.ensures.1 in
    rw (p.1, p.2 (maps_number c.args.text.now (lent c.args.satellites.now c.args.stations.now c.args.names.now) _ c.in_err-judge.ensures)) (maps_refused c.args.text.now (lent c.args.satellites.now c.args.stations.now c.args.names.now) _ c.in_err-judge.ensures)

pub of_header-requires : goal.of_header-requires
of_header-requires c = record { set = _; reads = c.in_ok-judge.ensures.reads }
