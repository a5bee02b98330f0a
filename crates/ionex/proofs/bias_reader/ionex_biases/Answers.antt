-- `ionex::bias_reader::ionex_biases` meets its contract.
use native.Mathlib.Omega.{arith}
use Rattle.bias_fill.specs.Flat.{lent}
use Rattle.bias_text.specs.Biased.{comes}
use Rattle.c_biases.proofs.BiasOnce.{cross_short, cross_answer}
use Rattle.ionex.proofs.bias_reader.ionex_biases.Goals as goal

pub returns-then-counts-lt2 : goal.returns-then-counts-lt2
returns-then-counts-lt2 c = record { outcome = cross_short c.args.text.now (lent c.args.satellites.now c.args.stations.now c.args.names.now) c.args.counts.now c.args.place.now (λ h. omega (arith, h.0, c.if-counts-lt2.true)) }

pub returns-then-place-lt2 : goal.returns-then-place-lt2
returns-then-place-lt2 c = record { outcome = cross_short c.args.text.now (lent c.args.satellites.now c.args.stations.now c.args.names.now) c.args.counts.now c.args.place.now (λ h. omega (arith, h.1, c.if-place-lt2.true)) }

pub returns : goal.returns
returns c = record {
  outcome =
      let w = c.put_biased.ensures in
      let l = lent c.biases-answer.new.satellites c.biases-answer.new.stations c.biases-answer.new.names in
      rw (w.0, w.1.0, w.1.1) (cross_answer c.args.text.now (lent c.args.satellites.now c.args.stations.now c.args.names.now) c.args.counts.now c.args.place.now (omega (arith, c.if-counts-lt2.false), omega (arith, c.if-place-lt2.false)) (comes c.biases-answer.result l) c.biases-answer.ensures.outcome);
}
