use native.Mathlib.Omega.{arith}
use Rattle.c_answers.proofs.OwnLaws.{none, fit}
use lib.ListN.{length}
use Rattle.mapset.specs.Areas.{six}
use Rattle.c_answers.proofs.ReadLaws.{small_epochs, cross_short, cross_answer}
use Rattle.ionex.proofs.reader.ionex_read.Goals as goal

pub returns-then-short-gt0 : goal.returns-then-short-gt0
returns-then-short-gt0 c = record {
  outcome =
      let s = c.before.before.before.before.before.before.before in
      cross_short s.args.text.now (six s.args.tec.now s.args.rms.now s.args.height.now s.args.exponents.now s.args.epochs.now s.args.marks.now) s.args.header.now s.args.texts.now s.args.place.now c.too_short-short.ensures (omega (arith, c.if-short-gt0.true));
}

pub put_reading-requires : goal.put_reading-requires
put_reading-requires c =
    let s = c.before.before.before.before.before.before.before.before.before.before.before.before.before.before.before.before.before.before.before.before.before.before.before.before.before in
    let r = c.before.before.before.before.before.before.before.before.before.before.before in
    let f = fit (length s.args.header.now) (length s.args.texts.now) (length s.args.place.now) 2 c.too_short-short.ensures (omega (arith, c.if-short-gt0.false)) in
    let z = small_epochs s.args.text.now (six s.args.tec.now s.args.rms.now s.args.height.now s.args.exponents.now s.args.epochs.now s.args.marks.now) r.read-r.result (six r.read-r.new.tec r.read-r.new.rms r.read-r.new.height r.read-r.new.exponents r.read-r.new.epochs r.read-r.new.marks) r.read-r.ensures.outcome in
    (f.header, (f.texts, (f.result, z)))

pub returns : goal.returns
returns c = record {
  outcome =
      let s = c.before.before.before.before.before.before.before.before.before.before.before.before.before.before.before.before.before.before.before.before.before.before.before.before.before.before.before.before.before.before.before in
      let r = c.before.before.before.before.before.before.before.before.before.before.before.before.before.before.before.before.before in
      let w = c.put_reading.ensures in
      cross_answer s.args.text.now (six s.args.tec.now s.args.rms.now s.args.height.now s.args.exponents.now s.args.epochs.now s.args.marks.now) s.args.header.now s.args.texts.now s.args.place.now (none (length s.args.header.now) (length s.args.texts.now) (length s.args.place.now) 2 c.too_short-short.ensures (omega (arith, c.if-short-gt0.false))) r.read-r.result (six r.read-r.new.tec r.read-r.new.rms r.read-r.new.height r.read-r.new.exponents r.read-r.new.epochs r.read-r.new.marks) r.read-r.ensures.outcome w.0 w.1.0 w.1.1.0 w.1.1.1;
}
