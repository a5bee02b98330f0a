use native.Mathlib.Omega.{arith}
use lib.ListN.{length}
use Rattle.c_answers.proofs.OwnLaws.{none, fit}
use Rattle.index.specs.Index.{entries}
use Rattle.c_index.proofs.CrossLaws.{small_epochs, cross_short, cross_answer}
use Rattle.ionex.proofs.indexing.ionex_index.Goals as goal

pub returns-then-short-gt0 : goal.returns-then-short-gt0
returns-then-short-gt0 c = record {
  outcome =
      let s = c.before.before.before.before.before.before.before in
      cross_short s.args.text.now (entries s.args.positions.now s.args.exponents.now s.args.marks.now) s.args.header.now s.args.texts.now s.args.place.now c.too_short-short.ensures (omega (arith, c.if-short-gt0.true));
}

pub put_reading-requires : goal.put_reading-requires
put_reading-requires c =
    let s = c.before.before.before.before.before.before.before.before.before.before.before.before.before.before.before.before.before.before.before in
    let r = c.before.before.before.before.before.before.before.before in
    let f = fit (length s.args.header.now) (length s.args.texts.now) (length s.args.place.now) 2 c.too_short-short.ensures (omega (arith, c.if-short-gt0.false)) in
    (f.header, (f.texts, (f.result, small_epochs s.args.text.now (entries s.args.positions.now s.args.exponents.now s.args.marks.now) r.make_index-r.result _ r.make_index-r.ensures.outcome)))

pub returns : goal.returns
returns c = record {
  outcome =
      let s = c.before.before.before.before.before.before.before.before.before.before.before.before.before.before.before.before.before.before.before.before.before.before.before.before.before in
      let r = c.before.before.before.before.before.before.before.before.before.before.before.before.before.before in
      let w = c.put_reading.ensures in
      cross_answer s.args.text.now (entries s.args.positions.now s.args.exponents.now s.args.marks.now) s.args.header.now s.args.texts.now s.args.place.now (none (length s.args.header.now) (length s.args.texts.now) (length s.args.place.now) 2 c.too_short-short.ensures (omega (arith, c.if-short-gt0.false))) r.make_index-r.result _ r.make_index-r.ensures.outcome w.0 w.1.0 w.1.1.0 w.1.1.1;
}
