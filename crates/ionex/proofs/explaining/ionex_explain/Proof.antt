-- `ionex_explain` meets its contract.
use borrow.Author.Rules.{rules}
use native.Mathlib.Omega.{arith}
use Prim.Native.Nat.{◌<◌}
use lib.ListN.{length}
use mir.Facts.{to_z-of_z}
use Rattle.mapset.specs.Areas.{six}
use Rattle.ask.specs.Ask.{Question}
use Rattle.ask_why.specs.Explain.{Explains}
use Rattle.c_answers.specs.AskExported.{asks}
use Rattle.c_why.specs.ExplainExported.{short, answered}
use Rattle.c_why.proofs.CrossLaws.{Fits, fits, none}
use Rattle.c_why.proofs.SmallLaws.{small}
use Rattle.ionex.proofs.explaining.ionex_explain.Statement.{statement}
use Rattle.ionex.proofs.explaining.ionex_explain.Tie as tie

-- the question that the caller's numbers ask
abbrev q : tie.Start → Question
q s =
    let a = s.args in
    asks a.header.now a.texts.now (six a.tec.now a.rms.now a.height.now a.exponents.now a.epochs.now a.marks.now) a.kind a.method a.layer a.lat a.lon a.second

-- the call's own areas are long enough
module _ (d : tie.Else-short-gt0) where
  abbrev s : tie.Start
  s = d.before.before.before.before.before.before

  left : d.too_short-short.result < 1
  left = omega (arith, d.if-short-gt0.false)

  long : Fits (length s.args.header.now) (length s.args.texts.now) (length s.args.nodes.now) (length s.args.lacking.now)
  long = fits (length s.args.header.now) (length s.args.texts.now) (length s.args.nodes.now) (length s.args.lacking.now) d.too_short-short.ensures left

-- what was explained, of the caller's numbers
module _ (a : tie.After-explain-answer) where
  abbrev from : tie.Else-short-gt0
  from = a.before.before.before.before

  explained : Explains (q (s from)) a.explain-answer.result
  explained = rw (a.header_in-h.ensures, a.texts_in-x.ensures, to_z-of_z (s from).ranges.lat, to_z-of_z (s from).ranges.lon) at a.explain-answer.ensures

too-short-requires : tie.Need-too_short-short-requires
too-short-requires c κs = search rules

returns : tie.Need-returns-then-short-gt0
returns c = short _ c.too_short-short.ensures (omega (arith, c.if-short-gt0.true))

header-in-requires : tie.Need-header_in-h-requires
header-in-requires c κs = (long c).header

texts-in-requires : tie.Need-texts_in-x-requires
texts-in-requires c κs = (long c.before).texts

-- the texts reach to the end of the description
sub-explain : tie.Need-slice_bounds-explain-count
sub-explain c = search rules

part-explain-start : tie.Need-slice_bounds-explain-start
part-explain-start c = omega (arith, (long c.before.before).texts)

part-explain-end : tie.Need-slice_bounds-explain-end
part-explain-end c = omega (arith, (long c.before.before).texts)

explain-requires : tie.Need-explain-answer-requires
explain-requires c κs = search rules

put-explained-requires : tie.Need-put_explained-requires
put-explained-requires c κs =
    let a = c.before.before in
    let l = long (from a) in
    (l.nodes, (l.lacking, small (q (s (from a))) a.explain-answer.result (explained a)))

same_length : tie.Need-shape_of-nodes
same_length c = search rules

same-length-2 : tie.Need-shape_of-lacking
same-length-2 c = search rules

returns-2 : tie.Need-returns
returns-2 c =
    let k = c.before.before.before in
    let a = k.before.before.before in
    let d = from a in
    let p = k.put_explained.ensures in
    let t = (s d).args in
    rw (p.0, p.1.0, p.1.1) (answered (none (length t.header.now) (length t.texts.now) (length t.nodes.now) (length t.lacking.now) d.too_short-short.ensures (left d)) a.explain-answer.result (explained a))

pub ionex_explain_spec : {M : Type 1} → statement M
ionex_explain_spec = tie.close (tie.spec too-short-requires returns header-in-requires texts-in-requires sub-explain part-explain-start part-explain-end explain-requires put-explained-requires same_length same-length-2 returns-2)
