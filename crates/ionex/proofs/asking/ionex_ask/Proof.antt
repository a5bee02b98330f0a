use native.Mathlib.Omega.{arith}
use Rattle.c_answers.proofs.OwnLaws.{none, fit}
use Prim.Native.Nat.{◌≤◌}
use lib.ListN.{length}
use mir.Facts.{to_z-of_z}
use Rattle.c_answers.specs.AskExported.{short, answered}
use borrow.Author.Rules.{rules}
use Rattle.ionex.proofs.asking.ionex_ask.Statement.{statement}
use Rattle.ionex.proofs.asking.ionex_ask.Tie as tie

too-short-requires : tie.Need-too_short-short-requires
too-short-requires c κs = search rules

returns : tie.Need-returns-then-short-gt0
returns c = short _ c.too_short-short.ensures (omega (arith, c.if-short-gt0.true))

header-in-requires : tie.Need-header_in-h-requires
header-in-requires c κs =
    let s = c.before.before.before.before.before in
    let f = fit (length s.args.header.now) (length s.args.texts.now) (length s.args.value.now) 1 c.too_short-short.ensures (omega (arith, c.if-short-gt0.false)) in
    f.header

texts-in-requires : tie.Need-texts_in-x-requires
texts-in-requires c κs =
    let s = c.before.before.before.before.before.before in
    let f = fit (length s.args.header.now) (length s.args.texts.now) (length s.args.value.now) 1 c.too_short-short.ensures (omega (arith, c.if-short-gt0.false)) in
    f.texts

-- the texts reach to the end of the description
long : (c : tie.After-texts_in-x) → 1324 ≤ length c.args.texts.now
long c = let s = c.before.before.before.before.before.before.before in (fit (length s.args.header.now) (length s.args.texts.now) (length s.args.value.now) 1 c.too_short-short.ensures (omega (arith, c.if-short-gt0.false))).texts

sub-ask : tie.Need-slice_bounds-ask-count
sub-ask c = search rules

part-ask-start : tie.Need-slice_bounds-ask-start
part-ask-start c = omega (arith, long c)

part-ask-end : tie.Need-slice_bounds-ask-end
part-ask-end c = omega (arith, long c)

ask-requires : tie.Need-ask-answer-requires
ask-requires c κs = search rules

put-answer-requires : tie.Need-put_answer-requires
put-answer-requires c κs =
    let s = c.before.before.before.before.before.before.before.before.before.before in
    let f = fit (length s.args.header.now) (length s.args.texts.now) (length s.args.value.now) 1 c.too_short-short.ensures (omega (arith, c.if-short-gt0.false)) in
    f.result

same_length : tie.Need-shape_of-value
same_length c = search rules

returns-2 : tie.Need-returns
returns-2 c =
    let s = c.before.before.before.before.before.before.before.before.before.before.before.before in
    let a = rw (c.header_in-h.ensures, c.texts_in-x.ensures, to_z-of_z s.ranges.lat, to_z-of_z s.ranges.lon) at c.ask-answer.ensures in
    let p = c.put_answer.ensures in
    rw (p.0, p.1) (answered (none (length s.args.header.now) (length s.args.texts.now) (length s.args.value.now) 1 c.too_short-short.ensures (omega (arith, c.if-short-gt0.false))) _ a)

pub ionex_ask_spec : {M : Type 1} → statement M
ionex_ask_spec = tie.close (tie.spec too-short-requires returns header-in-requires texts-in-requires sub-ask part-ask-start part-ask-end ask-requires put-answer-requires same_length returns-2)
