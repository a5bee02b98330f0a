use native.Mathlib.Omega.{arith}
use Prim.Native.Nat.{◌≤◌}
use lib.ListN.{length}
use Rattle.c_answers.proofs.OwnLaws.{none, fit}
use Rattle.c_answers.specs.AskAllExported.{short, answered}
use borrow.Author.Rules.{rules}
use Rattle.ionex.proofs.asking.ionex_ask_all.Statement.{statement}
use Rattle.ionex.proofs.asking.ionex_ask_all.Tie as tie

too-short-requires : tie.Need-too_short-short-requires
too-short-requires c κs = search rules

returns : tie.Need-returns-then-short-gt0
returns c = short _ c.too_short-short.ensures (omega (arith, c.if-short-gt0.true))

header-in-requires : tie.Need-header_in-h-requires
header-in-requires c κs =
    let s = c.before.before.before.before.before.before.before in
    (fit (length s.args.header.now) (length s.args.texts.now) 0 0 c.too_short-short.ensures (omega (arith, c.if-short-gt0.false))).header

texts-in-requires : tie.Need-texts_in-x-requires
texts-in-requires c κs =
    let s = c.before.before.before.before.before.before.before.before in
    (fit (length s.args.header.now) (length s.args.texts.now) 0 0 c.too_short-short.ensures (omega (arith, c.if-short-gt0.false))).texts

-- the texts reach to the end of the description
long : (c : tie.After-texts_in-x) → 1324 ≤ length c.args.texts.now
long c =
    let s = c.before.before.before.before.before.before.before.before.before in
    (fit (length s.args.header.now) (length s.args.texts.now) 0 0 c.too_short-short.ensures (omega (arith, c.if-short-gt0.false))).texts

sub-ask-all : tie.Need-slice_bounds-ask_all-count
sub-ask-all c = search rules

part-ask-all-start : tie.Need-slice_bounds-ask_all-start
part-ask-all-start c = omega (arith, long c)

part-ask-all-end : tie.Need-slice_bounds-ask_all-end
part-ask-all-end c = omega (arith, long c)

ask-all-requires : tie.Need-ask_all-answer-requires
ask-all-requires c κs = search rules

all-number-requires : tie.Need-all_number-requires
all-number-requires c κs = search rules

same_length : tie.Need-shape_of-answers
same_length c = search rules

same-length-2 : tie.Need-shape_of-values
same-length-2 c = search rules

returns-2 : tie.Need-returns
returns-2 c =
    let t = c.before.before.before.before.before.before.before.before.before.before in
    let s = t.before.before.before.before.before.before.before in
    let a = rw (c.header_in-h.ensures, c.texts_in-x.ensures) at c.ask_all-answer.ensures in
    rw c.all_number.ensures (answered (none (length s.args.header.now) (length s.args.texts.now) 0 0 t.too_short-short.ensures (omega (arith, t.if-short-gt0.false))) _ _ a)

pub ionex_ask_all_spec : {M : Type 1} → statement M
ionex_ask_all_spec = tie.close (tie.spec too-short-requires returns header-in-requires texts-in-requires sub-ask-all part-ask-all-start part-ask-all-end ask-all-requires all-number-requires same_length same-length-2 returns-2)
