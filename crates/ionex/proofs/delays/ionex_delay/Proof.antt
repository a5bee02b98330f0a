use native.Mathlib.Omega.{arith}
use Rattle.c_answers.proofs.OwnLaws.{none, fit}
use Prim.Native.Nat.{◌≤◌}
use lib.ListN.{length}
use mir.Facts.{to_z-of_z}
use Rattle.c_answers.specs.DelayExported.{short, asked}
use borrow.Author.Rules.{rules}
use Rattle.ionex.proofs.delays.ionex_delay.Statement.{statement}
use Rattle.ionex.proofs.delays.ionex_delay.Tie as tie

too-short-requires : tie.Need-too_short-short-requires
too-short-requires c κs = search rules

returns : tie.Need-returns-then-short-gt0
returns c = short _ c.too_short-short.ensures (omega (arith, c.if-short-gt0.true))

header-in-requires : tie.Need-header_in-h-requires
header-in-requires c κs =
    let s = c.before.before.before.before.before.before in
    let f = fit (length s.args.header.now) (length s.args.texts.now) (length s.args.out.now) 3 c.too_short-short.ensures (omega (arith, c.if-short-gt0.false)) in
    f.header

texts-in-requires : tie.Need-texts_in-x-requires
texts-in-requires c κs =
    let s = c.before.before.before.before.before.before.before in
    let f = fit (length s.args.header.now) (length s.args.texts.now) (length s.args.out.now) 3 c.too_short-short.ensures (omega (arith, c.if-short-gt0.false)) in
    f.texts

-- the texts reach to the end of the description
long : (c : tie.After-texts_in-x) → 1324 ≤ length c.args.texts.now
long c = let s = c.before.before.before.before.before.before.before.before in (fit (length s.args.header.now) (length s.args.texts.now) (length s.args.out.now) 3 c.too_short-short.ensures (omega (arith, c.if-short-gt0.false))).texts

sub-ask-delay : tie.Need-slice_bounds-ask_delay-count
sub-ask-delay c = search rules

part-ask-delay-start : tie.Need-slice_bounds-ask_delay-start
part-ask-delay-start c = omega (arith, long c)

part-ask-delay-end : tie.Need-slice_bounds-ask_delay-end
part-ask-delay-end c = omega (arith, long c)

ask-delay-requires : tie.Need-ask_delay-answer-requires
ask-delay-requires c κs = search rules

put-asked-delay-requires : tie.Need-put_asked_delay-requires
put-asked-delay-requires c κs =
    let s = c.before.before.before.before.before.before.before.before.before.before.before in
    let f = fit (length s.args.header.now) (length s.args.texts.now) (length s.args.out.now) 3 c.too_short-short.ensures (omega (arith, c.if-short-gt0.false)) in
    f.result

same_length : tie.Need-shape_of-out
same_length c = search rules

returns-2 : tie.Need-returns
returns-2 c =
    let s = c.before.before.before.before.before.before.before.before.before.before.before.before.before.before in
    let a = rw (c.header_in-h.ensures, c.texts_in-x.ensures, to_z-of_z s.ranges.lat, to_z-of_z s.ranges.lon) at c.ask_delay-answer.ensures in
    let p = c.put_asked_delay.ensures in
    rw (p.0, p.1) (asked (none (length s.args.header.now) (length s.args.texts.now) (length s.args.out.now) 3 c.too_short-short.ensures (omega (arith, c.if-short-gt0.false))) _ a)

pub ionex_delay_spec : {M : Type 1} → statement M
ionex_delay_spec = tie.close (tie.spec too-short-requires returns header-in-requires texts-in-requires sub-ask-delay part-ask-delay-start part-ask-delay-end ask-delay-requires put-asked-delay-requires same_length returns-2)
