use native.Mathlib.Omega.{arith}
use Rattle.c_answers.proofs.OwnLaws.{none, fit}
use Prim.Native.Nat.{◌≤◌}
use lib.ListN.{length}
use Rattle.mapset.specs.Areas.{six}
use Rattle.c_answers.proofs.WriteLaws.{write_short, write_answer}
use borrow.Author.Rules.{rules}
use Rattle.ionex.proofs.writing.ionex_write.Statement.{statement}
use Rattle.ionex.proofs.writing.ionex_write.Tie as tie

too-short-requires : tie.Need-too_short-short-requires
too-short-requires c κs = search rules

returns : tie.Need-returns-then-short-gt0
returns c =
    let s = c.before.before.before.before.before.before.before in
    write_short s.args.header.now s.args.texts.now (six s.args.tec.now s.args.rms.now s.args.height.now s.args.exponents.now s.args.epochs.now s.args.marks.now) s.args.out.now s.args.count.now c.too_short-short.ensures (omega (arith, c.if-short-gt0.true))

header-in-requires : tie.Need-header_in-h-requires
header-in-requires c κs =
    let s = c.before.before.before.before.before.before.before in
    let f = fit (length s.args.header.now) (length s.args.texts.now) (length s.args.count.now) 1 c.too_short-short.ensures (omega (arith, c.if-short-gt0.false)) in
    f.header

texts-in-requires : tie.Need-texts_in-x-requires
texts-in-requires c κs =
    let s = c.before.before.before.before.before.before.before.before in
    let f = fit (length s.args.header.now) (length s.args.texts.now) (length s.args.count.now) 1 c.too_short-short.ensures (omega (arith, c.if-short-gt0.false)) in
    f.texts

-- the texts reach to the end of the description
long : (c : tie.After-texts_in-x) → 1324 ≤ length c.args.texts.now
long c = let s = c.before.before.before.before.before.before.before.before.before in (fit (length s.args.header.now) (length s.args.texts.now) (length s.args.count.now) 1 c.too_short-short.ensures (omega (arith, c.if-short-gt0.false))).texts

sub-write : tie.Need-slice_bounds-write-count
sub-write c = search rules

part-write-start : tie.Need-slice_bounds-write-start
part-write-start c = omega (arith, long c)

part-write-end : tie.Need-slice_bounds-write-end
part-write-end c = omega (arith, long c)

write-requires : tie.Need-write-answer-requires
write-requires c κs = search rules

put-written-requires : tie.Need-put_written-requires
put-written-requires c κs =
    let s = c.before.before.before.before.before.before.before.before.before.before.before.before.before.before.before in
    let f = fit (length s.args.header.now) (length s.args.texts.now) (length s.args.count.now) 1 c.too_short-short.ensures (omega (arith, c.if-short-gt0.false)) in
    f.result

same_length : tie.Need-shape_of-out
same_length c = search rules

same-length-2 : tie.Need-shape_of-count
same-length-2 c = search rules

returns-2 : tie.Need-returns
returns-2 c =
    let s = c.before.before.before.before.before.before.before.before.before.before.before.before.before.before.before.before.before.before in
    let p = c.put_written.ensures in
    let e = rw (c.header_in-h.ensures, c.texts_in-x.ensures) at c.write-answer.ensures in
    write_answer s.args.header.now s.args.texts.now (six s.args.tec.now s.args.rms.now s.args.height.now s.args.exponents.now s.args.epochs.now s.args.marks.now) s.args.out.now s.args.count.now (none (length s.args.header.now) (length s.args.texts.now) (length s.args.count.now) 1 c.too_short-short.ensures (omega (arith, c.if-short-gt0.false))) _ e p.0 p.1

pub ionex_write_spec : {M : Type 1} → statement M
ionex_write_spec = tie.close (tie.spec too-short-requires returns header-in-requires texts-in-requires sub-write part-write-start part-write-end write-requires put-written-requires same_length same-length-2 returns-2)
