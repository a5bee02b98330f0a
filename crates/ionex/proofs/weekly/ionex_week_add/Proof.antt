-- `ionex_week_add` meets its contract.
use borrow.Author.Rules.{rules}
use mathlib.Core.Path.{◌≡◌}
use native.Mathlib.Omega.{arith}
use Prim.Native.Nat.{◌<◌}
use lib.ListN.{length}
use Rattle.mapset.specs.Areas.{Areas, six}
use Rattle.week.specs.Sane.{comes, outcome}
use Rattle.c_week.specs.WeekNumbers.{week_at}
use Rattle.c_week.specs.WeekExported.{set_of}
use Rattle.c_week.proofs.WeekLaws.{Fits, fits, small_comes, cross_short, cross_answer}
use Rattle.ionex.proofs.weekly.ionex_week_add.Statement.{statement}
use Rattle.ionex.proofs.weekly.ionex_week_add.Tie as tie

abbrev lent : tie.Start → Areas
lent s = six s.args.tec.now s.args.rms.now s.args.height.now s.args.exponents.now s.args.epochs.now s.args.marks.now

-- the call's own areas are long enough
module _ (d : tie.Else-short-gt0) where
  abbrev s : tie.Start
  s = d.before.before.before.before.before.before

  none : d.too_short-short.result < 1
  none = omega (arith, d.if-short-gt0.false)

  long : Fits (length s.args.header.now) (length s.args.texts.now) (length s.args.week.now) (length s.args.place.now)
  long = fits (length s.args.header.now) (length s.args.texts.now) (length s.args.week.now) (length s.args.place.now) d.too_short-short.ensures none

-- what was added, of the caller's numbers
module _ (a : tie.After-add-answer) where
  abbrev from : tie.Else-short-gt0
  from = a.before.before.before.before.before.before

  added : comes a.add-answer.result a.add-answer.new.rows ≡ outcome (week_at (s from).args.week.now) (set_of (s from).args.header.now (s from).args.texts.now (lent (s from)) (s from).args.rows.now)
  added =
      rw (a.week_in-w.ensures, a.header_in-h.ensures, a.texts_in-x.ensures) at a.add-answer.ensures

too-short-requires : tie.Need-too_short-short-requires
too-short-requires c κs = search rules

returns : tie.Need-returns-then-short-gt0
returns c =
    let s = c.before.before.before.before.before.before in
    cross_short s.args.week.now s.args.header.now s.args.texts.now (lent s) s.args.rows.now s.args.place.now c.too_short-short.ensures (omega (arith, c.if-short-gt0.true))

week-in-requires : tie.Need-week_in-w-requires
week-in-requires c κs = (long c).week

header-in-requires : tie.Need-header_in-h-requires
header-in-requires c κs = (long c.before).header

texts-in-requires : tie.Need-texts_in-x-requires
texts-in-requires c κs = (long c.before.before).texts

sub-add : tie.Need-slice_bounds-add-count
sub-add c = search rules

part-add-start : tie.Need-slice_bounds-add-start
part-add-start c = omega (arith, (long c.before.before.before).texts)

part-add-end : tie.Need-slice_bounds-add-end
part-add-end c = omega (arith, (long c.before.before.before).texts)

add-requires : tie.Need-add-answer-requires
add-requires c κs = search rules

put-added-requires : tie.Need-put_added-requires
put-added-requires c κs =
    let a = c.before.before.before in
    let l = long (from a) in
    (l.week, (l.place, small_comes _ _ a.add-answer.result _ (added a)))

same_length : tie.Need-shape_of-week
same_length c = search rules

same-length-2 : tie.Need-shape_of-rows
same-length-2 c = search rules

same-length-3 : tie.Need-shape_of-place
same-length-3 c = search rules

returns-2 : tie.Need-returns
returns-2 c =
    let k = c.before.before.before in
    let a = k.before.before.before.before in
    let d = from a in
    let p = k.put_added.ensures in
    cross_answer (s d).args.week.now (s d).args.header.now (s d).args.texts.now (lent (s d)) (s d).args.rows.now (s d).args.place.now
    d.too_short-short.ensures (none d) a.add-answer.result (added a) p.0 p.1.0 p.1.1

pub ionex_week_add_spec : {M : Type 1} → statement M
ionex_week_add_spec = tie.close (tie.spec too-short-requires returns week-in-requires header-in-requires texts-in-requires sub-add part-add-start part-add-end add-requires put-added-requires same_length same-length-2 same-length-3 returns-2)
