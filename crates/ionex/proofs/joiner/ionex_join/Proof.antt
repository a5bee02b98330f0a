use mathlib.Core.Path.{◌≡◌, ◌∙◌}
use mathlib.Core.List.{List}
use Prim.Native.Nat.{ℕ, ◌≤◌}
use native.Mathlib.Omega.{arith}
use lib.ListN.{length, take, drop}
use Rattle.mapset.specs.Described.{full}
use Rattle.mapset.specs.Areas.{Areas, six}
use Rattle.join.specs.Into.{lent_of}
use Rattle.c_answers.specs.Own.{too_short, shortest}
use Rattle.c_answers.proofs.OwnLaws.{Fit, none, fit}
use Rattle.c_answers.proofs.JoinLaws.{all_long, small_epochs, join_short, join_answer}
use borrow.Author.Rules.{rules}
use Rattle.ionex.proofs.joiner.ionex_join.Statement.{statement}
use Rattle.ionex.proofs.joiner.ionex_join.Tie as tie

abbrev headers : tie.Start → ℕ
headers s = shortest (length s.args.aheader.now) (length s.args.bheader.now) (length s.args.header.now)

abbrev bytes : tie.Start → ℕ
bytes s = shortest (length s.args.atexts.now) (length s.args.btexts.now) (length s.args.texts.now)

abbrev early : tie.Start → Areas
early s = (six s.args.atec.now s.args.arms.now s.args.aheight.now s.args.aexponents.now s.args.aepochs.now s.args.amarks.now)

abbrev late : tie.Start → Areas
late s = (six s.args.btec.now s.args.brms.now s.args.bheight.now s.args.bexponents.now s.args.bepochs.now s.args.bmarks.now)

abbrev out : tie.Start → Areas
out s = (six s.args.tec.now s.args.rms.now s.args.height.now s.args.exponents.now s.args.epochs.now s.args.marks.now)

-- the description of a caller's texts
abbrev lines : List ℕ → List ℕ
lines b = take 1200 (drop 124 b)

-- the description that is handed back is the later set's
later_lines : (c : tie.After-put_joined-arg-1) → length (lines c.args.btexts.now) ≡ 1200
later_lines c = search rules

-- the number told of the call's own areas, and that they are long enough where it is 0
told : (c : tie.After-too_short-short) → c.too_short-short.result ≡ too_short (headers c.before.before.before.before.before.before.before.before.before.before.before.before.before) (bytes c.before.before.before.before.before.before.before.before.before.before.before.before.before) (length c.args.place.now) 2
told c = let s = c.before.before.before.before.before.before.before.before.before.before.before.before.before in c.too_short-short.ensures ∙ (λ i. too_short (c.shortest-headers.ensures i) (c.shortest-bytes.ensures i) (length s.args.place.now) 2)

fits : (c : tie.Else-short-gt0) → Fit (headers c.before.before.before.before.before.before.before.before.before.before.before.before.before.before) (bytes c.before.before.before.before.before.before.before.before.before.before.before.before.before.before) (length c.args.place.now) 2
fits c = fit (headers c.before.before.before.before.before.before.before.before.before.before.before.before.before.before) (bytes c.before.before.before.before.before.before.before.before.before.before.before.before.before.before) (length c.args.place.now) 2 (told c.before) (omega (arith, c.if-short-gt0.false))

-- the texts reach to the end of the description
long : (c : tie.Else-short-gt0) → let s = c.before.before.before.before.before.before.before.before.before.before.before.before.before.before in (1324 ≤ length s.args.atexts.now) × (1324 ≤ length s.args.btexts.now) × (1324 ≤ length s.args.texts.now)
long c = let s = c.before.before.before.before.before.before.before.before.before.before.before.before.before.before in all_long 1324 (length s.args.atexts.now) (length s.args.btexts.now) (length s.args.texts.now) (fits c).texts

shortest-requires : tie.Need-shortest-headers-requires
shortest-requires c κs = search rules

shortest-requires-2 : tie.Need-shortest-bytes-requires
shortest-requires-2 c κs = search rules

too-short-requires : tie.Need-too_short-short-requires
too-short-requires c κs = search rules

returns : tie.Need-returns-then-short-gt0
returns c = let s = c.before.before.before.before.before.before.before.before.before.before.before.before.before.before in join_short s.args.aheader.now s.args.atexts.now (early s) s.args.bheader.now s.args.btexts.now (late s) (out s) s.args.header.now s.args.texts.now s.args.place.now (told c.before) (omega (arith, c.if-short-gt0.true))

header-in-requires : tie.Need-header_in-early-requires
header-in-requires c κs = let s = c.before.before.before.before.before.before.before.before.before.before.before.before.before.before in (all_long 45 (length s.args.aheader.now) (length s.args.bheader.now) (length s.args.header.now) (fits c).header).0

texts-in-requires : tie.Need-texts_in-etexts-requires
texts-in-requires c κs = let s = c.before.before.before.before.before.before.before.before.before.before.before.before.before.before.before in (all_long 1324 (length s.args.atexts.now) (length s.args.btexts.now) (length s.args.texts.now) (fits c.before).texts).0

header-in-requires-2 : tie.Need-header_in-late-requires
header-in-requires-2 c κs = let s = c.before.before.before.before.before.before.before.before.before.before.before.before.before.before.before.before in (all_long 45 (length s.args.aheader.now) (length s.args.bheader.now) (length s.args.header.now) (fits c.before.before).header).1

texts-in-requires-2 : tie.Need-texts_in-ltexts-requires
texts-in-requires-2 c κs = let s = c.before.before.before.before.before.before.before.before.before.before.before.before.before.before.before.before.before in (all_long 1324 (length s.args.atexts.now) (length s.args.btexts.now) (length s.args.texts.now) (fits c.before.before.before).texts).1

sub-join : tie.Need-slice_bounds-join-count
sub-join c = search rules

part-join-start : tie.Need-slice_bounds-join-start
part-join-start c = omega (arith, (long c.before.before.before.before).0)

part-join-end : tie.Need-slice_bounds-join-end
part-join-end c = omega (arith, (long c.before.before.before.before).0)

sub-join-2 : tie.Need-slice_bounds-join-count-2
sub-join-2 c = search rules

part-join-start-2 : tie.Need-slice_bounds-join-start-2
part-join-start-2 c = omega (arith, (long c.before.before.before.before.before).1)

part-join-end-2 : tie.Need-slice_bounds-join-end-2
part-join-end-2 c = omega (arith, (long c.before.before.before.before.before).1)

join-requires : tie.Need-join-r-requires
join-requires c κs = search rules

sub-put-joined : tie.Need-slice_bounds-put_joined-count
sub-put-joined c = search rules

part-put-joined-start : tie.Need-slice_bounds-put_joined-start
part-put-joined-start c = omega (arith, (long c.before.before.before.before.before.before.before.before.before.before.before.before.before.before.before.before.before.before.before.before.before).1)

part-put-joined-end : tie.Need-slice_bounds-put_joined-end
part-put-joined-end c = omega (arith, (long c.before.before.before.before.before.before.before.before.before.before.before.before.before.before.before.before.before.before.before.before.before).1)

put-joined-requires : tie.Need-put_joined-requires
put-joined-requires c κs =
    let s = c.before.before.before.before.before.before.before.before.before.before.before.before.before.before.before.before.before.before.before.before.before.before.before.before.before.before.before.before.before.before.before.before.before.before.before.before.before.before.before in
    let r = c.join-r in
    let f = fits c.before.before.before.before.before.before.before.before.before.before.before.before.before.before.before.before.before.before.before.before.before.before.before.before.before in
    let z = small_epochs (lent_of c.header_in-early.result (full c.texts_in-etexts.result (lines s.args.atexts.now)) (early s)) (lent_of c.header_in-late.result (full c.texts_in-ltexts.result (lines s.args.btexts.now)) (late s)) (out s) r.result (full c.texts_in-ltexts.result (lines s.args.btexts.now)) (six r.new.tec r.new.rms r.new.height r.new.exponents r.new.epochs r.new.marks) r.ensures in
    ((all_long 45 (length s.args.aheader.now) (length s.args.bheader.now) (length s.args.header.now) f.header).2, ((all_long 1324 (length s.args.atexts.now) (length s.args.btexts.now) (length s.args.texts.now) f.texts).2, (f.result, (later_lines c.before.before.before, z))))

same_length : tie.Need-shape_of-tec
same_length c = search rules

same-length-2 : tie.Need-shape_of-rms
same-length-2 c = search rules

same-length-3 : tie.Need-shape_of-height
same-length-3 c = search rules

same-length-4 : tie.Need-shape_of-exponents
same-length-4 c = search rules

same-length-5 : tie.Need-shape_of-epochs
same-length-5 c = search rules

same-length-6 : tie.Need-shape_of-marks
same-length-6 c = search rules

same-length-7 : tie.Need-shape_of-header
same-length-7 c = search rules

same-length-8 : tie.Need-shape_of-texts
same-length-8 c = search rules

same-length-9 : tie.Need-shape_of-place
same-length-9 c = search rules

returns-2 : tie.Need-returns
returns-2 c =
    let s = c.before.before.before.before.before.before.before.before.before.before.before.before.before.before.before.before.before.before.before.before.before.before.before.before.before.before.before.before.before.before.before.before.before.before.before.before.before.before.before.before.before.before.before.before.before in
    let r = c.join-r in
    let w = c.put_joined.ensures in
    let y = c.texts_in-ltexts.ensures in
    let e = rw (c.header_in-early.ensures, c.texts_in-etexts.ensures, c.header_in-late.ensures, y) at r.ensures in
    let n = none (headers s) (bytes s) (length s.args.place.now) 2 (told c.before.before.before.before.before.before.before.before.before.before.before.before.before.before.before.before.before.before.before.before.before.before.before.before.before.before.before.before.before.before.before.before) (omega (arith, c.if-short-gt0.false)) in
    join_answer s.args.aheader.now s.args.atexts.now (early s) s.args.bheader.now s.args.btexts.now (late s) (out s) s.args.header.now s.args.texts.now s.args.place.now n r.result (six r.new.tec r.new.rms r.new.height r.new.exponents r.new.epochs r.new.marks) e w.0 w.1.0 (rw y at w.1.1.0) w.1.1.1

pub ionex_join_spec : {M : Type 1} → statement M
ionex_join_spec = tie.close (tie.spec shortest-requires shortest-requires-2 too-short-requires returns header-in-requires texts-in-requires header-in-requires-2 texts-in-requires-2 sub-join part-join-start part-join-end sub-join-2 part-join-start-2 part-join-end-2 join-requires sub-put-joined part-put-joined-start part-put-joined-end put-joined-requires same_length same-length-2 same-length-3 same-length-4 same-length-5 same-length-6 same-length-7 same-length-8 same-length-9 returns-2)
