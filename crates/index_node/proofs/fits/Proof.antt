use mathlib.Core.Bool.{not}
use mathlib.Core.Path.{◌≡◌, sym, ap, ◌∙◌}
use Prim.Native.Nat.{◌*◌, ◌≤◌}
use native.Mathlib.Omega.{arith}
use borrow.Author.Tests.{not-true, not-false}
use lib.Seq.{length-take-le}
use Rattle.kit.proofs.TruthLaws.{truth_true, truth_false}
use Rattle.mapset.specs.Described.{full}
use Rattle.mapset.specs.Areas.{blocks}
use Rattle.mapset.specs.Sound.{HeaderSays}
use Rattle.mapset.proofs.SoundLaws.{few_blocks}
use Rattle.index_node.proofs.AskLaws.{no_header, marks_decide, limits}
use borrow.Author.Rules.{rules}
use Rattle.index_node.proofs.fits.Statement.{statement}
use Rattle.index_node.proofs.fits.Tie as tie

says : (c : tie.Else-not-header_fits) → HeaderSays c.args.header (full c.args.texts c.args.descriptions.now)
says c = truth_true _ (sym c.header_fits.ensures ∙ not-false _ (ap not c.if-not-header_fits.false))

few : (c : tie.After-per_map) → blocks c.args.header ≤ 2000000
few c = let b = c.before.before.before.before.before.before.before in few_blocks b.args.header.times.maps b.args.header.grid (limits b.args.header (full b.args.texts b.args.descriptions.now) (says c.before.before.before))

all_is : (c : tie.After-per_map) → c.args.header.times.maps * c.per_map.result ≡ blocks c.args.header
all_is c = ap (λ n. c.args.header.times.maps * n) c.per_map.ensures

header-fits-requires : tie.Need-header_fits-requires
header-fits-requires c κs = search rules

returns : tie.Need-returns-then-not-header_fits
returns c = no_header _ _ _ _ _ (truth_false _ (sym c.header_fits.ensures ∙ not-true _ (ap not c.if-not-header_fits.true)))

cast-maps : tie.Need-overflow_cast-maps
cast-maps c = search rules

per-map-requires : tie.Need-per_map-requires
per-map-requires c κs = let b = c.before.before.before.before.before.before in let l = limits b.args.header (full b.args.texts b.args.descriptions.now) (says c.before.before) in (l.2, l.0)

mul-all : tie.Need-overflow_mul-all
mul-all c = omega (arith, few c, all_is c)

mul-all-2 : tie.Need-overflow_mul-all-2
mul-all-2 c = omega (arith, few c, all_is c)

returns-2 : tie.Need-returns-then-positions-all
returns-2 c = λ f. omega (arith, f.positions, all_is c.before, c.if-positions-all.true)

returns-3 : tie.Need-returns-then-exponents-all
returns-3 c = λ f. omega (arith, f.exponents, all_is c.before.before, c.if-exponents-all.true)

returns-4 : tie.Need-returns-then-marks-maps
returns-4 c = search rules

slice-aggregate-all-within : tie.Need-slice_bounds-all_within-end
slice-aggregate-all-within c = sym (length-take-le _ _ (omega (arith, c.if-marks-maps.false)))

all-within-requires : tie.Need-all_within-requires
all-within-requires c κs = search rules

returns-5 : tie.Need-returns
returns-5 c = let e4 = c.before.before in let p = e4.before.before.before in let a = p.args in marks_decide a.header (full a.texts a.descriptions.now) a.positions.now a.exponents.now a.marks.now (says p.before.before) (omega (arith, all_is e4.before.before, e4.if-positions-all.false)) (omega (arith, all_is e4.before.before, e4.if-exponents-all.false)) (omega (arith, c.if-marks-maps.false)) c.all_within.result c.all_within.ensures

pub fits_spec : {M : Type 1} → statement M
fits_spec = tie.close (tie.spec header-fits-requires returns cast-maps per-map-requires mul-all mul-all-2 returns-2 returns-3 returns-4 slice-aggregate-all-within all-within-requires returns-5)
