use mathlib.Core.Bool.{not}
use mathlib.Core.Path.{◌≡◌, sym, ap, subst, ◌∙◌}
use Prim.Native.Nat.{◌+◌, ◌-◌, ◌*◌, ◌<◌, ◌≤◌}
use native.Mathlib.Omega.{arith}
use borrow.Author.Tests.{not-true, not-false}
use mir.Facts.{to_z-of_z}
use lib.IntN.{pos}
use lib.ListN.{get_or}
use Rattle.kit.proofs.TruthLaws.{truth_true, truth_false, says_true, says_false}
use Rattle.mapset.specs.Described.{full}
use Rattle.mapset.specs.Areas.{Present, blocks, first_of}
use Rattle.mapset.proofs.SoundLaws.{few_blocks}
use Rattle.layout.specs.Layout.{per_map}
use Rattle.areas.specs.Places.{before}
use Rattle.ask_nodes.specs.Value.{kind_of}
use Rattle.index.specs.Index.{Index, Fit, Node, Inside, entries, index, node, entry, position, exponent}
use Rattle.index.proofs.AsRead.{done_in}
use Rattle.index_node.specs.Told.{InGrid, Numbers}
use Rattle.index_node.proofs.AskLaws.{fit_limits, inside, not_inside, mark_in, entry_in, entry_small, unknown, unfit, outside, absent, numbered}
use borrow.Author.Rules.{rules}
use Rattle.index_node.proofs.find_node.Statement.{statement}
use Rattle.index_node.proofs.find_node.Tie as tie

abbrev x : tie.Start → Index
x s = index s.args.header (full s.args.texts s.args.descriptions.now) (entries s.args.positions.now s.args.exponents.now s.args.marks.now)

abbrev q : tie.Start → Node
q s = node s.args.kind s.args.map s.args.layer s.args.row s.args.column

-- what held at each test that was passed
known : (c : tie.Else-kind-ge3) → c.args.kind < 3
known c = omega (arith, c.if-kind-ge3.false)

fit : (c : tie.Else-not-fits) → Fit (x c.before.before.before.before.before.before.before)
fit c = says_true (Fit (x c.before.before.before.before.before.before.before)) c.fits.result c.fits.ensures (not-false _ (ap not c.if-not-fits.false))

within : (c : tie.Else-not-in_grid) → Inside c.args.header (q c.before.before.before.before.before.before.before.before.before)
within c = let a = c.args in inside a.header a.kind a.map a.layer a.row a.column (says_true (InGrid a.header a.map a.layer a.row a.column) c.in_grid.result c.in_grid.ensures (not-false _ (ap not c.if-not-in_grid.false)))

present : (c : tie.Else-not-is_present) → let s = c.before.before.before.before.before.before.before.before.before.before.before.before in Present (kind_of s.args.kind) (get_or s.args.marks.now (s.args.map - 1) 0)
present c = truth_true _ (sym c.is_present.ensures ∙ not-false _ (ap not c.if-not-is_present.false))

-- the entry
entry_is : (c : tie.After-entry_of-i) → c.entry_of-i.result ≡ entry c.args.header (q c.before.before.before.before.before.before.before.before.before.before.before.before.before.before)
entry_is c = let a = c.args in c.entry_of-i.ensures ∙ ap (λ d. first_of (kind_of a.kind) (blocks a.header) + before (per_map a.header) a.map d) c.done_before-d.ensures

few : (c : tie.After-entry_of-i) → blocks c.args.header ≤ 2000000
few c = let s = c.before.before.before.before.before.before.before.before.before.before.before.before.before.before in few_blocks s.args.header.times.maps s.args.header.grid (fit_limits (x s) (fit c.before.before.before.before.before.before.before))

low : (c : tie.After-entry_of-i) → c.entry_of-i.result < 3 * blocks c.args.header
low c = let s = c.before.before.before.before.before.before.before.before.before.before.before.before.before.before in omega (arith, entry_is c, entry_small (x s) (q s) (within c.before.before.before.before.before))

returns : tie.Need-returns-then-kind-ge3
returns c = unknown _ _ _ (omega (arith, c.if-kind-ge3.true))

fits-requires : tie.Need-fits-requires
fits-requires c κs = search rules

returns-2 : tie.Need-returns-then-not-fits
returns-2 c = unfit _ _ _ (known c.before.before) (says_false (Fit (x c.before.before.before.before.before.before.before)) c.fits.result c.fits.ensures (not-true _ (ap not c.if-not-fits.true)))

in-grid-requires : tie.Need-in_grid-requires
in-grid-requires c κs = search rules

returns-3 : tie.Need-returns-then-not-in_grid
returns-3 c = let f = c.before.before in let s = f.before.before.before.before.before.before.before in let a = s.args in outside (x s) a.text.now (q s) (known f.before.before) (fit f) (not_inside a.header a.kind a.map a.layer a.row a.column (says_false (InGrid a.header a.map a.layer a.row a.column) c.in_grid.result c.in_grid.ensures (not-true _ (ap not c.if-not-in_grid.true))))

sub-m : tie.Need-overflow_sub-m
sub-m c = (within c).map.0

shared-slice-read-is-present : tie.Need-bounds-marks-m
shared-slice-read-is-present c = let d = c.before in let s = d.before.before.before.before.before.before.before.before.before in mark_in (x s) (q s) (fit d.before.before) (within d)

is-present-requires : tie.Need-is_present-requires
is-present-requires c κs = search rules

returns-4 : tie.Need-returns-then-not-is_present
returns-4 c = let d = c.before.before.before in let f = d.before.before in let s = f.before.before.before.before.before.before.before in absent (x s) s.args.text.now (q s) (known f.before.before) (fit f) (within d) (truth_false _ (sym c.is_present.ensures ∙ not-true _ (ap not c.if-not-is_present.true)))

done-before-requires : tie.Need-done_before-d-requires
done-before-requires c κs = let d = c.before.before.before in let l = fit_limits (x d.before.before.before.before.before.before.before.before.before) (fit d.before.before) in (omega (arith, (within d).layer, l.2), (omega (arith, (within d).row, l.0), l.0))

entry-of-requires : tie.Need-entry_of-i-requires
entry-of-requires c κs = let d = c.before.before.before.before in let s = d.before.before.before.before.before.before.before.before.before in (fit_limits (x d.before.before.before.before.before.before.before.before.before) (fit d.before.before), ((within d).map.0, subst (λ j. before (per_map s.args.header) s.args.map j < blocks s.args.header) (sym c.done_before-d.ensures) (entry_in (x s) (q s) (within d))))

mul_at : tie.Need-offset_bounds-positions-i
mul_at c = omega (arith, low c, few c)

shared-slice-read-at : tie.Need-bounds-positions-i
shared-slice-read-at c = let e = c.before in let d = e.before.before.before.before.before in omega (arith, low e, (fit d.before.before).positions)

mul-number-at : tie.Need-offset_bounds-exponents-i
mul-number-at c = let e = c.before in omega (arith, low e, few e)

shared-slice-copy-out-number-at : tie.Need-bounds-exponents-i
shared-slice-copy-out-number-at c = let e = c.before in let d = e.before.before.before.before.before in omega (arith, low e, (fit d.before.before).exponents)

number-at-requires : tie.Need-number_at-requires
number-at-requires c κs = let e = c.before.before in let d = e.before.before.before.before.before in let s = d.before.before.before.before.before.before.before.before.before in (fit_limits (x d.before.before.before.before.before.before.before.before.before) (fit d.before.before), (subst (λ j. j < per_map s.args.header) (sym e.done_before-d.ensures) (done_in s.args.header (q s) (within d)), (within d).column))

returns-5 : tie.Need-returns
returns-5 c =
    let e = c.before.before.before in
    let d = e.before.before.before.before.before in
    let f = d.before.before in
    let s = f.before.before.before.before.before.before.before in
    let a = s.args in
    let n : Numbers a.header e.done_before-d.result a.text.now (get_or a.positions.now e.entry_of-i.result 0) (get_or a.exponents.now e.entry_of-i.result (pos 0)) a.column c.number_at.result =
    rw (to_z-of_z (record { sfits = c.number_at-arg-1.given })) at c.number_at.ensures in
    numbered (x s) a.text.now (q s) (known f.before.before) (fit f) (within d) (present e.before.before) c.number_at.result
    (subst (λ j. Numbers a.header j a.text.now (position (x s) (q s)) (exponent (x s) (q s)) a.column c.number_at.result) e.done_before-d.ensures
    (subst (λ j. Numbers a.header e.done_before-d.result a.text.now (get_or a.positions.now j 0) (get_or a.exponents.now j (pos 0)) a.column c.number_at.result) (entry_is e) n))

pub find_node_spec : {M : Type 1} → statement M
find_node_spec = tie.close (tie.spec returns fits-requires returns-2 in-grid-requires returns-3 sub-m shared-slice-read-is-present is-present-requires returns-4 done-before-requires entry-of-requires mul_at shared-slice-read-at mul-number-at shared-slice-copy-out-number-at number-at-requires returns-5)
