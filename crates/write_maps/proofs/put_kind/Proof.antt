-- `write_maps::put_kind` meets its contract.
use borrow.Author.Rules.{rules}
use mathlib.Core.Path.{◌≡◌, ap, ap₂, ◌∙◌}
use native.Mathlib.Omega.{arith}
use native.Mathlib.Nat.{mul-le-mul}
use Prim.Native.Nat.{ℕ, ◌+◌, ◌-◌, ◌*◌, ◌≤◌, ◌<◌}
use lib.ListN.{length}
use mir.Syntax.{w32}
use mir.Val.{to_z, of_z}
use mir.Facts.{to_z-of_z}
use Rattle.mapset.specs.Areas as A
use Rattle.mapset.specs.Grid as G
use Rattle.layout.specs.Layout.{per_map}
use Rattle.write_map.specs.Ready.{Fine}
use Rattle.write_map.proofs.BlockLaws.{few_blocks, few_values}
use Rattle.write_maps.proofs.KindLaws.{Going, going_start, going_inside, going_few, going_ready, going_next, going_end}
use Rattle.write_maps.proofs.put_kind.Statement.{statement}
use Rattle.write_maps.proofs.put_kind.Tie as tie

abbrev invariant-loop : tie.invariant-loop-i
invariant-loop out₀ at header kind in_force epochs marks exponents values maps blocks width next₀ force₀ i₀ begin₀ from₀ out next force i begin from =
    Going kind header epochs marks exponents values (to_z w32 in_force) out₀ at out next (to_z w32 force) i begin from

abbrev decreases-loop : tie.decreases-loop-i
decreases-loop out₀ at header kind in_force epochs marks exponents values maps blocks width next₀ force₀ i₀ begin₀ from₀ out next force i begin from =
    maps - i

-- blocks and columns are the grid's
module _ (n : tie.After-nodes invariant-loop decreases-loop) where
  abbrev start : tie.Start invariant-loop decreases-loop
  start = n.before.before.before.before.before.before.before.before

  fine : Fine start.args.header
  fine = start.requires.ready.fine

  width_is : n.per_map-blocks.result * n.nodes.result ≡ per_map start.args.header * G.columns start.args.header.grid
  width_is = ap₂ (λ (x y : ℕ). x * y) n.per_map-blocks.ensures n.nodes.ensures

  all_is : start.args.header.times.maps * n.per_map-blocks.result ≡ A.blocks start.args.header
  all_is = ap (λ (b : ℕ). start.args.header.times.maps * b) n.per_map-blocks.ensures

  few : A.blocks start.args.header ≤ 300 * 23104
  few = mul-le-mul fine.maps (few_blocks start.args.header fine)

module _ (l : tie.At-loop-i invariant-loop decreases-loop) where
  abbrev n : tie.After-nodes invariant-loop decreases-loop
  n = l.before.before

  abbrev s : tie.Start invariant-loop decreases-loop
  s = start n

  force_is : to_z w32 (of_z w32 s.args.in_force) ≡ s.args.in_force
  force_is = to_z-of_z s.ranges.in_force

  going : Going s.args.kind s.args.header s.args.epochs.now s.args.marks.now s.args.exponents.now s.args.values.now s.args.in_force s.args.out.now s.args.at l.loop-i.out l.loop-i.next (to_z w32 l.loop-i.force-bits) l.loop-i.i l.loop-i.begin l.loop-i.from
  going = rw force_is at l.loop-i.invariant

  inside : l.loop-i.i < s.args.header.times.maps → l.loop-i.begin + n.per_map-blocks.result ≤ length s.args.exponents.now
  inside h = going_inside s.requires going n.per_map-blocks.ensures (width_is n) h

cast-maps : tie.Need-overflow_cast-maps invariant-loop decreases-loop
cast-maps c = search rules

per-map-requires : tie.Need-per_map-blocks-requires invariant-loop decreases-loop
per-map-requires c κs = let f = c.requires.ready.fine in (f.limits.2, f.limits.0)

nodes-requires : tie.Need-nodes-requires invariant-loop decreases-loop
nodes-requires c κs = search rules

mul-width : tie.Need-overflow_mul-width invariant-loop decreases-loop
mul-width c = omega (arith, width_is c, few_values (start c).args.header (fine c))

mul-blocks-before : tie.Need-overflow_mul-maps invariant-loop decreases-loop
mul-blocks-before c = omega (arith, all_is c, few c)

blocks-before-requires : tie.Need-blocks_before-begin-requires invariant-loop decreases-loop
blocks-before-requires c κs = omega (arith, all_is c, few c)

loop-holds : tie.Need-loop-i-init invariant-loop decreases-loop
loop-holds c = let n = c.before in going_start (c.blocks_before-begin.ensures ∙ ap (A.first_of (start n).args.kind) (all_is n))

add-last : tie.Need-overflow_add-last invariant-loop decreases-loop
add-last c = let l = c.before in omega (arith, inside l (omega arith), (s l).well_formed.1.1.1.1.1.1.1.0)

add-end : tie.Need-overflow_add-end invariant-loop decreases-loop
add-end c = let l = c.before in omega (arith, going_few (s l).requires (going l) (n l).per_map-blocks.ensures (width_is (n l)) (omega arith))

add-put-slot : tie.Need-overflow_add-i invariant-loop decreases-loop
add-put-slot c = omega arith

mul-put-slot : tie.Need-offset_bounds-epochs-i invariant-loop decreases-loop
mul-put-slot c = let l = c.before.before in omega (arith, (fine (n l)).maps)

shared-slice-read-put-slot : tie.Need-bounds-epochs-i invariant-loop decreases-loop
shared-slice-read-put-slot c = let l = c.before.before.before in omega (arith, (s l).requires.epochs)

shared-slice-read-put-slot-2 : tie.Need-bounds-marks-i invariant-loop decreases-loop
shared-slice-read-put-slot-2 c = let l = c.before.before.before.before in omega (arith, (s l).requires.marks)

mul-put-slot-2 : tie.Need-offset_bounds-exponents-begin invariant-loop decreases-loop
mul-put-slot-2 c = let l = c.before.before.before.before in omega (arith, inside l (omega arith), (s l).well_formed.1.1.1.1.1.1.1.0)

sub-put-slot : tie.Need-slice_bounds-put_slot-count invariant-loop decreases-loop
sub-put-slot c = omega arith

part-put-slot-start : tie.Need-slice_bounds-put_slot-start invariant-loop decreases-loop
part-put-slot-start c = omega arith

part-put-slot-end : tie.Need-slice_bounds-put_slot-end invariant-loop decreases-loop
part-put-slot-end c = let l = c.before.before.before.before in inside l (omega arith)

put-slot-requires : tie.Need-put_slot-reached-requires invariant-loop decreases-loop
put-slot-requires c κs =
    let l = c.before.before.before.before.before in
    going_ready (s l).requires (going l) (n l).per_map-blocks.ensures (width_is (n l)) (omega arith)

add-i : tie.Need-overflow_add-i-in-loop-i invariant-loop decreases-loop
add-i c = let t = c.before.before.before.before.before.before.before.before in omega (arith, t.loop-i-test.true, (fine (n t.before)).maps)

loop-less : tie.Need-loop-i-smaller invariant-loop decreases-loop
loop-less c = omega arith

loop-again : tie.Need-loop-i-preserved invariant-loop decreases-loop
loop-again c =
    let a = c.before.before.before in
    let l = a.before.before.before.before.before.before in
    let e = to_z-of_z {w = w32} (record { sfits = c.struct_told-1.given.1.0.1 }) in
    rw (force_is l) (going_next (s l).requires (going l) (n l).per_map-blocks.ensures (width_is (n l)) (omega arith) a.put_slot-reached.result e a.put_slot-reached.ensures)

same_length : tie.Need-shape_of-out invariant-loop decreases-loop
same_length c = c.loop-i.invariant.leads.size

returns : tie.Need-returns invariant-loop decreases-loop
returns c = let l = c.before in going_end (s l).requires (going l) (omega arith)

pub put_kind_spec : {M : Type 1} → statement M
put_kind_spec = tie.close (tie.spec invariant-loop decreases-loop cast-maps per-map-requires nodes-requires mul-width mul-blocks-before blocks-before-requires loop-holds add-last add-end add-put-slot mul-put-slot shared-slice-read-put-slot shared-slice-read-put-slot-2 mul-put-slot-2 sub-put-slot part-put-slot-start part-put-slot-end put-slot-requires add-i loop-less loop-again same_length returns)
