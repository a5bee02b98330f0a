-- `write_map::put_blocks` meets its contract.
use borrow.Author.Rules.{rules}
use mathlib.Core.Path.{◌≡◌, refl, sym, ap, subst, ◌∙◌}
use mathlib.Core.List.{[], ◌++◌}
use native.Mathlib.Omega.{arith}
use Prim.Native.Nat.{ℕ, ◌+◌, ◌-◌, ◌*◌, ◌≤◌, ◌<◌}
use lib.IntN.{pos}
use lib.ListN.{length, take, drop, get_or}
use mir.Syntax.{w32}
use mir.Val.{to_z, of_z}
use mir.Facts.{to_z-of_z}
use Rattle.mapset.specs.Grid as G
use Rattle.canonical.specs.Canon.{block_rows}
use Rattle.write_line.specs.Put.{Put, PutsOn}
use Rattle.write_line.proofs.PutLaws.{put_none, room_front, leads_self, leads_on}
use Rattle.write_row.proofs.PlacedLaws.{placed}
use Rattle.write_map.specs.OneMap.{map_blocks}
use Rattle.write_map.proofs.BlockLaws.{few_values, one_block, blocks_from, blocks_next, blocks_end, blocks_start, part_inside, part_next}
use Rattle.write_map.proofs.put_blocks.Statement.{statement}
use Rattle.write_map.proofs.put_blocks.Tie as tie

abbrev invariant-loop : tie.invariant-loop-d
invariant-loop out₀ at header in_force es vs columns next₀ held₀ d₀ from₀ out next held d from =
    (d ≤ length es) × (from ≡ d * G.columns header.grid)
    × PutsOn out₀ at (block_rows header 0 (to_z w32 in_force) (map_blocks header es vs) []) out next (blocks_from header (G.columns header.grid) es vs d from (to_z w32 held))

abbrev decreases-loop : tie.decreases-loop-d
decreases-loop out₀ at header in_force es vs columns next₀ held₀ d₀ from₀ out next held d from = length es - d

module _ (l : tie.At-loop-d invariant-loop decreases-loop) where
  abbrev s : tie.Start invariant-loop decreases-loop
  s = l.before.before.before.before

  abbrev C : ℕ
  C = G.columns s.args.header.grid

  force_is : to_z w32 (of_z w32 s.args.in_force) ≡ s.args.in_force
  force_is = to_z-of_z s.ranges.in_force

  module _ (h : l.loop-d.d < length s.args.es.now) where
    inside : l.loop-d.from + C ≤ length s.args.vs.now
    inside = part_inside l.loop-d.d (length s.args.es.now) C l.loop-d.from (length s.args.vs.now) l.loop-d.invariant.1 (s.requires.1.values ∙ ap (λ n. n * C) (sym s.requires.1.exponents)) h

    here : PutsOn s.args.out.now s.args.at (block_rows s.args.header 0 s.args.in_force (map_blocks s.args.header s.args.es.now s.args.vs.now) []) l.loop-d.out l.loop-d.next
        (one_block s.args.header l.loop-d.d (to_z w32 l.loop-d.held-bits) (get_or s.args.es.now l.loop-d.d (pos 0)) (take C (drop l.loop-d.from s.args.vs.now))
        ++ blocks_from s.args.header C s.args.es.now s.args.vs.now (l.loop-d.d + 1) (l.loop-d.from + C) (get_or s.args.es.now l.loop-d.d (pos 0)))
    here = rw (force_is, blocks_next s.args.header C s.args.es.now s.args.vs.now l.loop-d.d l.loop-d.from (to_z w32 l.loop-d.held-bits) h) at l.loop-d.invariant.2

  width : l.loop-d.from + l.nodes-columns.result - l.loop-d.from ≡ C
  width = omega (arith, l.nodes-columns.ensures)

exponent_is : (c : tie.After-exponent-1 invariant-loop decreases-loop) → let l = c.before.before in to_z w32 (of_z w32 (get_or (s l).args.es.now l.loop-d.d (pos 0))) ≡ get_or (s l).args.es.now l.loop-d.d (pos 0)
exponent_is c = to_z-of_z {w = w32} (record { sfits = c.exponent-1.given })

put_of : (c : tie.After-put_block-next invariant-loop decreases-loop) → let l = c.before.before.before.before.before in
    Put l.loop-d.out l.loop-d.next (one_block (s l.before).args.header l.loop-d.d (to_z w32 l.loop-d.held-bits) (get_or (s l.before).args.es.now l.loop-d.d (pos 0)) (take (C l.before) (drop l.loop-d.from (s l.before).args.vs.now)))
    c.put_block-next.new.out c.put_block-next.result
put_of c =
    let l = c.before.before.before.before.before in
    rw (width l.before, exponent_is c.before.before.before.before) at c.put_block-next.ensures

nodes-requires : tie.Need-nodes-columns-requires invariant-loop decreases-loop
nodes-requires c κs = search rules

loop-holds : tie.Need-loop-d-init invariant-loop decreases-loop
loop-holds c =
    let s = c.before.before in
    (omega arith, omega arith, rw (blocks_start s.args.header s.args.es.now s.args.vs.now (to_z w32 (of_z w32 s.args.in_force)) s.requires.1.exponents) leads_self)

mul-exponent : tie.Need-offset_bounds-es-d invariant-loop decreases-loop
mul-exponent c = search rules

shared-slice-copy-out-exponent : tie.Need-bounds-es-d invariant-loop decreases-loop
shared-slice-copy-out-exponent c = search rules

add-end : tie.Need-overflow_add-end invariant-loop decreases-loop
add-end c = let l = c.before.before in omega (arith, inside l (omega arith), (s l).requires.1.values, few_values (s l).args.header (s l).requires.0.fine, l.nodes-columns.ensures)

mul-put-block : tie.Need-offset_bounds-vs-from invariant-loop decreases-loop
mul-put-block c = let l = c.before.before.before in omega (arith, inside l.before (omega arith), (s l.before).requires.1.values, few_values (s l.before).args.header (s l.before).requires.0.fine)

sub-put-block : tie.Need-slice_bounds-put_block-count invariant-loop decreases-loop
sub-put-block c = search rules

part-put-block-start : tie.Need-slice_bounds-put_block-start invariant-loop decreases-loop
part-put-block-start c = search rules

part-put-block-end : tie.Need-slice_bounds-put_block-end invariant-loop decreases-loop
part-put-block-end c = let l = c.before.before.before in let h = inside l.before (omega arith) in let e = l.nodes-columns.ensures in search rules

put-block-requires : tie.Need-put_block-next-requires invariant-loop decreases-loop
put-block-requires c κs =
    let l = c.before.before.before.before in
    let h : l.loop-d.d < length (s l.before).args.es.now = omega arith in
    rw (width l.before, exponent_is c.before.before.before)
    (placed (s l.before).args.header.grid l.loop-d.d (s l.before).requires.0.fine.axes.heights (s l.before).requires.0.fine.axes.latitudes (s l.before).requires.0.fine.limits.2 (s l.before).requires.0.fine.limits.0 (omega (arith, (s l.before).requires.1.exponents)), room_front _ _ ((here l.before h).room (s l.before).requires.0.room))

add-d : tie.Need-overflow_add-d invariant-loop decreases-loop
add-d c = search rules

loop-less : tie.Need-loop-d-smaller invariant-loop decreases-loop
loop-less c = search rules

loop-again : tie.Need-loop-d-preserved invariant-loop decreases-loop
loop-again c =
    let l = c.before.before.before.before.before.before.before in
    let h : l.loop-d.d < length (s l.before).args.es.now = omega arith in
    let p = leads_on _ _ (here l.before h) (put_of c.before.before) in (
      omega arith,
      ap (λ n. l.loop-d.from + n) l.nodes-columns.ensures ∙ part_next _ _ _ _ _ l.loop-d.invariant.1 refl h,
      rw (force_is l.before, exponent_is c.before.before.before.before.before.before)
          (subst (λ (n : ℕ). PutsOn (s l.before).args.out.now (s l.before).args.at (block_rows (s l.before).args.header 0 (s l.before).args.in_force (map_blocks (s l.before).args.header (s l.before).args.es.now (s l.before).args.vs.now) [])
          c.put_block-next.new.out c.put_block-next.result
          (blocks_from (s l.before).args.header (C l.before) (s l.before).args.es.now (s l.before).args.vs.now (l.loop-d.d + 1) (l.loop-d.from + n) (get_or (s l.before).args.es.now l.loop-d.d (pos 0)))) (sym l.nodes-columns.ensures) p),
    )

same_length : tie.Need-shape_of-out invariant-loop decreases-loop
same_length c = c.loop-d.invariant.2.size

returns : tie.Need-returns invariant-loop decreases-loop
returns c =
    let l = c.before in
    let e = blocks_end (s l).args.header (C l) (s l).args.es.now (s l).args.vs.now l.loop-d.d l.loop-d.from (to_z w32 l.loop-d.held-bits) (omega arith) in
    (rw (force_is l, e) at l.loop-d.invariant.2).rest _ _ put_none

pub put_blocks_spec : {M : Type 1} → statement M
put_blocks_spec = tie.close (tie.spec invariant-loop decreases-loop nodes-requires loop-holds mul-exponent shared-slice-copy-out-exponent add-end mul-put-block sub-put-block part-put-block-start part-put-block-end put-block-requires add-d loop-less loop-again same_length returns)
