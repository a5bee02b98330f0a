-- `write_map::put_slot` meets its contract.
use mathlib.Core.Bool.{not}
use borrow.Author.Rules.{rules}
use mathlib.Core.Path.{◌≡◌, sym, ap, ◌∙◌}
use mathlib.Core.List.{List}
use native.Mathlib.Omega.{arith}
use borrow.Author.Tests.{not-true, not-false}
use Prim.Native.Nat.{◌-◌, ◌*◌}
use lib.IntN.{pos}
use lib.ListN.{take, drop, get_or, length-drop}
use lib.Seq.{length-take-le}
use mir.Syntax.{w32}
use mir.Val.{to_z, of_z}
use mir.Facts.{to_z-of_z}
use Rattle.kit.proofs.TruthLaws.{truth_true, truth_false}
use Rattle.mapset.specs.Areas.{Present}
use Rattle.mapset.specs.MapSet.{Block}
use Rattle.mapset.specs.Grid as G
use Rattle.layout.specs.Layout.{per_map}
use Rattle.write_line.proofs.PutLaws.{put_none}
use Rattle.write_map.specs.OneMap.{slot_blocks}
use Rattle.write_map.proofs.BlockLaws.{few_blocks, some_blocks, last_in_force}
use Rattle.write_map.proofs.SlotLaws.{map_there, map_absent, force_there, force_absent}
use Rattle.write_map.proofs.put_slot.Statement.{statement}
use Rattle.write_map.proofs.put_slot.Tie as tie

module _ (s : tie.Start) where
  abbrev bs : List Block
  bs = slot_blocks s.args.header s.args.es.now s.args.vs.now s.args.from

  force_is : to_z w32 (of_z w32 s.args.in_force) ≡ s.args.in_force
  force_is = to_z-of_z s.ranges.in_force

  width : s.args.end - s.args.from ≡ per_map s.args.header * G.columns s.args.header.grid
  width = omega (arith, s.requires.width)

present-requires : tie.Need-present-requires
present-requires c κs = search rules

is_there : (c : tie.Else-not-present) → Present c.args.kind c.args.mark
is_there c = truth_true _ (sym c.present.ensures ∙ not-false _ (ap not c.if-not-present.false))

returns : tie.Need-returns-then-not-present
returns c =
    let s = c.before.before.before in
    let n = truth_false _ (sym c.present.ensures ∙ not-true _ (ap not c.if-not-present.true)) in
    record {
      put = rw (map_absent s.args.kind s.args.header s.args.number s.args.epoch s.args.mark s.args.in_force (bs s) n) put_none;
      force = force_is s ∙ sym (force_absent s.args.kind s.args.mark s.args.in_force (bs s) n);
    }

mul-put-map : tie.Need-offset_bounds-vs-from
mul-put-map c = let s = c.before.before.before.before in omega (arith, s.requires.width, s.requires.low)

sub-put-map : tie.Need-slice_bounds-put_map-count
sub-put-map c = let s = c.before.before.before.before in omega (arith, s.requires.width)

part-put-map-start : tie.Need-slice_bounds-put_map-start
part-put-map-start c = let s = c.before.before.before.before in let w = s.requires.width in search rules

part-put-map-end : tie.Need-slice_bounds-put_map-end
part-put-map-end c = let s = c.before.before.before.before in s.requires.values (is_there c.before)

put-map-requires : tie.Need-put_map-next-requires
put-map-requires c κs =
    let s = c.before.before.before.before.before in
    let p = is_there c.before.before in
    let v = s.requires.values p in
    rw (force_is s, width s) (
      record { fine = s.requires.ready.fine; room = rw (map_there s.args.kind s.args.header s.args.number s.args.epoch s.args.mark s.args.in_force (bs s) p) at s.requires.ready.room },
      record { exponents = s.requires.exponents; values = length-take-le _ _ (omega (arith, length-drop s.args.from s.args.vs.now, s.requires.width)) },
      s.requires.number,
    )

sub-t20 : tie.Need-overflow_sub-result
sub-t20 c = let s = c.before.before.before.before.before.before.before.before in omega (arith, s.requires.exponents)

mul-t23 : tie.Need-offset_bounds-es-es
mul-t23 c =
    let s = c.before.before.before.before.before.before.before.before in
    omega (arith, s.requires.exponents, few_blocks s.args.header s.requires.ready.fine)

shared-slice-copy-out-t25 : tie.Need-bounds-es-es
shared-slice-copy-out-t25 c = let s = c.before.before.before.before.before.before.before.before in omega (arith, s.requires.exponents)

same_length : tie.Need-shape_of-out
same_length c = search rules

returns-2 : tie.Need-returns
returns-2 c =
    let s = c.before.before.before.before.before.before.before.before.before in
    let p = is_there c.before.before.before.before.before.before in
    record {
      put = rw (map_there s.args.kind s.args.header s.args.number s.args.epoch s.args.mark s.args.in_force (bs s) p) (rw (force_is s, width s) at c.put_map-next.ensures);
      force = to_z-of_z {w = w32} (record { sfits = c.result-1.given }) ∙ ap (λ n. get_or s.args.es.now (n - 1) (pos 0)) s.requires.exponents
          ∙ sym (force_there s.args.kind s.args.mark s.args.in_force (bs s) p
          ∙ last_in_force (G.columns s.args.header.grid) s.args.in_force (per_map s.args.header) s.args.es.now (take (per_map s.args.header * G.columns s.args.header.grid) (drop s.args.from s.args.vs.now)) s.requires.exponents (some_blocks s.args.header));
    }

pub put_slot_spec : {M : Type 1} → statement M
put_slot_spec = tie.close (tie.spec present-requires returns mul-put-map sub-put-map part-put-map-start part-put-map-end put-map-requires sub-t20 mul-t23 shared-slice-copy-out-t25 same_length returns-2)
