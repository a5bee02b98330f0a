-- `write_map::put_map` meets its contract.
use borrow.Author.Rules.{rules}
use mathlib.Core.Path.{◌≡◌}
use mathlib.Core.List.{List, [], ◌∷◌, ◌++◌}
use Prim.Native.Nat.{ℕ}
use lib.IntN.{pos}
use mir.Syntax.{w32}
use mir.Val.{to_z, of_z}
use mir.Facts.{to_z-of_z}
use Rattle.layout.specs.Labels.{start, end}
use Rattle.canonical.specs.Canon.{row_of, block_rows}
use Rattle.write_line.specs.Put.{PutsOn}
use Rattle.write_line.proofs.PutLaws.{room_front, room_first, leads_self, leads_on, leads_next}
use Rattle.write_map.specs.OneMap.{map_blocks, epoch_rows, one_map}
use Rattle.write_map.proofs.put_map.Statement.{statement}
use Rattle.write_map.proofs.put_map.Tie as tie

module _ (s : tie.Start) where
  abbrev rows_at : List (List ℕ)
  rows_at = block_rows s.args.header 0 s.args.in_force (map_blocks s.args.header s.args.es.now s.args.vs.now) []

  abbrev close_row : List (List ℕ)
  close_row = row_of (end s.args.kind) (pos s.args.number, tt) ∷ []

  abbrev all : List (List ℕ)
  all = one_map s.args.kind s.args.header s.args.number s.args.epoch s.args.in_force (map_blocks s.args.header s.args.es.now s.args.vs.now)

  begins : PutsOn s.args.out.now s.args.at all s.args.out.now s.args.at (row_of (start s.args.kind) (pos s.args.number, tt) ∷ (epoch_rows s.args.kind s.args.epoch ++ (rows_at ++ close_row)))
  unfolding one_map
  begins = leads_self

  force_is : to_z w32 (of_z w32 s.args.in_force) ≡ s.args.in_force
  force_is = to_z-of_z s.ranges.in_force

started : (c : tie.After-put_start-first) → let s = c.before.before.before in PutsOn s.args.out.now s.args.at (all s) c.put_start-first.new.out c.put_start-first.result (epoch_rows s.args.kind s.args.epoch ++ (rows_at s ++ close_row s))
started c = leads_next (begins c.before.before.before) c.put_start-first.ensures

dated : (c : tie.After-put_epoch-second) → let s = c.before.before.before.before.before.before.before in PutsOn s.args.out.now s.args.at (all s) c.put_epoch-second.new.out c.put_epoch-second.result (rows_at s ++ close_row s)
dated c = leads_on _ _ (started c.before.before.before.before) c.put_epoch-second.ensures

filled : (c : tie.After-put_blocks-third) → let s = c.before.before.before.before.before.before.before.before.before.before.before in PutsOn s.args.out.now s.args.at (all s) c.put_blocks-third.new.out c.put_blocks-third.result (close_row s)
filled c =
    let s = c.before.before.before.before.before.before.before.before.before.before.before in
    leads_on _ _ (dated c.before.before.before.before) (rw (force_is s) at c.put_blocks-third.ensures)

put-start-requires : tie.Need-put_start-first-requires
put-start-requires c κs = let s = c.before.before in (s.requires.2, room_first ((begins s).room s.requires.0.room))

put-epoch-requires : tie.Need-put_epoch-second-requires
put-epoch-requires c κs = let s = c.before.before.before.before.before.before in room_front _ _ ((started c.before.before.before).room s.requires.0.room)

put-blocks-requires : tie.Need-put_blocks-third-requires
put-blocks-requires c κs =
    let s = c.before.before.before.before.before.before.before.before.before.before in
    rw (force_is s) (record { fine = s.requires.0.fine; room = room_front _ _ ((dated c.before.before.before).room s.requires.0.room) }, s.requires.1)

put-end-requires : tie.Need-put_end-requires
put-end-requires c κs =
    let s = c.before.before.before.before.before.before.before.before.before.before.before.before.before.before in
    (s.requires.2, (filled c.before.before.before).room s.requires.0.room)

same_length : tie.Need-shape_of-out
same_length c = search rules

returns : tie.Need-returns
returns c = (filled c.before.before.before.before.before.before).rest _ _ c.put_end.ensures

pub put_map_spec : {M : Type 1} → statement M
put_map_spec = tie.close (tie.spec put-start-requires put-epoch-requires put-blocks-requires put-end-requires same_length returns)
