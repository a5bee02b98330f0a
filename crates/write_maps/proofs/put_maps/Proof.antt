-- `write_maps::put_maps` meets its contract.
use mathlib.Core.Path.{◌≡◌, refl, ◌∙◌}
use mathlib.Core.List.{List, [], ◌∷◌, ◌++◌}
use Prim.Native.Nat.{ℕ}
use lib.IntN.{ℤ, negsuc}
use mir.Syntax.{w32}
use mir.Val.{to_z, of_z}
use mir.Facts.{to_z-of_z}
use Rattle.mapset.specs.declared.Kind.TheVariants as K
use Rattle.mapset.specs.Areas.{Areas, six}
use Rattle.layout.specs.Labels.{file_end}
use Rattle.canonical.specs.Canon.{row_of}
use Rattle.write_line.specs.Put.{PutsOn}
use Rattle.write_line.proofs.PutLaws.{room_front, leads_self, leads_on}
use Rattle.write_maps.specs.KindRows.{area_rows, area_force, all_rows}
use Rattle.write_map.specs.Ready.{PutTo}
use Rattle.write_maps.proofs.PartLaws.{area_ready, area_put}
use Rattle.write_maps.proofs.put_maps.Statement.{statement}
use Rattle.write_maps.proofs.put_maps.Tie as tie

module _ (s : tie.Start) where
  abbrev a : Areas
  a = six s.args.tec.now s.args.rms.now s.args.height.now s.args.exponents.now s.args.epochs.now s.args.marks.now

  -- the exponents in force after TEC maps and after RMS maps
  abbrev k1 : ℤ
  k1 = area_force s.args.header a K.Tec (negsuc 0)

  abbrev k2 : ℤ
  k2 = area_force s.args.header a K.Rms k1

  abbrev last_row : List (List ℕ)
  last_row = row_of file_end tt ∷ []

  abbrev heights : List (List ℕ)
  heights = area_rows s.args.header a K.Height k2 ++ last_row

  abbrev others : List (List ℕ)
  others = area_rows s.args.header a K.Rms k1 ++ heights

put-kind-requires : tie.Need-put_kind-a-requires
put-kind-requires c κs =
    let s = c.before.before.before.before in
    area_ready s.args.header (a s) s.requires.long K.Tec (negsuc 0) (negsuc 0) refl s.requires.ready.fine s.requires.epochs (room_front (area_rows s.args.header (a s) K.Tec (negsuc 0)) (others s) s.requires.ready.room)

-- ---- after the TEC maps
module _ (c : tie.After-put_kind-a) where
  abbrev s1 : tie.Start
  s1 = c.before.before.before.before.before

  tec : PutTo s1.args.out.now s1.args.at (area_rows s1.args.header (a s1) K.Tec (negsuc 0)) (k1 s1) c.put_kind-a.new.out c.put_kind-a.result
  tec = area_put s1.args.header (a s1) s1.requires.long K.Tec (negsuc 0) (negsuc 0) refl c.put_kind-a.ensures

  lead1 : PutsOn s1.args.out.now s1.args.at (all_rows s1.args.header (a s1)) c.put_kind-a.new.out c.put_kind-a.result.at (others s1)
  lead1 = leads_on (area_rows s1.args.header (a s1) K.Tec (negsuc 0)) (others s1) leads_self tec.put

force1 : (c : tie.After-struct_told-1) → to_z w32 (of_z w32 c.put_kind-a.result.exponent) ≡ k1 (s1 c.before.before.before.before)
force1 c = to_z-of_z {w = w32} (record { sfits = c.struct_told-1.given.1.0.1 }) ∙ (tec c.before.before.before.before).force

put-kind-requires-2 : tie.Need-put_kind-b-requires
put-kind-requires-2 c κs =
    let d = c.before.before.before.before in
    let s = s1 d in
    area_ready s.args.header (a s) s.requires.long K.Rms (k1 s) _ (force1 c) s.requires.ready.fine s.requires.epochs (room_front (area_rows s.args.header (a s) K.Rms (k1 s)) (heights s) ((lead1 d).room s.requires.ready.room))

-- ---- after the RMS maps
module _ (c : tie.After-put_kind-b) where
  abbrev c1 : tie.After-put_kind-a
  c1 = c.before.before.before.before.before

  abbrev s2 : tie.Start
  s2 = s1 c1

  rms : PutTo c1.put_kind-a.new.out c1.put_kind-a.result.at (area_rows s2.args.header (a s2) K.Rms (k1 s2)) (k2 s2) c.put_kind-b.new.out c.put_kind-b.result
  rms = area_put s2.args.header (a s2) s2.requires.long K.Rms (k1 s2) _ (force1 c.before) c.put_kind-b.ensures

  lead2 : PutsOn s2.args.out.now s2.args.at (all_rows s2.args.header (a s2)) c.put_kind-b.new.out c.put_kind-b.result.at (heights s2)
  lead2 = leads_on (area_rows s2.args.header (a s2) K.Rms (k1 s2)) (heights s2) (lead1 c1) rms.put

force2 : (c : tie.After-struct_told-2-1) → to_z w32 (of_z w32 c.put_kind-b.result.exponent) ≡ k2 (s2 c.before.before.before.before)
force2 c = to_z-of_z {w = w32} (record { sfits = c.struct_told-2-1.given.1.0.1 }) ∙ (rms c.before.before.before.before).force

put-kind-requires-3 : tie.Need-put_kind-c-requires
put-kind-requires-3 c κs =
    let d = c.before.before.before.before in
    let s = s2 d in
    area_ready s.args.header (a s) s.requires.long K.Height (k2 s) _ (force2 c) s.requires.ready.fine s.requires.epochs (room_front (area_rows s.args.header (a s) K.Height (k2 s)) (last_row s) ((lead2 d).room s.requires.ready.room))

-- ---- after the height maps
module _ (c : tie.After-put_kind-c) where
  abbrev c2 : tie.After-put_kind-b
  c2 = c.before.before.before.before.before

  abbrev s3 : tie.Start
  s3 = s2 c2

  height : PutTo c2.put_kind-b.new.out c2.put_kind-b.result.at (area_rows s3.args.header (a s3) K.Height (k2 s3)) (area_force s3.args.header (a s3) K.Height (k2 s3)) c.put_kind-c.new.out c.put_kind-c.result
  height = area_put s3.args.header (a s3) s3.requires.long K.Height (k2 s3) _ (force2 c.before) c.put_kind-c.ensures

  lead3 : PutsOn s3.args.out.now s3.args.at (all_rows s3.args.header (a s3)) c.put_kind-c.new.out c.put_kind-c.result.at (last_row s3)
  lead3 = leads_on (area_rows s3.args.header (a s3) K.Height (k2 s3)) (last_row s3) (lead2 c2) height.put

put-file-end-requires : tie.Need-put_file_end-requires
put-file-end-requires c κs = let d = c.before.before.before in (lead3 d).room (s3 d).requires.ready.room

same_length : tie.Need-shape_of-out
same_length c = c.put_file_end.ensures.size ∙ (lead3 c.before.before.before.before.before.before).size

returns : tie.Need-returns
returns c = (lead3 c.before.before.before.before.before.before).rest _ _ c.put_file_end.ensures

pub put_maps_spec : {M : Type 1} → statement M
put_maps_spec = tie.close (tie.spec put-kind-requires put-kind-requires-2 put-kind-requires-3 put-file-end-requires same_length returns)
