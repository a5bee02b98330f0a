use mathlib.Core.Path.{◌≡◌, refl, ap}
use Prim.Native.Nat.{◌+◌, ◌*◌, ◌≤◌}
use native.Mathlib.Omega.{arith}
use lib.ListN.{length}
use mir.Syntax.{w32}
use mir.Val.{to_z, of_z}
use Rattle.mapset.specs.Areas.{six}
use Rattle.read_fill.proofs.EventLaws.{at_event, of_kind, below_all, values_due, goes_on, goes_past, stores_nothing, stores_epoch, stores_mark, stores_tec, stores_rms, stores_height}
use borrow.Author.Rules.{rules}
use Rattle.read_fill.proofs.store.Statement.{statement}
use Rattle.read_fill.proofs.store.Tie as tie

-- a block's values go into the area of its own kind
put-block-requires-2 : tie.Need-put_block-requires-in-Rms
put-block-requires-2 c κs =
    let b = c.before.before.before.before.before.before.before.before.before.before.before in
    let a = b.args in
    let h = (at_event _ _ _ _ _ c.in-Block.is b.requires.0).0 in
    let g = of_kind (six a.tec.now a.rms.now a.height.now a.exponents.now a.epochs.now a.marks.now) c.in-Rms.is h.2 in
    let own_area : c.block_place.result * a.size.columns + a.size.columns ≤ length a.rms.now = omega (arith, g, ap (λ y. y * a.size.columns) c.block_place.ensures) in
    (b.requires.1.0, (own_area, values_due a.size.columns _ c.in-Block.is b.requires.1.1))

put-block-requires-3 : tie.Need-put_block-requires-in-Height
put-block-requires-3 c κs =
    let b = c.before.before.before.before.before.before.before.before.before.before.before in
    let a = b.args in
    let h = (at_event _ _ _ _ _ c.in-Block.is b.requires.0).0 in
    let g = of_kind (six a.tec.now a.rms.now a.height.now a.exponents.now a.epochs.now a.marks.now) c.in-Height.is h.2 in
    let own_area : c.block_place.result * a.size.columns + a.size.columns ≤ length a.height.now = omega (arith, g, ap (λ y. y * a.size.columns) c.block_place.ensures) in
    (b.requires.1.0, (own_area, values_due a.size.columns _ c.in-Block.is b.requires.1.1))

exponent_of : (c : tie.In-Block) → to_z w32 (of_z w32 c.in-Block.e) ≡ c.in-Block.e
exponent_of c = search rules

returns-5 : tie.Need-returns-in-Rms
returns-5 c =
    let b = c.before.before.before.before.before.before.before.before.before.before.before.before.before in
    let a = b.args in
    let e = exponent_of c.before.before.before.before.before.before.before.before.before in
    let u = c.put_block-in-Rms.ensures in
    (stores_rms a.size.maps a.size.blocks a.size.columns _ a.tec.now a.rms.now a.height.now a.exponents.now a.epochs.now a.marks.now c.in-Block.is e c.put_exponent.ensures c.block_place.ensures c.in-Rms.is u.1, goes_past _ _ _ c.in-Block.is u.0)

returns-6 : tie.Need-returns-in-Height
returns-6 c =
    let b = c.before.before.before.before.before.before.before.before.before.before.before.before.before in
    let a = b.args in
    let e = exponent_of c.before.before.before.before.before.before.before.before.before in
    let u = c.put_block-in-Height.ensures in
    (stores_height a.size.maps a.size.blocks a.size.columns _ a.tec.now a.rms.now a.height.now a.exponents.now a.epochs.now a.marks.now c.in-Block.is e c.put_exponent.ensures c.block_place.ensures c.in-Height.is u.1, goes_past _ _ _ c.in-Block.is u.0)

enum_told : tie.Need-enum_told-1
enum_told c = search rules

enum-known-event : tie.Need-enum_known-event
enum-known-event c = search rules

put-epoch-requires : tie.Need-put_epoch-requires
put-epoch-requires c κs = let b = c.before.before.before.before.before in omega (arith, (at_event _ _ _ _ _ c.in-Epoch.is b.requires.0).0, b.requires.1.3)

enum-known-event-2 : tie.Need-enum_known-event-in-Marked-1
enum-known-event-2 c = search rules

put-mark-requires : tie.Need-put_mark-requires
put-mark-requires c κs = let b = c.before.before.before.before.before in omega (arith, (at_event _ _ _ _ _ c.in-Marked.is b.requires.0).0, b.requires.1.4)

enum-known-event-3 : tie.Need-enum_known-event-in-Block-1
enum-known-event-3 c = search rules

put-exponent-requires : tie.Need-put_exponent-requires
put-exponent-requires c κs = let b = c.before.before.before.before.before in ((at_event _ _ _ _ _ c.in-Block.is b.requires.0).0.0, b.requires.1.2)

block-place-requires : tie.Need-block_place-requires
block-place-requires c κs = let b = c.before.before.before.before.before.before.before in omega (arith, (at_event _ _ _ _ _ c.in-Block.is b.requires.0).0.0, b.requires.1.2)

mul-from : tie.Need-overflow_mul-from
mul-from c =
    let b = c.before.before.before.before.before.before.before.before.before in
    let a = b.args in
    let h = (at_event _ _ _ _ _ c.in-Block.is b.requires.0).0 in
    rw c.block_place.ensures (omega (arith, h.2, below_all (six a.tec.now a.rms.now a.height.now a.exponents.now a.epochs.now a.marks.now) 9223372036854775808 c.in-Block.kind (search rules) (search rules) (search rules)))

enum-told-2 : tie.Need-enum_told-in-Tec
enum-told-2 c = search rules

put-block-requires : tie.Need-put_block-requires
put-block-requires c κs =
    let b = c.before.before.before.before.before.before.before.before.before.before.before in
    let a = b.args in
    let h = (at_event _ _ _ _ _ c.in-Block.is b.requires.0).0 in
    let g = of_kind (six a.tec.now a.rms.now a.height.now a.exponents.now a.epochs.now a.marks.now) c.in-Tec.is h.2 in
    (b.requires.1.0, (omega (arith, g, ap (λ y. y * a.size.columns) c.block_place.ensures), values_due a.size.columns _ c.in-Block.is b.requires.1.1))

enum-told-3 : tie.Need-enum_told-in-Rms
enum-told-3 c = search rules

enum-told-4 : tie.Need-enum_told-in-Height
enum-told-4 c = search rules

returns : tie.Need-returns-in-Nothing
returns c =
    let b = c.before.before.before.before in
    let a = b.args in
    (stores_nothing a.size.maps a.size.blocks a.size.columns _ a.tec.now a.rms.now a.height.now a.exponents.now a.epochs.now a.marks.now c.in-Nothing.is, goes_on _ _ _ c.in-Nothing.is refl b.requires.1.0)

same_length : tie.Need-shape_of-epochs
same_length c = search rules

returns-2 : tie.Need-returns-in-Epoch
returns-2 c =
    let b = c.before.before.before.before.before.before.before.before in
    let a = b.args in
    (stores_epoch a.size.maps a.size.blocks a.size.columns _ a.tec.now a.rms.now a.height.now a.exponents.now a.epochs.now a.marks.now c.in-Epoch.is c.put_epoch.ensures, goes_on _ _ _ c.in-Epoch.is refl b.requires.1.0)

same-length-2 : tie.Need-shape_of-marks
same-length-2 c = search rules

returns-3 : tie.Need-returns-in-Marked
returns-3 c =
    let b = c.before.before.before.before.before.before.before.before in
    let a = b.args in
    (stores_mark a.size.maps a.size.blocks a.size.columns _ a.tec.now a.rms.now a.height.now a.exponents.now a.epochs.now a.marks.now c.in-Marked.is c.put_mark.ensures, goes_on _ _ _ c.in-Marked.is refl b.requires.1.0)

same-length-3 : tie.Need-shape_of-tec
same-length-3 c = search rules

same-length-4 : tie.Need-shape_of-exponents-in-Tec
same-length-4 c = search rules

returns-4 : tie.Need-returns-in-Tec
returns-4 c =
    let b = c.before.before.before.before.before.before.before.before.before.before.before.before.before in
    let a = b.args in
    let e = exponent_of c.before.before.before.before.before.before.before.before.before in
    let u = c.put_block.ensures in
    (stores_tec a.size.maps a.size.blocks a.size.columns _ a.tec.now a.rms.now a.height.now a.exponents.now a.epochs.now a.marks.now c.in-Block.is e c.put_exponent.ensures c.block_place.ensures c.in-Tec.is u.1, goes_past _ _ _ c.in-Block.is u.0)

same-length-5 : tie.Need-shape_of-rms
same-length-5 c = search rules

same-length-6 : tie.Need-shape_of-exponents-in-Rms
same-length-6 c = search rules

same-length-7 : tie.Need-shape_of-height
same-length-7 c = search rules

same-length-8 : tie.Need-shape_of-exponents-in-Height
same-length-8 c = search rules

pub store_spec : {M : Type 1} → statement M
store_spec = tie.close (tie.spec enum_told enum-known-event put-epoch-requires enum-known-event-2 put-mark-requires enum-known-event-3 put-exponent-requires block-place-requires mul-from enum-told-2 put-block-requires enum-told-3 put-block-requires-2 enum-told-4 put-block-requires-3 returns same_length returns-2 same-length-2 returns-3 same-length-3 same-length-4 returns-4 same-length-5 same-length-6 returns-5 same-length-7 same-length-8 returns-6)
