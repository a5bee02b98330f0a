use mir.Syntax.{w32}
use mir.Val.{to_z, of_z}
use mathlib.Core.Path.{◌≡◌, sym, ap, ◌∙◌}
use native.Mathlib.Omega.{arith}
use Rattle.index.specs.Index.{entries}
use Rattle.index_fill.specs.Enter.{enters}
use Rattle.index_fill.proofs.ScanLaws.{kept_as}
use borrow.Author.Rules.{rules}
use Rattle.index_fill.proofs.enter.Statement.{statement}
use Rattle.index_fill.proofs.enter.Tie as tie

e_is : (c : tie.In-Block) → to_z w32 (of_z w32 c.in-Block.e) ≡ c.in-Block.e
e_is c = search rules

enum_told : tie.Need-enum_told-1
enum_told c = search rules

enum-told-2 : tie.Need-enum_told-in-Epoch
enum-told-2 c = search rules

enum-known-event : tie.Need-enum_known-event
enum-known-event c = search rules

put-mark-requires : tie.Need-put_mark-requires
put-mark-requires c κs = let b = c.before.before.before.before in let k = kept_as b.args.size.maps b.args.size.blocks _ _ _ c.in-Marked.is b.requires in omega (arith, k.0, k.1.marks)

enum-known-event-2 : tie.Need-enum_known-event-in-Block-1
enum-known-event-2 c = search rules

put-exponent-requires : tie.Need-put_exponent-requires
put-exponent-requires c κs = let b = c.before.before.before.before in let k = kept_as b.args.size.maps b.args.size.blocks _ _ _ c.in-Block.is b.requires in (k.0, k.1.exponents)

put-position-requires : tie.Need-put_position-requires
put-position-requires c κs = let b = c.before.before.before.before.before.before.before in let k = kept_as b.args.size.maps b.args.size.blocks _ _ _ c.in-Block.is b.requires in (k.0, k.1.positions)

returns : tie.Need-returns-in-Nothing
returns c = let b = c.before.before.before in ap (λ ev. enters b.args.size.maps b.args.size.blocks ev b.args.at (entries b.args.positions.now b.args.exponents.now b.args.marks.now)) (sym c.in-Nothing.is)

returns-2 : tie.Need-returns-in-Epoch
returns-2 c = let b = c.before.before.before in ap (λ ev. enters b.args.size.maps b.args.size.blocks ev b.args.at (entries b.args.positions.now b.args.exponents.now b.args.marks.now)) (sym c.in-Epoch.is)

same_length : tie.Need-shape_of-marks
same_length c = search rules

returns-3 : tie.Need-returns-in-Marked
returns-3 c = let b = c.before.before.before.before.before.before.before in ap (λ m. entries b.args.positions.now b.args.exponents.now m) c.put_mark.ensures ∙ ap (λ ev. enters b.args.size.maps b.args.size.blocks ev b.args.at (entries b.args.positions.now b.args.exponents.now b.args.marks.now)) (sym c.in-Marked.is)

same-length-2 : tie.Need-shape_of-positions
same-length-2 c = search rules

same-length-3 : tie.Need-shape_of-exponents
same-length-3 c = search rules

returns-4 : tie.Need-returns-in-Block
returns-4 c =
    let b = c.before.before.before.before.before.before.before.before.before.before in
    let e = rw (e_is c.before.before.before.before.before.before.before) at c.put_exponent.ensures in
    (λ i. entries (c.put_position.ensures i) (e i) b.args.marks.now) ∙ ap (λ ev. enters b.args.size.maps b.args.size.blocks ev b.args.at (entries b.args.positions.now b.args.exponents.now b.args.marks.now)) (sym c.in-Block.is)

pub enter_spec : {M : Type 1} → statement M
enter_spec = tie.close (tie.spec enum_told enum-told-2 enum-known-event put-mark-requires enum-known-event-2 put-exponent-requires put-position-requires returns returns-2 same_length returns-3 same-length-2 same-length-3 returns-4)
