use mathlib.Core.Path.{ap}
use Prim.Native.Nat.{◌*◌, ◌<◌}
use native.Mathlib.Omega.{arith}
use lib.ListN.{set}
use Rattle.mapset.proofs.FirstLaws.{first_in}
use borrow.Author.Rules.{rules}
use Rattle.index_fill.proofs.put_position.Statement.{statement}
use Rattle.index_fill.proofs.put_position.Tie as tie

low : (c : tie.After-entry_of-p) → c.entry_of-p.result < 3 * (c.args.size.maps * c.args.size.blocks)
low c = let b = c.before.before in omega (arith, c.entry_of-p.ensures, first_in b.args.kind (b.args.size.maps * b.args.size.blocks) _ b.requires.0)

entry-of-requires : tie.Need-entry_of-p-requires
entry-of-requires c κs = search rules

mul-positions : tie.Need-offset_bounds-positions-p
mul-positions c = omega (arith, low c)

slice-write-positions : tie.Need-bounds-positions-p
slice-write-positions c = omega (arith, low c, c.requires.1)

same_length : tie.Need-shape_of-positions
same_length c = search rules

returns : tie.Need-returns
returns c = let b = c.before.before in ap (λ j. set b.args.positions.now j b.args.at) c.entry_of-p.ensures

pub put_position_spec : {M : Type 1} → statement M
put_position_spec = tie.close (tie.spec entry-of-requires mul-positions slice-write-positions same_length returns)
