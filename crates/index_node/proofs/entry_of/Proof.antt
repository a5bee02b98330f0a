use mathlib.Core.Path.{◌≡◌, ap, ap₂, ◌∙◌}
use Prim.Native.Nat.{◌+◌, ◌-◌, ◌*◌, ◌≤◌}
use native.Mathlib.Omega.{arith}
use Rattle.mapset.specs.Areas.{blocks, first_of}
use Rattle.mapset.proofs.SoundLaws.{few_blocks}
use Rattle.mapset.proofs.FirstLaws.{first_in}
use Rattle.layout.specs.Layout.{per_map}
use Rattle.ask_nodes.specs.Value.{kind_of}
use borrow.Author.Rules.{rules}
use Rattle.index_node.proofs.entry_of.Statement.{statement}
use Rattle.index_node.proofs.entry_of.Tie as tie

few : (c : tie.After-struct_known-1) → blocks c.args.header ≤ 2000000
few c = let b = c.before.before in few_blocks b.args.header.times.maps b.args.header.grid b.requires.0

all_is : (c : tie.After-struct_known-1) → c.args.header.times.maps * c.per_map-size.result ≡ blocks c.args.header
all_is c = ap (λ n. c.args.header.times.maps * n) c.per_map-size.ensures

place_is : (c : tie.After-struct_known-1) → (c.args.map - 1) * c.per_map-size.result ≡ (c.args.map - 1) * per_map c.args.header
place_is c = ap (λ n. (c.args.map - 1) * n) c.per_map-size.ensures

per-map-requires : tie.Need-per_map-size-requires
per-map-requires c κs = search rules

cast-all : tie.Need-overflow_cast-all
cast-all c = search rules

mul-all : tie.Need-overflow_mul-all
mul-all c = omega (arith, few c, all_is c)

sub-place : tie.Need-overflow_sub-place
sub-place c = search rules

mul-place : tie.Need-overflow_mul-place
mul-place c = omega (arith, few c, place_is c, c.requires.1.1)

add-place : tie.Need-overflow_add-place
add-place c = omega (arith, few c, place_is c, c.requires.1.1)

kind-of-requires : tie.Need-kind_of-requires
kind-of-requires c κs = search rules

blocks-before-requires : tie.Need-blocks_before-requires
blocks-before-requires c κs = let s = c.before in omega (arith, few s, all_is s)

-- where the kind's entries begin
first_is : (c : tie.After-blocks_before) → let a = c.args in c.blocks_before.result ≡ first_of (kind_of a.kind) (blocks a.header)
first_is c = c.blocks_before.ensures ∙ (λ i. first_of (c.kind_of.ensures i) (all_is c.before.before i))

add-result : tie.Need-overflow_add-result
add-result c =
    let s = c.before.before in
    let b = s.before.before in
    omega (arith, few s, first_is c, first_in (kind_of b.args.kind) (blocks b.args.header) _ b.requires.1.1, place_is s)

returns : tie.Need-returns
returns c =
    let s = c.before.before in
    ap₂ ◌+◌ (first_is c) (ap (λ n. n + s.args.d) (place_is s))

pub entry_of_spec : {M : Type 1} → statement M
entry_of_spec = tie.close (tie.spec per-map-requires cast-all mul-all sub-place mul-place add-place kind-of-requires blocks-before-requires add-result returns)
