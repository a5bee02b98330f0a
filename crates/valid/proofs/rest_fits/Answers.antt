-- `valid::rest_fits` meets its contract.
use mathlib.Core.Path.{◌≡◌, ap}
use mathlib.Core.List.{[]}
use Prim.Native.Nat.{ℕ, ◌*◌}
use Rattle.kit.specs.Answer.{×_dec, all_dec}
use Rattle.kit.proofs.TruthLaws.{both}
use Rattle.mapset.specs.declared.Kind.TheVariants as K
use Rattle.mapset.specs.Areas.{blocks, six}
use Rattle.layout.specs.Layout.{exponent?}
use Rattle.areas.specs.Valid.{needed}
use Rattle.valid.specs.Groups.{of_kind?, rest?}
use Rattle.valid.proofs.Whole.{kind_told, kind_holds, exponents_told}
use Rattle.valid.proofs.rest_fits.Goals as goal

pub kind_fits-requires : goal.kind_fits-requires
kind_fits-requires c = let s = c.args in kind_holds s.header (six s.tec.now s.rms.now s.height.now s.exponents.now [] s.marks.now) c.requires K.Tec _ _ c.per_map-blocks.ensures c.nodes-columns.ensures

pub returns : goal.returns
unfolding rest? exponent?
returns c =
    let s = c.args in
    let h = s.header in
    let a = six s.tec.now s.rms.now s.height.now s.exponents.now [] s.marks.now in
    let t = of_kind? h a K.Tec in
    let r = of_kind? h a K.Rms in
    let u = of_kind? h a K.Height in
    let e = all_dec exponent? (needed h a).exponents in
    let all : h.times.maps * c.per_map-blocks.result ≡ blocks h = ap (λ (b : ℕ). h.times.maps * b) c.per_map-blocks.ensures in
    both e (×_dec t (×_dec r u)) (exponents_told h a c.requires (rw all at c.all_between.ensures))
    (both t (×_dec r u) (kind_told h a c.requires K.Tec _ _ c.per_map-blocks.ensures c.nodes-columns.ensures c.kind_fits.ensures)
    (both r u (kind_told h a c.requires K.Rms _ _ c.per_map-blocks.ensures c.nodes-columns.ensures c.kind_fits-2.ensures)
    (kind_told h a c.requires K.Height _ _ c.per_map-blocks.ensures c.nodes-columns.ensures c.kind_fits-3.ensures)))
