-- `valid::kind_fits` meets its contract.
use mathlib.Core.Path.{◌≡◌}
use mathlib.Core.List.{List}
use native.Mathlib.Omega.{arith}
use Prim.Native.Nat.{ℕ, ◌+◌, ◌*◌, ◌-◌}
use lib.IntN.{ℤ, pos, negsuc}
use lib.ListN.{length, take}
use Rattle.kit.specs.Answer.{×_dec, all_dec}
use Rattle.kit.specs.Truth.{truth}
use Rattle.kit.proofs.TruthLaws.{both}
use Rattle.areas.specs.ValidDecided.{value?, blank?}
use Rattle.valid.specs.Groups.{kind?, kind_need, kind_exponents}
use Rattle.valid.proofs.kind_fits.Goals as goal

pub returns : goal.returns
unfolding kind? value?
returns c =
    let a = c.args in
    let ms : List ℕ = a.marks.now in
    let vs : List ℤ = take (kind_need a.kind a.blocks a.columns ms) a.values.now in
    let es : List ℤ = kind_exponents a.kind a.blocks ms a.exponents.now in
    let b1 = blank? a.kind (a.blocks * a.columns) (pos 9999) ms vs in
    let b2 = blank? a.kind a.blocks (negsuc 0) ms es in
    let e : c.blocks_before-first.result + length ms * a.blocks - c.blocks_before-first.result ≡ length ms * a.blocks = omega arith in
    let r2 : c.blank-2.result ≡ truth b2 = rw (e, c.blocks_before-first.ensures) at c.blank-2.ensures in
    let r1 : c.blank.result ≡ truth b1 = rw c.need-needed.ensures at c.blank.ensures in
    let r0 : c.all_between.result ≡ truth (all_dec value? vs) = rw c.need-needed.ensures at c.all_between.ensures in
    both (all_dec value? vs) (×_dec b1 b2) r0 (both b1 b2 r1 r2)
