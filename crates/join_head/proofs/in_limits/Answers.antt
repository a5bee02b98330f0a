-- `join_head::in_limits` meets its contract.
use mathlib.Core.Path.{◌≡◌, refl, ◌∙◌}
use Prim.Native.Nat.{◌+◌, ◌-◌}
use native.Mathlib.Decide.{dec_le}
use Rattle.kit.specs.Truth.{truth}
use Rattle.kit.proofs.TruthLaws.{both, le_tells}
use Rattle.mapset.specs.Decisions.{limits?}
use Rattle.join.specs.Join.{in_limits?}
use Rattle.join_head.proofs.Told.{limits_told}
use Rattle.join_head.proofs.in_limits.Goals as goal

pub returns : goal.returns
returns c =
    let s = c.before.before in
    let n = c.count-n.result in
    let g = s.args.late.grid in
    let e : truth (in_limits? n g) ≡ truth (in_limits? (s.args.early.maps - 1 + s.args.late.times.maps) g) = rw c.count-n.ensures refl in
    both (dec_le n 300) (limits? n g) (le_tells n 300) c.limits_hold.ensures ∙ limits_told s.args.late.times.maps n g s.requires.3 ∙ e
