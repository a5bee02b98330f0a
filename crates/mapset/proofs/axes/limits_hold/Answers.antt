use native.Mathlib.Omega.{arith}
use native.Mathlib.Nat.{mul-le-mul}
use Prim.Native.Nat.{◌≤◌}
use borrow.Author.Tests.{lt-leb}
use mathlib.Core.Path.{◌∙◌}
use mathlib.Core.Logic.{inl, inr, ⊎_elim}
use Rattle.mapset.proofs.JudgedLaws.{too_large, within_limits}
use Rattle.mapset.proofs.axes.limits_hold.Goals as goal
use Rattle.mapset.proofs.axes.limits_hold.Goals.{then-columns-le721, else-columns-le721, then-rows-le361, else-rows-le361}

module _ (c : goal.Then-layers-le64) where
  layer_bound : c.nodes-layers.result ≤ 64
  layer_bound = omega arith

  row_bound : c.nodes-rows.result ≤ 361
  row_bound = omega arith

  column_bound : c.nodes-columns.result ≤ 721
  column_bound = omega arith

  maps_bound : c.args.maps ≤ 4294967295
  maps_bound = omega arith

pub overflow_mul-result-then-layers-le64-2 : goal.overflow_mul-result-then-layers-le64-2
overflow_mul-result-then-layers-le64-2 c = omega (arith, mul-le-mul (mul-le-mul (mul-le-mul (maps_bound c) (layer_bound c)) (row_bound c)) (column_bound c))

pub returns-then-layers-le64 : goal.returns-then-layers-le64
returns-then-layers-le64 c =
    let l = c.nodes-layers.ensures in
    let r = c.nodes-rows.ensures in
    let k = c.nodes-columns.ensures in
    rw (l, r, k) (within_limits _ c.args.grid (rw r at (row_bound c)) (rw k at (column_bound c)) (rw l at (layer_bound c)))

pub returns-else-layers-le64 : goal.returns-else-layers-le64
returns-else-layers-le64 c =
    let l = c.nodes-layers.ensures in
    let r = c.nodes-rows.ensures in
    let k = c.nodes-columns.ensures in
    let no = too_large c.args.maps c.args.grid in
    elim c.if-columns-le721.branch [
      | then-columns-le721 w ↦ w.t-10-is ∙ ⊎_elim (λ h. lt-leb _ 64 h.2 ∙ no (inr (inr (rw l at h.2)))) (⊎_elim (λ h. absurd (omega (arith, h.1, w.if-columns-le721.true.1))) (λ h. absurd (omega (arith, h, w.if-columns-le721.true.0)))) c.if-layers-le64.either
      | else-columns-le721 w ↦ w.t-10-is ∙ elim c.if-rows-le361.branch [
        | then-rows-le361 v ↦ v.t-11-is ∙ ⊎_elim (λ h. lt-leb _ 721 h.1 ∙ no (inr (inl (rw k at h.1)))) (λ h. absurd (omega (arith, h, v.if-rows-le361.true))) w.if-columns-le721.either
        | else-rows-le361 v ↦ v.t-11-is ∙ lt-leb _ 361 v.if-rows-le361.false ∙ no (inl (rw r at v.if-rows-le361.false))
      ]
    ]
