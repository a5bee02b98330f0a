-- `sound::lengths_fit` meets its contract.
use mathlib.Core.Path.{◌≡◌, ap, ap₂, ◌∙◌}
use native.Mathlib.Decide.{dec_le}
use Prim.Native.Nat.{ℕ, ◌*◌}
use Rattle.kit.specs.Answer.{pick}
use Rattle.kit.proofs.TruthLaws.{both, le_tells}
use Rattle.mapset.specs.declared.Kind.TheVariants as K
use Rattle.mapset.specs.Areas.{blocks, values, value_need, nowhere?}
use Rattle.mapset.specs.Sound.{lengths?}
use Rattle.sound.proofs.lengths_fit.Goals as goal

pub returns : goal.returns
unfolding lengths?
returns c =
    let a = c.args in
    let h = a.header in
    let bs : h.times.maps * c.per_map.result ≡ blocks h = ap (λ (n : ℕ). h.times.maps * n) c.per_map.ensures in
    let vs : h.times.maps * c.per_map.result * c.nodes.result ≡ values h = ap₂ (λ (b k : ℕ). b * k) bs c.nodes.ensures in
    let rms = c.need-rms.ensures ∙ ap (λ (v : ℕ). pick (nowhere? K.Rms a.marks.now) 0 v) vs in
    let hgt = c.need-height.ensures ∙ ap (λ (v : ℕ). pick (nowhere? K.Height a.marks.now) 0 v) vs in
    rw (rms, hgt, vs, bs)
    (both (dec_le (values h) a.l.tec) _ (le_tells _ _)
    (both (dec_le (value_need K.Rms h a.marks.now) a.l.rms) _ (le_tells _ _)
    (both (dec_le (value_need K.Height h a.marks.now) a.l.height) (dec_le (3 * blocks h) a.l.exponents) (le_tells _ _) (le_tells _ _))))
