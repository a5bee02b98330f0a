-- `bias_fill::put_satellite` meets its contract.
use mathlib.Core.Path.{◌≡◌, refl, ◌∙◌}
use mathlib.Core.List.{[], ◌∷◌}
use native.Mathlib.Omega.{arith}
use lib.IntN.{pos}
use mir.Syntax.{w32}
use mir.Val.{to_z, of_z}
use mir.Facts.{to_z_pos}
use borrow.Author.Rules.{rules}
use Rattle.bias_fill.proofs.FilledLaws.{mid_sets}
use Rattle.bias_fill.proofs.put_satellite.Goals as goal

pub returns : goal.returns
returns c =
    let a = c.args in
    let p : to_z w32 a.s.system ≡ pos a.s.system = to_z_pos w32 (omega arith) in
    let q : to_z w32 a.s.number ≡ pos a.s.number = to_z_pos w32 (omega arith) in
    let b : to_z w32 (of_z w32 a.s.bias) ≡ a.s.bias = search rules in
    let r : to_z w32 (of_z w32 a.s.rms) ≡ a.s.rms = search rules in
    mid_sets a.out.now (pos a.s.system ∷ pos a.s.number ∷ a.s.bias ∷ a.s.rms ∷ []) c.copy_from_slice.new.self a.at 4 refl c.requires.1
    (c.copy_from_slice.ensures.after ∙ (λ i. p i ∷ q i ∷ b i ∷ r i ∷ []))
