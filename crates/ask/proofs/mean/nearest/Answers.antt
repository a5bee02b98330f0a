-- `ask::mean::nearest` meets its contract.
use borrow.Author.Rules.{rules}
use mathlib.Core.Path.{◌≡◌, ap, ◌∙◌}
use native.Mathlib.Omega.{arith}
use lib.IntN.{ℤ}
use mir.Syntax.{w32, w64}
use mir.Val.{to_z, of_z, SFits}
use mir.Facts.{to_z-of_z}
use Rattle.kit.proofs.Parts.{size_fits}
use Rattle.ask_round.specs.Rounded.{rounded}
use Rattle.ask_round.proofs.RoundLaws.{round_size}
use Rattle.ask.proofs.mean.nearest.Goals as goal
use Rattle.ask.proofs.mean.nearest.Goals.{After-round_half_away}

module _ (c : After-round_half_away) where
  abbrev mean : ℤ
  mean = rounded c.args.t.sum c.args.t.weights

  there : to_z w64 (of_z w64 c.round_half_away.result) ≡ mean
  there =
      let f : to_z w64 (of_z w64 c.args.t.sum) ≡ c.args.t.sum = search rules in
      (search rules) ∙ c.round_half_away.ensures ∙ ap (λ (z : ℤ). rounded z c.args.t.weights) f

  small : SFits w32 mean
  small = size_fits w32 _ (omega (arith, round_size c.args.t.sum c.args.t.weights 99_999_000 c.requires.1 c.requires.0.0))

pub overflow_cast-result : goal.overflow_cast-result
overflow_cast-result c = rw (there c) (small c)

pub returns : goal.returns
returns c = rw (there c) (to_z-of_z (small c))
