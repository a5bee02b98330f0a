-- `mapset::nowhere` meets its contract.
use borrow.Author.Rules.{rules}
use borrow.Author.Tests.{tests}
use mathlib.Core.Bool.{not}
use mathlib.Core.Path.{◌∙◌}
use Prim.Native.Nat.{ℕ}
use Rattle.std.proofs.lemmas.Iterator.{YieldsList-from_slice}
use Rattle.std.proofs.lemmas.Iterator.Search.{all_from_yields_List}
use Rattle.kit.specs.Answer.{¬_dec}
use Rattle.kit.specs.Truth.{truth}
use Rattle.mapset.specs.Areas.{present?, nowhere?}
use Rattle.mapset.proofs.SoundLaws.{not_tells, all_tests}
use Rattle.mapset.proofs.nowhere.Goals as goal

pub returns : goal.returns
unfolding nowhere?
returns c =
    let k = c.args.kind in
    all_from_yields_List (λ (m : ℕ). not (truth (present? k m))) _ _ _ c.all.ensures.ran (YieldsList-from_slice c.args.marks.now cc) (λ x b q u. search (rules, tests))
    ∙ all_tests (λ m. ¬_dec (present? k m)) (λ m. not (truth (present? k m))) (λ m. not_tells (present? k m)) c.args.marks.now
