use mathlib.Core.Path.{◌≡◌, ◌∙◌}
use mir.Syntax.{w32}
use mir.Val.{to_z, of_z}
use Rattle.read_events.proofs.FieldLaws.{whole_is}
use borrow.Author.Rules.{rules}
use Rattle.read_events.proofs.whole_in.Goals as goal

pub returns : goal.returns
returns c =
    let z : to_z w32 (of_z w32 c.unwrap_or.result) ≡ c.unwrap_or.result = search rules in
    z ∙ c.unwrap_or.ensures ∙ whole_is _ _ c.one_number.ensures
