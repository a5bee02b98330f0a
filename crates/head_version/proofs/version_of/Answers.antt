use mathlib.Core.Path.{◌≡◌, refl, sym, ◌∙◌}
use mir.Syntax.{w32}
use mir.Val.{to_z, of_z}
use borrow.Author.Rules.{rules}
use Rattle.std.proofs.lemmas.Result.{err_from_is_err_and}
use Rattle.kit.specs.Answer.{bind}
use Rattle.head_version.proofs.VersionLaws.{not_version, is_version}
use Rattle.head_version.proofs.version_of.Goals as goal

pub returns-then-label_of-ne-VERSION : goal.returns-then-label_of-ne-VERSION
returns-then-label_of-ne-VERSION c = sym (not_version c.args.line.now c.requires (λ e. c.if-label_of-ne-VERSION.true (c.label_of.ensures ∙ e)))

pub returns-in_err-version : goal.returns-in_err-version
unfolding bind
returns-in_err-version c =
    let p = err_from_is_err_and c.from_residual.result c.from_residual.ensures.1 in
    rw (p.1, p.2, is_version c.args.line.now c.requires (sym c.label_of.ensures ∙ c.if-label_of-ne-VERSION.false), sym c.version_record.ensures, c.in_err-version.was) refl

pub returns : goal.returns
unfolding bind
returns c =
    let v : to_z w32 (of_z w32 c.in_ok-version.version) ≡ c.in_ok-version.version = search rules in
    rw (is_version c.args.line.now c.requires (sym c.label_of.ensures ∙ c.if-label_of-ne-VERSION.false), sym c.version_record.ensures, c.in_ok-version.was) (rw v at c.judged.ensures)
