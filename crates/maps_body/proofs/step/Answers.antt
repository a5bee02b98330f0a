use mathlib.Core.Path.{sym, ap, ◌∙◌}
use Rattle.std.specs.Prelude.{Ok}
use Rattle.layout.specs.Text.{pad}
use Rattle.maps_bounds.specs.Steps.{force_of}
use Rattle.maps_bounds.proofs.StepLaws.{halts, same_move}
use Rattle.maps_body.proofs.RoleLaws.{step_is}
use Rattle.maps_body.proofs.step.Goals as goal

pub returns-in_err-role_of : goal.returns-in_err-role_of
returns-in_err-role_of c =
    let a = c.args in
    halts a.epochs.now _ c.from_residual.ensures (step_is a.header a.place (force_of a.past a.epochs.now) (pad a.line.now) _ (sym c.in_err-role_of.ensures))

pub returns-in-Comment : goal.returns-in-Comment
returns-in-Comment c =
    let a = c.args in
    let es = a.epochs.now in
    same_move es (c.on_comment.ensures a.header es) (step_is a.header a.place (force_of a.past es) (pad a.line.now) _ (sym c.in_ok-role_of.ensures ∙ ap Ok c.in-Comment.is))

pub returns-in-Exponent : goal.returns-in-Exponent
returns-in-Exponent c =
    let a = c.args in
    let es = a.epochs.now in
    same_move es (c.on_exponent.ensures a.header es) (step_is a.header a.place (force_of a.past es) (pad a.line.now) _ (sym c.in_ok-role_of.ensures ∙ ap Ok c.in-Exponent.is))

pub returns-in-Start : goal.returns-in-Start
returns-in-Start c =
    let a = c.args in
    let es = a.epochs.now in
    same_move es c.on_start.ensures (step_is a.header a.place (force_of a.past es) (pad a.line.now) _ (sym c.in_ok-role_of.ensures ∙ ap Ok c.in-Start.is))

pub returns-in-End : goal.returns-in-End
returns-in-End c =
    let a = c.args in
    let es = a.epochs.now in
    same_move es (c.on_end.ensures a.header es) (step_is a.header a.place (force_of a.past es) (pad a.line.now) _ (sym c.in_ok-role_of.ensures ∙ ap Ok c.in-End.is))

pub returns-in-Epoch : goal.returns-in-Epoch
returns-in-Epoch c =
    let a = c.args in
    let es = a.epochs.now in
    same_move es c.on_epoch.ensures (step_is a.header a.place (force_of a.past es) (pad a.line.now) _ (sym c.in_ok-role_of.ensures ∙ ap Ok c.in-Epoch.is))

pub returns-in-Block : goal.returns-in-Block
returns-in-Block c =
    let a = c.args in
    let es = a.epochs.now in
    same_move es (c.on_block.ensures a.header es) (step_is a.header a.place (force_of a.past es) (pad a.line.now) _ (sym c.in_ok-role_of.ensures ∙ ap Ok c.in-Block.is))

pub returns-in-File : goal.returns-in-File
returns-in-File c =
    let a = c.args in
    let es = a.epochs.now in
    same_move es c.on_file.ensures (step_is a.header a.place (force_of a.past es) (pad a.line.now) _ (sym c.in_ok-role_of.ensures ∙ ap Ok c.in-File.is))
