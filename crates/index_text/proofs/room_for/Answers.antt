use mathlib.Core.Path.{◌∙◌}
use Rattle.std.proofs.lemmas.Result.{err_from_is_err_and}
use Rattle.read_needs.proofs.ShortLaws.{short_here, enough_here}
use Rattle.index_text.proofs.room_for.Goals as goal

pub returns-in_err-fits : goal.returns-in_err-fits
returns-in_err-fits c =
    let p = err_from_is_err_and c.from_residual.result c.from_residual.ensures.1 in
    rw (p.1, p.2) (short_here _ _ _ 1 c.in_err-fits.ensures)

pub returns-in_err-fits-2 : goal.returns-in_err-fits-2
returns-in_err-fits-2 c =
    let p = err_from_is_err_and c.from_residual-in_err-fits-2.result c.from_residual-in_err-fits-2.ensures.1 in
    rw (p.1, p.2) (short_here _ _ _ 2 c.in_err-fits-2.ensures ∙ enough_here _ _ _ 1 c.in_ok-fits.ensures)

pub returns : goal.returns
returns c = c.fits-3.ensures ∙ enough_here _ _ _ 2 c.in_ok-fits-2.ensures ∙ enough_here _ _ _ 1 c.in_ok-fits.ensures
