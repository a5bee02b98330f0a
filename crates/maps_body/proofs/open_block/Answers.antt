use mathlib.Core.Path.{sym}
use Rattle.layout.specs.Text.{pad}
use Rattle.maps_bounds.specs.Steps.{force_of}
use Rattle.maps_bounds.proofs.StepLaws.{stops, halts, same_move}
use Rattle.maps_body.proofs.InsideLaws.{block_none, block_bad, block_on}
use Rattle.maps_body.proofs.open_block.Goals as goal

pub returns-then-this-eq0 : goal.returns-then-this-eq0
returns-then-this-eq0 c =
    λ h es. let a = c.args in stops es (block_none a.header a.this (force_of a.past es) (pad a.line.now) c.if-this-eq0.true)

pub returns-in_err-opening_in : goal.returns-in_err-opening_in
returns-in_err-opening_in c =
    λ h es. let a = c.args in
    halts es _ c.from_residual.ensures (block_bad a.header a.this (force_of a.past es) (pad a.line.now) c.if-this-eq0.false (sym c.in_err-opening_in.ensures))

pub returns : goal.returns
returns c =
    λ h es. let a = c.args in
    same_move es (c.block_of.ensures h es) (block_on a.header a.this (force_of a.past es) (pad a.line.now) c.if-this-eq0.false _ (sym c.in_ok-opening_in.ensures))
