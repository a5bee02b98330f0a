-- `bias_scan::is_same` meets its contract.
use mathlib.Core.Bool.{not}
use mathlib.Core.Path.{◌≡◌, sym, ap, ◌∙◌}
use native.Mathlib.Omega.{arith}
use lib.ListN.{length}
use borrow.Author.Tests.{eqb-true, eqb-false, not-true, not-false}
use Rattle.kit.specs.Answer.{ok, refused}
use Rattle.kit.proofs.TruthLaws.{fails, tells}
use Rattle.layout.specs.Text.{pad}
use Rattle.biases.specs.Read.{station_of}
use Rattle.bias_scan.specs.Turns.{heard?}
use Rattle.bias_scan.proofs.LookLaws.{not_named, same_name}
use borrow.Author.Rules.{rules}
use Rattle.bias_scan.proofs.is_same.Goals as goal

pub has-requires : goal.has-requires
has-requires c =
    let n : length c.args.x.name ≡ 20 = search rules in
    omega (arith, n)

pub returns-then-not-has : goal.returns-then-not-has
returns-then-not-has c =
    let n : length c.args.x.name ≡ 20 = search rules in
    fails (heard? c.args.x (station_of (pad c.args.line.now))) (not_named c.args.line.now c.requires c.args.x n (sym c.has.ensures ∙ not-true _ (ap not c.if-not-has.true)))

pub returns-in-Err : goal.returns-in-Err
returns-in-Err c = rw (← c.in-Err.ensures) (fails (heard? c.args.x (refused _)) (λ h. h))

pub returns-in-Ok : goal.returns-in-Ok
returns-in-Ok c =
    let n : length c.args.x.name ≡ 20 = search rules in
    let m = same_name c.args.line.now c.requires c.args.x n (sym c.has.ensures ∙ not-false _ (ap not c.if-not-has.false)) c.in-Ok.y (sym c.in-Ok.ensures) in
    rw (← c.in-Ok.ensures) (tells _ (heard? c.args.x (ok c.in-Ok.y)) (λ q. (eqb-true _ _ q, m)) (λ q h. eqb-false _ _ q h.0))
