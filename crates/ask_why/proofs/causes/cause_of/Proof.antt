-- `ask_why::causes::cause_of` meets its contract.
use mathlib.Core.Bool.{not}
use borrow.Author.Rules.{rules}
use borrow.Author.Tests.{not-true, not-false}
use mathlib.Core.Path.{◌≡◌, sym, ap, ◌∙◌}
use lib.IntN.{ℤ, pos, negsuc}
use mir.Syntax.{w32}
use mir.Val.{to_z, of_z}
use mir.Facts.{to_z-of_z}
use Rattle.kit.specs.Integer.{Between, between?}
use Rattle.kit.specs.Truth.{truth}
use Rattle.kit.proofs.TruthLaws.{truth_true, truth_false}
use Rattle.ask_why.proofs.NodeList.{exponent_cause, number_cause, last_cause}
use Rattle.ask_why.proofs.causes.cause_of.Statement.{statement}
use Rattle.ask_why.proofs.causes.cause_of.Tie as tie

between-requires : tie.Need-between-requires
between-requires c κs = search rules

-- the exponent is looked at first
first_test : (c : tie.After-between) → c.between.result ≡ truth (between? (negsuc 2) (pos 0) c.args.k)
first_test c =
    let e : c.between.result ≡ truth (between? (negsuc 2) (pos 0) (to_z w32 (of_z w32 c.args.k))) = c.between.ensures in
    e ∙ ap (λ (z : ℤ). truth (between? (negsuc 2) (pos 0) z)) (to_z-of_z c.ranges.k)

returns : tie.Need-returns-then-not-between
returns c = let s = c.before.before in exponent_cause s.args.v s.args.k (truth_false _ (sym (first_test c.before) ∙ not-true _ (ap not c.if-not-between.true)))

in_exponents : (c : tie.Else-not-between) → Between (negsuc 2) (pos 0) c.args.k
in_exponents c = truth_true _ (sym (first_test c.before) ∙ not-false _ (ap not c.if-not-between.false))

between-requires-2 : tie.Need-between-requires-2
between-requires-2 c κs = search rules

-- then the number
next_test : (c : tie.After-between-2) → c.between-2.result ≡ truth (between? (negsuc 9998) (pos 99999) c.args.v)
next_test c = c.between-2.ensures ∙ ap (λ (z : ℤ). truth (between? (negsuc 9998) (pos 99999) z)) (to_z-of_z c.ranges.v)

returns-2 : tie.Need-returns-then-not-between-2
returns-2 c =
    let s = c.before.before.before.before in
    number_cause s.args.v s.args.k (in_exponents c.before.before) (truth_false _ (sym (next_test c.before) ∙ not-true _ (ap not c.if-not-between-2.true)))

returns-3 : tie.Need-returns
returns-3 c =
    let s = c.before.before.before.before in
    last_cause s.args.v s.args.k (in_exponents c.before.before) (truth_true _ (sym (next_test c.before) ∙ not-false _ (ap not c.if-not-between-2.false)))

pub cause_of_spec : {M : Type 1} → statement M
cause_of_spec = tie.close (tie.spec between-requires returns between-requires-2 returns-2 returns-3)
