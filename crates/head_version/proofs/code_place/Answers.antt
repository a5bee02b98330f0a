use mathlib.Core.Path.{◌≡◌, sym, ◌∙◌}
use mathlib.Core.Bool.{true≢false}
use mathlib.Core.List.{[]}
use Prim.Native.Nat.{ℕ, ◌≤◌}
use native.Mathlib.Omega.{arith}
use borrow.Author.Count.{below_more}
use lib.ListN.{length, get_or}
use lib.Pointwise.{bytes_decides}
use Rattle.forms.specs.Columns.{columns}
use Rattle.layout.specs.Labels.{codes}
use Rattle.head_version.proofs.VersionLaws.{place_here, place_nowhere}
use Rattle.head_version.proofs.code_place.Goals as goal

pub returns-then-eq-clause-place : goal.returns-then-eq-clause-place
returns-then-eq-clause-place c =
    let u : c.text-code.result ≡ columns c.args.line.now 40 3 = c.text-code.ensures in
    let e : get_or codes c.loop-k.k [] ≡ c.text-code.result = (bytes_decides _ _).0 (sym c.if-eq.ensures) in
    sym (place_here _ codes c.loop-k.k c.loop-k-test.true (e ∙ u) (λ j l q. c.loop-k.invariant j l (q ∙ sym u)))

pub loop-k-preserved : goal.loop-k-preserved
loop-k-preserved c =
    let P : ℕ → Type 0 = λ j. ¬ (get_or codes j [] ≡ c.text-code.result) in
    below_more P c.loop-k.k c.loop-k.invariant (λ q. true≢false (sym (c.if-eq.ensures ∙ (bytes_decides _ _).1 q)))

pub returns-clause-place : goal.returns-clause-place
returns-clause-place c =
    let u : c.text-code.result ≡ columns c.args.line.now 40 3 = c.text-code.ensures in
    let n : length codes ≤ c.loop-k.k = c.loop-k-test.false in
    sym (place_nowhere _ codes (λ j l q. c.loop-k.invariant j (omega arith) (q ∙ sym u)))
