use Rattle.std.proofs.Common.{◌≡◌, ◌-◌, length, take, drop, sym, ap, ◌∙◌, length-drop}
use lib.Seq.{take-length}
use Rattle.forms.specs.Columns.{columns}
use Rattle.c_given.specs.Given.{five_of}
use Rattle.c_given.proofs.texts_in.Goals as goal

pub returns : goal.returns
unfolding five_of
returns c =
    let b = c.args.b.now in
    let e : take (length b - 64) (drop 64 b) ≡ drop 64 b = ap (λ k. take k (drop 64 b)) (sym (length-drop 64 b)) ∙ take-length (drop 64 b) in
    let o = c.text-5.ensures ∙ ap (λ l. columns l 0 60) e in
    λ i. record { program = c.text.ensures i; agency = c.text-2.ensures i; date = c.text-3.ensures i; mapping = c.text-4.ensures i; observables = o i }
