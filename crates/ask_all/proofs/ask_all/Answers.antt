-- `ask_all::ask_all` meets its contract.
use mathlib.Core.Path.{◌≡◌, refl, ap, ◌∙◌}
use native.Mathlib.Omega.{arith}
use Prim.Native.Nat.{ℕ, min}
use lib.IntN.{ℤ}
use lib.ListN.{length}
use Rattle.std.proofs.lemmas.Result.{err_from_is_err_and}
use Rattle.mapset.specs.Described.{full}
use Rattle.mapset.specs.Areas.{Areas, six}
use Rattle.ask.specs.Ask.{Question, question, Answers}
use Rattle.ask.proofs.Opened.{open_answers}
use Rattle.ask_all.specs.AskAll.{Places, places, Slots, slots, count, barred, answered}
use Rattle.ask_all.proofs.EachLaws.{each_by, count_is}
use Rattle.ask_all.proofs.ask_all.Goals as goal
use Rattle.ask_all.proofs.ask_all.Goals.{Start, After-min-n}

module _ (s : Start) where
  abbrev lent : Areas
  lent =
      six s.args.tec.now s.args.rms.now s.args.height.now s.args.exponents.now s.args.epochs.now s.args.marks.now

  abbrev at : ℕ → ℤ → ℤ → ℕ → Question
  at = question s.args.header (full s.args.texts s.args.descriptions.now) lent s.args.kind s.args.method

  abbrev asked : Places
  asked = places s.args.lats.now s.args.lons.now s.args.seconds.now

  abbrev found : Slots
  found = slots s.args.answers.now s.args.values.now

-- as many questions as the shortest has elements
as_many : (c : After-min-n) → let a = c.args in c.min-n.result ≡ count (places a.lats.now a.lons.now a.seconds.now) (slots a.answers.now a.values.now)
as_many c =
    let a = c.args in
    c.min-n.ensures ∙ ap (λ (n : ℕ). min n (length a.values.now)) (c.min-3.ensures ∙ ap (λ (n : ℕ). min n (length a.answers.now)) (c.min-2.ensures ∙ ap (λ (n : ℕ). min n (length a.seconds.now)) c.min.ensures))
    ∙ count_is (places a.lats.now a.lons.now a.seconds.now) (slots a.answers.now a.values.now)

pub returns-in_err-look : goal.returns-in_err-look
returns-in_err-look c =
    let p = err_from_is_err_and c.from_residual.result c.from_residual.ensures.1 in
    rw (p.1, p.2) (barred _ (λ lat lon second. c.in_err-look.ensures c.args.layer lat lon second))

pub answer_each-requires : goal.answer_each-requires
answer_each-requires c = (
  λ lat lon second. rw c.shape_of.ensures (refl, (full c.args.texts c.args.descriptions.now, c.in_ok-look.ensures c.args.layer lat lon second)),
  omega (arith, as_many (goal.at.answer_each-requires c).After-min-n),
)

pub returns : goal.returns
returns c =
    let s = (goal.at.returns c).Start in
    let e = rw (c.shape_of.ensures, as_many (goal.at.returns c).After-min-n) at c.answer_each.ensures in
    let o = c.in_ok-look.ensures c.args.layer in
    answered o _
    (each_by _ (λ lat lon second. Answers (at s s.args.layer lat lon second))
    (λ lat lon second a v. open_answers (at s s.args.layer lat lon second) (o lat lon second) a (v (full s.args.texts s.args.descriptions.now) (o lat lon second)))
    (count (asked s) (found s)) (asked s) (found s) _ e)
