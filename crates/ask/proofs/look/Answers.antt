-- `ask::look` meets its contract.
use borrow.Author.Rules.{rules}
use mathlib.Core.Bool.{true}
use mathlib.Core.Path.{◌≡◌, sym, ◌∙◌}
use native.Mathlib.Decide.{dec_lt}
use lib.IntN.{pos}
use Rattle.kit.proofs.TruthLaws.{truth_true, truth_false}
use Rattle.kit.specs.Answer.{×_dec}
use Rattle.kit.specs.Truth.{truth}
use Rattle.mapset.specs.Described.{full}
use Rattle.mapset.specs.Areas.{Sound, six}
use Rattle.ask.specs.Ask.{Question, question, Known, Served, unknown, unsound, unserved}
use Rattle.ask.proofs.AskLaws.{few_epochs}
use Rattle.ask.proofs.look.Goals as goal
use Rattle.ask.proofs.look.Goals.{Start}

-- nothing hangs on layer, place and second
abbrev q : Start → Question
q s =
    let a = s.args in
    question a.header (full a.texts a.descriptions.now) (six a.tec.now a.rms.now a.height.now a.exponents.now a.epochs.now a.marks.now) a.kind a.method 0 (pos 0) (pos 0) 0

-- each test in its turn: the number that is told where it fails, and what holds where it is passed
pub returns-then-not-is_known : goal.returns-then-not-is_known
returns-then-not-is_known c = λ layer lat lon second. unknown (truth_false _ (sym c.is_known.ensures ∙ c.if-not-is_known.true))

pub returns-then-not-sound : goal.returns-then-not-sound
returns-then-not-sound c =
    let s = (goal.at.returns-then-not-sound c).Start in
    let passed : truth (×_dec (dec_lt s.args.kind 3) (dec_lt s.args.method 4)) ≡ true = search rules in
    let known : Known (q s) = truth_true _ passed in
    λ layer lat lon second. unsound known (truth_false _ (sym c.sound.ensures ∙ c.if-not-sound.true))

pub slice_bounds-serves-end : goal.slice_bounds-serves-end
slice_bounds-serves-end c = sym (few_epochs (q (goal.at.slice_bounds-serves-end c).Start) (truth_true _ (sym c.sound.ensures ∙ c.if-not-sound.false)))

pub returns-then-not-serves : goal.returns-then-not-serves
returns-then-not-serves c =
    let s = (goal.at.returns-then-not-serves c).Start in
    let known : Known (q s) = truth_true _ (sym c.is_known.ensures ∙ c.if-not-is_known.false) in
    let sound : Sound s.args.header (full s.args.texts s.args.descriptions.now) (q s).areas = truth_true _ (sym c.sound.ensures ∙ c.if-not-sound.false) in
    let unserved_is : ¬ Served (q s) = rw c.if-not-serves.true at c.serves.ensures in
    λ layer lat lon second. unserved known sound unserved_is

pub returns : goal.returns
returns c =
    let s = (goal.at.returns c).Start in
    let k : Known (q s) = truth_true _ (sym c.is_known.ensures ∙ c.if-not-is_known.false) in
    let d : Sound s.args.header (full s.args.texts s.args.descriptions.now) (q s).areas = truth_true _ (sym c.sound.ensures ∙ c.if-not-sound.false) in
    let v : Served (q s) = rw c.if-not-serves.false at c.serves.ensures in
    λ layer lat lon second. record { known = k; sound = d; served = v }
