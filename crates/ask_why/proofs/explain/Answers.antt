-- `ask_why::explain` meets its contract.
use mathlib.Core.Path.{◌≡◌, sym, ◌∙◌}
use mathlib.Core.Bool.{true}
use mir.Facts.{to_z-of_z}
use Rattle.mapset.specs.Described.{full}
use Rattle.mapset.specs.Areas.{six}
use Rattle.ask_spans.specs.Time.{Uses}
use Rattle.ask.specs.Sun.{in_time, Cells}
use Rattle.ask.specs.Ask.{Question, question, epochs, Answers, told}
use Rattle.ask.proofs.AskLaws.{in_time_small, steady, spanned, few_epochs, can_ask}
use Rattle.ask.proofs.Strip.{placed}
use Rattle.ask_why.specs.Parts.{has_nodes}
use Rattle.ask_why.proofs.WhyLaws.{opened, looks, unexplained, can_list, explains}
use Rattle.ask_why.proofs.explain.Goals as goal
use Rattle.ask_why.proofs.explain.Goals.{Start}

abbrev q : Start → Question
q s =
    let a = s.args in
    question a.header (full a.texts a.descriptions.now) (six a.tec.now a.rms.now a.height.now a.exponents.now a.epochs.now a.marks.now) a.kind a.method a.layer a.lat a.lon a.second

-- a refusal that looked at no node
pub returns-then-not-looked : goal.returns-then-not-looked
returns-then-not-looked c =
    let s = (goal.at.returns-then-not-looked c).Start in
    let y : Answers (q s) (told c.ask-asked.result) = rw (to_z-of_z c.ranges.lat, to_z-of_z c.ranges.lon) at c.ask-asked.ensures in
    rw (c.blank.ensures, c.answer_of.ensures) (unexplained (q s) c.ask-asked.result y (sym c.looked.ensures ∙ c.if-not-looked.true))

pub slice_bounds-epochs-end : goal.slice_bounds-epochs-end
slice_bounds-epochs-end c =
    let s = (goal.at.slice_bounds-epochs-end c).Start in
    let y : Answers (q s) (told c.ask-asked.result) = rw (to_z-of_z c.ranges.lat, to_z-of_z c.ranges.lon) at c.ask-asked.ensures in
    let o = opened (q s) (told c.ask-asked.result) y (looks c.ask-asked.result (sym c.looked.ensures ∙ c.if-not-looked.false)) in
    sym (few_epochs (q s) o.sound)

pub shares_of-shares-requires : goal.shares_of-shares-requires
shares_of-shares-requires c =
    let s = (goal.at.shares_of-shares-requires c).Start in
    let y : Answers (q s) (told c.ask-asked.result) = rw (to_z-of_z c.ranges.lat, to_z-of_z c.ranges.lon) at c.ask-asked.ensures in
    let o = opened (q s) (told c.ask-asked.result) y (looks c.ask-asked.result (sym c.looked.ensures ∙ c.if-not-looked.false)) in
    rw c.maps_by.ensures (steady (q s) o.sound, spanned (q s) o.sound o.time, in_time_small s.args.method)

pub cells_at-requires : goal.cells_at-requires
cells_at-requires c =
    let s = (goal.at.cells_at-requires c).Start in
    let y : Answers (q s) (told c.ask-asked.result) = rw (to_z-of_z c.ranges.lat, to_z-of_z c.ranges.lon) at c.ask-asked.ensures in
    let o = opened (q s) (told c.ask-asked.result) y (looks c.ask-asked.result (sym c.looked.ensures ∙ c.if-not-looked.false)) in
    can_ask (q s) o.sound o.time c.shares_of-shares.result (rw c.maps_by.ensures at c.shares_of-shares.ensures)

-- a place that was answered for has its cells
pub returns-in_default : goal.returns-in_default
returns-in_default c =
    let s = (goal.at.returns-in_default c).Start in
    let y : Answers (q s) (told c.ask-asked.result) = rw (to_z-of_z c.ranges.lat, to_z-of_z c.ranges.lon) at c.ask-asked.ensures in
    let o = opened (q s) (told c.ask-asked.result) y (looks c.ask-asked.result (sym c.looked.ensures ∙ c.if-not-looked.false)) in
    let n = rw (to_z-of_z c.ranges.lat, to_z-of_z c.ranges.lon) at c.in_default.ensures in
    let x = placed (q s) o.sound o.served o.inside n.0 in
    absurd (n.1 x.0 x.1)

pub explain_in-requires : goal.explain_in-requires
explain_in-requires c =
    let s = (goal.at.explain_in-requires c).Start in
    let h = c.shares_of-shares.result in
    let y : Answers (q s) (told c.ask-asked.result) = rw (to_z-of_z c.ranges.lat, to_z-of_z c.ranges.lon) at c.ask-asked.ensures in
    let o = opened (q s) (told c.ask-asked.result) y (looks c.ask-asked.result (sym c.looked.ensures ∙ c.if-not-looked.false)) in
    let u : Uses (epochs (q s)) s.args.second (in_time s.args.method) h = rw c.maps_by.ensures at c.shares_of-shares.ensures in
    let b : Cells s.args.method s.args.header.grid s.args.lat s.args.lon s.args.second (epochs (q s)) h c.in-Some.first c.in-Some.other = rw (to_z-of_z c.ranges.lat, to_z-of_z c.ranges.lon) at c.in-Some.ensures in
    rw (c.values_of-values.ensures, c.shape_of-s.ensures) (can_list (q s) o.sound h u c.in-Some.first c.in-Some.other b o.known o.served o.inside.layer)

pub returns : goal.returns
returns c =
    let s = (goal.at.returns c).Start in
    let h = c.shares_of-shares.result in
    let y : Answers (q s) (told c.ask-asked.result) = rw (to_z-of_z c.ranges.lat, to_z-of_z c.ranges.lon) at c.ask-asked.ensures in
    let n : has_nodes c.ask-asked.result ≡ true = sym c.looked.ensures ∙ c.if-not-looked.false in
    let o = opened (q s) (told c.ask-asked.result) y (looks c.ask-asked.result n) in
    let u : Uses (epochs (q s)) s.args.second (in_time s.args.method) h = rw c.maps_by.ensures at c.shares_of-shares.ensures in
    let b : Cells s.args.method s.args.header.grid s.args.lat s.args.lon s.args.second (epochs (q s)) h c.in-Some.first c.in-Some.other = rw (to_z-of_z c.ranges.lat, to_z-of_z c.ranges.lon) at c.in-Some.ensures in
    let e = rw (c.values_of-values.ensures, c.shape_of-s.ensures) at c.explain_in.ensures in
    rw e (explains (q s) o.sound h u c.in-Some.first c.in-Some.other b c.ask-asked.result y n)
