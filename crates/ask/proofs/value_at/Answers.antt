-- `ask::value_at` meets its contract.
use borrow.Author.Rules.{rules}
use mathlib.Core.Bool.{true}
use mathlib.Core.Path.{◌≡◌, refl, sym, ap, ◌∙◌}
use native.Mathlib.Omega.{arith}
use Prim.Native.Nat.{◌<◌}
use mir.Facts.{to_z-of_z}
use Rattle.kit.proofs.TruthLaws.{truth_true, truth_false}
use Rattle.kit.specs.Range.{within?}
use Rattle.kit.specs.Truth.{truth}
use Rattle.mapset.specs.Areas.{six}
use Rattle.mapset.specs.Grid.{layers}
use Rattle.mapset.specs.Described.{FullTexts}
use Rattle.ask_spans.specs.Time.{epoch, Uses}
use Rattle.ask_nodes.specs.declared.Shape.{Shape}
use Rattle.ask.specs.Sun.{in_time, Cells}
use Rattle.ask.specs.Ask.{Question, question, go, epochs, InTime, Open}
use Rattle.ask.proofs.AskLaws.{due, in_time_small, steady, spanned, can_ask, can_sum, has_weight, placed_answer}
use Rattle.ask.proofs.Strip.{placed, inside_of}
use Rattle.ask.proofs.value_at.Goals as goal
use Rattle.ask.proofs.value_at.Goals.{Start}

-- the question, whatever its texts; and with the texts of which it is known that the set is sound
abbrev q : Start → FullTexts → Question
q s x =
    let a = s.args in
    question a.header x (six a.tec.now a.rms.now a.height.now a.exponents.now a.epochs.now a.marks.now) a.s.kind a.method a.s.layer a.lat a.lon a.second

abbrev one : Start → Question
one s = q s s.requires.1.0

opened : (s : Start) → Open (one s)
opened s = s.requires.1.1

layers_is : (s : Start) → s.args.s.layers ≡ layers s.args.header.grid
layers_is s = ap (λ (z : Shape). z.layers) s.requires.0

layer_in : (s : Start) → s.args.s.layer < s.args.s.layers → s.args.s.layer < layers s.args.header.grid
layer_in s h = omega (arith, h, layers_is s)

pub returns-then-not-in_time : goal.returns-then-not-in_time
returns-then-not-in_time c x o = due 20 refl (truth_false _ (sym c.in_time.ensures ∙ c.if-not-in_time.true))

pub returns-then-not-has_layer : goal.returns-then-not-has_layer
returns-then-not-has_layer c x o =
    let s = (goal.at.returns-then-not-has_layer c).Start in
    let passed : truth (within? s.args.header.times.first s.args.header.times.last s.args.second) ≡ true = search rules in
    go (truth_true _ passed) (due 21 refl (λ i. truth_false _ (sym c.has_layer.ensures ∙ c.if-not-has_layer.true) (omega (arith, i.layer, layers_is s))))

pub shares_of-shares-requires : goal.shares_of-shares-requires
shares_of-shares-requires c =
    let s = (goal.at.shares_of-shares-requires c).Start in
    let t : InTime (one s) = truth_true _ (sym c.in_time.ensures ∙ c.if-not-in_time.false) in
    rw c.maps_by.ensures (steady (one s) (opened s).sound, spanned (one s) (opened s).sound t, in_time_small c.args.method)

pub cells_at-requires : goal.cells_at-requires
cells_at-requires c =
    let s = (goal.at.cells_at-requires c).Start in
    let t : InTime (one s) = truth_true _ (sym c.in_time.ensures ∙ c.if-not-in_time.false) in
    can_ask (one s) (opened s).sound t c.shares_of-shares.result (rw c.maps_by.ensures at c.shares_of-shares.ensures)

pub returns-in_default : goal.returns-in_default
returns-in_default c x o =
    let s = (goal.at.returns-in_default c).Start in
    let t = truth_true _ (sym c.in_time.ensures ∙ c.if-not-in_time.false) in
    let n = rw (to_z-of_z c.ranges.lat, to_z-of_z c.ranges.lon) at c.in_default.ensures in
    go t (due 21 refl (λ i. let y = placed (q s x) o.sound o.served i n.0 in n.1 y.0 y.1))

pub value_of-requires : goal.value_of-requires
value_of-requires c =
    let s = (goal.at.value_of-requires c).Start in
    let o = opened s in
    let h = c.shares_of-shares.result in
    let l = layer_in s (truth_true _ (sym c.has_layer.ensures ∙ c.if-not-has_layer.false)) in
    let u : Uses (epochs (one s)) s.args.second (in_time s.args.method) h = rw c.maps_by.ensures at c.shares_of-shares.ensures in
    let b : Cells s.args.method s.args.header.grid s.args.lat s.args.lon s.args.second (epochs (one s)) h c.in-Some.first c.in-Some.other = rw (to_z-of_z c.ranges.lat, to_z-of_z c.ranges.lon) at c.in-Some.ensures in
    rw (c.values_of-values.ensures, s.requires.0) (
      can_sum (one s) o.sound o.served h u c.in-Some.first c.in-Some.other b o.known l,
      has_weight (one s) o.sound o.served h u c.in-Some.first c.in-Some.other b,
    )

pub returns : goal.returns
returns c x o =
    let s = (goal.at.returns c).Start in
    let h = c.shares_of-shares.result in
    let t = truth_true _ (sym c.in_time.ensures ∙ c.if-not-in_time.false) in
    let l = layer_in s (truth_true _ (sym c.has_layer.ensures ∙ c.if-not-has_layer.false)) in
    let u : Uses (epochs (one s)) s.args.second (in_time s.args.method) h = rw c.maps_by.ensures at c.shares_of-shares.ensures in
    let b : Cells s.args.method s.args.header.grid s.args.lat s.args.lon s.args.second (epochs (one s)) h c.in-Some.first c.in-Some.other = rw (to_z-of_z c.ranges.lat, to_z-of_z c.ranges.lon) at c.in-Some.ensures in
    let y = inside_of (q s x) o.sound o.served l (epoch (epochs (one s)) h.map) c.in-Some.first b.first_in in
    placed_answer (q s x) o.sound o.served h u c.in-Some.first c.in-Some.other b t y _ (rw (c.values_of-values.ensures, s.requires.0) at c.value_of.ensures)
