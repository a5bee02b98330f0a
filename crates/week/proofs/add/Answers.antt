use Rattle.std.proofs.Common.{◌≡◌, ℕ, ℤ, List, [], arith, sym, ap, ◌∙◌}
use Rattle.std.specs.Prelude.{Ok, Err}
use Rattle.kit.specs.Lists.{front}
use Rattle.kit.proofs.TruthLaws.{truth_true, truth_false}
use Rattle.mapset.specs.Described.{full}
use Rattle.mapset.specs.Areas.{six}
use Rattle.mapset.specs.declared.Header.{Header}
use Rattle.valid.proofs.Whole.{sound_long}
use Rattle.week_set.specs.SetFigures.{kind_nodes, map_nodes, kind_rows, set_rows}
use Rattle.week.specs.Week.{given_as, grown}
use Rattle.week.specs.Sane.{comes}
use Rattle.week.proofs.SaneLaws.{answer_full, answer_insane, answer_invalid, answer_short, answer_into}
use Rattle.week.specs.declared.Week.{Week}
use Rattle.week.specs.declared.Why.TheVariants as Y
use Rattle.week.proofs.add.Goals as goal

-- epochs are not looked at
module _ (h : Header) (t r d x : List ℤ) (e m : List ℕ) where
  grows : (w v : Week) → v ≡ grown w h (six t r d x [] m) → v ≡ grown w h (six t r d x e m)
  unfolding grown kind_nodes map_nodes
  grows w v p = p

  fills : (l l' : List ℤ) → l' ≡ front (set_rows h (six t r d x [] m)) l → l' ≡ front (set_rows h (six t r d x e m)) l
  unfolding set_rows kind_rows kind_nodes map_nodes
  fills l l' p = p

pub returns-then-w-ge-MOST_SETS : goal.returns-then-w-ge-MOST_SETS
returns-then-w-ge-MOST_SETS c =
    let a = c.args in
    let s = given_as a.header (full a.texts a.descriptions.now) (six a.tec.now a.rms.now a.height.now a.exponents.now a.epochs.now a.marks.now) a.rows.now in
    sym (answer_full a.w s c.if-w-ge-MOST_SETS.true)

pub returns-then-not-sane : goal.returns-then-not-sane
returns-then-not-sane c =
    let a = c.args in
    let s = given_as a.header (full a.texts a.descriptions.now) (six a.tec.now a.rms.now a.height.now a.exponents.now a.epochs.now a.marks.now) a.rows.now in
    sym (answer_insane a.w s (omega (arith, c.if-w-ge-MOST_SETS.false)) (truth_false _ (sym c.sane.ensures ∙ c.if-not-sane.true)))

pub returns-then-not-valid : goal.returns-then-not-valid
returns-then-not-valid c =
    let a = c.args in
    let s = given_as a.header (full a.texts a.descriptions.now) (six a.tec.now a.rms.now a.height.now a.exponents.now a.epochs.now a.marks.now) a.rows.now in
    let h = truth_true _ (sym c.sane.ensures ∙ c.if-not-sane.false) in
    sym (answer_invalid a.w s (omega (arith, c.if-w-ge-MOST_SETS.false)) h (truth_false _ (sym c.valid.ensures ∙ c.if-not-valid.true)))

pub returns-then-lent-need : goal.returns-then-lent-need
returns-then-lent-need c =
    let a = c.args in
    let s = given_as a.header (full a.texts a.descriptions.now) (six a.tec.now a.rms.now a.height.now a.exponents.now a.epochs.now a.marks.now) a.rows.now in
    let h = truth_true _ (sym c.sane.ensures ∙ c.if-not-sane.false) in
    let v = truth_true _ (sym c.valid.ensures ∙ c.if-not-valid.false) in
    let n = c.rows_need-need.ensures in
    ap (λ (k : ℕ). comes (Err (Y.Short k)) a.rows.now) n
    ∙ sym (answer_short a.w s (omega (arith, c.if-w-ge-MOST_SETS.false)) h v (λ r. omega (arith, n, c.if-lent-need.true, r)))

pub grow-requires : goal.grow-requires
grow-requires c =
    let a = c.args in
    let h = truth_true _ (sym c.sane.ensures ∙ c.if-not-sane.false) in
    let v = truth_true _ (sym c.valid.ensures ∙ c.if-not-valid.false) in
    let l = sound_long a.header (full a.texts a.descriptions.now) (six a.tec.now a.rms.now a.height.now a.exponents.now a.epochs.now a.marks.now) v.sound in
    (omega (arith, c.if-w-ge-MOST_SETS.false), h, record { maps = l.maps; limits = l.limits; marks = l.marks; lengths = l.lengths }, omega (arith, c.rows_need-need.ensures, c.if-lent-need.false))

pub returns : goal.returns
returns c =
    let a = c.args in
    let s = given_as a.header (full a.texts a.descriptions.now) (six a.tec.now a.rms.now a.height.now a.exponents.now a.epochs.now a.marks.now) a.rows.now in
    let h = truth_true _ (sym c.sane.ensures ∙ c.if-not-sane.false) in
    let v = truth_true _ (sym c.valid.ensures ∙ c.if-not-valid.false) in
    let g = grows a.header a.tec.now a.rms.now a.height.now a.exponents.now a.epochs.now a.marks.now a.w c.grow.result c.grow.ensures.0 in
    let f = fills a.header a.tec.now a.rms.now a.height.now a.exponents.now a.epochs.now a.marks.now a.rows.now _ c.grow.ensures.1 in
    (λ i. comes (Ok (g i)) (f i)) ∙ sym (answer_into a.w s (omega (arith, c.if-w-ge-MOST_SETS.false)) h v (omega (arith, c.rows_need-need.ensures, c.if-lent-need.false)))
