use Rattle.std.proofs.Common.{◌≡◌, ℕ, ℤ, List, [], ◌+◌, ◌*◌, ◌≤◌, ◌<◌, ◌++◌, length, arith, refl, ap, ◌∙◌}
use lib.Seq.{sets, length-sets}
use Rattle.kit.specs.Lists.{front}
use Rattle.mapset.specs.Areas.{Areas, six}
use Rattle.mapset.specs.declared.Header.{Header}
use Rattle.areas.specs.Valid.{values_in}
use Rattle.ask_nodes.specs.Value.{kind_of}
use Rattle.valid.specs.Groups.{Long}
use Rattle.week_tally.specs.Figures.{figures, joined}
use Rattle.week_tally.specs.declared.Tally.{Tally}
use Rattle.c_header.proofs.SetLaws.{sets_append, sets_front}
use Rattle.week_set.specs.SetFigures.{kind_figures, kind_rows, set_rows, rows_need}
use Rattle.week_set.proofs.RowLaws.{kind_rows_length, set_rows_length}
use Rattle.week.specs.Week.{grown}
use Rattle.week.proofs.WeekLaws.{same}
use Rattle.week.specs.Sane.{Fair}
use Rattle.week.specs.Takes.{Takes, taken, stored}
use Rattle.week.proofs.Grown.{kind_ready, kind_parts, kind_parts_rows}
use Rattle.week.proofs.grow.Goals as goal

-- one kind of a set with the header h and the areas a
module _ (h : Header) (a : Areas) (l : Long h a) where
  takes : (n : ℕ) (t : Tally) (k : ℕ) (rows : List ℤ) → n < 100 → k < 3 → Fair n t → rows_need h ≤ length rows → Takes t k h (values_in (kind_of k) a) a.exponents a.marks rows
  takes n t k rows m i f r =
      record {
        ready = (f.1.0, omega (arith, f.0));
        kind = i;
        maps = l.maps;
        limits = l.limits;
        marks = l.marks;
        exponents = l.lengths.1.1.1;
        rows = r;
        holds = kind_ready h a l k;
      }

  told : (t : Tally) (k : ℕ) → taken t k h (values_in (kind_of k) a) a.exponents a.marks ≡ joined t (kind_figures k h a)
  unfolding taken
  told t k = ap (λ ns. joined t (figures ns)) (kind_parts h a l k)

  -- its rows
  abbrev put : ℕ → List ℤ → List ℤ
  put k rows = sets rows (k * (5 * (h.times.maps + 1))) (kind_rows k h a)

  told_rows : (k : ℕ) (rows : List ℤ) → stored k h (values_in (kind_of k) a) a.exponents a.marks rows ≡ put k rows
  unfolding stored
  told_rows k rows = ap (sets rows (k * (5 * (h.times.maps + 1)))) (kind_parts_rows h a l k)

  put_length : (k : ℕ) (rows : List ℤ) → length (put k rows) ≡ length rows
  put_length k rows = length-sets rows (k * (5 * (h.times.maps + 1))) (kind_rows k h a)

  -- the three, one behind the other
  put_all : (rows : List ℤ) → rows_need h ≤ length rows → put 2 (put 1 (put 0 rows)) ≡ front (set_rows h a) rows
  unfolding set_rows
  put_all rows r =
      let each = 5 * (h.times.maps + 1) in
      let z : 0 * each ≡ 0 = omega arith in
      ap (λ (p : ℕ). sets (sets (sets rows p (kind_rows 0 h a)) (1 * each) (kind_rows 1 h a)) (2 * each) (kind_rows 2 h a)) z
      ∙ sets_append (kind_rows 1 h a) (kind_rows 2 h a) (sets rows 0 (kind_rows 0 h a)) (1 * each) (2 * each) (omega (arith, kind_rows_length h a 1))
      ∙ sets_append (kind_rows 0 h a) (kind_rows 1 h a ++ kind_rows 2 h a) rows 0 (1 * each) (omega (arith, kind_rows_length h a 0))
      ∙ sets_front (kind_rows 0 h a ++ (kind_rows 1 h a ++ kind_rows 2 h a)) rows (omega (arith, set_rows_length h a, r))

pub kind_into-a-requires : goal.kind_into-a-requires
kind_into-a-requires c =
    let a = c.args in
    let s = six a.tec.now a.rms.now a.height.now a.exponents.now [] a.marks.now in
    let q = c.requires in
    takes a.header s q.2 a.w.sets a.w.tec.0 0 a.rows.now q.0 (omega arith) q.1.0 q.3

pub kind_into-b-requires : goal.kind_into-b-requires
kind_into-b-requires c =
    let a = c.args in
    let s = six a.tec.now a.rms.now a.height.now a.exponents.now [] a.marks.now in
    let q = c.requires in
    let r = c.kind_into-a.new.rows in
    let e = ap length (c.kind_into-a.ensures.1 ∙ told_rows a.header s q.2 0 a.rows.now) ∙ put_length a.header s q.2 0 a.rows.now in
    takes a.header s q.2 a.w.sets a.w.rms.0 1 r q.0 (omega arith) q.1.1.0 (omega (arith, e, q.3))

pub kind_into-c-requires : goal.kind_into-c-requires
kind_into-c-requires c =
    let a = c.args in
    let s = six a.tec.now a.rms.now a.height.now a.exponents.now [] a.marks.now in
    let q = c.requires in
    let r = c.kind_into-a.new.rows in
    let d = ap length (c.kind_into-a.ensures.1 ∙ told_rows a.header s q.2 0 a.rows.now) ∙ put_length a.header s q.2 0 a.rows.now in
    let e = ap length (c.kind_into-b.ensures.1 ∙ told_rows a.header s q.2 1 r) ∙ put_length a.header s q.2 1 r in
    takes a.header s q.2 a.w.sets a.w.height.0 2 c.kind_into-b.new.rows q.0 (omega arith) q.1.1.1 (omega (arith, d, e, q.3))

pub returns : goal.returns
unfolding grown
returns c =
    let a = c.args in
    let s = six a.tec.now a.rms.now a.height.now a.exponents.now [] a.marks.now in
    let q = c.requires in
    let x = c.kind_into-a.ensures in
    let y = c.kind_into-b.ensures in
    let z = c.kind_into-c.ensures in (
      same refl (x.0 ∙ told a.header s q.2 a.w.tec.0 0) (y.0 ∙ told a.header s q.2 a.w.rms.0 1) (z.0 ∙ told a.header s q.2 a.w.height.0 2),
      z.1 ∙ told_rows a.header s q.2 2 _ ∙ ap (put a.header s q.2 2) (y.1 ∙ told_rows a.header s q.2 1 _ ∙ ap (put a.header s q.2 1) (x.1 ∙ told_rows a.header s q.2 0 _))
          ∙ put_all a.header s q.2 a.rows.now q.3,
    )
