-- `write_text::write_text` meets its contract.
use mathlib.Core.Path.{◌≡◌, sym, ap, ◌∙◌}
use mathlib.Core.List.{List, [], ◌∷◌, ◌++◌}
use native.Mathlib.Omega.{arith}
use Prim.Native.Nat.{ℕ, ◌≤◌}
use lib.ListN.{length, drop}
use Rattle.kit.proofs.TruthLaws.{truth_true, truth_false}
use Rattle.mapset.specs.declared.Header.{Header}
use Rattle.mapset.specs.Described.{FullTexts, full}
use Rattle.mapset.specs.Areas.{Areas, six}
use Rattle.areas.specs.Nesting.{nested}
use Rattle.areas.proofs.CutLaws.{nothing}
use Rattle.canonical.specs.Canon.{canon, canon_rows}
use Rattle.canonical.specs.CanonOf.{canon_of}
use Rattle.write_line.specs.Put.{Put}
use Rattle.write_text.specs.Write.{done, refused}
use Rattle.write_text.proofs.WriteLaws.{written_unsound, written_short, written_done}
use Rattle.write_text.proofs.Short.{canon_short}
use Rattle.write_text.proofs.write_text.Goals as goal

module _ (h : Header) (t : FullTexts) (a : Areas) where
  -- the text is measured in no output
  measured : {e e' : List ℕ} {n : ℕ} → Put e 0 (canon_rows (nested h t a)) e' n → n ≡ length (canon_of h t a)
  unfolding canon_of canon
  measured p = p.moved ∙ omega arith

  -- the text in front of what stood behind it
  placed : {o o' : List ℕ} {n : ℕ} → Put o 0 (canon_rows (nested h t a)) o' n → length (canon_of h t a) ≤ length o
      → ◌≡◌ {A = ℕ × List ℕ} (n, o') (length (canon_of h t a), canon_of h t a ++ drop (length (canon_of h t a)) o)
  unfolding canon_of canon
  placed {o} p l =
      let e = measured p in
      λ i. (e i, (p.text (omega arith) ∙ ap (λ (k : ℕ). canon_of h t a ++ drop k o) e) i)

pub returns-then-not-valid : goal.returns-then-not-valid
returns-then-not-valid c =
    let s = c.args in
    sym (written_unsound s.header (full s.texts s.descriptions.now) (six s.tec.now s.rms.now s.height.now s.exponents.now s.epochs.now s.marks.now) s.out.now (truth_false _ (sym c.valid.ensures ∙ c.if-not-valid.true)))

pub put_text-needed-requires : goal.put_text-needed-requires
put_text-needed-requires c =
    let s = c.args in
    let v = truth_true _ (sym c.valid.ensures ∙ c.if-not-valid.false) in
    (v, canon_short s.header (full s.texts s.descriptions.now) (six s.tec.now s.rms.now s.height.now s.exponents.now s.epochs.now s.marks.now) v)

pub returns-then-out-needed : goal.returns-then-out-needed
returns-then-out-needed c =
    let s = c.args in
    let t = full s.texts s.descriptions.now in
    let a = six s.tec.now s.rms.now s.height.now s.exponents.now s.epochs.now s.marks.now in
    let v = truth_true _ (sym c.valid.ensures ∙ c.if-not-valid.false) in
    let p = c.put_text-needed in
    let m = measured s.header t a p.ensures in
    let u = ap (λ (l : List ℕ). l ++ s.out.now) (nothing p.new.out p.ensures.size) in
    (λ i. (refused 30 (m i ∷ []), u i)) ∙ sym (written_short s.header t a s.out.now v (omega (arith, c.if-out-needed.true, m, ap length u)))

pub put_text-end-requires : goal.put_text-end-requires
put_text-end-requires c =
    let s = c.args in
    let v = truth_true _ (sym c.valid.ensures ∙ c.if-not-valid.false) in
    (v, canon_short s.header (full s.texts s.descriptions.now) (six s.tec.now s.rms.now s.height.now s.exponents.now s.epochs.now s.marks.now) v)

pub returns : goal.returns
returns c =
    let s = c.args in
    let t = full s.texts s.descriptions.now in
    let a = six s.tec.now s.rms.now s.height.now s.exponents.now s.epochs.now s.marks.now in
    let v = truth_true _ (sym c.valid.ensures ∙ c.if-not-valid.false) in
    let p = c.put_text-needed in
    let u = ap (λ (l : List ℕ). l ++ s.out.now) (nothing p.new.out p.ensures.size) in
    let l : length (canon_of s.header t a) ≤ length s.out.now = omega (arith, c.if-out-needed.false, measured s.header t a p.ensures, ap length u) in
    ap (λ (x : ℕ × List ℕ). (done x.0, x.1)) (placed s.header t a (rw u at c.put_text-end.ensures) l) ∙ sym (written_done s.header t a s.out.now v l)
