-- The bytes up to the first line's end alone decide whether a block opens there; and a block stands where it opens and its value lines follow.
use mathlib.Core.Path.{◌≡◌, refl, sym, ap, subst, ◌∙◌}
use mathlib.Core.Logic.{◌↔◌}
use mathlib.Core.List.{List, [], ◌∷◌, ◌++◌, append_assoc, append-nil}
use Prim.Native.Nat.{ℕ}
use native.Mathlib.Decide.{ℕ_discrete}
use native.Mathlib.Omega.{arith}
use lib.IntN.{ℤ}
use lib.ListN.{drop}
use Rattle.kit.specs.Answer.{All, pick}
use Rattle.kit.specs.Range.{Printable}
use Rattle.kit.proofs.AnswerLaws.{pick_yes, pick_no}
use Rattle.forms.specs.Columns.{Blank}
use Rattle.mapset.specs.declared.Header.{Header}
use Rattle.layout.specs.Text.{Clean, pad}
use Rattle.layout.specs.Labels.{block, Rec}
use Rattle.reading.proofs.RecordLaws.{rec_name}
use Rattle.read_lines.specs.Cuts.{Cut}
use Rattle.index.specs.Stands as at
use Rattle.index.specs.Stands.{Over, Shown, Stands}
use Rattle.index.specs.OpensAt.{to_line_end, OpensAt, ValueLines}
use Rattle.index.specs.Index.{Index, Node, done, position, given, Replies}
use Rattle.index.proofs.CutLaws.{First, cut_last}
use Rattle.index.proofs.FoundLaws.{named_full, eol_over}
use Rattle.index.proofs.Once.{passed}

-- ---- up to a line's end

line_end : (l s : List ℕ) → Printable l → to_line_end (l ++ s) ≡ l ++ to_line_end s
unfolding to_line_end
line_end [] s p = refl
line_end (b ∷ l) s p = pick_no (ℕ_discrete b 10) _ _ (λ e. omega (arith, p.0)) ∙ ap (λ r. b ∷ r) (line_end l s p.1)

lf_end : (u : List ℕ) → to_line_end (10 ∷ u) ≡ 10 ∷ []
unfolding to_line_end
lf_end u = pick_yes (ℕ_discrete 10 10) _ _ refl

cr_end : (u : List ℕ) → to_line_end (13 ∷ u) ≡ 13 ∷ to_line_end u
unfolding to_line_end
cr_end u = pick_no (ℕ_discrete 13 10) _ _ (λ e. omega (arith, e))

over_end : {s : List ℕ} → Over s → Over (to_line_end s)
over_end at.nothing = unfold to_line_end in at.nothing
over_end (at.lf {u}) = subst Over (sym (lf_end u)) at.lf
over_end (at.crlf {u}) = subst Over (sym (cr_end (10 ∷ u) ∙ ap (λ r. 13 ∷ r) (lf_end u))) at.crlf

-- and what stands behind it: nothing, where no line ends
record Behind (u : List ℕ) (e : List ℕ) : Type 0 where
  rest : List ℕ
  seam : u ≡ e ++ rest
  none : Printable e → rest ≡ []

behind_end : (u : List ℕ) → Behind u (to_line_end u)
unfolding to_line_end pick
behind_end [] = record { rest = []; seam = refl; none = λ _. refl }
behind_end (b ∷ u) = by (ℕ_discrete b 10) (behind_end u)
  where
    by : (d : Dec (b ≡ 10)) → Behind u (to_line_end u) → Behind (b ∷ u) (pick d (b ∷ []) (b ∷ to_line_end u))
    by (yes e) r = record { rest = u; seam = refl; none = λ p. absurd (omega (arith, e, p.0)) }
    by (no n) r = record { rest = r.rest; seam = ap (λ v. b ∷ v) r.seam; none = λ p. r.none p.1 }

over_more : {s : List ℕ} (w : List ℕ) → Over s → (s ≡ [] → w ≡ []) → Over (s ++ w)
over_more w at.nothing f = subst Over (sym (f refl)) at.nothing
over_more w at.lf f = at.lf
over_more w at.crlf f = at.crlf

module _ (h : Header) (d : ℕ) where
  opens_cut : (u : List ℕ) → OpensAt h d u → OpensAt h d (to_line_end u)
  opens_cut u o =
      record {
        line = o.line;
        behind = to_line_end o.behind;
        text = ap to_line_end o.text ∙ line_end o.line o.behind o.clean.1;
        ends = over_end o.ends;
        clean = o.clean;
        opening = o.opening;
        opened = o.opened;
        opens = o.opens;
      }

  opens_whole : (u : List ℕ) → OpensAt h d (to_line_end u) → OpensAt h d u
  opens_whole u o =
      let r = behind_end u in
      record {
        line = o.line;
        behind = o.behind ++ r.rest;
        text = r.seam ∙ ap (λ v. v ++ r.rest) o.text ∙ append_assoc o.line o.behind r.rest;
        ends = over_more r.rest o.ends (λ e. r.none (subst Printable (sym (o.text ∙ ap (λ v. o.line ++ v) e ∙ append-nil o.line)) o.clean.1));
        clean = o.clean;
        opening = o.opening;
        opened = o.opened;
        opens = o.opens;
      }

  -- two texts that are alike up to their first line's end: a block opens at both or at neither
  pub line_decides : (u v : List ℕ) → to_line_end u ≡ to_line_end v → (OpensAt h d u) ↔ (OpensAt h d v)
  line_decides u v e = (λ o. opens_whole v (subst (OpensAt h d) e (opens_cut u o)), λ o. opens_whole u (subst (OpensAt h d) (sym e) (opens_cut v o)))

-- ---- the first line is one

first_once : {u l m : List ℕ} → First u l → First u m → l ≡ m
first_once {u} {l} {m} a b = ap (λ (cs : List Cut). elim cs [ [] ↦ [] | c ∷ _ ↦ c.0 ]) (sym a.is ∙ b.is)

record Heads (u row : List ℕ) : Type 0 where
  line : List ℕ
  behind : List ℕ
  text : u ≡ line ++ behind
  ends : Over behind
  clean : Clean line
  full : ¬ All Blank line
  padded : row ≡ pad line

heads : {row : List ℕ} {rows : List (List ℕ)} {u b : List ℕ} → Shown (row ∷ rows) u b → Heads u row
heads (at.last {l} {s} k n o) = record { line = l; behind = s; text = refl; ends = o; clean = k; full = n; padded = refl }
heads (at.line l {e} {g} {u} k n y w s) = record { line = l; behind = e ++ (g ++ u); text = refl; ends = eol_over (g ++ u) y; clean = k; full = n; padded = refl }

module _ (h : Header) (d : ℕ) where
  pub stands_opens : {u : List ℕ} {zs : List ℤ} {b : List ℕ} → Stands h d u zs b → OpensAt h d u
  stands_opens s =
      let f = heads s.shown in
      record {
        line = f.line;
        behind = f.behind;
        text = f.text;
        ends = f.ends;
        clean = f.clean;
        opening = s.opening;
        opened = subst (Rec block s.opening) f.padded s.opened;
        opens = s.opens;
      }

  same_line : {u row : List ℕ} (o : OpensAt h d u) (f : Heads u row) → row ≡ pad o.line
  same_line {u} o f =
      let a : First u o.line = subst (λ v. First v o.line) (sym o.text) (cut_last o.line o.behind o.clean (named_full h d o.line (rec_name o.opened)) o.ends) in
      let b : First u f.line = subst (λ v. First v f.line) (sym f.text) (cut_last f.line f.behind f.clean f.full f.ends) in
      f.padded ∙ ap pad (first_once b a)

  opens_stands : {u : List ℕ} {zs : List ℤ} {b : List ℕ} → OpensAt h d u → ValueLines h u zs b → Stands h d u zs b
  opens_stands o v =
      record {
        opening = o.opening;
        row = v.row;
        rows = v.rows;
        shown = v.shown;
        opened = subst (Rec block o.opening) (sym (same_line o (heads v.shown))) o.opened;
        opens = o.opens;
        values = v.values;
        count = v.count;
      }

  -- a block stands there exactly where it opens and the value lines follow
  pub stands_both : (u : List ℕ) (zs : List ℤ) (b : List ℕ) → (Stands h d u zs b) ↔ (OpensAt h d u × ValueLines h u zs b)
  stands_both u zs b = (λ s. (stands_opens s, record { row = s.row; rows = s.rows; shown = s.shown; values = s.values; count = s.count }), λ p. opens_stands p.0 p.1)

-- nothing is answered where no block opens at the entry's position
pub answered_opens : (x : Index) (t : List ℕ) (q : Node) (z e : ℤ) (b : List ℕ) → Replies x t q (given z e b) → OpensAt x.header (done x.header q) (drop (position x q) t)
answered_opens x t q z e b r = let (p, s) = passed (passed (passed (passed (passed r).1).1).1).1 in stands_opens x.header (done x.header q) p.stands
