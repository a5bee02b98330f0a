-- The rows of a text from a line's start on, each with its line's start, as the code goes over the lines.
use mathlib.Core.Path.{◌≡◌, refl, sym, ap, subst, ◌∙◌}
use mathlib.Core.Logic.{⊎_elim}
use mathlib.Core.List.{List, [], ◌∷◌}
use Prim.Native.Nat.{ℕ, suc, ◌+◌, ◌-◌, ◌≤◌}
use native.Mathlib.Omega.{arith}
use lib.ListN.{length, take, drop, length-append, drop_of_length-le}
use lib.Seq.{drop-drop, length-take-le}
use Rattle.kit.proofs.AnswerLaws.{pick_no}
use Rattle.layout.specs.Text.{Clean, pad}
use Rattle.reading.specs.declared.Fault.{Fault}
use Rattle.reading.specs.Feed.{feed, split, NoRow}
use Rattle.read_lines.specs.Cuts.{Cut, cuts, Starts}
use Rattle.read_lines.specs.Lines as L
use Rattle.read_lines.specs.declared.Line.TheVariants as line
use Rattle.index.specs.Found.{clean?}
use Rattle.index.specs.Made.{placed, placed_from}
use Rattle.index.proofs.FoundLaws.{firsts, cuts_split, first_rowless}
use Rattle.index.proofs.Lines.{skipped, kept}

-- no rows ahead
unclean : (a : ℕ) (l e : List ℕ) (cs : List Cut) → ¬ Clean l → placed a ((l, e) ∷ cs) ≡ []
unfolding placed
unclean a l e cs n = pick_no (clean? l) _ _ n

rowless : (cs : List Cut) (a n : ℕ) → NoRow (feed n (firsts cs)) → placed a cs ≡ []
rowless [] a n h = unfold placed in refl
rowless (x ∷ cs) a n h =
    ⊎_elim (λ k. unclean a x.0 x.1 cs k) (λ k. skipped a x.0 x.1 cs k.0.0 k.0.1 ∙ rowless cs _ (suc n) k.1)
    (first_rowless n x.0 (firsts cs) h)

no_rows : (t : List ℕ) (at : ℕ) → NoRow (feed 0 (split (drop at t))) → placed_from t at ≡ []
no_rows t at h = rowless (cuts (drop at t)) at 0 (subst (λ ls. NoRow (feed 0 ls)) (sym (cuts_split (drop at t))) h)

pub over_rows : (t : List ℕ) (at : ℕ) → L.Stands (drop at t) line.Over → placed_from t at ≡ []
over_rows t at h = no_rows t at (subst NoRow (sym (h 0)) tt)

pub bad_rows : (t : List ℕ) (at : ℕ) (f : Fault) → L.Stands (drop at t) (line.Bad f) → placed_from t at ≡ []
bad_rows t at f h = no_rows t at (subst NoRow (sym (h 0)) tt)

pub end_rows : (t : List ℕ) (at : ℕ) → length t ≤ at → placed_from t at ≡ []
unfolding placed cuts
end_rows t at h = ap (λ u. placed at (cuts u)) (drop_of_length-le t {i = at} h)

-- the next line's start
onward : (u : List ℕ) (w next : ℕ) (s : Starts u w next) → next ≤ length u → (at : ℕ) → at + length (take w u) + length s.end ≡ at + next
onward u w next s h at = omega (arith, length-take-le next u h, ap length s.whole, length-append (take w u) s.end)

module _ (t : List ℕ) (at : ℕ) where
  pub skip_rows : (next : ℕ) → L.Skips (drop at t) next → placed_from t at ≡ placed_from t (at + next)
  skip_rows next h =
      let s = h.starts in
      ap (placed at) s.cut ∙ skipped at (take h.width (drop at t)) s.end (cuts (drop next (drop at t))) h.clean h.blank
      ∙ (λ i. placed (onward (drop at t) h.width next s h.within at i) (cuts (drop-drop next at t i)))

  pub row_rows : (w next : ℕ) → L.Rows (drop at t) w next → placed_from t at ≡ (at, pad (take (at + w - at) (drop at t))) ∷ placed_from t (at + next)
  row_rows w next h =
      let s = h.starts in
      let e : w ≡ at + w - at = omega arith in
      ap (placed at) s.cut ∙ kept at (take w (drop at t)) s.end (cuts (drop next (drop at t))) h.clean h.full
      ∙ (λ i. (at, pad (take (e i) (drop at t))) ∷ placed (onward (drop at t) w next s h.within at i) (cuts (drop-drop next at t i)))
