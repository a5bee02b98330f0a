-- The header is passed row by row: what is behind END OF HEADER from here is what is behind it from the start.
use mathlib.Core.Path.{◌≡◌, refl, sym, ap, ◌∙◌}
use mathlib.Core.Bool.{Bool, true, false, not, cond, ◌||◌}
use mathlib.Core.Option.{Option, some}
use mathlib.Core.List.{List, [], ◌∷◌}
use Prim.Native.Nat.{ℕ, ◌+◌, ◌-◌, ◌≤◌, ◌<◌}
use native.Mathlib.Omega.{arith}
use borrow.Author.Tests.{eqb-true, eqb-false, ne_eqb, leb-true, leb-false}
use lib.Dec.{T, eqb, leb}
use lib.IntN.{ℤ, negsuc}
use lib.ListN.{length, get_or, take, drop}
use Rattle.kit.specs.Answer.{same}
use Rattle.kit.proofs.AnswerLaws.{pick_yes, pick_no}
use Rattle.kit.proofs.TruthLaws.{tested_at}
use Rattle.layout.specs.Text.{pad}
use Rattle.layout.specs.Labels.{Label, version, description, comment, system, exponent, aux_start, aux_end, header_end, epoch, block, file_end, head, start, end, name, labels}
use Rattle.layout.specs.Layout.{plain, aux, mode}
use Rattle.layout.specs.Names.{names, number_of}
use Rattle.reading.specs.Fields.{label}
use Rattle.reading.proofs.LabelLaws.{label_known, label_unknown, named, aux_number}
use Rattle.areas.specs.Scan.{by_label, exponent_in}
use Rattle.read_lines.specs.Lines.{Skips, Rows}
use Rattle.read_lines.proofs.Parts.{skip_in, row_in}
use Rattle.index.specs.Made.{Placed, placed_from, maps_of}
use Rattle.index_fill.specs.Enter.{Passes, Walks, Begins}
use Rattle.index_fill.specs.declared.Past.{Past}
use Rattle.index_fill.specs.declared.Walk.{Walk}
use Rattle.index_fill.proofs.RowsAhead.{skip_rows, row_rows, end_rows}

-- ---- a row by its label

-- the labels that change nothing
quiet : Label → Bool
quiet version = true
quiet description = true
quiet comment = true
quiet system = true
quiet exponent = false
quiet aux_start = false
quiet aux_end = true
quiet header_end = false
quiet epoch = true
quiet block = true
quiet file_end = true
quiet (head i) = true
quiet (start k) = true
quiet (end k) = true

quiet_label : {X : Type 0} (a b c d : X) (l : Label) → T (quiet l) → by_label a b c d (some l) ≡ d
unfolding quiet
quiet_label a b c d version t = refl
quiet_label a b c d description t = refl
quiet_label a b c d comment t = refl
quiet_label a b c d system t = refl
quiet_label a b c d exponent t = absurd t
quiet_label a b c d aux_start t = absurd t
quiet_label a b c d aux_end t = refl
quiet_label a b c d header_end t = absurd t
quiet_label a b c d epoch t = refl
quiet_label a b c d block t = refl
quiet_label a b c d file_end t = refl
quiet_label a b c d (head i) t = refl
quiet_label a b c d (start k) t = refl
quiet_label a b c d (end k) t = refl

quiet_at : (k : ℕ) → k < 32 → ¬ (k ≡ 19) → ¬ (k ≡ 20) → ¬ (k ≡ 22) → T (quiet (get_or labels k version))
unfolding quiet
quiet_at k h a b c =
    rw (ne_eqb k 19 a, ne_eqb k 20 b, ne_eqb k 22 c) at (tested_at (λ k. (eqb k 19 || (eqb k 20 || eqb k 22)) || quiet (get_or labels k version)) 32 tt k h)

abbrev behind : ℤ → List ℕ → Placed → Option Label → ℤ × Placed
behind e r ps o = by_label (e, ps) (maps_of plain (exponent_in r) ps) (maps_of aux e ps) (maps_of plain e ps) o

module _ (l : List ℕ) (fits : length l ≤ 80) (k : ℕ) (is : k ≡ number_of l) (e : ℤ) where
  -- the label of a number
  pub passes_at : (j : ℕ) → k ≡ j → j < 32 → (a : Bool) → a ≡ false → (x y : Bool) (e' : ℤ)
      → ((ps : Placed) → behind e (pad l) ps (some (get_or labels j version)) ≡ cond x (e', ps) (maps_of (mode y) e' ps)) → Passes a e (pad l) (record { ended = x; aux = y; exponent = e' })
  unfolding maps_of
  passes_at j q h a z x y e' f at ps =
      let n : number_of l ≡ j = sym is ∙ q in
      ap (λ b. maps_of (mode b) e ((at, pad l) ∷ ps)) z ∙ ap (behind e (pad l) ps) (label_known l fits (omega arith) ∙ ap (λ (i : ℕ). some (get_or labels i version)) n) ∙ f ps

  -- every other number
  pub passes_other : ¬ (k ≡ 19) → ¬ (k ≡ 20) → ¬ (k ≡ 22) → (a : Bool) → a ≡ false → (e' : ℤ) → e' ≡ e → Passes a e (pad l) (record { ended = false; aux = false; exponent = e' })
  unfolding maps_of
  passes_other x y w a z e' v at ps = ap (λ b. maps_of (mode b) e ((at, pad l) ∷ ps)) z ∙ by (leb 32 k) refl ∙ ap (λ i. maps_of plain i ps) (sym v)
    where
      by : (t : Bool) → leb 32 k ≡ t → behind e (pad l) ps (label (pad l)) ≡ maps_of plain e ps
      by true q = ap (behind e (pad l) ps) (label_unknown l fits (omega (arith, leb-true 32 k q)))
      by false q =
          let h : k < 32 = omega (arith, leb-false 32 k q) in
          ap (behind e (pad l) ps) (label_known l fits (omega arith) ∙ ap (λ (i : ℕ). some (get_or labels i version)) (sym is))
          ∙ quiet_label _ _ _ _ (get_or labels k version) (quiet_at k h x y w)

  -- inside an aux block
  pub passes_aux : (a : Bool) → a ≡ true → (e' : ℤ) → e' ≡ e → (b : Bool) → b ≡ not (eqb k 21) → Passes a e (pad l) (record { ended = false; aux = b; exponent = e' })
  unfolding maps_of
  passes_aux a z e' v b y at ps = ap (λ b. maps_of (mode b) e ((at, pad l) ∷ ps)) z ∙ by (eqb k 21) refl ∙ ap (λ c. maps_of (mode c) e ps) (sym y) ∙ ap (λ i. maps_of (mode b) i ps) (sym v)
    where
      by : (t : Bool) → eqb k 21 ≡ t → maps_of aux e ((at, pad l) ∷ ps) ≡ maps_of (mode (not t)) e ps
      by true q =
          let n : drop 60 (pad l) ≡ name aux_end = named l fits (omega (arith, eqb-true k 21 q)) ∙ ap (λ i. get_or names i []) (sym is ∙ eqb-true k 21 q) ∙ (unfold names in refl) in
          pick_yes (same (drop 60 (pad l)) (name aux_end)) _ _ n
      by false q = pick_no (same (drop 60 (pad l)) (name aux_end)) _ _ (λ n. eqb-false k 21 q (is ∙ aux_number l fits n))

-- ---- a line

module _ (t : List ℕ) (at : ℕ) (inside : at < length t) (a : Bool) (e : ℤ) where
  pub walk_over : placed_from t at ≡ [] → (e' : ℤ) → e' ≡ e → Walks t at a e (record { at = length t; ended = false; aux = a; exponent = e' })
  walk_over n e' v =
      record { ahead = inside; within = omega arith; on = ap (maps_of (mode a) e) (n ∙ sym (end_rows t (length t) (omega arith))) ∙ ap (λ i. maps_of (mode a) i (placed_from t (length t))) (sym v) }

  pub walk_skip : (next : ℕ) → Skips (drop at t) next → (e' : ℤ) → e' ≡ e → Walks t at a e (record { at = at + next; ended = false; aux = a; exponent = e' })
  walk_skip next h e' v =
      record {
        ahead = omega (arith, h.ahead);
        within = skip_in t at (omega arith) next h;
        on = ap (maps_of (mode a) e) (skip_rows t at next h) ∙ ap (λ i. maps_of (mode a) i (placed_from t (at + next))) (sym v);
      }

  pub walk_row : (w next : ℕ) → Rows (drop at t) w next → (p : Past) → Passes a e (pad (take (at + w - at) (drop at t))) p → (e' : ℤ) → e' ≡ p.exponent
      → Walks t at a e (record { at = at + next; ended = p.ended; aux = p.aux; exponent = e' })
  walk_row w next h p k e' v =
      record {
        ahead = omega (arith, h.ahead);
        within = row_in t at (omega arith) w next h;
        on = ap (maps_of (mode a) e) (row_rows t at w next h) ∙ k at (placed_from t (at + next))
            ∙ ap (λ i. cond p.ended (i, placed_from t (at + next)) (maps_of (mode p.aux) i (placed_from t (at + next)))) (sym v);
      }

-- ---- the loop

pub record Heading (t : List ℕ) (w : Walk) : Type 0 where
  pub within : w.at ≤ length t
  pub goal : maps_of (mode w.aux) w.exponent (placed_from t w.at) ≡ maps_of plain (negsuc 0) (placed_from t 0)

module _ (t : List ℕ) (w : Walk) where
  pub heading_more : Heading t w → (v : Walk) → Walks t w.at w.aux w.exponent v → v.ended ≡ false → Heading t v
  heading_more h v k z =
      record { within = k.within; goal = sym (k.on ∙ ap (λ b. cond b (v.exponent, placed_from t v.at) (maps_of (mode v.aux) v.exponent (placed_from t v.at))) z) ∙ h.goal }

  pub heading_stop : Heading t w → (v : Walk) → Walks t w.at w.aux w.exponent v → v.ended ≡ true → Begins t v
  heading_stop h v k z =
      record { within = k.within; maps = sym (k.on ∙ ap (λ b. cond b (v.exponent, placed_from t v.at) (maps_of (mode v.aux) v.exponent (placed_from t v.at))) z) ∙ h.goal }

  pub heading_end : Heading t w → length t ≤ w.at → Begins t w
  unfolding maps_of
  heading_end h z = record { within = h.within; maps = ap (λ ps. (w.exponent, ps)) (end_rows t w.at z) ∙ none (mode w.aux) ∙ ap (maps_of (mode w.aux) w.exponent) (sym (end_rows t w.at z)) ∙ h.goal }
    where
      none : (a : _) → (w.exponent, []) ≡ maps_of a w.exponent []
      none plain = refl
      none aux = refl
