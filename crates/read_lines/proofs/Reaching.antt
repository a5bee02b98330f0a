-- From line to line, to the next row.
use mathlib.Core.Path.{◌≡◌, refl, sym, ap, ◌∙◌}
use mathlib.Core.List.{List}
use Prim.Native.Nat.{ℕ, suc, ◌+◌, ◌-◌, ◌≤◌}
use native.Mathlib.Omega.{arith}
use native.Mathlib.Numerals.{add-one}
use lib.ListN.{length, take, drop, drop_of_length-le}
use lib.Seq.{drop-drop}
use Rattle.layout.specs.Text.{pad}
use Rattle.reading.specs.Feed.{over, row, split, feed}
use Rattle.read_lines.specs.Lines.{Skips, Rows}
use Rattle.read_lines.specs.Leads.{LeadsOver, LeadsRow}

-- the lines from `from` to `at` were blank
pub record Reach (t : List ℕ) (from passed at n : ℕ) : Type 0 where
  pub after : from ≤ at
  pub within : at ≤ length t
  pub few : n ≤ at
  pub same : feed (suc passed) (split (drop from t)) ≡ feed (suc n) (split (drop at t))

at_end : (t : List ℕ) (at n : ℕ) → length t ≤ at → feed n (split (drop at t)) ≡ over n
at_end t at n h = ap (λ (x : List ℕ). feed n (split x)) (drop_of_length-le t h) ∙ (unfold split feed in refl)

module _ (t : List ℕ) (from passed at n : ℕ) (z : Reach t from passed at n) where
  pub ended : length t ≤ at → LeadsOver t from passed n
  ended h =
      let b = z.within in
      let c = z.few in
      record { few = omega arith; on = z.same ∙ at_end t at (suc n) h }

  pub skipped : (next : ℕ) → at + next ≤ length t → Skips (drop at t) next → Reach t from passed (at + next) (n + 1)
  skipped next w k =
      let a = k.ahead in
      let b = z.after in
      let c = z.few in
      record {
        after = omega arith;
        within = w;
        few = omega arith;
        same = z.same ∙ k.on (suc n) ∙ (λ i. feed (suc (sym (add-one n) i)) (split (drop-drop next at t i)));
      }

  pub leads : (w next : ℕ) → at + w ≤ length t → at + next ≤ length t → Rows (drop at t) w next → LeadsRow t from passed at (at + w) (at + next) n
  leads w next u v k =
      let a = k.ahead in
      let b = z.after in
      let c = z.few in
      let f = k.fits in
      let e : at + w - at ≡ w = omega arith in
      record {
        after = omega arith;
        inside = omega arith;
        fits = omega arith;
        whole = u;
        ahead = omega arith;
        behind = omega (arith, k.inside);
        within = v;
        passed = omega arith;
        on = z.same ∙ k.on (suc n) ∙ (λ i. row (suc n) (pad (take (sym e i) (drop at t))) (feed (suc (suc n)) (split (drop-drop next at t i))));
      }
