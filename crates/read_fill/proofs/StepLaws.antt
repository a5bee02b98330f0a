-- From one row to the next.
use mathlib.Core.Path.{◌≡◌, refl, sym, ap, ◌∙◌}
use mathlib.Core.List.{List, []}
use Prim.Native.Nat.{ℕ, ◌-◌, ◌≤◌, ◌<◌}
use native.Mathlib.Omega.{arith}
use lib.ListN.{length, take, drop, drop_of_length-le}
use Rattle.layout.specs.Text.{pad}
use Rattle.reading.specs.Feed.{split, feed}
use Rattle.read_lines.specs.Leads.{LeadsRow}
use Rattle.read_fill.specs.Rows.{rows_of, rows_from}
use Rattle.read_events.specs.Brings.{Takes}
use Rattle.read_fill.specs.Scan.{Turned, passed, taken}
use Rattle.read_events.specs.declared.State.{State}
use Rattle.read_events.specs.declared.Event.{Event}
use Rattle.read_events.specs.declared.Event.TheVariants.{Nothing}
use Rattle.read_fill.proofs.FeedLaws.{rows_row}

-- behind the text there are no rows
pub rows_end : (t : List ℕ) (at : ℕ) → length t ≤ at → rows_from t at ≡ []
unfolding rows_of feed split
rows_end t at h = ap (λ (l : List ℕ). rows_of (feed 1 (split l))) (drop_of_length-le t {i = at} h)

module _ (t : List ℕ) (at : ℕ) (s : State) (inside : at < length t) where
  pub over_turned : rows_from t at ≡ [] → Turned t at s (record { at = length t; event = Nothing; state = s })
  over_turned e = passed inside (omega arith) (e ∙ sym (rows_end t (length t) (omega arith))) refl refl

  pub row_turned : {start end next m : ℕ} → LeadsRow t at 0 start end next m → (ev : Event) (s' : State) → Takes s (pad (take (end - start) (drop start t))) ev s'
      → Turned t at s (record { at = next; event = ev; state = s' })
  row_turned h ev s' k = taken _ h.within (rows_row t at h) k
