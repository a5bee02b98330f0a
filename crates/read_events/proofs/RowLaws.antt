-- What a row brings, by its label's number.
use mathlib.Core.Path.{◌≡◌, refl, sym, ap, ◌∙◌}
use mathlib.Core.Bool.{Bool, true, false, ◌||◌}
use mathlib.Core.Option.{Option, some}
use mathlib.Core.List.{List, [], ◌∷◌}
use Prim.Native.Nat.{ℕ, ◌≤◌, ◌<◌}
use native.Mathlib.Omega.{arith}
use lib.ListN.{length, get_or}
use lib.Dec.{T, eqb, leb}
use lib.IntN.{ℤ, nat_abs}
use Rattle.kit.proofs.TruthLaws.{tested_at}
use Rattle.mapset.specs.declared.Kind.{Kind}
use Rattle.mapset.specs.declared.Kind.TheVariants.{Tec, Rms, Height}
use Rattle.layout.specs.Layout.{Other}
use Rattle.areas.specs.Events as event
use borrow.Author.Tests.{ne_eqb, leb-true, leb-false}
use Rattle.layout.specs.Text.{pad}
use Rattle.layout.specs.Labels.{Label, version, description, comment, system, exponent, aux_start, aux_end, header_end, epoch, block, file_end, head, start, end, labels}
use Rattle.layout.specs.Names.{number_of}
use Rattle.reading.specs.Fields.{label, fields}
use Rattle.reading.proofs.LabelLaws.{label_known, label_unknown}
use Rattle.areas.specs.Scan.{Now, now, goes, exponent_in, on_start, turn}
use Rattle.read_events.specs.Brings.{told, turned, Takes, Goes}
use Rattle.read_events.specs.declared.State.{State}
use Rattle.read_events.specs.declared.Event.{Event}
use Rattle.read_events.specs.declared.Event.TheVariants.{Nothing, Marked}

-- ---- the labels that bring nothing

quiet : Label → Bool
quiet version = true
quiet description = true
quiet comment = true
quiet system = true
quiet exponent = false
quiet aux_start = true
quiet aux_end = true
quiet header_end = true
quiet epoch = false
quiet block = false
quiet file_end = true
quiet (head i) = true
quiet (start k) = false
quiet (end k) = true

quiet_turn : (C : ℕ) (s : Now) (l : Label) (r : List ℕ) (rs : List (List ℕ)) → T (quiet l) → turn C s (some l) r rs ≡ goes [] s
unfolding quiet
quiet_turn C s version r rs t = refl
quiet_turn C s description r rs t = refl
quiet_turn C s comment r rs t = refl
quiet_turn C s system r rs t = refl
quiet_turn C s exponent r rs t = absurd t
quiet_turn C s aux_start r rs t = refl
quiet_turn C s aux_end r rs t = refl
quiet_turn C s header_end r rs t = refl
quiet_turn C s epoch r rs t = absurd t
quiet_turn C s block r rs t = absurd t
quiet_turn C s file_end r rs t = refl
quiet_turn C s (head i) r rs t = refl
quiet_turn C s (start k) r rs t = absurd t
quiet_turn C s (end k) r rs t = refl

abbrev listed : ℕ → Bool
listed k = eqb k 19 || (eqb k 23 || (eqb k 25 || (eqb k 27 || (eqb k 29 || eqb k 30))))

quiet_at : (k : ℕ) → k < 32 → ¬ (k ≡ 19) → ¬ (k ≡ 23) → ¬ (k ≡ 25) → ¬ (k ≡ 27) → ¬ (k ≡ 29) → ¬ (k ≡ 30) → T (quiet (get_or labels k version))
unfolding quiet
quiet_at k h a b c d e f =
    rw (ne_eqb k 19 a, ne_eqb k 23 b, ne_eqb k 25 c, ne_eqb k 27 d, ne_eqb k 29 e, ne_eqb k 30 f) at (tested_at (λ k. listed k || quiet (get_or labels k version)) 32 tt k h)

module _ (line : List ℕ) (fits : length line ≤ 80) (k : ℕ) (is : k ≡ number_of line) (s : State) where
  -- the label of a number
  pub takes_at : (j : ℕ) → k ≡ j → j < 32 → (ev : Event) (s' : State)
      → ((C : ℕ) (rs : List (List ℕ)) → turn C (told s) (some (get_or labels j version)) (pad line) rs ≡ turned C rs ev s') → Takes s (pad line) ev s'
  takes_at j e h ev s' t C rs =
      let n : number_of line ≡ j = sym is ∙ e in
      ap (λ (o : Option Label). turn C (told s) o (pad line) rs) (label_known line fits (omega arith) ∙ ap (λ (i : ℕ). some (get_or labels i version)) n) ∙ t C rs

  -- every other number
  pub takes_none : ¬ (k ≡ 19) → ¬ (k ≡ 23) → ¬ (k ≡ 25) → ¬ (k ≡ 27) → ¬ (k ≡ 29) → ¬ (k ≡ 30) → Takes s (pad line) Nothing s
  takes_none a b c d e f C rs = by (leb 32 k) refl
    where
      by : (t : Bool) → leb 32 k ≡ t → turn C (told s) (label (pad line)) (pad line) rs ≡ turned C rs Nothing s
      by true q = ap (λ (o : Option Label). turn C (told s) o (pad line) rs) (label_unknown line fits (omega (arith, leb-true 32 k q)))
      by false q =
          let l : k < 32 = omega (arith, leb-false 32 k q) in
          ap (λ (o : Option Label). turn C (told s) o (pad line) rs) (label_known line fits (omega arith) ∙ ap (λ (i : ℕ). some (get_or labels i version)) (sym is))
          ∙ quiet_turn C (told s) (get_or labels k version) (pad line) rs (quiet_at k l a b c d e f)

-- ---- where a START of another kind leads

pub started : (s : State) (k : Kind) → Other k → (r : List ℕ) {i : ℕ} {e : ℤ} → i ≡ nat_abs (exponent_in r) → e ≡ s.exponent
    → Goes (on_start (told s) k r) (record { event = Marked k i; state = record { kind = k; number = i; done = 0; exponent = e; tecs = s.tecs } })
unfolding fields
started s Tec o r n e C rs = absurd o
started s Rms o r n e C rs = λ j. goes (event.marked Rms (sym n j) ∷ []) (now Rms (sym n j) 0 (sym e j) s.tecs)
started s Height o r n e C rs = λ j. goes (event.marked Height (sym n j) ∷ []) (now Height (sym n j) 0 (sym e j) s.tecs)
