-- A text and six areas: what comes of it.
use mathlib.Core.Path.{◌≡◌, sym, ap, ◌∙◌}
use mathlib.Core.List.{List}
use mathlib.Core.Option.{none, some}
use Prim.Native.Nat.{ℕ}
use lib.IntN.{ℤ}
use lib.ListN.{drop}
use Rattle.kit.specs.Answer.{refused}
use Rattle.mapset.specs.declared.Header.{Header}
use Rattle.mapset.specs.Described.{FullTexts}
use Rattle.mapset.specs.Grid.{columns}
use Rattle.mapset.specs.MapSet.{MapSet}
use Rattle.mapset.specs.Areas.{Areas}
use Rattle.layout.specs.Layout.{per_map}
use Rattle.reading.specs.declared.Why.{Why}
use Rattle.reading.specs.Read.{read}
use Rattle.areas.specs.Flat.{areas}
use Rattle.read_fill.specs.Filled as filled
use Rattle.read_fill.specs.Filled.{Enough}
use Rattle.read_outcome.specs.Outcome.{no_texts, accepted, at_place, eleven, with_room, outcome_of, outcome}
use Rattle.read_needs.specs.Needs.{lengths, pairs, needed_and_lent, first_short, needs_of}
use Rattle.read_judge.specs.Scanned.{set_of, Accepts}
use Rattle.read_judge.proofs.NeedLaws.{formed, need_by}
use Rattle.read_needs.specs.declared.Elements.{Elements}
use Rattle.read_needs.specs.declared.Others.{Others}
use Rattle.read_needs.proofs.ShortLaws.{all_long}

-- ---- a refusal leaves all areas as found
pub outcome_refused : (t : List ℕ) (l : Areas) (w : Why) → read t ≡ refused w → record { told = at_place w.number w.line w.column; texts = no_texts; areas = l } ≡ outcome t l
unfolding outcome_of
outcome_refused t l w e = sym (ap (λ r. outcome_of r l) e)

module _ (t : List ℕ) (x : FullTexts) (h : Header) (e : ℤ) (at : ℕ) (o : Others) (a : Accepts t x h e at o) where
  abbrev m : MapSet
  m = set_of h x a.maps

  outcome_is : (l : Areas) → outcome t l ≡ with_room m l (first_short 1 (needed_and_lent (areas m) l))
  unfolding outcome_of
  outcome_is l = ap (λ r. outcome_of r l) a.reads

  -- ---- by the code's own numbers
  module _ {n B C : ℕ} (p : n ≡ h.times.maps) (q : B ≡ per_map h) (r : C ≡ columns h.grid) {N : Elements} (s : N ≡ needs_of n B C o) where
    need_is : N ≡ lengths (areas m)
    need_is = need_by t x h e at o a p q r s

    -- 11
    pub short_by : (l : Areas) (i k : ℕ) → first_short 1 (pairs N (lengths l)) ≡ some (i, k) → record { told = eleven i k; texts = no_texts; areas = l } ≡ outcome t l
    unfolding with_room
    short_by l i k f = sym (outcome_is l ∙ ap (with_room m l) (rw need_is at f))

    -- what the second scan asks for
    pub readable_by : filled.Accepted n B C N.rms N.height e (drop at t) m
    readable_by =
        record {
          formed = formed t x h e at o a;
          maps = sym p;
          blocks = sym q;
          columns = sym r;
          line = a.line;
          read = a.behind;
          rms = ap (λ z. z.rms) (sym need_is);
          height = ap (λ z. z.height) (sym need_is);
        }

    module _ (l : Areas) (none_short : first_short 1 (pairs N (lengths l)) ≡ none) where
      pub enough_by : Enough n B C N.rms N.height l
      enough_by =
          let z = all_long 1 _ (rw s at none_short) in
          rw s (record { tec = z.0; rms = z.1.0; height = z.1.1.0; exponents = z.1.1.1.0; epochs = z.1.1.1.1.0; marks = z.1.1.1.1.1.0 })

      pub stored_by : (l' : Areas) → filled.Filled n B C N.rms N.height e (drop at t) l l' → record { told = accepted h; texts = x; areas = l' } ≡ outcome t l
      unfolding with_room
      stored_by l' f =
          ap (λ z. record { told = accepted h; texts = x; areas = z }) (f m readable_by) ∙ sym (outcome_is l ∙ ap (with_room m l) (rw need_is at none_short))
