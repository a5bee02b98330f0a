-- The same of lent areas, which may be longer than needed.
use mathlib.Core.Path.{◌≡◌, sym, ap, ◌∙◌}
use mathlib.Core.List.{map}
use Prim.Native.Nat.{ℕ, ◌-◌, ◌≤◌}
use native.Mathlib.Omega.{arith}
use lib.IntN.{ℤ}
use lib.ListN.{take}
use lib.Seq.{get_or-take}
use Rattle.mapset.specs.MapSet.{MapSet}
use Rattle.mapset.specs.Areas.{Areas}
use Rattle.areas.specs.Flat.{areas_of, areas}
use Rattle.areas.specs.Fronts.{fronts}
use Rattle.areas.specs.Valid.{needed, Valid}
use Rattle.areas.specs.Formed.{Formed}
use Rattle.areas.proofs.ValidFormed.{nested_formed, nested_areas, needed_fronts, fronts_valid}
use Rattle.ask_spans.specs.Time.{epoch}
use Rattle.ask.specs.Ask.{Question, Told, Served, question, Answers}
use Rattle.join.specs.Join.{joined}
use Rattle.join.proofs.JoinedFormed.{joined_formed}
use Rattle.join.specs.Into.{Lent, lent, meaning, MayLent}
use Rattle.join_ask.proofs.AskJoined.{asking, all_needed, formed_valid, ask_late, ask_early}
use Rattle.join_ask.proofs.Fronts.{answers_same, served_same}

-- ---- lent map sets
abbrev pub asking_lent : Lent → (kind method layer : ℕ) (lat lon : ℤ) (second : ℕ) → Question
asking_lent x = question x.header x.texts x.areas

module _ (x y : Lent) (m : MayLent x y) (l : Areas) (kind method layer : ℕ) (lat lon : ℤ) (second : ℕ) where
  abbrev whole : MapSet
  whole = joined (meaning x) (meaning y)

  is_formed : Formed whole
  is_formed = joined_formed (meaning x) (meaning y) m.join

  to_whole : (r : Told) → Answers (asking whole kind method layer lat lon second) r → Answers (asking_lent (lent whole l) kind method layer lat lon second) r
  to_whole =
      answers_same whole.header whole.texts (areas whole) (fronts (areas whole) l) (formed_valid whole is_formed) (fronts_valid whole is_formed l)
      (sym (all_needed whole is_formed) ∙ sym (needed_fronts whole is_formed l)) kind method layer lat lon second

  -- what is said of the lent areas, said of the map sets that they hold
  module _ (z : Lent) (v : Valid z.header z.texts z.areas) where
    own_formed : Formed (meaning z)
    own_formed = nested_formed z.header z.texts z.areas v

    agree : needed z.header z.areas ≡ needed z.header (areas (meaning z))
    agree = sym (nested_areas z.header z.texts z.areas v) ∙ all_needed (meaning z) own_formed

    meant : (r : Told) → Answers (asking_lent z kind method layer lat lon second) r → Answers (asking (meaning z) kind method layer lat lon second) r
    meant = answers_same z.header z.texts z.areas (areas (meaning z)) v (formed_valid (meaning z) own_formed) agree kind method layer lat lon second

    meant_served : Served (asking_lent z kind method layer lat lon second) → Served (asking (meaning z) kind method layer lat lon second)
    meant_served = served_same z.header z.texts z.areas (areas (meaning z)) v (formed_valid (meaning z) own_formed) agree kind method layer lat lon second

  earlier_epochs : map (λ t. t.epoch) (meaning x).maps.tec ≡ take x.header.times.maps x.areas.epochs
  unfolding areas_of needed
  earlier_epochs = ap (λ s. s.epochs) (nested_areas x.header x.texts x.areas m.earlier)

  -- where neither set gives 24
  module _ (sx : Served (asking_lent x kind method layer lat lon second)) (sy : Served (asking_lent y kind method layer lat lon second)) where
    pub ask_lent_late : y.header.times.first ≤ second → (r : Told) → Answers (asking_lent y kind method layer lat lon second) r → Answers (asking_lent (lent whole l) kind method layer lat lon second) r
    ask_lent_late from r z =
        to_whole r (ask_late (meaning x) (meaning y) m.join kind method layer lat lon second (meant_served x m.earlier sx) (meant_served y m.later sy) from r
        (meant y m.later r z))

    pub ask_lent_early : 2 ≤ x.header.times.maps → second ≤ epoch x.areas.epochs (x.header.times.maps - 1 - 1) → (r : Told)
        → Answers (asking_lent x kind method layer lat lon second) r → Answers (asking_lent (lent whole l) kind method layer lat lon second) r
    ask_lent_early two to r z =
        to_whole r (ask_early (meaning x) (meaning y) m.join kind method layer lat lon second (meant_served x m.earlier sx) (meant_served y m.later sy) two
        (rw (earlier_epochs, get_or-take x.header.times.maps x.areas.epochs (x.header.times.maps - 1 - 1) 0 (omega arith)) to) r
        (meant x m.earlier r z))
