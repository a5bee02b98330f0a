-- Valid lists are exactly those that a formed map set gives, and one only.
use mathlib.Core.Path.{◌≡◌, refl, sym, ap, ◌∙◌}
use mathlib.Core.Logic.{◌↔◌}
use mathlib.Core.List.{List, [], ◌∷◌, map}
use Prim.Native.Nat.{ℕ, zero, suc, ◌*◌, ◌≤◌}
use native.Mathlib.Omega.{arith}
use lib.ListN.{length, take, drop}
use lib.Seq.{length-take-le, take_at}
use Rattle.mapset.specs.declared.Kind.TheVariants.{Rms, Height}
use Rattle.mapset.specs.declared.Header.{Header}
use Rattle.mapset.specs.Described.{FullTexts}
use Rattle.mapset.specs.Grid.{columns}
use Rattle.mapset.specs.MapSet.{MapSet}
use Rattle.mapset.specs.Areas.{Areas, blocks, values, value_need, Room, EpochRules}
use Rattle.layout.specs.Layout.{per_map}
use Rattle.areas.specs.Flat.{areas_of, areas}
use Rattle.areas.specs.Formed.{Formed}
use Rattle.areas.specs.Nest.{nest}
use Rattle.kit.specs.Lists.{front}
use Rattle.areas.specs.Fronts.{fronts}
use Rattle.areas.specs.Valid.{needed, Valid}
use Rattle.areas.proofs.Needs.{needs}
use Rattle.areas.proofs.Unnested.{Sixfold, epochs_back, nest_rules, areas_nest}
use Rattle.areas.proofs.Nested.{areas_sixfold, nest_areas}
use Rattle.areas.specs.Nesting.{nested}

module _ (h : Header) (t : FullTexts) (a : Areas) (v : Valid h t a) where
  whole : Sixfold h.times.maps (per_map h) (columns h.grid) (needed h a)
  unfolding needed
  whole =
      let r : Room h (take h.times.maps a.marks) a = v.sound.room in
      record {
        tec = length-take-le (values h) a.tec r.tec;
        rms = length-take-le (value_need Rms h (take h.times.maps a.marks)) a.rms r.rms;
        height = length-take-le (value_need Height h (take h.times.maps a.marks)) a.height r.height;
        exponents = length-take-le (3 * blocks h) a.exponents r.exponents;
        epochs = length-take-le h.times.maps a.epochs r.epochs;
        marks = length-take-le h.times.maps a.marks r.marks;
        low = v.sound.marks;
        in_values = v.values;
        in_exponents = v.exponents;
        no_values = v.no_values;
        no_exponents = v.no_exponents;
      }

  nested_epochs : EpochRules h (map (λ t. t.epoch) (nest h.times.maps (per_map h) (columns h.grid) (needed h a)).tec)
  unfolding nest needed
  nested_epochs = rw (epochs_back h.times.maps (per_map h) (columns h.grid) (needed h a) whole) v.sound.epochs

  pub nested_formed : Formed (nested h t a)
  nested_formed = record { header = v.sound.header; epochs = nested_epochs; maps = nest_rules h.times.maps (per_map h) (columns h.grid) (needed h a) whole }

  pub nested_areas : areas (nested h t a) ≡ needed h a
  nested_areas = areas_nest h.times.maps (per_map h) (columns h.grid) (needed h a) whole

-- ---- and of a formed map set

take_short : {A : Type 0} (k : ℕ) (l : List A) → length (take k l) ≤ length l
take_short zero l = omega arith
take_short (suc k) [] = omega arith
take_short (suc k) (x ∷ l) = let i = take_short k l in omega arith

full_take : {A : Type 0} (k : ℕ) (l : List A) → length (take k l) ≡ k → k ≤ length l
full_take k l e = omega (arith, take_short k l)

module _ (m : MapSet) (f : Formed m) (a : Areas) (e : areas m ≡ needed m.header a) where
  six : Sixfold m.header.times.maps (per_map m.header) (columns m.header.grid) (needed m.header a)
  six = rw e at (areas_sixfold m.header.times.maps (per_map m.header) (columns m.header.grid) m.maps f.maps)

  same_epochs : map (λ t. t.epoch) m.maps.tec ≡ take m.header.times.maps a.epochs
  unfolding areas_of needed
  same_epochs = ap (λ x. x.epochs) e

  formed_valid : Valid m.header m.texts a
  unfolding needed
  formed_valid =
      let h : Header = m.header in
      record {
        sound = record {
          header = f.header;
          room = record {
            tec = full_take (values h) a.tec six.tec;
            rms = full_take (value_need Rms h (take h.times.maps a.marks)) a.rms six.rms;
            height = full_take (value_need Height h (take h.times.maps a.marks)) a.height six.height;
            exponents = full_take (3 * blocks h) a.exponents six.exponents;
            epochs = full_take h.times.maps a.epochs six.epochs;
            marks = full_take h.times.maps a.marks six.marks;
          };
          epochs = rw same_epochs at f.epochs;
          marks = six.low;
        };
        values = six.in_values;
        exponents = six.in_exponents;
        no_values = six.no_values;
        no_exponents = six.no_exponents;
      }

-- ---- the theorems

pub valid_formed : (h : Header) (t : FullTexts) (a : Areas) → (Valid h t a) ↔ ((m : MapSet) × Formed m × (m.header ≡ h) × (m.texts ≡ t) × (areas m ≡ needed h a))
valid_formed h t a = (
  λ v. (nested h t a, nested_formed h t a v, refl, refl, nested_areas h t a v),
  λ g. let (m, f, p, q, e) = g in rw (p, q) at (formed_valid m f a (e ∙ ap (λ h. needed h a) (sym p))),
)

pub areas_once : (m m' : MapSet) → Formed m → Formed m' → m.header ≡ m'.header → m.texts ≡ m'.texts → areas m ≡ areas m' → m ≡ m'
areas_once m m' f f' p q e =
    λ i. record {
      header = p i;
      texts = q i;
      maps = (sym (nest_areas m.header.times.maps (per_map m.header) (columns m.header.grid) m.maps f.maps)
          ∙ (λ j. nest (p j).times.maps (per_map (p j)) (columns (p j).grid) (e j))
          ∙ nest_areas m'.header.times.maps (per_map m'.header) (columns m'.header.grid) m'.maps f'.maps) i;
    }

-- what reading leaves in longer areas is valid, with the map set's own lists in front

module _ (m : MapSet) (f : Formed m) (l : Areas) where
  pub needed_fronts : needed m.header (fronts (areas m) l) ≡ areas m
  unfolding needed fronts
  needed_fronts =
      let x = needs m f in
      let ms : take m.header.times.maps (front (areas m).marks l.marks) ≡ (areas m).marks = take_at (areas m).marks _ _ x.marks in
      λ i. record {
        tec = take_at (areas m).tec (drop (length (areas m).tec) l.tec) (values m.header) x.tec i;
        rms = (ap (λ s. take (value_need Rms m.header s) (front (areas m).rms l.rms)) ms ∙ take_at (areas m).rms (drop (length (areas m).rms) l.rms) _ x.rms) i;
        height = (ap (λ s. take (value_need Height m.header s) (front (areas m).height l.height)) ms ∙ take_at (areas m).height (drop (length (areas m).height) l.height) _ x.height) i;
        exponents = take_at (areas m).exponents (drop (length (areas m).exponents) l.exponents) (3 * blocks m.header) x.exponents i;
        epochs = take_at (areas m).epochs (drop (length (areas m).epochs) l.epochs) m.header.times.maps x.epochs i;
        marks = ms i;
      }

  pub fronts_valid : Valid m.header m.texts (fronts (areas m) l)
  fronts_valid = formed_valid m f (fronts (areas m) l) (sym needed_fronts)
