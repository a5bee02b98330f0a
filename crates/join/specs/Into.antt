-- 02, Ask 11: two map sets as they are lent, joined into six lent areas.
use Rattle.std.proofs.Math.Option.{Option, none, some}
use Rattle.std.specs.Prelude.{ℕ, ◌≡◌}
use Rattle.kit.specs.Answer.{Answer, ok, refused, need, bind}
use Rattle.mapset.specs.declared.Header.{Header}
use Rattle.mapset.specs.Described.{FullTexts}
use Rattle.mapset.specs.MapSet.{MapSet}
use Rattle.mapset.specs.Areas.{Areas}
use Rattle.mapset.specs.SoundDecided.{sound?}
use Rattle.areas.specs.Flat.{areas}
use Rattle.areas.specs.Fronts.{fronts}
use Rattle.areas.specs.Valid.{Valid}
use Rattle.areas.specs.ValidDecided.{valid?}
use Rattle.areas.specs.Nesting.{nested}
use Rattle.read_needs.specs.Needs.{needed_and_lent, first_short}
use Rattle.join.specs.Join.{count, joined, alike?, meet?, in_limits?, MayJoin}
use Rattle.areas.specs.Formed.{Formed}

-- a header record, its texts, and six areas that may be longer than needed
pub record Lent : Type 0 where
  pub header : Header
  pub texts : FullTexts
  pub areas : Areas

abbrev pub lent_of : Header → FullTexts → Areas → Lent
lent_of h t a = record { header = h; texts = t; areas = a }

-- the map set in front of areas, and behind it what was there
abbrev pub lent : MapSet → Areas → Lent
lent m l = lent_of m.header m.texts (fronts (areas m) l)

abbrev pub IsValid : Lent → Type 0
IsValid x = Valid x.header x.texts x.areas

unfoldable pub is_valid? : (x : Lent) → Dec (IsValid x)
is_valid? x = valid? x.header x.texts x.areas (sound? x.header x.texts x.areas)

-- the map set that valid areas hold
abbrev pub meaning : Lent → MapSet
meaning x = nested x.header x.texts x.areas

-- a number, or 11 with the area and the elements it needs
pub data Why : Type 0 where
  because : ℕ → Why
  short : (area need : ℕ) → Why

unfoldable pub with_room : MapSet → Areas → Option (ℕ × ℕ) → Answer Why Lent
with_room m l none = ok (lent m l)
with_room m l (some s) = refused (short s.0 s.1)

-- the refusals in order; 40, 41 and 42 are told from the headers alone
unfoldable pub lent_join : (earlier later : Lent) → Answer Why MapSet
lent_join x y =
    need (is_valid? x) (because 31)
    (need (is_valid? y) (because 31)
    (need (alike? x.header y.header) (because 40)
    (need (meet? x.header y.header) (because 41)
    (need (in_limits? (count x.header y.header) y.header.grid) (because 42)
    (ok (joined (meaning x) (meaning y)))))))

unfoldable pub join_into : (earlier later : Lent) → Areas → Answer Why Lent
join_into x y l = bind (lent_join x y) (λ m. with_room m l (first_short 1 (needed_and_lent (areas m) l)))

-- what is then in the areas: a refusal leaves them as found
unfoldable pub left : Answer Why Lent → Areas → Areas
left (ok x) l = x.areas
left (refused w) l = l

pub record MayLent (x y : Lent) : Type 0 where
  pub earlier : IsValid x
  pub later : IsValid y
  pub join : MayJoin (meaning x) (meaning y)

-- ---- areas that are large enough for every map set
abbrev pub Large : Areas → Type 0
Large l = (m : MapSet) → Formed m → first_short 1 (needed_and_lent (areas m) l) ≡ none
