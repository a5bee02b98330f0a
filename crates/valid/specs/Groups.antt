-- The rules of `Valid` in the groups in which code looks at them: of each kind its values, and of all kinds the exponents.
use Rattle.std.specs.Prelude.{List, ℕ, ◌*◌, ◌≤◌, length, take, ℤ, pos, negsuc}
use Rattle.kit.specs.Answer.{All, pick, ×_dec, all_dec}
use Rattle.mapset.specs.declared.Kind.{Kind}
use Rattle.mapset.specs.declared.Kind.TheVariants.{Tec, Rms, Height}
use Rattle.mapset.specs.declared.Header.{Header}
use Rattle.mapset.specs.Grid.{columns, Limits}
use Rattle.mapset.specs.Areas.{Areas, nowhere?, blocks}
use Rattle.mapset.specs.Sound.{lengths, LengthsSay}
use Rattle.layout.specs.Layout.{Exponent, per_map, exponent?}
use Rattle.areas.specs.Value.{Value}
use Rattle.areas.specs.Nest.{third}
use Rattle.areas.specs.Valid.{needed, values_in, Blank}
use Rattle.areas.specs.ValidDecided.{value?, blank?}

-- the values of a kind, and that absent maps are 9999 under exponent -1; B blocks of C values to a map
abbrev KindSays : Kind → (B C : ℕ) → (marks : List ℕ) (vs es : List ℤ) → Type 0
KindSays k B C ms vs es = All Value vs × (Blank k (B * C) (pos 9999) ms vs × Blank k B (negsuc 0) ms es)

unfoldable pub kind? : (k : Kind) (B C : ℕ) (ms : List ℕ) (vs es : List ℤ) → Dec (KindSays k B C ms vs es)
kind? k B C ms vs es = ×_dec (all_dec value? vs) (×_dec (blank? k (B * C) (pos 9999) ms vs) (blank? k B (negsuc 0) ms es))

-- of the areas up to each need
abbrev pub OfKind : Header → Areas → Kind → Type 0
OfKind h a k = KindSays k (per_map h) (columns h.grid) (needed h a).marks (values_in k (needed h a)) (third k (blocks h) (needed h a).exponents)

abbrev pub of_kind? : (h : Header) (a : Areas) (k : Kind) → Dec (OfKind h a k)
of_kind? h a k = kind? k (per_map h) (columns h.grid) (needed h a).marks (values_in k (needed h a)) (third k (blocks h) (needed h a).exponents)

abbrev pub RestSays : Header → Areas → Type 0
RestSays h a = All Exponent (needed h a).exponents × (OfKind h a Tec × (OfKind h a Rms × OfKind h a Height))

unfoldable pub rest? : (h : Header) (a : Areas) → Dec (RestSays h a)
rest? h a = ×_dec (all_dec exponent? (needed h a).exponents) (×_dec (of_kind? h a Tec) (×_dec (of_kind? h a Rms) (of_kind? h a Height)))

-- ---- what the areas have to hold for that to be looked at

-- a kind with no map needs no value area
abbrev pub kind_need : Kind → (B C : ℕ) → List ℕ → ℕ
kind_need k B C ms = pick (nowhere? k ms) 0 (length ms * B * C)

-- of a kind's areas as they are lent: its values up to its need, and its exponents
abbrev pub kind_values : Kind → (B C : ℕ) (ms : List ℕ) (vs : List ℤ) → List ℤ
kind_values k B C ms vs = take (kind_need k B C ms) vs

abbrev pub kind_exponents : Kind → (B : ℕ) (ms : List ℕ) (es : List ℤ) → List ℤ
kind_exponents k B ms es = third k (length ms * B) es

pub record Holds (k : Kind) (B C : ℕ) (ms : List ℕ) (vs es : List ℤ) : Type 0 where
  pub maps : length ms ≤ 300
  pub blocks : B ≤ 64 * 361
  pub columns : C ≤ 721
  pub values : kind_need k B C ms ≤ length vs
  pub exponents : 3 * (length ms * B) ≤ length es

pub record Long (h : Header) (a : Areas) : Type 0 where
  pub maps : h.times.maps ≤ 300
  pub limits : Limits h.times.maps h.grid
  pub marks : h.times.maps ≤ length a.marks
  pub lengths : LengthsSay h (take h.times.maps a.marks) (lengths a)
