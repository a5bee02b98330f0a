-- What the parts of the code ask for and answer: on lists and numbers up to `stored`, then in the words of `join_into`.
use Rattle.std.specs.Prelude.{Result, Ok, Err, ◌≡◌, Bool, true, false, ◌||◌, cond, List, ◌++◌, ℕ, ◌+◌, ◌-◌, ◌*◌, ◌≤◌, length, take, ℤ}
use Rattle.std.proofs.Math.Option.{Option, none, some}
use Rattle.kit.specs.Answer.{Answer, ok, refused, pick}
use Rattle.kit.specs.Lists.{front}
use Rattle.mapset.specs.declared.Kind.{Kind}
use Rattle.mapset.specs.declared.Kind.TheVariants.{Rms, Height}
use Rattle.mapset.specs.declared.Header.{Header}
use Rattle.mapset.specs.declared.Times.{Times}
use Rattle.mapset.specs.Described.{FullTexts}
use Rattle.mapset.specs.Grid.{Limits, columns}
use Rattle.mapset.specs.Areas.{Areas, nowhere?}
use Rattle.read_needs.specs.Needs.{lengths, first_short, needs_of, pairs}
use Rattle.read_needs.specs.declared.Others.{Others}
use Rattle.join_lists.specs.Lists.{values_of_two, thirds_of_two}
use Rattle.join.specs.Join.{header_from}
use Rattle.join.specs.Into.{Lent, lent_of, Why, because, short, lent_join, left, MayLent}
use Rattle.join_areas.specs.declared.Refusal.{Refusal}
use Rattle.join_areas.specs.declared.Refusal.TheVariants.{NotValid, Unlike, Apart, TooMany, AreaTooShort}
use Rattle.layout.specs.Layout.{per_map}

-- ---- kinds

-- some map of the kind is there
abbrev pub some_of : Kind → List ℕ → Bool
some_of k ms = pick (nowhere? k ms) false true

-- in the one or in the other
abbrev pub kinds_left : (early late : List ℕ) → Others
kinds_left ms ns = record { rms = some_of Rms ms || some_of Rms ns; height = some_of Height ms || some_of Height ns }

-- of sets with the marks ms and ns: all maps of the earlier but its last, then all of the later; w values to a map
abbrev pub kept : List ℕ → ℕ
kept ms = length ms - 1

abbrev pub some_left : Kind → (early late : List ℕ) → Bool
some_left k ms ns = some_of k (take (kept ms) ms) || some_of k ns

abbrev pub kind_beside : Kind → ℕ → (early late : List ℕ) → (a b : List ℤ) → List ℤ
kind_beside k w ms ns a b = values_of_two (some_left k ms ns) (some_of k ms) (some_of k ns) (kept ms * w) (length ns * w) a b

pub record KindFits (k : Kind) (w : ℕ) (ms ns : List ℕ) (a b l : List ℤ) : Type 0 where
  pub maps : 1 ≤ length ms
  pub small : kept ms * w + length ns * w ≤ 2000000
  pub early : cond (some_of k ms) (kept ms * w) 0 ≤ length a
  pub late : cond (some_of k ns) (length ns * w) 0 ≤ length b
  pub room : cond (some_left k ms ns) (kept ms * w + length ns * w) 0 ≤ length l

-- ---- the six areas; m and n maps of B blocks of C values
pub record Fillable (m n B C : ℕ) (a b l : Areas) : Type 0 where
  pub maps : 1 ≤ m
  pub width : B * C ≤ 2000000
  pub values : (m - 1) * (B * C) + n * (B * C) ≤ 2000000
  pub blocks : m * B ≤ 2000000
  pub other_blocks : n * B ≤ 2000000
  pub tec : ((m - 1) * (B * C) ≤ length a.tec) × (n * (B * C) ≤ length b.tec) × ((m - 1) * (B * C) + n * (B * C) ≤ length l.tec)
  pub rms : KindFits Rms (B * C) (take m a.marks) (take n b.marks) a.rms b.rms l.rms
  pub height : KindFits Height (B * C) (take m a.marks) (take n b.marks) a.height b.height l.height
  pub exponents : ((m - 1) * B ≤ m * B) × (3 * (m * B) ≤ length a.exponents) × (3 * (n * B) ≤ length b.exponents) × (3 * ((m - 1) * B + n * B) ≤ length l.exponents)
  pub epochs : (m - 1 ≤ length a.epochs) × (n ≤ length b.epochs) × (m - 1 + n ≤ length l.epochs)
  pub marks : (m ≤ length a.marks) × (n ≤ length b.marks) × (m - 1 + n ≤ length l.marks)

unfoldable pub all_beside : (m n B C : ℕ) (a b l : Areas) → Areas
all_beside m n B C a b l =
    record {
      tec = front (values_of_two true true true ((m - 1) * (B * C)) (n * (B * C)) a.tec b.tec) l.tec;
      rms = front (kind_beside Rms (B * C) (take m a.marks) (take n b.marks) a.rms b.rms) l.rms;
      height = front (kind_beside Height (B * C) (take m a.marks) (take n b.marks) a.height b.height) l.height;
      exponents = front (thirds_of_two ((m - 1) * B) (m * B) (n * B) a.exponents b.exponents) l.exponents;
      epochs = front (take (m - 1) a.epochs ++ take n b.epochs) l.epochs;
      marks = front (take (m - 1) a.marks ++ take n b.marks) l.marks;
    }

-- ---- two sets that may be joined

-- n of both
abbrev pub count_of : Times → Header → ℕ
count_of e h = e.maps - 1 + h.times.maps

-- the first area too short for both sets
abbrev pub short_of : (early : Times) (late : Header) (a b l : Areas) → Option (ℕ × ℕ)
short_of e h a b l =
    first_short 1 (pairs (needs_of (count_of e h) (per_map h) (columns h.grid) (kinds_left (take (e.maps - 1) a.marks) (take h.times.maps b.marks))) (lengths l))

pub record Ready (early : Times) (late : Header) (a b : Areas) : Type 0 where
  pub maps : 1 ≤ early.maps
  pub few : early.maps ≤ 300
  pub few_late : late.times.maps ≤ 300
  pub limits : Limits (count_of early late) late.grid
  pub marks : early.maps ≤ length a.marks
  pub marks_late : late.times.maps ≤ length b.marks
  -- whatever has the room can be filled
  pub fits : (l : Areas) → short_of early late a b l ≡ none → Fillable early.maps late.times.maps (per_map late) (columns late.grid) a b l

pub record Put : Type 0 where
  pub answer : Result Header Refusal
  pub areas : Areas

abbrev pub puts : Result Header Refusal → Areas → Put
puts r l = record { answer = r; areas = l }

unfoldable pub by_room : (early : Times) (late : Header) (a b l : Areas) → Option (ℕ × ℕ) → Put
by_room e h a b l none = puts (Ok (header_from e h)) (all_beside e.maps h.times.maps (per_map h) (columns h.grid) a b l)
by_room e h a b l (some s) = puts (Err (AreaTooShort s.0 s.1)) l

unfoldable pub stored : (early : Times) (late : Header) (a b l : Areas) → Put
stored e h a b l = by_room e h a b l (short_of e h a b l)

-- ---- in the words of `join_into`
abbrev pub told_why : Refusal → Why
told_why NotValid = because 31
told_why Unlike = because 40
told_why Apart = because 41
told_why TooMany = because 42
told_why (AreaTooShort a n) = short a n

-- the refusals but for 11
abbrev pub Said : (earlier later : Lent) → Result (Unit {0}) Refusal → Type 0
Said x y (Ok u) = MayLent x y
Said x y (Err w) = lent_join x y ≡ refused (told_why w)

-- what is answered, and what is then in the areas
pub record Outcome : Type 0 where
  pub told : Answer Why Lent
  pub areas : Areas

-- of the code's answer: the joined set has the later texts t
abbrev pub comes : Result Header Refusal → FullTexts → Areas → Outcome
comes (Ok h) t l = record { told = ok (lent_of h t l); areas = l }
comes (Err w) t l = record { told = refused (told_why w); areas = l }

abbrev pub came : Answer Why Lent → Areas → Outcome
came o l = record { told = o; areas = left o l }
