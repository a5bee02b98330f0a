-- What the second scan does with the lent areas: it clears what is needed, and then stores event by event.
use Rattle.std.specs.Prelude.{Bool, true, false, cond, List, [], ◌∷◌, ◌++◌, ◌≡◌, ℕ, ◌+◌, ◌-◌, ◌*◌, ◌≤◌, ◌<◌, length, replicate, get_or, set, drop, ℤ, pos, negsuc}
use Rattle.std.proofs.lemmas.List.Edits.{sets}
use Rattle.kit.specs.Answer.{All, pick}
use Rattle.mapset.specs.declared.Kind.{Kind}
use Rattle.mapset.specs.declared.Kind.TheVariants.{Tec, Rms, Height}
use Rattle.mapset.specs.MapSet.{Block, MapSet}
use Rattle.mapset.specs.Grid.{columns}
use Rattle.mapset.specs.Areas.{Areas, present?, value_need, Room, first_of}
use Rattle.layout.specs.Layout.{per_map}
use Rattle.areas.specs.Flat.{mark, areas}
use Rattle.areas.specs.Events.{Event, epoch, marked, block}
use Rattle.areas.specs.Places.{before, place}
use Rattle.areas.specs.Fronts.{fronts}

abbrev pub is : Kind → Kind → Bool
is Tec Tec = true
is Tec Rms = false
is Tec Height = false
is Rms Tec = false
is Rms Rms = true
is Rms Height = false
is Height Tec = false
is Height Rms = false
is Height Height = true

-- ---- the stores

-- w elements of each block of the kind k
abbrev pub put : {A : Type 0} → (B w : ℕ) → (Block → List A) → Kind → Event → List A → List A
put B w g k (block k' i b x) l = cond (is k k') (sets l (place B w i b) (g x)) l
put B w g k (epoch i e) l = l
put B w g k (marked k' i) l = l

-- C values
abbrev pub put_values : (B C : ℕ) → Kind → Event → List ℤ → List ℤ
put_values B C k = put B C (λ b. b.values) k

abbrev pub put_exponent : (n B : ℕ) → Event → List ℤ → List ℤ
put_exponent n B (block k i b x) l = set l (first_of k (n * B) + before B i b) x.exponent
put_exponent n B (epoch i e) l = l
put_exponent n B (marked k i) l = l

abbrev pub put_epoch : Event → List ℕ → List ℕ
put_epoch (block k i b x) l = l
put_epoch (epoch i e) l = set l (i - 1) e
put_epoch (marked k i) l = l

-- whether a mark says that the map of a kind is there
abbrev pub has : Kind → ℕ → Bool
has k m = pick (present? k m) true false

-- a mark that says of one more kind that it is there
abbrev pub with_mark : Kind → ℕ → ℕ
with_mark Tec m = m
with_mark Rms m = mark true (has Height m)
with_mark Height m = mark (has Rms m) true

abbrev pub put_mark : Event → List ℕ → List ℕ
put_mark (block k i b x) l = l
put_mark (epoch i e) l = l
put_mark (marked k i) l = set l (i - 1) (with_mark k (get_or l (i - 1) 0))

-- what an event asks of the areas, of which the value areas are N k long
abbrev pub Inside : (n B C : ℕ) (N : Kind → ℕ) → Event → Type 0
Inside n B C N (block k i b x) = (before B i b < n * B) × (length x.values ≡ C) × (place B C i b + C ≤ N k)
Inside n B C N (epoch i e) = i - 1 < n
Inside n B C N (marked k i) = i - 1 < n

-- ---- the scan

abbrev pub scan : {A : Type 0} → (Event → List A → List A) → List Event → List A → List A
scan f [] l = l
scan f (e ∷ es) l = scan f es (f e l)

unfoldable pub scanned : (n B C : ℕ) → List Event → Areas → Areas
scanned n B C es l =
    record {
      tec = scan (put_values B C Tec) es l.tec;
      rms = scan (put_values B C Rms) es l.rms;
      height = scan (put_values B C Height) es l.height;
      exponents = scan (put_exponent n B) es l.exponents;
      epochs = scan put_epoch es l.epochs;
      marks = scan put_mark es l.marks;
    }

-- before it: the first k elements are v
abbrev pub fill : {A : Type 0} → A → ℕ → List A → List A
fill v k l = replicate k v ++ drop k l

-- no RMS and no height map is there; r and t are the needs of their values
unfoldable pub cleared : (n B r t : ℕ) → Areas → Areas
cleared n B r t l =
    record {
      tec = l.tec;
      rms = fill (pos 9999) r l.rms;
      height = fill (pos 9999) t l.height;
      exponents = fill (negsuc 0) (3 * (n * B)) l.exponents;
      epochs = l.epochs;
      marks = fill 0 n l.marks;
    }

-- ---- in these words: the events leave the areas of m, wherever there is room, and no store stands outside them

abbrev pub lengths : Areas → Kind → ℕ
lengths l Tec = length l.tec
lengths l Rms = length l.rms
lengths l Height = length l.height

abbrev pub Leaves : MapSet → List Event → Type 0
Leaves m es =
    (l : Areas) → Room m.header (areas m).marks l
    → scanned m.header.times.maps (per_map m.header) (columns m.header.grid) es
    (cleared m.header.times.maps (per_map m.header) (value_need Rms m.header (areas m).marks) (value_need Height m.header (areas m).marks) l)
    ≡ fronts (areas m) l

abbrev pub Stays : MapSet → List Event → Type 0
Stays m es =
    (l : Areas) → Room m.header (areas m).marks l
    → All (Inside m.header.times.maps (per_map m.header) (columns m.header.grid) (lengths l)) es
