-- 01, 'What comes back': the six lent areas, what each needs, and what has to hold of them before a value is looked at.
use Rattle.std.specs.Prelude.{◌≡◌, ◌⊎◌, List, [], ◌∷◌, ℕ, ◌+◌, ◌*◌, ◌≤◌, ◌<◌, length, take, ℤ}
use Rattle.std.proofs.Math.Decide.{ℕ_discrete}
use Rattle.kit.specs.Answer.{All, pick, all_dec, ⊎_dec, ¬_dec}
use Rattle.mapset.specs.Grid.{layers, rows, columns}
use Rattle.mapset.specs.Header.{HeaderRules}
use Rattle.mapset.specs.declared.Kind.{Kind}
use Rattle.mapset.specs.declared.Kind.TheVariants.{Tec, Rms, Height}
use Rattle.mapset.specs.declared.Header.{Header}
use Rattle.mapset.specs.Described.{FullTexts}

-- values map by map, layer, row, column; exponents per block, the three kinds one after the other; epochs; marks
pub record Areas : Type 0 where
  pub tec : List ℤ
  pub rms : List ℤ
  pub height : List ℤ
  pub exponents : List ℤ
  pub epochs : List ℕ
  pub marks : List ℕ

-- the six, one after the other
abbrev pub six : (tec rms height exponents : List ℤ) (epochs marks : List ℕ) → Areas
six tec rms height exponents epochs marks =
    record { tec = tec; rms = rms; height = height; exponents = exponents; epochs = epochs; marks = marks }

-- ---- marks: 1 RMS, 2 height, 3 both, 0 neither; every TEC map is there
abbrev pub Present : Kind → ℕ → Type 0
Present Tec m = Unit {0}
Present Rms m = (m ≡ 1) ⊎ (m ≡ 3)
Present Height m = (m ≡ 2) ⊎ (m ≡ 3)

unfoldable pub present? : (k : Kind) (m : ℕ) → Dec (Present k m)
present? Tec m = yes tt
present? Rms m = ⊎_dec (ℕ_discrete m 1) (ℕ_discrete m 3)
present? Height m = ⊎_dec (ℕ_discrete m 2) (ℕ_discrete m 3)

-- no map of the kind is there
abbrev pub Nowhere : Kind → List ℕ → Type 0
Nowhere k ms = All (λ m. ¬ Present k m) ms

unfoldable pub nowhere? : (k : Kind) (ms : List ℕ) → Dec (Nowhere k ms)
nowhere? k ms = all_dec (λ m. ¬_dec (present? k m)) ms

-- ---- where a kind's exponents begin, s of each kind
abbrev pub first_of : Kind → ℕ → ℕ
first_of Tec s = 0
first_of Rms s = s
first_of Height s = s + s

-- ---- needs
abbrev pub blocks : Header → ℕ
blocks h = h.times.maps * (layers h.grid * rows h.grid)

abbrev pub values : Header → ℕ
values h = blocks h * columns h.grid

-- a kind with no map needs no value area
abbrev pub value_need : Kind → Header → List ℕ → ℕ
value_need k h ms = pick (nowhere? k ms) 0 (values h)

-- each area holds what it needs; ms are the marks of the maps
pub record Room (h : Header) (ms : List ℕ) (a : Areas) : Type 0 where
  pub tec : values h ≤ length a.tec
  pub rms : value_need Rms h ms ≤ length a.rms
  pub height : value_need Height h ms ≤ length a.height
  pub exponents : 3 * blocks h ≤ length a.exponents
  pub epochs : h.times.maps ≤ length a.epochs
  pub marks : h.times.maps ≤ length a.marks

-- ---- epochs

-- an epoch is later than the one before by 1 to 21,600 s, and by exactly INTERVAL unless that is 0
abbrev pub Follows : ℕ → ℕ → ℕ → Type 0
Follows interval before e = ((before < e) × (e ≤ before + 21600)) × ((interval ≡ 0) ⊎ (e ≡ before + interval))

abbrev pub Run : ℕ → ℕ → ℕ → List ℕ → Type 0
Run interval last e [] = e ≡ last
Run interval last e (f ∷ es) = Follows interval e f × Run interval last f es

-- the first epoch is the header's first, the n-th its last
abbrev pub EpochRules : Header → List ℕ → Type 0
EpochRules h [] = ⊥
EpochRules h (e ∷ es) = (e ≡ h.times.first) × Run h.times.interval h.times.last e es

-- ---- header, area lengths, epochs and marks: where one of these does not hold, writing and asking answer 31
pub record Sound (h : Header) (t : FullTexts) (a : Areas) : Type 0 where
  pub header : HeaderRules h t
  pub room : Room h (take h.times.maps a.marks) a
  pub epochs : EpochRules h (take h.times.maps a.epochs)
  pub marks : All (λ m. m ≤ 3) (take h.times.maps a.marks)
