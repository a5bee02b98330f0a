-- What is answered of a text and three areas lent for its index, and what is left in them.
use Rattle.std.specs.Prelude.{◌≡◌, List, [], ◌∷◌, ℕ, ◌*◌, length}
use Rattle.std.proofs.Math.Option.{Option, none, some}
use Rattle.kit.specs.Answer.{Answer, ok, refused}
use Rattle.mapset.specs.declared.Header.{Header}
use Rattle.mapset.specs.Described.{FullTexts}
use Rattle.mapset.specs.MapSet.{Maps, MapSet}
use Rattle.reading.specs.declared.Why.{Why}
use Rattle.reading.specs.Read.{read}
use Rattle.read_needs.specs.Needs.{first_short}
use Rattle.read_judge.specs.Scanned.{set_of}
use Rattle.read_outcome.specs.Outcome.{ToldReading, accepted, at_place, eleven, told, no_texts, texts_in}
use Rattle.read_outcome.specs.declared.ReadOut.{ReadOut}
use Rattle.index.specs.Index.{Entries}
use Rattle.index.specs.Made.{entries_of, fronts}

-- what is answered, the texts beside it, and what is then in the areas
pub record Made : Type 0 where
  pub told : ToldReading
  pub texts : FullTexts
  pub entries : Entries

-- the areas in their order, 1 to 3: the elements that each needs, and those lent
abbrev pub needed_and_lent : (a l : Entries) → List (ℕ × ℕ)
needed_and_lent a l =
    (length a.positions, length l.positions)
    ∷ (length a.exponents, length l.exponents)
    ∷ (length a.marks, length l.marks)
    ∷ []

-- the index in front of each area and behind it what was there, where each is long enough
unfoldable pub with_room : MapSet → List ℕ → Entries → Option (ℕ × ℕ) → Made
with_room m t l none = record { told = accepted m.header; texts = m.texts; entries = fronts (entries_of m t) l }
with_room m t l (some s) = record { told = eleven s.0 s.1; texts = no_texts; entries = l }

-- a text is refused as reading refuses it; a refusal leaves all lent areas untouched
unfoldable pub made_of : Answer Why MapSet → List ℕ → Entries → Made
made_of (ok m) t l = with_room m t l (first_short 1 (needed_and_lent (entries_of m t) l))
made_of (refused w) t l = record { told = at_place w.number w.line w.column; texts = no_texts; entries = l }

abbrev pub made : List ℕ → Entries → Made
made t l = made_of (read t) t l

-- ---- what the code's answer tells

-- what the code hands back, with the areas as it leaves them
abbrev pub comes : ReadOut → Entries → Made
comes r l = record { told = told r.answer; texts = texts_in r; entries = l }

-- n maps of B blocks: the same needs in the code's numbers
abbrev pub pairs : (n B positions exponents marks : ℕ) → List (ℕ × ℕ)
pairs n B p e k = (3 * (n * B), p) ∷ (3 * (n * B), e) ∷ (n, k) ∷ []

-- the text is read as a map set with this header record and these texts
abbrev pub ReadAs : List ℕ → Header → FullTexts → Type 0
ReadAs t h x = (m : Maps) × (read t ≡ ok (set_of h x m))

-- the contract of `make_index`: of the text t and the areas l it hands back r and leaves the areas l'
abbrev pub Indexes : List ℕ → Entries → ReadOut → Entries → Type 0
Indexes t l r l' = comes r l' ≡ made t l
