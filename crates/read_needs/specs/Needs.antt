-- 01, 11: what each lent area needs, and the first that is too short.
use Rattle.std.specs.Prelude.{cond, List, [], ◌∷◌, ℕ, suc, ◌*◌, length, Result, Ok, Err}
use Rattle.std.proofs.Math.Option.{Option, none, some}
use Rattle.std.proofs.Math.Decide.{dec_le}
use Rattle.kit.specs.Answer.{pick}
use Rattle.mapset.specs.Areas.{Areas}
use Rattle.read_needs.specs.declared.Elements.{Elements}
use Rattle.read_needs.specs.declared.Others.{Others}
use Rattle.read_needs.specs.declared.Short.{Short}

-- the elements of each area
abbrev pub lengths : Areas → Elements
lengths a =
    record {
      tec = length a.tec;
      rms = length a.rms;
      height = length a.height;
      exponents = length a.exponents;
      epochs = length a.epochs;
      marks = length a.marks;
    }

-- the areas in their order: the elements that each needs, and those lent
abbrev pub pairs : (need lent : Elements) → List (ℕ × ℕ)
pairs need lent =
    (need.tec, lent.tec)
    ∷ (need.rms, lent.rms)
    ∷ (need.height, lent.height)
    ∷ (need.exponents, lent.exponents)
    ∷ (need.epochs, lent.epochs)
    ∷ (need.marks, lent.marks)
    ∷ []

abbrev pub needed_and_lent : (a l : Areas) → List (ℕ × ℕ)
needed_and_lent a l = pairs (lengths a) (lengths l)

-- the first that is too short, counted from i, and the elements it needs
unfoldable pub first_short : ℕ → List (ℕ × ℕ) → Option (ℕ × ℕ)
first_short i [] = none
first_short i (x ∷ xs) = pick (dec_le x.0 x.1) (first_short (suc i) xs) (some (i, x.0))

-- ---- the same in the code's records

-- n maps of B blocks of C values
abbrev pub needs_of : (n B C : ℕ) → Others → Elements
needs_of n B C o =
    record { tec = n * B * C; rms = cond o.rms (n * B * C) 0; height = cond o.height (n * B * C) 0; exponents = 3 * (n * B); epochs = n; marks = n }

abbrev pub short : (area need : ℕ) → Short
short a n = record { area = a; need = n }

abbrev pub fit : Result (Unit {0}) Short → Option (ℕ × ℕ)
fit (Ok u) = none
fit (Err s) = some (s.area, s.need)
