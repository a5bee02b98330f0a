-- What of two lists stands one behind the other: the values of a kind, and the exponents of all three.
use Rattle.std.specs.Prelude.{Bool, cond, List, [], ◌++◌, ℕ, ◌+◌, ◌*◌, ◌≤◌, length, take, replicate, ℤ, pos}
use Rattle.mapset.specs.declared.Kind.{Kind}
use Rattle.mapset.specs.declared.Kind.TheVariants.{Tec, Rms, Height}
use Rattle.areas.specs.Nest.{third}

-- n values of a set that has the kind, or 9999 where it has no map of it
abbrev pub or_absent : Bool → ℕ → List ℤ → List ℤ
or_absent has n l = cond has (take n l) (replicate n (pos 9999))

-- m of the one and n of the other, or none where no map of the kind is left
abbrev pub values_of_two : (some early late : Bool) (m n : ℕ) → List ℤ → List ℤ → List ℤ
values_of_two some early late m n a b = cond some (or_absent early m a ++ or_absent late n b) []

-- the exponents of three kinds stand in each list, m and n of a kind, and have room
abbrev pub ThirdsFit : (k m n : ℕ) (a b out : List ℤ) → Type 0
ThirdsFit k m n a b out = (k ≤ m) × (3 * m ≤ length a) × (3 * n ≤ length b) × (3 * (k + n) ≤ length out)

-- of each kind k of its m exponents in the one list, then its n in the other
abbrev pub third_of_two : (k m n : ℕ) → List ℤ → List ℤ → Kind → List ℤ
third_of_two k m n a b d = take k (third d m a) ++ third d n b

abbrev pub thirds_of_two : (k m n : ℕ) → List ℤ → List ℤ → List ℤ
thirds_of_two k m n a b = third_of_two k m n a b Tec ++ (third_of_two k m n a b Rms ++ third_of_two k m n a b Height)
