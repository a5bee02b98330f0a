-- Number fields, document 01, 'Lines and fields': which bytes stand for which number. Nothing here reads.
use Rattle.std.specs.Prelude.{ℕ, zero, suc, ◌-◌, ◌+◌, ◌*◌, ◌≤◌, ◌≡◌, Bool, cond, List, [], ◌∷◌, ◌++◌, length, replicate, ℤ, pos, neg_ℤ}
use Rattle.kit.specs.Answer.{All}

-- how many digits stand after the point (0: no point either), and how many at least before it
pub record Form : Type 0 where
  pub after : ℕ
  pub least : ℕ

-- so many digits before the point at least, where n follow it
abbrev pub fewest : ℕ → ℕ
fewest zero = 1
fewest (suc n) = 0

-- n digits after the point; before it there need be none, but without a point there is one
abbrev pub decimal : ℕ → Form
decimal n = record { after = n; least = fewest n }

-- Iw: a whole number
abbrev pub I : Form
I = decimal 0

-- Fw.1: `.5` stands for what `0.5` stands for
abbrev pub F1 : Form
F1 = decimal 1

-- Fw.3
abbrev pub F3 : Form
F3 = decimal 3

-- Fw.1 as canonical text has it, with a digit before the point
abbrev pub W1 : Form
W1 = record { after = 1; least = 1 }

-- one of `0` to `9`
abbrev pub Digit : ℕ → Type 0
Digit b = (48 ≤ b) × (b ≤ 57)

-- the number that digits make, written after the number a
abbrev pub numeral : ℕ → List ℕ → ℕ
numeral a [] = a
numeral a (d ∷ ds) = numeral (a * 10 + (d - 48)) ds

-- a minus or none
abbrev pub sign : Bool → List ℕ
sign minus = cond minus (45 ∷ []) []

-- so `-0` is 0
abbrev pub signed : Bool → ℕ → ℤ
signed minus n = cond minus (neg_ℤ (pos n)) (pos n)

-- the point, where digits follow it
abbrev pub pointed : List ℕ → List ℕ
pointed [] = []
pointed (d ∷ ds) = 46 ∷ d ∷ ds

-- how many columns the point takes in front of n digits
abbrev pub dot : ℕ → ℕ
dot zero = 0
dot (suc n) = 1

-- the bytes f, w of them, stand for z, which counts units of the last digit's place: blanks, a minus or none, the digits
-- before the point, the point and the digits after it, the last of them in the last column
pub record Spells (fm : Form) (w : ℕ) (z : ℤ) (f : List ℕ) : Type 0 where
  pub blanks : ℕ
  pub minus : Bool
  pub whole : List ℕ
  pub part : List ℕ
  pub digits : All Digit (whole ++ part)
  pub enough : fm.least ≤ length whole
  pub places : length part ≡ fm.after
  pub bytes : f ≡ replicate blanks 32 ++ (sign minus ++ (whole ++ pointed part))
  pub number : z ≡ signed minus (numeral 0 (whole ++ part))
  pub width : length f ≡ w
