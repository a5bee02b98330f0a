-- What the code's table says of the records of the header.
use mathlib.Core.Path.{◌≡◌, refl, sym, ◌∙◌}
use mathlib.Core.List.{List, [], ◌∷◌, map}
use Prim.Native.Nat.{ℕ, zero, suc, ◌<◌}
use native.Mathlib.Omega.{arith}
use lib.ListN.{length, get_or, get_or-map}
use lib.Seq.{get_or-take}
use Rattle.mapset.specs.Header.{contents, system}
use Rattle.layout.specs.Labels.{content}
use Rattle.head_said.specs.declared.content.TheConstants as K
use Rattle.head_said.specs.declared.content.Numbers.{Numbers}
use Rattle.head_said.specs.declared.content.Numbers.TheVariants as N
use Rattle.head_said.specs.declared.content.Content.{Content as Holds}
use Rattle.head_said.specs.Tables.{numbers_of, content_of, OfNumbers}

any_default : {A : Type 0} (l : List A) (i : ℕ) (d e : A) → i < length l → get_or l i d ≡ get_or l i e
any_default [] i d e h = absurd (omega arith)
any_default (x ∷ l) zero d e h = refl
any_default (x ∷ l) (suc i) d e h = any_default l i d e (omega arith)

-- the first 15 records of the header are all but the systems
pub content_at : (i : ℕ) (d : Holds) → i < 15 → content_of (get_or K.CONTENTS i d) ≡ content i
content_at i d h =
    sym (get_or-map content_of K.CONTENTS i d)
    ∙ any_default (map content_of K.CONTENTS) i (content_of d) system h
    ∙ get_or-take 15 contents i system h

pub numbers : (n : Numbers) → OfNumbers (numbers_of n)
numbers (N.Count low high) = tt
numbers (N.Tenths low high) = tt
numbers N.Epoch = tt
numbers (N.Axis l) = tt
