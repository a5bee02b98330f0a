-- How a record's columns are made up from its layout.
use Rattle.std.specs.Prelude.{◌≡◌, ℕ, ◌≤◌, List, [], ◌∷◌, ◌++◌, length, replicate, ℤ}
use Rattle.forms.specs.Form as form
use Rattle.forms.specs.Form.{Spells}

-- an item of a layout, as 01 writes it: Iw, Fw.1, Fw.3, wX, Aw, and w columns that are not looked at
pub data Item : Type 0 where
  I F D X A U : ℕ → Item

-- the values that a layout holds: numbers (of Fw.1 in tenths, of Fw.3 in thousandths) and texts
abbrev pub Vals : List Item → Type 0
Vals [] = Unit {0}
Vals (I w ∷ is) = ℤ × Vals is
Vals (F w ∷ is) = ℤ × Vals is
Vals (D w ∷ is) = ℤ × Vals is
Vals (X w ∷ is) = Vals is
Vals (A w ∷ is) = List ℕ × Vals is
Vals (U w ∷ is) = Vals is

-- `Fields is vs bs`: the columns bs are made from the values vs by the layout is
pub data Fields : (is : List Item) → Vals is → List ℕ → Type 0 where
  f_end : Fields [] tt []
  f_int : {w : ℕ} {z : ℤ} (bs : List ℕ) {is : List Item} {vs : Vals is} {rest : List ℕ}
      → Spells form.I w z bs → Fields is vs rest → Fields (I w ∷ is) (z, vs) (bs ++ rest)
  f_tenths : {w : ℕ} {z : ℤ} (bs : List ℕ) {is : List Item} {vs : Vals is} {rest : List ℕ}
      → Spells form.F1 w z bs → Fields is vs rest → Fields (F w ∷ is) (z, vs) (bs ++ rest)
  f_thousandths : {w : ℕ} {z : ℤ} (bs : List ℕ) {is : List Item} {vs : Vals is} {rest : List ℕ}
      → Spells form.F3 w z bs → Fields is vs rest → Fields (D w ∷ is) (z, vs) (bs ++ rest)
  f_blank : {w : ℕ} {is : List Item} {vs : Vals is} {rest : List ℕ} → Fields is vs rest → Fields (X w ∷ is) vs (replicate w 32 ++ rest)
  f_text : {w : ℕ} (bs : List ℕ) {is : List Item} {vs : Vals is} {rest : List ℕ}
      → length bs ≡ w → Fields is vs rest → Fields (A w ∷ is) (bs, vs) (bs ++ rest)
  f_unread : {w : ℕ} (bs : List ℕ) {is : List Item} {vs : Vals is} {rest : List ℕ}
      → length bs ≡ w → Fields is vs rest → Fields (U w ∷ is) vs (bs ++ rest)

-- ---- the values of a block: I5, 16 to a line, the last line holding the rest and blanks

-- `Cells zs bs`: the columns bs hold the values zs, and then blanks
pub data Cells : List ℤ → List ℕ → Type 0 where
  c_blank : (g : ℕ) → Cells [] (replicate g 32)
  c_value : {z : ℤ} {zs : List ℤ} (bs : List ℕ) {rest : List ℕ} → Spells form.I 5 z bs → Cells zs rest → Cells (z ∷ zs) (bs ++ rest)

-- `ValueRows zs rs`: the rows rs hold the values zs
pub data ValueRows : List ℤ → List (List ℕ) → Type 0 where
  v_last : {zs : List ℤ} {r : List ℕ} → 1 ≤ length zs → length zs ≤ 16 → length r ≡ 80 → Cells zs r → ValueRows zs (r ∷ [])
  v_full : {zs more : List ℤ} {r : List ℕ} {rs : List (List ℕ)}
      → length zs ≡ 16 → length r ≡ 80 → Cells zs r → ValueRows more rs → ValueRows (zs ++ more) (r ∷ rs)
