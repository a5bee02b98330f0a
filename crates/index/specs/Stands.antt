-- Where a block stands in a text, in the words of the text rules. The bytes from a position on decide; what is before it is not looked at.
use Rattle.std.specs.Prelude.{◌≡◌, List, [], ◌∷◌, ◌++◌, ℕ, ℤ, length}
use Rattle.kit.specs.Answer.{All}
use Rattle.forms.specs.Columns.{Blank}
use Rattle.mapset.specs.Grid.{columns}
use Rattle.mapset.specs.declared.Header.{Header}
use Rattle.layout.specs.Text.{Clean, pad}
use Rattle.layout.specs.Records.{Vals, ValueRows}
use Rattle.layout.specs.Labels.{block, layout, Rec}
use Rattle.layout.specs.Layout.{Opens}

-- a line's end
pub data Eol : List ℕ → Type 0 where
  lf : Eol (10 ∷ [])
  crlf : Eol (13 ∷ 10 ∷ [])

-- what stands behind a line's last byte: nothing, or the line's end and more
pub data Over : List ℕ → Type 0 where
  nothing : Over []
  lf : {u : List ℕ} → Over (10 ∷ u)
  crlf : {u : List ℕ} → Over (13 ∷ 10 ∷ u)

-- blank lines, each with its end
pub data Blanks : List ℕ → Type 0 where
  none : Blanks []
  blank : (l : List ℕ) {e g : List ℕ} → Clean l → All Blank l → Eol e → Blanks g → Blanks (l ++ (e ++ g))

-- `Shown rs u b`: the text u starts with lines that show the rows rs, blank lines between them; b are these lines without the last one's end
pub data Shown : List (List ℕ) → (u b : List ℕ) → Type 0 where
  last : {l s : List ℕ} → Clean l → ¬ All Blank l → Over s → Shown (pad l ∷ []) (l ++ s) l
  line : (l : List ℕ) {e g u b : List ℕ} {rs : List (List ℕ)}
      → Clean l → ¬ All Blank l → Eol e → Blanks g → Shown rs u b → Shown (pad l ∷ rs) (l ++ (e ++ (g ++ u))) (l ++ (e ++ (g ++ b)))

-- the block after d others of its map stands at the start of the text u: its values zs, and its lines b
pub record Stands (h : Header) (d : ℕ) (u : List ℕ) (zs : List ℤ) (b : List ℕ) : Type 0 where
  pub opening : Vals (layout block)
  pub row : List ℕ
  pub rows : List (List ℕ)
  pub shown : Shown (row ∷ rows) u b
  pub opened : Rec block opening row
  pub opens : Opens h d opening
  pub values : ValueRows zs rows
  pub count : length zs ≡ columns h.grid
