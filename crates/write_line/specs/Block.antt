-- The rows of one block.
use Rattle.std.specs.Prelude.{List, ◌∷◌, ◌++◌, ℕ, length, ℤ}
use Rattle.mapset.specs.declared.Grid.{Grid}
use Rattle.layout.specs.Labels.{block}
use Rattle.canonical.specs.Canon.{row_of, value_rows, exponent_rows}
use Rattle.write_row.specs.Rows.{opening_of}

-- the block after d others, with the exponent k in force: EXPONENT where its own differs, its opening, its values
abbrev pub one_block : Grid → (d : ℕ) (k exponent : ℤ) (values : List ℤ) → List (List ℕ)
one_block g d k e vs = exponent_rows k e ++ (row_of block (opening_of g d) ∷ value_rows (length vs) vs)
