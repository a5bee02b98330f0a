-- The DESCRIPTION lines in the bytes that hold them, in file order.
use Rattle.std.specs.Prelude.{List, [], ◌∷◌, ◌++◌, ℕ, zero, suc, ◌-◌, length, take, drop, replicate}
use Rattle.mapset.specs.Described.{line_width, lines_width}

-- the first n lines in the bytes
unfoldable pub lines_in : ℕ → List ℕ → List (List ℕ)
lines_in zero bs = []
lines_in (suc n) bs = take line_width bs ∷ lines_in n (drop line_width bs)

-- lines one behind the other
unfoldable pub end_to_end : List (List ℕ) → List ℕ
end_to_end [] = []
end_to_end (d ∷ ds) = d ++ end_to_end ds

-- and then blanks up to 1,200
unfoldable pub described : List (List ℕ) → List ℕ
described ds = end_to_end ds ++ replicate (lines_width - length (end_to_end ds)) 32

-- the bytes of no line
unfoldable pub no_lines : List ℕ
no_lines = replicate lines_width 32
