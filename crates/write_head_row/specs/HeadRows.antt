-- The rows of the header's records, by the places of their labels in 01's list.
-- F8.1,52X; 3A20; 2X,A4,54X; A60; 5X,A1,I6,I6,42X
use Rattle.std.specs.Prelude.{List, [], ◌∷◌, ℕ, pos, get_or}
use Rattle.mapset.specs.declared.System.{System}
use Rattle.mapset.specs.declared.Texts.{Texts}
use Rattle.layout.specs.Records.{Item, I, F, X, A}
use Rattle.layout.specs.Labels.{letters}
use Rattle.write_row.specs.Rows.{row_at}

abbrev pub eight : List Item
eight = F 8 ∷ X 52 ∷ []

abbrev pub twenties : List Item
twenties = A 20 ∷ A 20 ∷ A 20 ∷ []

abbrev pub four : List Item
four = X 2 ∷ A 4 ∷ X 54 ∷ []

abbrev pub sixty : List Item
sixty = A 60 ∷ []

abbrev pub letter_counts : List Item
letter_counts = X 5 ∷ A 1 ∷ I 6 ∷ I 6 ∷ X 42 ∷ []

abbrev pub tenths_row : ℕ → ℕ → List ℕ
tenths_row k n = row_at k eight (pos n, tt)

abbrev pub program_row : Texts → List ℕ
program_row t = row_at 1 twenties (t.program, (t.agency, (t.date, tt)))

abbrev pub sixty_row : ℕ → List ℕ → List ℕ
sixty_row k x = row_at k sixty (x, tt)

abbrev pub description_row : List ℕ → List ℕ
description_row d = sixty_row 2 d

abbrev pub mapping_row : Texts → List ℕ
mapping_row t = row_at 8 four (t.mapping, tt)

abbrev pub observables_row : Texts → List ℕ
observables_row t = sixty_row 10 t.observables

abbrev pub system_row : ℕ → System → List ℕ
system_row j s = row_at 13 letter_counts (get_or letters j 0 ∷ [], (pos s.stations, (pos s.satellites, tt)))
