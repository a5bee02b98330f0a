-- 02, Ask 1: the DESCRIPTION lines of a header, up to 20 of 60 columns; and all texts of a header with them.
use Rattle.std.specs.Prelude.{List, ℕ}
use Rattle.mapset.specs.declared.Texts.{Texts}

-- how many lines, their columns, and the bytes that hold them
abbrev pub most_lines : ℕ
most_lines = 20

abbrev pub line_width : ℕ
line_width = 60

abbrev pub lines_width : ℕ
lines_width = 1200

-- ---- all texts of a header: PGM / RUN BY / DATE, MAPPING FUNCTION, OBSERVABLES USED, and the bytes of the DESCRIPTION lines
pub record FullTexts : Type 0 where
  pub program : List ℕ
  pub agency : List ℕ
  pub date : List ℕ
  pub mapping : List ℕ
  pub observables : List ℕ
  pub descriptions : List ℕ

abbrev pub full : Texts → List ℕ → FullTexts
full t bs = record { program = t.program; agency = t.agency; date = t.date; mapping = t.mapping; observables = t.observables; descriptions = bs }
