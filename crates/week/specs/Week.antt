-- 02, Ask 5: the figures over all map sets of a week.
use Rattle.std.specs.Prelude.{List, [], ◌∷◌, map, ℕ, ◌+◌, ◌≤◌, ℤ, length}
use Rattle.std.proofs.Math.Option.{Option}
use Rattle.std.proofs.Math.Decide.{dec_le}
use Rattle.kit.specs.Answer.{pick, ×_dec}
use Rattle.mapset.specs.Areas.{Areas}
use Rattle.mapset.specs.declared.Header.{Header}
use Rattle.mapset.specs.Described.{FullTexts}
use Rattle.areas.specs.Lists.{flat}
use Rattle.areas.specs.Valid.{Valid}
use Rattle.valid.specs.Validity.{validity}
use Rattle.week_tally.specs.Figures.{figures, joined, nothing}
use Rattle.week_tally.specs.declared.Tally.{Tally}
use Rattle.week_set.specs.SetFigures.{kind_nodes, kind_figures, rows_need}
use Rattle.week.specs.declared.Week.{Week}
use Rattle.week.specs.declared.TecuTally.{TecuTally}
use Rattle.week.specs.declared.KmTally.{KmTally}

-- a header, its texts and six areas, valid or not; and the area lent for its rows
pub record Given : Type 0 where
  pub header : Header
  pub texts : FullTexts
  pub areas : Areas
  pub rows : List ℤ

abbrev pub given_as : Header → FullTexts → Areas → List ℤ → Given
given_as h t a r = record { header = h; texts = t; areas = a; rows = r }

abbrev pub ValidSet : Given → Type 0
ValidSet s = Valid s.header s.texts s.areas

abbrev pub valid? : (s : Given) → Dec (ValidSet s)
valid? s = validity s.header s.texts s.areas

abbrev pub RowRoom : Given → Type 0
RowRoom s = rows_need s.header ≤ length s.rows

abbrev pub room? : (s : Given) → Dec (RowRoom s)
room? s = dec_le (rows_need s.header) (length s.rows)

abbrev pub Accepted : Given → Type 0
Accepted s = ValidSet s × RowRoom s

abbrev pub accepted? : (s : Given) → Dec (Accepted s)
accepted? s = ×_dec (valid? s) (room? s)

-- ---- the two units
abbrev pub tecu : Tally → TecuTally
tecu t = record { 0 = t }

abbrev pub km : Tally → KmTally
km t = record { 0 = t }

-- ---- the definition over the nodes: refused sets have none
unfoldable pub set_nodes : (kind : ℕ) → Given → List (Option ℤ)
set_nodes k s = pick (accepted? s) (kind_nodes k s.header s.areas) []

unfoldable pub accepted : List Given → ℕ
accepted [] = 0
accepted (s ∷ ss) = pick (accepted? s) 1 0 + accepted ss

abbrev pub week_nodes : (kind : ℕ) → List Given → List (Option ℤ)
week_nodes k ss = flat (map (set_nodes k) ss)

unfoldable pub week_of : List Given → Week
week_of ss =
    record { sets = accepted ss; tec = tecu (figures (week_nodes 0 ss)); rms = tecu (figures (week_nodes 1 ss)); height = km (figures (week_nodes 2 ss)) }

-- ---- a set into a week: the hundred-and-first, one that is not valid, and one whose rows have no room, leave it as it was
unfoldable pub grown : Week → Header → Areas → Week
grown w h a =
    record {
      sets = w.sets + 1;
      tec = tecu (joined w.tec.0 (kind_figures 0 h a));
      rms = tecu (joined w.rms.0 (kind_figures 1 h a));
      height = km (joined w.height.0 (kind_figures 2 h a));
    }

unfoldable pub added : Week → Given → Week
added w s = pick (dec_le 100 w.sets) w (pick (accepted? s) (grown w s.header s.areas) w)

abbrev pub no_sets : Week
no_sets = record { sets = 0; tec = tecu nothing; rms = tecu nothing; height = km nothing }

-- sets one after the other
unfoldable pub report : Week → List Given → Week
report w [] = w
report w (s ∷ ss) = report (added w s) ss
