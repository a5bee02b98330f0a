-- The second scan, row by row: where it stands, and what a row brings. It judges nothing, since the text is accepted.
use Rattle.std.proofs.Math.Option.{Option, none, some}
use Rattle.std.specs.Prelude.{List, [], ◌∷◌, ◌++◌, ℕ, zero, suc, ◌-◌, drop, ℤ, pos, negsuc, nat_abs, Result, Ok, Err}
use Rattle.kit.specs.Answer.{Answer, ok, refused, pick, same}
use Rattle.mapset.specs.declared.Kind.{Kind}
use Rattle.mapset.specs.declared.Kind.TheVariants.{Tec, Rms, Height}
use Rattle.layout.specs.Labels.{name, Label, version, description, comment, system, exponent, aux_start, aux_end, header_end, epoch, block, file_end, head, start, end}
use Rattle.layout.specs.Layout.{Mode, plain, aux}
use Rattle.reading.specs.Fields.{label, fields, cells}
use Rattle.reading.specs.Maps.{date, on_row}
use Rattle.areas.specs.Events as event
use Rattle.areas.specs.Events.{Event}

-- kind and number of the last map that began, how many of its blocks are done, the exponent in force, and how many TEC maps have their epoch
pub record Now : Type 0 where
  pub kind : Kind
  pub number : ℕ
  pub done : ℕ
  pub exponent : ℤ
  pub tecs : ℕ

abbrev pub now : Kind → (i b : ℕ) → ℤ → ℕ → Now
now k i b e n = record { kind = k; number = i; done = b; exponent = e; tecs = n }

-- after END OF HEADER, with e in force
abbrev pub at_first : ℤ → Now
at_first e = now Tec 0 0 e 0

-- ---- what stands in a row

unfoldable pub or_else : {W A : Type 0} → Answer W A → A → A
or_else (ok a) d = a
or_else (refused w) d = d

-- the number of an EXPONENT record, and that of a START record of a kind
abbrev pub exponent_in : List ℕ → ℤ
exponent_in r = (or_else (fields exponent r) (pos 0, tt)).0

abbrev pub number_in : Kind → List ℕ → ℕ
number_in k r = nat_abs (or_else (fields (start k) r) (pos 0, tt)).0

unfoldable pub second_of : Result ℕ ℕ → ℕ
second_of (Ok t) = t
second_of (Err c) = 0

abbrev pub epoch_in : List ℕ → ℕ
epoch_in r = second_of (date (or_else (fields epoch r) (pos 0, (pos 0, (pos 0, (pos 0, (pos 0, (pos 0, tt))))))))

-- the first c values of rows
abbrev pub values_ahead : ℕ → List (List ℕ) → List ℤ
values_ahead c [] = []
values_ahead zero (r ∷ rs) = []
values_ahead (suc c) (r ∷ rs) = or_else (cells 1 (on_row (suc c)) r) [] ++ values_ahead (suc c - 16) rs

-- ---- what a row brings, and where it leads

-- its events, where the scan then stands, and how many values come first
pub record Turn : Type 0 where
  pub events : List Event
  pub next : Now
  pub due : ℕ

abbrev pub goes : List Event → Now → Turn
goes es s = record { events = es; next = s; due = 0 }

-- START: the next TEC map; or an RMS or height map, which is marked
abbrev pub on_start : Now → Kind → List ℕ → Turn
on_start s Tec r = goes [] (now Tec (suc s.tecs) 0 s.exponent s.tecs)
on_start s Rms r = goes (event.marked Rms (number_in Rms r) ∷ []) (now Rms (number_in Rms r) 0 s.exponent s.tecs)
on_start s Height r = goes (event.marked Height (number_in Height r) ∷ []) (now Height (number_in Height r) 0 s.exponent s.tecs)

-- only a TEC map's epoch is stored
abbrev pub on_epoch : Now → Kind → List ℕ → Turn
on_epoch s Tec r = goes (event.epoch s.number (epoch_in r) ∷ []) (now Tec s.number s.done s.exponent s.number)
on_epoch s Rms r = goes [] s
on_epoch s Height r = goes [] s

-- C values follow a block's opening
abbrev pub on_block : ℕ → Now → List (List ℕ) → Turn
on_block C s rs =
    record {
      events = event.block s.kind s.number s.done (record { exponent = s.exponent; values = values_ahead C rs }) ∷ [];
      next = now s.kind s.number (suc s.done) s.exponent s.tecs;
      due = C;
    }

-- the row r with the rows rs behind it, by its label; every other label brings nothing
abbrev pub turn : ℕ → Now → Option Label → List ℕ → List (List ℕ) → Turn
turn C s (some (start k)) r rs = on_start s k r
turn C s (some epoch) r rs = on_epoch s s.kind r
turn C s (some exponent) r rs = goes [] (now s.kind s.number s.done (exponent_in r) s.tecs)
turn C s (some block) r rs = on_block C s rs
turn C s (some (end k)) r rs = goes [] s
turn C s (some comment) r rs = goes [] s
turn C s (some file_end) r rs = goes [] s
turn C s (some version) r rs = goes [] s
turn C s (some description) r rs = goes [] s
turn C s (some system) r rs = goes [] s
turn C s (some aux_start) r rs = goes [] s
turn C s (some aux_end) r rs = goes [] s
turn C s (some header_end) r rs = goes [] s
turn C s (some (head i)) r rs = goes [] s
turn C s none r rs = goes [] s

-- ---- the events of rows, where c values come first
unfoldable pub brought : (C : ℕ) → Now → (c : ℕ) → List (List ℕ) → List Event
brought C s c [] = []
brought C s zero (r ∷ rs) = (turn C s (label r) r rs).events ++ brought C (turn C s (label r) r rs).next (turn C s (label r) r rs).due rs
brought C s (suc c) (r ∷ rs) = brought C s (suc c - 16) rs

-- ---- where the maps begin: the exponent in force at END OF HEADER, and the rows behind it

-- a row of the header ends it, sets the exponent, opens an aux block, or is passed
abbrev pub by_label : {X : Type 0} → (ends sets opens passed : X) → Option Label → X
by_label a b c d (some header_end) = a
by_label a b c d (some exponent) = b
by_label a b c d (some aux_start) = c
by_label a b c d (some version) = d
by_label a b c d (some description) = d
by_label a b c d (some comment) = d
by_label a b c d (some system) = d
by_label a b c d (some (head i)) = d
by_label a b c d (some aux_end) = d
by_label a b c d (some (start k)) = d
by_label a b c d (some (end k)) = d
by_label a b c d (some epoch) = d
by_label a b c d (some block) = d
by_label a b c d (some file_end) = d
by_label a b c d none = d

unfoldable pub body : Mode → ℤ → List (List ℕ) → ℤ × List (List ℕ)
body a e [] = (e, [])
body plain e (r ∷ rs) = by_label (e, rs) (body plain (exponent_in r) rs) (body aux e rs) (body plain e rs) (label r)
body aux e (r ∷ rs) = pick (same (drop 60 r) (name aux_end)) (body plain e rs) (body aux e rs)

-- ---- the events of all rows of a text
unfoldable pub events : (C : ℕ) → List (List ℕ) → List Event
events C rs = brought C (at_first (body plain (negsuc 0) rs).0) 0 (body plain (negsuc 0) rs).1
