-- 01, 'Canonical text', as a definition on map sets: rows of 80 columns, and the text of lines that end at their last non-blank byte.
use Rattle.std.proofs.Math.Option.{Option, none, some}
use Rattle.std.specs.Prelude.{List, [], ◌∷◌, ◌++◌, ℕ, zero, suc, ◌-◌, ◌*◌, ◌/◌, ◌%◌, ℤ, pos, negsuc, length, get_or, set, take, drop, replicate}
use Rattle.std.proofs.Math.Decide.{ℕ_discrete, dec_le, dec_lt}
use Rattle.kit.specs.Answer.{pick, all_dec}
use Rattle.kit.specs.Integer.{int?, Between}
use Rattle.calendar.specs.Calendar.{date_at}
use Rattle.calendar.specs.End.{end as after_2199}
use Rattle.calendar.specs.declared.Epoch.{Epoch}
use Rattle.forms.specs.Form as form
use Rattle.forms.specs.Show.{show_field}
use Rattle.mapset.specs.declared.Kind.{Kind}
use Rattle.mapset.specs.declared.Kind.TheVariants.{Tec, Rms, Height}
use Rattle.mapset.specs.declared.Version.{Version}
use Rattle.mapset.specs.declared.Header.{Header}
use Rattle.mapset.specs.Grid.{rows, heights, latitudes, longitudes, AxisRules}
use Rattle.mapset.specs.Described.{FullTexts}
use Rattle.mapset.specs.Lines.{lines_in}
use Rattle.mapset.specs.Header.{Content, count, tenths, epoch as an_epoch, axis, program, mapping, observables, system as a_system, Said, says}
use Rattle.mapset.specs.MapSet.{Block, TecMap, OtherMap, MapSet}
use Rattle.layout.specs.Records.{Item, I, F, D, X, A, U, Vals}
use Rattle.layout.specs.Labels.{Label, version, description, exponent, header_end, epoch, block, file_end, head, system, start, end, bytes, name, items, content, layout, codes, letters}
use Rattle.layout.specs.Layout.{Date, Slots, Lines, systems, node}
use Rattle.mapset.specs.Said.{number_in, axis_in, words_in, system_in}

-- ---- rows

-- the columns of a layout: numbers right-aligned without needless zeros, texts as they stand, the rest blank
unfoldable pub columns_of : (is : List Item) → Vals is → List ℕ
columns_of [] v = []
columns_of (I w ∷ is) v = show_field form.I w v.0 ++ columns_of is v.1
columns_of (F w ∷ is) v = show_field form.W1 w v.0 ++ columns_of is v.1
columns_of (D w ∷ is) v = show_field form.F3 w v.0 ++ columns_of is v.1
columns_of (X w ∷ is) v = replicate w 32 ++ columns_of is v
columns_of (A w ∷ is) v = v.0 ++ columns_of is v.1
columns_of (U w ∷ is) v = replicate w 32 ++ columns_of is v

unfoldable pub row_of : (l : Label) → Vals (layout l) → List ℕ
row_of l v = columns_of (layout l) v ++ name l

-- the version record has `IONOSPHERE MAPS` in columns 21 to 35
unfoldable pub version_row : Version → List ℕ
version_row v =
    (show_field form.W1 8 (pos v.tenths) ++ (replicate 12 32 ++ (bytes "IONOSPHERE MAPS     " ++ (get_or codes v.code [] ++ replicate 17 32)))) ++ name version

-- no date, and the date of a second
abbrev pub no_date : Epoch
no_date = record { year = 0; month = 0; day = 0; hour = 0; minute = 0; second = 0 }

unfoldable pub date_of : ℕ → Epoch
date_of t = pick (dec_lt t after_2199) (date_at t) no_date

abbrev pub six : Epoch → Date
six e = (pos e.year, (pos e.month, (pos e.day, (pos e.hour, (pos e.minute, (pos e.second, tt))))))

-- ---- the header, in the table's order, SYS in the order of its letters, DESCRIPTION right behind PGM / RUN BY / DATE

-- the values of a header record that says s
abbrev pub shown : (k : Content) → Said → Vals (items k)
shown (count low high) s = (pos (number_in (some s)), tt)
shown (tenths low high) s = (pos (number_in (some s)), tt)
shown an_epoch s = six (date_of (number_in (some s)))
shown (axis l) s = ((axis_in (some s)).first, ((axis_in (some s)).last, ((axis_in (some s)).step, tt)))
shown program s = (get_or (words_in (some s)) 0 [], (get_or (words_in (some s)) 1 [], (get_or (words_in (some s)) 2 [], tt)))
shown mapping s = (get_or (words_in (some s)) 0 [], tt)
shown observables s = (get_or (words_in (some s)) 0 [], tt)
shown a_system s = ([], (pos 0, (pos 0, tt)))

abbrev pub system_vals : ℕ → Said → Vals (items a_system)
system_vals j s = (get_or letters j 0 ∷ [], (pos (system_in (some s)).stations, (pos (system_in (some s)).satellites, tt)))

-- the rows of the i-th slot
unfoldable pub slot_row : ℕ → Said → List ℕ
slot_row i s = pick (dec_lt i systems) (row_of (head i) (shown (content i) s)) (row_of system (system_vals (i - systems) s))

abbrev pub slot_rows : ℕ → Option Said → List (List ℕ)
slot_rows i none = []
slot_rows i (some s) = slot_row i s ∷ []

-- PGM / RUN BY / DATE, and what stands behind the DESCRIPTION lines
abbrev pub before_lines : List ℕ
before_lines = 0 ∷ []

abbrev pub order : List ℕ
order = 1 ∷ 2 ∷ 3 ∷ 4 ∷ 5 ∷ 6 ∷ 7 ∷ 8 ∷ 9 ∷ 15 ∷ 16 ∷ 17 ∷ 18 ∷ 19 ∷ 20 ∷ 21 ∷ 10 ∷ 11 ∷ 12 ∷ 13 ∷ 14 ∷ []

unfoldable pub head_rows : List ℕ → Slots → List (List ℕ) → List (List ℕ)
head_rows [] left rest = rest
head_rows (i ∷ is) left rest = slot_rows i (get_or left i none) ++ head_rows is (set left i none) rest

unfoldable pub description_rows : Lines → List (List ℕ)
description_rows [] = []
description_rows (d ∷ ds) = row_of description (d, tt) ∷ description_rows ds

unfoldable pub header_rows : Header → FullTexts → List (List ℕ) → List (List ℕ)
header_rows h t rest =
    head_rows before_lines (says h t)
    (description_rows (lines_in h.descriptions t.descriptions) ++ head_rows order (set (says h t) 0 none) rest)

-- ---- the maps

-- 16 values to a row, the last row holding the rest and blanks
unfoldable pub cells_of : List ℤ → List ℕ
cells_of [] = []
cells_of (z ∷ zs) = show_field form.I 5 z ++ cells_of zs

unfoldable pub value_row : List ℤ → List ℕ
value_row zs = cells_of zs ++ replicate (80 - 5 * length zs) 32

unfoldable pub value_rows : ℕ → List ℤ → List (List ℕ)
value_rows zero zs = value_row zs ∷ []
value_rows (suc n) zs = pick (dec_le (length zs) 16) (value_row zs ∷ []) (value_row (take 16 zs) ∷ value_rows n (drop 16 zs))

-- the opening of the block after d others
abbrev pub opening : Header → ℕ → Vals (layout block)
opening h d = (
  node h.grid.latitudes (d % rows h.grid),
  (
    h.grid.longitudes.first,
    (h.grid.longitudes.last, (h.grid.longitudes.step, (node h.grid.heights (d / rows h.grid), tt))),
  ),
)

-- EXPONENT stands right before a block whose exponent differs from the one in force
abbrev pub exponent_rows : ℤ → ℤ → List (List ℕ)
exponent_rows k e = pick (int? k e) [] (row_of exponent (e, tt) ∷ [])

-- the blocks after d others, with the exponent k in force
unfoldable pub block_rows : Header → (d : ℕ) (k : ℤ) → List Block → List (List ℕ) → List (List ℕ)
block_rows h d k [] rest = rest
block_rows h d k (b ∷ bs) rest =
    exponent_rows k b.exponent
    ++ (row_of block (opening h d) ∷ (value_rows (length b.values) b.values ++ block_rows h (suc d) b.exponent bs rest))

-- the exponent in force after the blocks
abbrev pub in_force : ℤ → List Block → ℤ
in_force k [] = k
in_force k (b ∷ bs) = in_force b.exponent bs

-- RMS or height maps, then END OF FILE or the next kind
unfoldable pub other_rows : (q : Kind) (h : Header) (k : ℤ) → List OtherMap → (ℤ → List (List ℕ)) → List (List ℕ)
other_rows q h k [] rest = rest k
other_rows q h k (x ∷ xs) rest =
    row_of (start q) (pos x.of, tt)
    ∷ block_rows h 0 k x.blocks (row_of (end q) (pos x.of, tt) ∷ other_rows q h (in_force k x.blocks) xs rest)

-- TEC maps after i others; only they carry their epoch
unfoldable pub tec_rows : (h : Header) (k : ℤ) (i : ℕ) → List TecMap → (ℤ → List (List ℕ)) → List (List ℕ)
tec_rows h k i [] rest = rest k
tec_rows h k i (m ∷ ts) rest =
    row_of (start Tec) (pos (suc i), tt)
    ∷ row_of epoch (six (date_of m.epoch))
    ∷ block_rows h 0 k m.blocks (row_of (end Tec) (pos (suc i), tt) ∷ tec_rows h (in_force k m.blocks) (suc i) ts rest)

unfoldable pub map_rows : MapSet → List (List ℕ)
map_rows m =
    tec_rows m.header (negsuc 0) 0 m.maps.tec
    (λ k. other_rows Rms m.header k m.maps.rms
    (λ k. other_rows Height m.header k m.maps.height (λ k. row_of file_end tt ∷ [])))

-- ---- the text

unfoldable pub canon_rows : MapSet → List (List ℕ)
canon_rows m = version_row m.header.version ∷ header_rows m.header m.texts (row_of header_end tt ∷ map_rows m)

-- a line ends at its last non-blank byte
unfoldable pub trimmed : List ℕ → List ℕ
trimmed [] = []
trimmed (b ∷ bs) = pick (all_dec (λ c. ℕ_discrete c 32) (b ∷ bs)) [] (b ∷ trimmed bs)

unfoldable pub lines_of : List (List ℕ) → List ℕ
lines_of [] = []
lines_of (r ∷ rs) = trimmed r ++ 10 ∷ lines_of rs

unfoldable pub canon : MapSet → List ℕ
canon m = lines_of (canon_rows m)

-- every end has room, and so has what lies between two of them
abbrev pub Wide : ℤ → Type 0
Wide z = Between (negsuc 8999) (pos 99999) z

-- the three axes are accepted
pub record Axes (h : Header) : Type 0 where
  pub heights : AxisRules heights h.grid.heights
  pub latitudes : AxisRules latitudes h.grid.latitudes
  pub longitudes : AxisRules longitudes h.grid.longitudes
