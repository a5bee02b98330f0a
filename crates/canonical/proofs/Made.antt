-- Every map set that obeys the rules makes its canonical text.
use mathlib.Core.Path.{◌≡◌, refl, ap, ◌∙◌}
use mathlib.Core.Option.{none, some}
use mathlib.Core.List.{List, [], ◌∷◌, ◌++◌}
use Prim.Native.Nat.{ℕ, ◌≤◌, ◌<◌}
use native.Mathlib.Omega.{arith}
use native.Mathlib.Decide.{dec_le, dec_lt}
use lib.IntN.{pos, negsuc}
use lib.ListN.{length, get_or, set, replicate}
use Rattle.kit.specs.Answer.{ok, All, ×_dec, all_dec}
use Rattle.kit.proofs.ListLaws.{all_append, all_at}
use Rattle.kit.proofs.TruthLaws.{decided}
use Rattle.kit.specs.Range.{Within, within?, Printable}
use Rattle.forms.specs.Form as form
use Rattle.forms.specs.Show.{show_field, FieldRoom}
use Rattle.forms.proofs.ShowLaws.{show_spells, written_spells}
use Rattle.calendar.specs.End.{end as after_2199}
use Rattle.mapset.specs.declared.Kind.TheVariants.{Rms, Height}
use Rattle.mapset.specs.Header.{count, epoch as an_epoch, axis, number, along, a_count, a_epoch, a_axis, VersionRules, Written, says}
use Rattle.mapset.specs.Described.{line_width}
use Rattle.mapset.specs.Lines.{lines_in}
use Rattle.mapset.proofs.DescribedLaws.{ruled_lines}
use Rattle.mapset.proofs.Groups.{takes_known}
use Rattle.mapset.specs.declared.Axis.{Axis}
use Rattle.mapset.specs.declared.Version.{Version}
use Rattle.mapset.specs.Grid.{Line, AxisRules}
use Rattle.mapset.specs.MapSet.{TecMap, OtherMap, MapSet}
use Rattle.layout.specs.Records.{Fields, f_end, f_tenths, f_blank, f_text, f_unread}
use Rattle.layout.specs.Labels.{version, header_end, file_end, layout, bytes, name, codes, Rec, rec}
use Rattle.layout.specs.Layout.{Force, one_more, one_tec, maps, w_end, w_file, Slots, Lines, plain, Heads, h_end, rows_of, Makes, makes}
use Rattle.layout.proofs.Laws.{code_length}
use Rattle.reading.specs.Read.{read}
use Rattle.reading.proofs.Exact.{read_made, none_got}
use Rattle.reading.proofs.LineLaws.{spaces}
use Rattle.reading.proofs.RecordLaws.{known_heads, known_maps}
use Rattle.reading.specs.Head.{Fit, fit, FitAll}
use Rattle.areas.specs.Formed.{Formed}
use Rattle.areas.proofs.ScanRows.{known_version}
use Rattle.canonical.specs.Canon.{row_of, version_row, before_lines, order, head_rows, description_rows, header_rows, other_rows, map_rows, canon_rows, canon, Axes}
use Rattle.canonical.proofs.RowLaws.{GoodRow, spells_print, rec_good, rec_length, name_print, row_is, row_good}
use Rattle.canonical.proofs.TextLaws.{laid_out, ended_by_lf}
use Rattle.canonical.proofs.HeadRows.{clear, fit_clear, heads_put, lines_put, says_fit}
use Rattle.canonical.proofs.MapRows.{Wrote, with_others, with_tecs, others_put, tecs_put}

-- ---- the maps

rms_only : (xs hs : List OtherMap) → with_others Rms xs (record { tec = []; rms = []; height = hs }) ≡ record { tec = []; rms = xs; height = hs }
rms_only [] hs = refl
rms_only (x ∷ xs) hs = ap (one_more Rms x) (rms_only xs hs)

heights_only : (xs : List OtherMap) → with_others Height xs (record { tec = []; rms = []; height = [] }) ≡ record { tec = []; rms = []; height = xs }
heights_only [] = refl
heights_only (x ∷ xs) = ap (one_more Height x) (heights_only xs)

tecs_only : (ts : List TecMap) (xs hs : List OtherMap) → with_tecs ts (record { tec = []; rms = xs; height = hs }) ≡ record { tec = ts; rms = xs; height = hs }
tecs_only [] xs hs = refl
tecs_only (t ∷ ts) xs hs = ap (one_tec t) (tecs_only ts xs hs)

abbrev begins : Force
begins = record { exponent = negsuc 0; epochs = []; rms = 0; height = 0 }

module _ (m : MapSet) (f : Formed m) (a : Axes m.header) (n : m.header.times.maps ≤ 300) (l : m.header.times.last < after_2199) where
  file_put : (q : Force) → length q.epochs ≡ m.header.times.maps → Wrote m.header q (maps (record { tec = []; rms = []; height = [] })) (row_of file_end tt ∷ [])
  file_put q c = (w_file (row_is file_end tt tt) c w_end, (row_good file_end tt known_maps.4 tt, tt))

  heights_put : (q : Force) → length q.epochs ≡ m.header.times.maps → q.height ≡ 0
      → Wrote m.header q (maps (record { tec = []; rms = []; height = m.maps.height })) (other_rows Height m.header q.exponent m.maps.height (λ k. row_of file_end tt ∷ []))
  heights_put q c z =
      rw heights_only at (others_put m.header a Height tt (λ k. row_of file_end tt ∷ []) (record { tec = []; rms = []; height = [] }) m.maps.height q c n (rw z f.maps.height)
      (λ r s. file_put r (ap length s ∙ c)))

  rms_put : (q : Force) → length q.epochs ≡ m.header.times.maps → q.rms ≡ 0 → q.height ≡ 0
      → Wrote m.header q (maps (record { tec = []; rms = m.maps.rms; height = m.maps.height }))
      (other_rows Rms m.header q.exponent m.maps.rms (λ k. other_rows Height m.header k m.maps.height (λ k. row_of file_end tt ∷ [])))
  rms_put q c y z =
      rw rms_only at (others_put m.header a Rms tt (λ k. other_rows Height m.header k m.maps.height (λ k. row_of file_end tt ∷ []))
      (record { tec = []; rms = []; height = m.maps.height }) m.maps.rms q c n (rw y f.maps.rms) (λ r s. heights_put r (ap length s.0 ∙ c) (s.1 ∙ z)))

  maps_put : Wrote m.header begins (maps m.maps) (map_rows m)
  unfolding map_rows
  maps_put =
      rw tecs_only at (tecs_put m.header a n l _ (record { tec = []; rms = m.maps.rms; height = m.maps.height }) m.maps.tec begins (omega (arith, f.maps.count)) f.epochs f.maps.tec
      (λ q c y z. rms_put q c y z))

-- ---- the version record

code_print : (c : ℕ) → Printable (get_or codes c [])
unfolding all_dec within? ×_dec dec_le
code_print c = all_at Printable codes c [] (decided (all_dec (λ l. all_dec (within? 32 126) l) codes)) tt

abbrev first_columns : Version → List ℕ
first_columns v =
    show_field form.W1 8 (pos v.tenths) ++ (replicate 12 32 ++ (bytes "IONOSPHERE MAPS     " ++ (get_or codes v.code [] ++ replicate 17 32)))

maps_print : Printable (bytes "IONOSPHERE MAPS     ")
unfolding all_dec within? ×_dec dec_le
maps_print = decided (all_dec (within? 32 126) (bytes "IONOSPHERE MAPS     "))

module _ (v : Version) (w : VersionRules v) where
  tenths_room : FieldRoom form.W1 8 (pos v.tenths)
  tenths_room = (omega (arith, w.tenths.1), omega (arith, w.tenths.1))

  version_fields : Fields (layout version) (pos v.tenths, (73 ∷ [], (get_or codes v.code [], tt))) (first_columns v)
  version_fields =
      f_tenths (show_field form.W1 8 (pos v.tenths)) (written_spells tenths_room)
      (f_blank (f_text (bytes "I") refl (f_unread (bytes "ONOSPHERE MAPS     ") refl (f_text (get_or codes v.code []) (code_length v.code (takes_known w.code)) (f_unread (replicate 17 32) refl f_end)))))

  version_is : Rec version (pos v.tenths, (73 ∷ [], (get_or codes v.code [], tt))) (version_row v)
  unfolding version_row
  version_is = rec version_fields

  first_print : Printable (first_columns v)
  first_print =
      let end_of : List ℕ = get_or codes v.code [] ++ replicate 17 32 in
      let text : List ℕ = bytes "IONOSPHERE MAPS     " ++ end_of in
      all_append (Within 32 126) (show_field form.W1 8 (pos v.tenths)) (replicate 12 32 ++ text) (spells_print (show_spells tenths_room))
      (all_append (Within 32 126) (replicate 12 32) text (spaces 12)
      (all_append (Within 32 126) (bytes "IONOSPHERE MAPS     ") end_of maps_print (all_append (Within 32 126) (get_or codes v.code []) (replicate 17 32) (code_print v.code) (spaces 17))))

  version_good : GoodRow (version_row v)
  unfolding version_row
  version_good =
      rec_good known_version version_is (rec_length version known_version version_fields)
      (all_append (Within 32 126) (first_columns v) (name version) first_print (name_print version known_version))

-- ---- what the header's rules give

axis_fit : {l : Line} {a : Axis} → Fit (axis l) (some (along a)) → AxisRules l a
axis_fit (fit (a_axis r)) = r

count_fit : {low high n : ℕ} → Fit (count low high) (some (number n)) → Within low high n
count_fit (fit (a_count w)) = w

epoch_fit : {t : ℕ} → Fit an_epoch (some (number t)) → t < after_2199
epoch_fit (fit (a_epoch w)) = w

in_order : All (λ i. i < 22) order
unfolding all_dec ×_dec dec_lt
in_order = decided (all_dec (λ i. dec_lt i 22) order)

module _ (m : MapSet) (f : Formed m) where
  fits : FitAll (says m.header m.texts)
  fits = says_fit m f.header.records

  axes : Axes m.header
  axes = record { heights = axis_fit (fits 12); latitudes = axis_fit (fits 13); longitudes = axis_fit (fits 14) }

  body : Wrote m.header begins (maps m.maps) (map_rows m)
  body = maps_put m f axes (count_fit (fits 4)).1 (epoch_fit (fits 2))

  abbrev said : Slots
  said = says m.header m.texts

  -- what is left behind PGM / RUN BY / DATE
  abbrev later : Slots
  later = set said 0 none

  abbrev lines : Lines
  lines = lines_in m.header.descriptions m.texts.descriptions

  lines_good : All (Written line_width) lines
  lines_good = ruled_lines m.header.descriptions m.texts.descriptions f.header.descriptions

  end_put : Heads m plain (negsuc 0) (clear order later) [] (row_of header_end tt ∷ map_rows m) × All GoodRow (row_of header_end tt ∷ map_rows m)
  end_put =
      (h_end (row_is header_end tt tt) (none_got 22) f.header.fillers f.header.dimension f.header.limits body.0, (row_good header_end tt known_heads.3 tt, body.1))

  rest_put : Heads m plain (negsuc 0) later [] (head_rows order later (row_of header_end tt ∷ map_rows m)) × All GoodRow (head_rows order later (row_of header_end tt ∷ map_rows m))
  rest_put = heads_put m (negsuc 0) [] order later (row_of header_end tt ∷ map_rows m) in_order refl (fit_clear said 0 (omega arith) fits) end_put.0 end_put.1

  header_put : Heads m plain (negsuc 0) said lines (header_rows m.header m.texts (row_of header_end tt ∷ map_rows m))
      × All GoodRow (header_rows m.header m.texts (row_of header_end tt ∷ map_rows m))
  unfolding header_rows
  header_put =
      let behind = head_rows order later (row_of header_end tt ∷ map_rows m) in
      let x = lines_put m (negsuc 0) later lines behind lines_good rest_put.0 rest_put.1 in
      heads_put m (negsuc 0) lines before_lines said (description_rows lines ++ behind) (omega arith, tt) refl fits x.0 x.1

  -- every row has 80 printable columns, one of them not blank
  pub rows_good : All GoodRow (canon_rows m)
  unfolding canon_rows
  rows_good = (version_good m.header.version f.header.version, header_put.1)

  -- ---- canonical text is made from its map set
  pub canon_made : Makes m (canon m)
  unfolding canon canon_rows
  canon_made =
      let h = header_put in
      let v = f.header.version in
      let rs : List (List ℕ) = canon_rows m in
      makes (rows_of v f.header.descriptions (version_is m.header.version v) h.0) (laid_out _ (version_good m.header.version v, h.1)) (ended_by_lf _)

  -- and so is read as that map set again
  pub canon_read : read (canon m) ≡ ok m
  canon_read = read_made canon_made
