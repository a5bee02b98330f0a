-- The header's rows as one list.
use mathlib.Core.Path.{◌≡◌, refl, sym, ap, ◌∙◌}
use mathlib.Core.Bool.{Bool, true, false}
use mathlib.Core.Option.{none}
use mathlib.Core.List.{List, [], ◌∷◌, ◌++◌, map, append_assoc}
use Prim.Native.Nat.{ℕ, suc, ◌+◌, ◌-◌, ◌*◌, ◌≤◌, ◌<◌, ◌^◌}
use native.Mathlib.Omega.{arith}
use native.Mathlib.Decide.{dec_le, dec_lt}
use lib.ListN.{get_or, set, take, drop}
use lib.Seq.{drop-drop}
use Rattle.kit.specs.Answer.{pick}
use Rattle.mapset.specs.declared.Header.{Header}
use Rattle.mapset.specs.declared.Texts.{Texts}
use Rattle.mapset.specs.Described.{line_width, FullTexts, full}
use Rattle.mapset.specs.Lines.{lines_in}
use Rattle.mapset.specs.Header.{Said, number, counts, says}
use Rattle.mapset.specs.Header as said
use Rattle.mapset.specs.Sound.{Count}
use Rattle.layout.specs.Labels.{header_end}
use Rattle.layout.specs.Layout.{Slots}
use Rattle.layout.specs.Names.{names}
use Rattle.canonical.specs.Canon.{row_of, version_row, slot_row, slot_rows, before_lines, order, head_rows, description_rows, header_rows}
use Rattle.write_row.specs.Rows.{row_at}
use Rattle.write_head_row.specs.HeadRows.{tenths_row, program_row, description_row, mapping_row, observables_row}
use Rattle.write_head.specs.Header.{if_stands, counted_rows, system_rows, first_rows, lines_rows, times_rows, middle_rows, systems_rows, last_rows, whole_header}

pub count_small : (b : Bool) (n : ℕ) → Count b n → n < 2 ^ 31
count_small true n c = omega (arith, c.1)
count_small false n c = omega arith

-- ---- the header's rows

slot_if : (i : ℕ) (b : Bool) (s : Said) → slot_rows i (said.if_stands b s) ≡ if_stands b (slot_row i s)
slot_if i true s = refl
slot_if i false s = refl

-- what stands behind the header stays behind it
head_rest : (is : List ℕ) (left : Slots) (rest more : List (List ℕ)) → head_rows is left (rest ++ more) ≡ head_rows is left rest ++ more
unfolding head_rows
head_rest [] left rest more = refl
head_rest (i ∷ is) left rest more =
    ap (λ rs. slot_rows i (get_or left i none) ++ rs) (head_rest is (set left i none) rest more)
    ∙ sym (append_assoc (slot_rows i (get_or left i none)) (head_rows is (set left i none) rest) more)

pub header_rest : (h : Header) (t : FullTexts) (rest more : List (List ℕ)) → header_rows h t (rest ++ more) ≡ header_rows h t rest ++ more
unfolding header_rows
header_rest h t rest more =
    let ds = description_rows (lines_in h.descriptions t.descriptions) in
    let left = set (says h t) 0 none in
    ap (λ rs. head_rows before_lines (says h t) rs) (ap (λ rs. ds ++ rs) (head_rest order left rest more) ∙ sym (append_assoc ds (head_rows order left rest) more))
    ∙ head_rest before_lines (says h t) (ds ++ head_rows order left rest) more

regroup : (a b c d e f g h i l : List (List ℕ))
    → a ++ (b ++ (c ++ (d ++ (e ++ (f ++ (g ++ (h ++ (i ++ l)))))))) ≡ (a ++ b) ++ ((c ++ (d ++ (e ++ (f ++ (g ++ (h ++ i)))))) ++ l)
regroup a b c d e f g h i l = simp append_assoc

-- behind the DESCRIPTION lines
behind_lines : (h : Header) (t : Texts) (bs : List ℕ)
    → head_rows order (set (says h (full t bs)) 0 none) (row_of header_end tt ∷ []) ≡ times_rows h.times ++ (middle_rows h t ++ (systems_rows h.systems ++ last_rows h.model h.grid))
unfolding head_rows slot_row pick dec_lt dec_le row_of row_at names times_rows middle_rows systems_rows last_rows
behind_lines h t bs =
    let s = h.systems in
    let rows = last_rows h.model h.grid in
    ap (λ rs. times_rows h.times ++ (mapping_row t ∷ tenths_row 9 h.model.cutoff ∷ observables_row t ∷ rs))
    ((λ i.
    slot_if 8 h.stations.stands (number h.stations.count) i
    ++ (slot_if 9 h.satellites.stands (number h.satellites.count) i
    ++ (slot_if 15 s.g.stands (counts s.g.stations s.g.satellites) i
    ++ (slot_if 16 s.r.stands (counts s.r.stations s.r.satellites) i
    ++ (slot_if 17 s.e.stands (counts s.e.stations s.e.satellites) i
    ++ (slot_if 18 s.c.stands (counts s.c.stations s.c.satellites) i
    ++ (slot_if 19 s.j.stands (counts s.j.stations s.j.satellites) i
    ++ (slot_if 20 s.i.stands (counts s.i.stations s.i.satellites) i
    ++ (slot_if 21 s.s.stands (counts s.s.stations s.s.satellites) i ++ rows)))))))))
    ∙ regroup (counted_rows 11 h.stations) (counted_rows 12 h.satellites) (system_rows 0 s.g) (system_rows 1 s.r) (system_rows 2 s.e) (system_rows 3 s.c) (system_rows 4 s.j) (system_rows 5 s.i) (system_rows 6 s.s) rows)

lines_are : (ds : List (List ℕ)) → description_rows ds ≡ map description_row ds
unfolding description_rows row_of row_at names
lines_are [] = refl
lines_are (d ∷ ds) = ap (λ rs. description_row d ∷ rs) (lines_are ds)

pub header_is : (h : Header) (t : Texts) (bs : List ℕ)
    → whole_header h (full t bs) ≡ first_rows h.version t ++ (lines_rows h.descriptions bs ++ (times_rows h.times ++ (middle_rows h t ++ (systems_rows h.systems ++ last_rows h.model h.grid))))
unfolding header_rows head_rows slot_row pick dec_lt dec_le row_of row_at names first_rows lines_rows
header_is h t bs = λ i. version_row h.version ∷ program_row t ∷ (lines_are (lines_in h.descriptions bs) i ++ behind_lines h t bs i)

-- ---- one line of the description, then the rest
pub line_next : (n i : ℕ) (bs : List ℕ) → i < n
    → lines_rows (n - i) (drop (line_width * i) bs) ≡ description_row (take line_width (drop (line_width * i) bs)) ∷ lines_rows (n - (i + 1)) (drop (line_width * (i + 1)) bs)
unfolding lines_rows lines_in
line_next n i bs h =
    let e : n - i ≡ suc (n - (i + 1)) = omega arith in
    let f : line_width * i + line_width ≡ line_width * (i + 1) = omega arith in
    ap (λ k. map description_row (lines_in k (drop (line_width * i) bs))) e
    ∙ ap (λ l. description_row (take line_width (drop (line_width * i) bs)) ∷ map description_row (lines_in (n - (i + 1)) l)) (drop-drop line_width (line_width * i) bs ∙ ap (λ k. drop k bs) f)

pub lines_over : (n i : ℕ) (bs : List ℕ) → n ≤ i → lines_rows (n - i) bs ≡ []
unfolding lines_rows lines_in
lines_over n i bs h = let e : n - i ≡ 0 = omega arith in ap (λ k. map description_row (lines_in k bs)) e
