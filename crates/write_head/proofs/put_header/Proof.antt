-- `write_head::put_header` meets its contract.
use mathlib.Core.Path.{sym, subst, ◌∙◌}
use mathlib.Core.List.{List, ◌++◌}
use Prim.Native.Nat.{ℕ}
use native.Mathlib.Omega.{arith}
use Rattle.mapset.specs.Described.{full}
use Rattle.mapset.specs.declared.Header.{Header}
use Rattle.write_line.specs.Put.{PutsOn}
use Rattle.write_line.proofs.PutLaws.{room_front, leads_self, leads_on}
use Rattle.write_head.specs.Header.{first_rows, lines_rows, times_rows, middle_rows, systems_rows, last_rows, whole_header}
use Rattle.write_head.proofs.Laws.{header_is}
use Rattle.write_head.proofs.put_header.Statement.{statement}
use Rattle.write_head.proofs.put_header.Tie as tie

-- the groups of rows, and what stands behind each
module _ (s : tie.Start) where
  abbrev h : Header
  h = s.args.header

  abbrev first : List (List ℕ)
  first = first_rows h.version s.args.texts

  abbrev lines : List (List ℕ)
  lines = lines_rows h.descriptions s.args.descriptions.now

  abbrev times : List (List ℕ)
  times = times_rows h.times

  abbrev middle : List (List ℕ)
  middle = middle_rows h s.args.texts

  abbrev systems : List (List ℕ)
  systems = systems_rows h.systems

  abbrev last : List (List ℕ)
  last = last_rows h.model h.grid

  abbrev whole : List (List ℕ)
  whole = whole_header h (full s.args.texts s.args.descriptions.now)

  abbrev On : List ℕ → ℕ → List (List ℕ) → Type 0
  On o at rows = PutsOn s.args.out.now s.args.at whole o at rows

  begins : On s.args.out.now s.args.at (first ++ (lines ++ (times ++ (middle ++ (systems ++ last)))))
  begins = subst (λ rows. PutsOn s.args.out.now s.args.at rows s.args.out.now s.args.at (first ++ (lines ++ (times ++ (middle ++ (systems ++ last)))))) (sym (header_is h s.args.texts s.args.descriptions.now)) leads_self

on_first : (c : tie.After-put_first-a) → let s = c.before.before.before.before.before in On s.before c.put_first-a.new.out c.put_first-a.result (lines s.before ++ (times s.before ++ (middle s.before ++ (systems s.before ++ last s.before))))
on_first c = let s = c.before.before.before.before.before in leads_on (first s.before) (lines s.before ++ (times s.before ++ (middle s.before ++ (systems s.before ++ last s.before)))) (begins s.before) c.put_first-a.ensures

on_lines : (c : tie.After-put_descriptions-b) → let s = c.before.before.before.before.before.before.before.before.before in On s.before c.put_descriptions-b.new.out c.put_descriptions-b.result (times s.before ++ (middle s.before ++ (systems s.before ++ last s.before)))
on_lines c = let s = c.before.before.before.before.before.before.before.before.before in leads_on (lines s.before) (times s.before ++ (middle s.before ++ (systems s.before ++ last s.before))) (on_first c.before.before.before.before) c.put_descriptions-b.ensures

on_times : (c : tie.After-put_times-c) → let s = c.before.before.before.before.before.before.before.before.before.before.before.before.before in On s.before.before c.put_times-c.new.out c.put_times-c.result (middle s.before.before ++ (systems s.before.before ++ last s.before.before))
on_times c = let s = c.before.before.before.before.before.before.before.before.before.before.before.before.before in leads_on (times s.before.before) (middle s.before.before ++ (systems s.before.before ++ last s.before.before)) (on_lines c.before.before.before.before.before) c.put_times-c.ensures

on_middle : (c : tie.After-put_middle-d) → let s = c.before.before.before.before.before.before.before.before.before.before.before.before.before.before.before.before.before in On s.before.before c.put_middle-d.new.out c.put_middle-d.result (systems s.before.before ++ last s.before.before)
on_middle c = let s = c.before.before.before.before.before.before.before.before.before.before.before.before.before.before.before.before.before in leads_on (middle s.before.before) (systems s.before.before ++ last s.before.before) (on_times c.before.before.before.before) c.put_middle-d.ensures

on_systems : (c : tie.After-put_systems-e) → let s = c.before.before.before.before.before.before.before.before.before.before.before.before.before.before.before.before.before.before.before.before.before in On s.before.before.before c.put_systems-e.new.out c.put_systems-e.result (last s.before.before.before)
on_systems c = let s = c.before.before.before.before.before.before.before.before.before.before.before.before.before.before.before.before.before.before.before.before.before in leads_on (systems s.before.before.before) (last s.before.before.before) (on_middle c.before.before.before.before.before) c.put_systems-e.ensures

cast-lines : tie.Need-overflow_cast-lines
cast-lines c = record { fits = omega (arith, c.requires.0.1.0.1.1.1.1.1.0) }

put-first-requires : tie.Need-put_first-a-requires
put-first-requires c κs = let s = c.before.before.before.before in (s.requires.0.0, room_front (first s.before) (lines s.before ++ (times s.before ++ (middle s.before ++ (systems s.before ++ last s.before)))) ((begins s.before).room s.requires.1))

put-descriptions-requires : tie.Need-put_descriptions-b-requires
put-descriptions-requires c κs =
    let s = c.before.before.before.before.before.before.before.before in
    let d = s.requires.0.1.0.1.1.1.1.1 in
    (omega (arith, d.0, d.1.0.0), room_front (lines s.before) (times s.before ++ (middle s.before ++ (systems s.before ++ last s.before))) ((on_first c.before.before.before).room s.requires.1))

put-times-requires : tie.Need-put_times-c-requires
put-times-requires c κs = let s = c.before.before.before.before.before.before.before.before.before.before.before.before in (s.requires.0.1.1.0, room_front (times s.before.before) (middle s.before.before ++ (systems s.before.before ++ last s.before.before)) ((on_lines c.before.before.before.before).room s.requires.1))

put-middle-requires : tie.Need-put_middle-d-requires
put-middle-requires c κs =
    let s = c.before.before.before.before.before.before.before.before.before.before.before.before.before.before.before.before in
    let g = s.requires.0.1.1.1 in
    ((g.0, (g.1.1.0, g.1.1.1.0)), room_front (middle s.before.before) (systems s.before.before ++ last s.before.before) ((on_times c.before.before.before).room s.requires.1))

put-systems-requires : tie.Need-put_systems-e-requires
put-systems-requires c κs = let s = c.before.before.before.before.before.before.before.before.before.before.before.before.before.before.before.before.before.before.before.before in (s.requires.0.1.1.1.1.1.1.1.0, room_front (systems s.before.before.before) (last s.before.before.before) ((on_middle c.before.before.before.before).room s.requires.1))

put-last-requires : tie.Need-put_last-requires
put-last-requires c κs = let s = c.before.before.before.before.before.before.before.before.before.before.before.before.before.before.before.before.before.before.before.before.before.before.before.before in (s.requires.0.1.1.1.0, (on_systems c.before.before.before.before.before).room s.requires.1)

same_length : tie.Need-shape_of-out
same_length c = c.put_last.ensures.size ∙ (on_systems c.before.before.before.before.before.before.before.before).size

returns : tie.Need-returns
returns c = (on_systems c.before.before.before.before.before.before.before.before).rest _ _ c.put_last.ensures

pub put_header_spec : {M : Type 1} → statement M
put_header_spec = tie.close (tie.spec cast-lines put-first-requires put-descriptions-requires put-times-requires put-middle-requires put-systems-requires put-last-requires same_length returns)
