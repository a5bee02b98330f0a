use Rattle.std.proofs.Common.{◌≡◌, ◌+◌, ◌-◌, ◌*◌, ◌≤◌, get_or, length}
use Rattle.std.proofs.lemmas.List.Edits.{sets}
use Rattle.areas.specs.Lists.{flat, tab}
use Rattle.week_tally.specs.Figures.{Bounded, nodes_in, figures, joined}
use Rattle.week_set.specs.Parts.{part_nodes, part_row}
use Rattle.week_set.proofs.kind_rows.Given as goal

abbrev pub invariant-loop-i : goal.invariant-loop-i
invariant-loop-i l =
    Bounded l.t × (nodes_in l.t ≤ l.i * (l.blocks * l.columns))
    × (joined l.t (figures (flat (tab l.i (length l.marks - l.i) (λ n. part_nodes l.kind n l.blocks l.columns (get_or l.marks n 0) l.values l.exponents))))
    ≡ figures (flat (tab 0 (length l.marks) (λ n. part_nodes l.kind n l.blocks l.columns (get_or l.marks n 0) l.values l.exponents))))
    × (sets l.rows (l.at + 5 * l.i) (flat (tab l.i (length l.marks - l.i) (part_row l.kind l.blocks l.columns l.marks l.values l.exponents)))
    ≡ sets l.initial.rows l.at (flat (tab 0 (length l.marks) (part_row l.kind l.blocks l.columns l.marks l.values l.exponents))))
