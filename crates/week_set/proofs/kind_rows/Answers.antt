use Rattle.std.proofs.Common.{◌≡◌, ℕ, ℤ, List, ◌+◌, ◌-◌, ◌*◌, ◌≤◌, ◌<◌, length, get_or, arith, refl, sym, ap, ◌∙◌}
use Rattle.std.proofs.Math.Option.{Option}
use native.Mathlib.Nat.{mul-le-mul, le_refl}
use lib.Seq.{sets}
use Rattle.areas.specs.Lists.{flat, tab}
use Rattle.c_header.proofs.SetLaws.{sets_append}
use Rattle.week_tally.specs.Figures.{nodes_in, figures, joined, Ready}
use Rattle.week_tally.specs.Rows.{row}
use Rattle.week_tally.specs.declared.Tally.{Tally}
use Rattle.week_tally.proofs.FigureLaws.{joined_none, bounded_joined, nodes_joined}
use Rattle.week_set.specs.Parts.{part_nodes, parts_nodes, parts_rows, KindHolds}
use Rattle.week_set.proofs.LoopLaws.{maps_next, maps_end, part_bounded, part_count, kind_map}
use Rattle.week_set.proofs.RowLaws.{rows_next, rows_end, rows_length}
use Rattle.week_set.proofs.kind_rows.Goals as goal

-- the map at hand
module _ (k B C : ℕ) (ms : List ℕ) (vs es : List ℤ) where
  abbrev nodes : ℕ → List (Option ℤ)
  nodes n = part_nodes k n B C (get_or ms n 0) vs es

  abbrev here : ℕ → Tally
  here n = figures (nodes n)

  module _ (h : KindHolds k B C ms vs es) (i : ℕ) (l : i < length ms) where
    room : i * (B * C) + B * C ≤ length ms * (B * C)
    room = let m : i + 1 ≤ length ms = omega arith in let r = mul-le-mul m (le_refl (B * C)) in omega arith

    count : nodes_in (here i) ≡ B * C
    count = part_count _ _ _ _ _ _ _ (kind_map k B C ms vs es i h l)

    ready : Ready (here i)
    ready = (part_bounded k i B C (get_or ms i 0) vs es, omega (arith, count, room, h.nodes))

pub loop-i-init : goal.loop-i-init
loop-i-init c =
    let n = length c.args.marks.now in
    let z : n - 0 ≡ n = omega arith in
    let p : c.args.at + 5 * 0 ≡ c.args.at = omega arith in
    rw (c.empty-t.ensures, z, p) (omega arith, omega arith, joined_none _, refl)

pub put_row-requires : goal.put_row-requires
put_row-requires c =
    let a = c.args in
    (omega (arith, c.requires.1), rw c.map_tally-m.ensures (ready a.kind a.blocks a.columns a.marks.now a.values.now a.exponents.now c.requires.0 c.loop-i.i (omega arith)))

pub join-t-requires : goal.join-t-requires
join-t-requires c =
    let a = c.args in
    let l = c.loop-i in
    let r = room a.kind a.blocks a.columns a.marks.now a.values.now a.exponents.now c.requires.0 l.i (omega arith) in
    ((l.invariant.0, omega (arith, l.invariant.1, r, c.requires.0.nodes)), rw c.map_tally-m.ensures (ready a.kind a.blocks a.columns a.marks.now a.values.now a.exponents.now c.requires.0 l.i (omega arith)))

pub loop-i-preserved : goal.loop-i-preserved
loop-i-preserved c =
    let a = c.args in
    let l = c.loop-i in
    let n = length a.marks.now in
    let g = nodes a.kind a.blocks a.columns a.marks.now a.values.now a.exponents.now in
    let m = here a.kind a.blocks a.columns a.marks.now a.values.now a.exponents.now in
    let r = ready a.kind a.blocks a.columns a.marks.now a.values.now a.exponents.now c.requires.0 l.i (omega arith) in
    let k = count a.kind a.blocks a.columns a.marks.now a.values.now a.exponents.now c.requires.0 l.i (omega arith) in
    let e : c.join-t.result ≡ joined l.t (m l.i) = c.join-t.ensures ∙ ap (joined l.t) c.map_tally-m.ensures in
    let f = c.put_row.ensures ∙ ap (λ (u : Tally). sets l.rows (a.at + 5 * l.i) (row u)) c.map_tally-m.ensures in (
      rw e (bounded_joined l.t (m l.i) l.invariant.0 r.0),
      rw e (omega (arith, nodes_joined l.t (m l.i), k, l.invariant.1)),
      rw e (maps_next n l.i g l.t (omega arith) ∙ l.invariant.2),
      rw f (rows_next a.at n l.i m l.rows (omega arith) ∙ l.invariant.3),
    )

pub returns : goal.returns
unfolding parts_rows
returns c =
    let a = c.args in
    let l = c.loop-i in
    let n = length a.marks.now in
    let g = nodes a.kind a.blocks a.columns a.marks.now a.values.now a.exponents.now in
    let m = here a.kind a.blocks a.columns a.marks.now a.values.now a.exponents.now in
    let whole = figures (parts_nodes a.kind a.blocks a.columns a.marks.now a.values.now a.exponents.now) in
    let t : l.t ≡ whole = sym (maps_end n l.i g l.t (omega arith)) ∙ l.invariant.2 in
    let s : l.rows ≡ sets a.rows.now a.at (flat (tab 0 n (λ j. row (m j)))) = sym (rows_end a.at n l.i m l.rows (omega arith)) ∙ l.invariant.3 in (
      t,
      c.put_row-2.ensures ∙ (λ x. sets (s x) (a.at + 5 * n) (row (t x)))
          ∙ sets_append (flat (tab 0 n (λ j. row (m j)))) (row whole) a.rows.now a.at (a.at + 5 * n) (omega (arith, rows_length n m)),
    )
