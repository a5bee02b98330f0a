-- `write_head::put_descriptions` meets its contract.
use mathlib.Core.Path.{◌≡◌, ap, subst, ◌∙◌}
use mathlib.Core.List.{List}
use Prim.Native.Nat.{ℕ, ◌+◌, ◌-◌, ◌*◌}
use native.Mathlib.Omega.{arith}
use lib.ListN.{take, drop}
use Rattle.mapset.specs.Described.{line_width}
use Rattle.write_line.specs.Put.{PutsOn}
use Rattle.write_line.proofs.PutLaws.{room_first, put_none, leads_self, leads_next}
use Rattle.write_head_row.specs.HeadRows.{description_row}
use Rattle.write_head.specs.Header.{lines_rows}
use Rattle.write_head.proofs.Laws.{line_next, lines_over}
use Rattle.write_head.proofs.put_descriptions.Goals as goal

-- the row of the next line
row_is : (l : List ℕ) (i : ℕ) {r : List ℕ} → r ≡ description_row (take (60 * i + 60 - 60 * i) (drop (60 * i) l)) → r ≡ description_row (take line_width (drop (line_width * i) l))
row_is l i r = let e : 60 * i + 60 - 60 * i ≡ line_width = omega arith in r ∙ ap (λ k. description_row (take k (drop (line_width * i) l))) e

pub loop-i-init : goal.loop-i-init
loop-i-init c =
    let a = c.args in
    let e : a.n ≡ a.n - 0 = omega arith in
    subst (λ k. PutsOn a.out.now a.at (lines_rows a.n a.lines.now) a.out.now a.at (lines_rows k a.lines.now)) e leads_self

pub put_line-next-requires : goal.put_line-next-requires
put_line-next-requires c =
    let a = c.args in
    let l = c.loop-i in
    rw (row_is a.lines.now l.i c.description_row-row.ensures) (room_first (rw (line_next a.n l.i a.lines.now c.loop-i-test.true) at (l.invariant.room c.requires.1)))

pub loop-i-preserved : goal.loop-i-preserved
loop-i-preserved c =
    let a = c.args in
    let l = c.loop-i in
    leads_next (rw (line_next a.n l.i a.lines.now c.loop-i-test.true) at l.invariant) (rw (row_is a.lines.now l.i c.description_row-row.ensures) at c.put_line-next.ensures)

pub returns : goal.returns
returns c =
    let a = c.args in
    let l = c.loop-i in
    l.invariant.rest _ _ (rw (lines_over a.n l.i (drop (line_width * l.i) a.lines.now) c.loop-i-test.false) put_none)
