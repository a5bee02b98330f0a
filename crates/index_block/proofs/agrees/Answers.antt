-- `index_block::agrees` meets its contract.
use mathlib.Core.Bool.{false}
use mathlib.Core.Path.{◌≡◌, sym, ap, ◌∙◌}
use Prim.Native.Nat.{◌-◌}
use lib.IntN.{ℤ}
use mir.Syntax.{w32}
use mir.Val.{to_z, of_z}
use Rattle.kit.specs.Integer.{int?}
use Rattle.kit.specs.Truth.{truth}
use Rattle.layout.specs.Records.{Vals}
use Rattle.layout.specs.Labels.{block, layout}
use Rattle.maps_records.specs.declared.Opening.{Opening}
use Rattle.reading.specs.Maps.{height?}
use Rattle.index_block.proofs.OpenLaws.{row_wrong, line_wrong, height_tells, some_found, none_found}
use borrow.Author.Rules.{rules}
use Rattle.index_block.proofs.agrees.Goals as goal

abbrev five : Opening → Vals (layout block)
five o = (o.latitude, (o.first, (o.last, (o.step, (o.height, tt)))))

pub returns-then-not-row_agrees : goal.returns-then-not-row_agrees
returns-then-not-row_agrees c =
    let a = c.args in
    let z : to_z w32 (of_z w32 a.o.latitude) ≡ a.o.latitude = search rules in
    let h : false ≡ truth (int? (to_z w32 (of_z w32 a.o.latitude)) _) = c.if-not-row_agrees.ensures in
    row_wrong a.header a.d (c.per_map.result - a.d) c.requires.1 (ap (λ j. j - a.d) c.per_map.ensures) (five a.o) (sym (rw z at h))

pub returns-then-is_some : goal.returns-then-is_some
returns-then-is_some c =
    let a = c.args in
    let x : to_z w32 (of_z w32 a.o.first) ≡ a.o.first = search rules in
    let y : to_z w32 (of_z w32 a.o.last) ≡ a.o.last = search rules in
    let z : to_z w32 (of_z w32 a.o.step) ≡ a.o.step = search rules in
    line_wrong a.header a.d (c.per_map.result - a.d) c.requires.1 (ap (λ j. j - a.d) c.per_map.ensures) (five a.o)
    (λ e. some_found c.differs.result c.if-is_some.ensures ((rw (x, y, z) at c.differs.ensures) ∙ e))

pub returns : goal.returns
unfolding height?
returns c =
    let a = c.args in
    let w : to_z w32 (of_z w32 a.o.latitude) ≡ a.o.latitude = search rules in
    let x : to_z w32 (of_z w32 a.o.first) ≡ a.o.first = search rules in
    let y : to_z w32 (of_z w32 a.o.last) ≡ a.o.last = search rules in
    let z : to_z w32 (of_z w32 a.o.step) ≡ a.o.step = search rules in
    let h : to_z w32 (of_z w32 a.o.height) ≡ a.o.height = search rules in
    height_tells a.header a.d (c.per_map.result - a.d) c.requires.1 (ap (λ j. j - a.d) c.per_map.ensures) (five a.o)
    (sym (rw w at c.if-not-row_agrees.ensures)) (sym (rw (x, y, z) at c.differs.ensures) ∙ none_found c.differs.result c.if-is_some.ensures)
    c.height_agrees.result (rw h at c.height_agrees.ensures)
