use mathlib.Core.Path.{◌≡◌, refl, sym, ap, ◌∙◌}
use mir.Syntax.{w32}
use mir.Val.{to_z, of_z}
use borrow.Author.Rules.{rules}
use Rattle.std.specs.Prelude.{Err}
use Rattle.reading.specs.Maps.{height?}
use Rattle.maps_bounds.specs.Steps.{force_of}
use Rattle.maps_bounds.proofs.StepLaws.{stops}
use Rattle.maps_body.proofs.InsideLaws.{opens, row_wrong, longitude_wrong, height_wrong, opened_fine}
use Rattle.maps_body.proofs.block_of.Goals as goal

pub returns-then-not-row_agrees : goal.returns-then-not-row_agrees
returns-then-not-row_agrees c =
    λ h es. let a = c.args in
    let x : to_z w32 (of_z w32 a.opening.latitude) ≡ a.opening.latitude = search rules in
    ap Err c.disagrees.ensures ∙ stops es (row_wrong a.header a.this (force_of a.past es) _ _ _ _ _ (sym (rw x at c.if-not-row_agrees.ensures)))

pub returns-in-Some : goal.returns-in-Some
returns-in-Some c =
    λ h es. let a = c.args in
    let x : to_z w32 (of_z w32 a.opening.latitude) ≡ a.opening.latitude = search rules in
    let y0 : to_z w32 (of_z w32 a.opening.first) ≡ a.opening.first = search rules in
    let y1 : to_z w32 (of_z w32 a.opening.last) ≡ a.opening.last = search rules in
    let y2 : to_z w32 (of_z w32 a.opening.step) ≡ a.opening.step = search rules in
    ap Err c.disagrees-in-Some.ensures
    ∙ stops es (longitude_wrong a.header a.this (force_of a.past es) _ _ _ _ _ (sym (rw x at c.if-not-row_agrees.ensures)) (sym (rw (y0, y1, y2) at c.in-Some.ensures)))

pub returns-then-not-height_agrees : goal.returns-then-not-height_agrees
unfolding height?
returns-then-not-height_agrees c =
    λ h es. let a = c.args in
    let x : to_z w32 (of_z w32 a.opening.latitude) ≡ a.opening.latitude = search rules in
    let y0 : to_z w32 (of_z w32 a.opening.first) ≡ a.opening.first = search rules in
    let y1 : to_z w32 (of_z w32 a.opening.last) ≡ a.opening.last = search rules in
    let y2 : to_z w32 (of_z w32 a.opening.step) ≡ a.opening.step = search rules in
    let z : to_z w32 (of_z w32 a.opening.height) ≡ a.opening.height = search rules in
    ap Err c.disagrees-then-not-height_agrees.ensures
    ∙ stops es
    (height_wrong a.header a.this (force_of a.past es) _ _ _ _ _ (sym (rw x at c.if-not-row_agrees.ensures)) (sym (rw (y0, y1, y2) at c.in_default.ensures)) (sym (rw z at c.if-not-height_agrees.ensures)))

pub returns : goal.returns
unfolding height?
returns c =
    λ h es. let a = c.args in
    let x : to_z w32 (of_z w32 a.opening.latitude) ≡ a.opening.latitude = search rules in
    let y0 : to_z w32 (of_z w32 a.opening.first) ≡ a.opening.first = search rules in
    let y1 : to_z w32 (of_z w32 a.opening.last) ≡ a.opening.last = search rules in
    let y2 : to_z w32 (of_z w32 a.opening.step) ≡ a.opening.step = search rules in
    let z : to_z w32 (of_z w32 a.opening.height) ≡ a.opening.height = search rules in
    rw c.nodes.ensures
    (opens es _ a.past refl
    (opened_fine a.header a.this (force_of a.past es) _ _ _ _ _ (sym (rw x at c.if-not-row_agrees.ensures)) (sym (rw (y0, y1, y2) at c.in_default.ensures)) (sym (rw z at c.if-not-height_agrees.ensures))))
