-- `bias_text::of_header` meets its contract.
use mathlib.Core.Path.{sym}
use mathlib.Core.Option.{some}
use Rattle.std.proofs.lemmas.Result.{err_from_is_err_and}
use Rattle.bias_fill.specs.Flat.{lent}
use Rattle.bias_text.specs.Biased.{with_room}
use Rattle.bias_text.proofs.BiasedLaws.{biases_refuse, biases_number, too_short, enough, stored_is}
use Rattle.bias_text.proofs.of_header.Goals as goal

pub returns-in_err-given : goal.returns-in_err-given
returns-in_err-given c =
    let a = c.args in
    let l = lent a.satellites.now a.stations.now a.names.now in
    let p = err_from_is_err_and c.from_residual.result c.from_residual.ensures.1 in
    rw (p.1, p.2 (biases_number a.text.now l c.requires _ c.in_err-given.ensures)) (biases_refuse a.text.now l c.requires _ c.in_err-given.ensures)

pub fill_areas-requires : goal.fill_areas-requires
fill_areas-requires c =
    let a = c.args in
    enough a.text.now (lent a.satellites.now a.stations.now a.names.now) c.requires _ _ c.in_ok-given.ensures c.in_ok-room_for.ensures

pub returns-in_err-room_for : goal.returns-in_err-room_for
unfolding with_room
returns-in_err-room_for c =
    let a = c.args in
    let p = err_from_is_err_and c.from_residual-in_err-room_for.result c.from_residual-in_err-room_for.ensures.1 in
    rw (p.1, p.2) (sym (too_short a.text.now (lent a.satellites.now a.stations.now a.names.now) c.requires _ _ c.in_ok-given.ensures (some _) c.in_err-room_for.ensures))

pub returns : goal.returns
returns c =
    let a = c.args in
    stored_is a.text.now (lent a.satellites.now a.stations.now a.names.now) c.requires _ _ c.in_ok-given.ensures _ c.in_ok-room_for.ensures c.fill_areas.ensures
