-- `bias_fill::fill_row` meets its contract.
use native.Mathlib.Omega.{arith}
use lib.ListN.{length-take, length-drop}
use Rattle.bias_fill.specs.Flat.{lent}
use Rattle.bias_fill.proofs.FilledLaws.{halted, ended, skipped, satellite_fit, satellite_filled, station_fit, station_filled}
use Rattle.bias_fill.proofs.fill_row.Goals as goal

pub returns-in-Err : goal.returns-in-Err
returns-in-Err c = halted c.args.text.now c.args.f (lent c.args.satellites.now c.args.stations.now c.args.names.now) c.requires _ c.in-Err.ensures

pub returns-in-Ok-Last : goal.returns-in-Ok-Last
returns-in-Ok-Last c =
    let o = rw c.in-Ok-Last.field-0-is at c.in-Ok-Last.ensures in
    ended c.args.text.now c.args.f (lent c.args.satellites.now c.args.stations.now c.args.names.now) c.requires o.0 o.1 o.2 o.3

pub returns-in-Ok-Skip : goal.returns-in-Ok-Skip
returns-in-Ok-Skip c =
    let o = rw c.in-Ok-Skip.field-0-is at c.in-Ok-Skip.ensures in
    skipped c.args.text.now c.args.f (lent c.args.satellites.now c.args.stations.now c.args.names.now) c.requires o.0 _ _ _ o.1

pub store_satellite-k-requires : goal.store_satellite-k-requires
store_satellite-k-requires c =
    let o = rw c.in-Ok-Satellite.field-0-is at c.in-Ok-Satellite.ensures in
    let h = o.fits in
    (simp (length-take, length-drop) (omega arith), satellite_fit c.args.text.now c.args.f (lent c.args.satellites.now c.args.stations.now c.args.names.now) c.requires _ _ _ o.row)

pub store_station-k-requires : goal.store_station-k-requires
store_station-k-requires c =
    let o = rw c.in-Ok-Station.field-0-is at c.in-Ok-Station.ensures in
    let h = o.fits in
    let k = station_fit c.args.text.now c.args.f (lent c.args.satellites.now c.args.stations.now c.args.names.now) c.requires _ _ _ o.row in
    (simp (length-take, length-drop) (omega arith), k.0, k.1)

pub returns-in-Ok-Satellite : goal.returns-in-Ok-Satellite
returns-in-Ok-Satellite c =
    let o = rw c.in-Ok-Satellite.field-0-is at c.in-Ok-Satellite.ensures in
    let w = c.store_satellite-k.ensures in
    rw c.behind.ensures (satellite_filled c.args.text.now c.args.f (lent c.args.satellites.now c.args.stations.now c.args.names.now) c.requires _ _ _ o.row _ _ w.0 w.1)

pub returns-in-Ok-Station : goal.returns-in-Ok-Station
returns-in-Ok-Station c =
    let o = rw c.in-Ok-Station.field-0-is at c.in-Ok-Station.ensures in
    let w = c.store_station-k.ensures in
    rw c.behind-in-Ok-Station.ensures (station_filled c.args.text.now c.args.f (lent c.args.satellites.now c.args.stations.now c.args.names.now) c.requires _ _ _ o.row w.1 _ _ _ w.0 w.2 w.3)
