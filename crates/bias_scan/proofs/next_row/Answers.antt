-- `bias_scan::next_row` meets its contract.
use mathlib.Core.Path.{sym, subst, ◌∙◌}
use Rattle.read_lines.specs.Leads.{Leads}
use Rattle.bias_scan.proofs.TurnLaws.{halts_over, halts_bad, on_satellite, on_station}
use Rattle.bias_scan.proofs.next_row.Goals as goal

pub returns-in-Over : goal.returns-in-Over
returns-in-Over c = let a = c.args in halts_over a.text.now a.from.at a.from.lines a.from.place c.in-Over.n c.line_after.result (subst (Leads a.text.now a.from.at a.from.lines) c.in-Over.is c.row_from.ensures).on c.line_after.ensures

pub returns-in-Bad : goal.returns-in-Bad
returns-in-Bad c = let a = c.args in halts_bad a.text.now a.from.at a.from.lines a.from.place _ (subst (Leads a.text.now a.from.at a.from.lines) c.in-Bad.is c.row_from.ensures)

pub returns-in-OfSatellite : goal.returns-in-OfSatellite
returns-in-OfSatellite c =
    let a = c.args in
    let z = subst (Leads a.text.now a.from.at a.from.lines) c.in-Row.is c.row_from.ensures in
    on_satellite a.text.now a.from.at a.from.lines _ _ _ _ a.from.place z (sym c.role_of.ensures ∙ c.in-OfSatellite.is)

pub returns-in-OfStation : goal.returns-in-OfStation
returns-in-OfStation c =
    let a = c.args in
    let z = subst (Leads a.text.now a.from.at a.from.lines) c.in-Row.is c.row_from.ensures in
    on_station a.text.now a.from.at a.from.lines _ _ _ _ a.from.place z (sym c.role_of.ensures ∙ c.in-OfStation.is)
