-- `maps_records::blank` meets its contract.
use mathlib.Core.Path.{sym, ◌∙◌}
use Rattle.reading.specs.Fields.{blank_to}
use Rattle.maps_records.proofs.blank.Goals as goal

pub returns-in-Some : goal.returns-in-Some
unfolding blank_to
returns-in-Some c = rw (c.ill_formed.ensures, sym c.first_not_blank.ensures ∙ c.in-Some.is)

pub returns-in-None : goal.returns-in-None
unfolding blank_to
returns-in-None c = rw (sym c.first_not_blank.ensures ∙ c.in-None.is)
