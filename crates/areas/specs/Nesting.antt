-- The map set that valid lists mean.
use Rattle.mapset.specs.declared.Header.{Header}
use Rattle.mapset.specs.Described.{FullTexts}
use Rattle.mapset.specs.Grid.{columns}
use Rattle.mapset.specs.MapSet.{MapSet}
use Rattle.mapset.specs.Areas.{Areas}
use Rattle.layout.specs.Layout.{per_map}
use Rattle.areas.specs.Nest.{nest}
use Rattle.areas.specs.Valid.{needed}

-- the map set of valid lists
abbrev pub nested : Header → FullTexts → Areas → MapSet
nested h t a = record { header = h; texts = t; maps = nest h.times.maps (per_map h) (columns h.grid) (needed h a) }
