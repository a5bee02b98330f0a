-- A node in its unit.
use Rattle.std.proofs.Math.Option.{Option, none, some}
use Rattle.std.specs.Prelude.{ℤ, Option as Maybe, Some, None}
use Rattle.mapset.specs.declared.Kind.{Kind}
use Rattle.mapset.specs.declared.Kind.TheVariants.{Tec as tec, Rms as rms, Height as height}
use Rattle.ask_nodes.specs.declared.Value.{Value}
use Rattle.ask_nodes.specs.declared.Value.TheVariants as V

-- in the kind's unit
abbrev pub in_node : Kind → Option ℤ → Maybe Value
in_node k none = None
in_node tec (some v) = Some (V.Tecu (record { 0 = v }))
in_node rms (some v) = Some (V.Tecu (record { 0 = v }))
in_node height (some v) = Some (V.Km (record { 0 = v }))

-- the unit taken off
abbrev pub bare : Maybe Value → Option ℤ
bare None = none
bare (Some (V.Tecu v)) = some v.0
bare (Some (V.Km v)) = some v.0
