-- `bias_line::station_meant` meets its contract.
use mathlib.Core.Path.{ap}
use mir.Facts.{to_z-of_z}
use Rattle.kit.specs.Answer.{ok, bind}
use Rattle.biases.specs.Read.{station_meant}
use Rattle.biases.specs.declared.Station.{Station}
use Rattle.forms.proofs.ColumnLaws.{one_column}
use borrow.Author.Rules.{rules}
use Rattle.bias_line.proofs.station_meant.Goals as goal

pub returns-in_err-system : goal.returns-in_err-system
unfolding station_meant bind
returns-in_err-system c = rw (one_column c.args.line.now 3, ← c.byte_at.ensures, ← c.in_err-system.ensures) (search rules)

pub returns : goal.returns
unfolding station_meant bind
returns c =
    rw (one_column c.args.line.now 3, ← c.byte_at.ensures, ← c.in_ok-system.ensures)
    (ap (λ (s : Station). ok s) (λ i. record {
      system = c.in_ok-system.system;
      name = c.text.ensures i;
      bias = to_z-of_z c.ranges.bias i;
      rms = to_z-of_z c.ranges.rms i;
    }))
