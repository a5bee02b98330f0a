-- What a label stands for among the maps, and what the opening of a block must hold.
use Rattle.std.proofs.Math.Option.{Option, none, some}
use Rattle.std.specs.Prelude.{◌∷◌, ◌-◌, ◌%◌, Result, Ok, Err}
use Rattle.kit.specs.Answer.{ok, need}
use Rattle.kit.specs.Integer.{int?}
use Rattle.mapset.specs.declared.Header.{Header}
use Rattle.mapset.specs.Grid.{rows, columns}
use Rattle.layout.specs.Records.{Vals}
use Rattle.layout.specs.Labels.{Label, version, description, comment, system, exponent, aux_start, aux_end, header_end, epoch, block, file_end, head, start, end, layout}
use Rattle.layout.specs.Layout.{Force, per_map, node}
use Rattle.reading.specs.declared.Fault.{Fault}
use Rattle.reading.specs.Feed.{fault}
use Rattle.reading.specs.Maps.{Step, disagrees, height?, one_less}
use Rattle.reading.specs.declared.Open.{Open}
use Rattle.reading.specs.declared.Place.TheVariants.{Inside}
use Rattle.maps_body.specs.declared.Role.{Role}
use Rattle.maps_body.specs.declared.Role.TheVariants as R

-- what a label stands for among the maps; one of the header is misplaced
abbrev pub role_of : Label → Result Role Fault
role_of comment = Ok R.Comment
role_of exponent = Ok R.Exponent
role_of (start k) = Ok (R.Start k)
role_of (end k) = Ok (R.End k)
role_of epoch = Ok R.Epoch
role_of block = Ok R.Block
role_of file_end = Ok R.File
role_of version = Err (fault 5 61)
role_of description = Err (fault 5 61)
role_of system = Err (fault 5 61)
role_of aux_start = Err (fault 5 61)
role_of aux_end = Err (fault 5 61)
role_of header_end = Err (fault 5 61)
role_of (head i) = Err (fault 5 61)

abbrev pub role : Option Label → Result Role Fault
role none = Err (fault 4 61)
role (some l) = role_of l

-- an opening with these numbers
unfoldable pub opened : (h : Header) (o : Open) (p : Force) → Vals (layout block) → Step (Inside o)
opened h o p v =
    need (int? v.0 (node h.grid.latitudes ((per_map h - o.left) % rows h.grid))) (disagrees 3)
    (need (int? v.1.0 h.grid.longitudes.first) (disagrees 9)
    (need (int? v.1.1.0 h.grid.longitudes.last) (disagrees 15)
    (need (int? v.1.1.1.0 h.grid.longitudes.step) (disagrees 21)
    (need (height? h (per_map h - o.left) v.1.1.1.1.0) (disagrees 27)
    (ok (record {
      to = Inside (one_less o);
      force = p;
      due = columns h.grid;
      back = λ zs w. (record { exponent = p.exponent; values = zs } ∷ w.0, w.1);
    }))))))
