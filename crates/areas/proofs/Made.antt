-- Every map set that some text has is formed.
use mathlib.Core.List.{List, []}
use Prim.Native.Nat.{ℕ, ◌≤◌}
use native.Mathlib.Omega.{arith}
use lib.IntN.{ℤ}
use Rattle.mapset.specs.Header.{Fillers, Dimension}
use Rattle.mapset.specs.Grid.{Limits}
use Rattle.mapset.specs.MapSet.{MapSet}
use Rattle.layout.specs.Layout.{Exponent, Slots, Lines, Mode, Heads, h_description, h_comment, h_exponent, h_field, h_system, h_aux, h_skip, h_back, h_end, Rows, rows_of, Makes, makes}
use Rattle.areas.specs.Formed.{Formed}
use Rattle.areas.proofs.MadeHeader.{heads_stand, some_map}
use Rattle.areas.proofs.MadeMaps.{Rest, good}

-- what stands at END OF HEADER and behind it
record Behind (m : MapSet) : Type 0 where
  fillers : Fillers m.header
  dimension : Dimension m.header.model.dimension m.header.grid.heights
  limits : Limits m.header.times.maps m.header.grid
  rest : Rest m.header [] 0 0 m.maps

behind : {m : MapSet} {a : Mode} {e : ℤ} {left : Slots} {ds : Lines} {rs : List (List ℕ)} → Heads m a e left ds rs → 1 ≤ m.header.times.maps → Exponent e → Behind m
behind (h_description c hw) l x = behind hw l x
behind (h_comment c hw) l x = behind hw l x
behind (h_exponent c u hw) l x = behind hw l u
behind (h_field i v n p c u a hw) l x = behind hw l x
behind (h_system j a b n p c u hw) l x = behind hw l x
behind (h_aux c hw) l x = behind hw l x
behind (h_skip n hw) l x = behind hw l x
behind (h_back c hw) l x = behind hw l x
behind {m} (h_end c a f d g hw) l x = record { fillers = f; dimension = d; limits = g; rest = good m.header hw l x tt }

pub rows_formed : {m : MapSet} {rs : List (List ℕ)} → Rows m rs → Formed m
rows_formed (rows_of v o c hw) =
    let b = behind hw (some_map hw) (record { from = record { le = tt }; to = record { le = tt } }) in
    let r = b.rest in
    record {
      header = record { version = v; records = heads_stand hw; fillers = b.fillers; dimension = b.dimension; limits = b.limits; descriptions = o };
      epochs = r.epochs;
      maps = record { count = omega (arith, r.count); tec = r.tec; rms = r.rms; height = r.height };
    }

pub made_formed : {m : MapSet} {t : List ℕ} → Makes m t → Formed m
made_formed (makes r l e) = rows_formed r
