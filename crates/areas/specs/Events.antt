-- What the rows of a text bring for the lent areas, one after the other: the second scan's events.
use Rattle.std.specs.Prelude.{List, [], ◌∷◌, ℕ, suc, ◌-◌, length}
use Rattle.mapset.specs.declared.Kind.{Kind}
use Rattle.mapset.specs.declared.Header.{Header}
use Rattle.mapset.specs.MapSet.{Block}
use Rattle.layout.specs.Layout.{Force, Left, per_map, Writes, w_end, w_comment, w_exponent, w_tec, w_epoch, w_other, w_again, w_block, w_close, w_file}

-- of the map of number i: its epoch (of a TEC map), that it is there (of an RMS or height map), and the block after b others
pub data Event : Type 0 where
  epoch : (i e : ℕ) → Event
  marked : Kind → (i : ℕ) → Event
  block : Kind → (i b : ℕ) → Block → Event

-- the events of the rows, rule by rule
unfoldable pub told : {h : Header} {p : Force} {w : Left} {rs : List (List ℕ)} → Writes h p w rs → List Event
told w_end = []
told (w_comment l c hw) = told hw
told (w_exponent l c u hw) = told hw
told (w_tec c u hw) = told hw
told {p = p} (w_epoch {m = m} d c t u z hw) = epoch (suc (length p.epochs)) m.epoch ∷ told hw
told (w_other k {x = x} o c u v z hw) = marked k x.of ∷ told hw
told (w_again d c t hw) = told hw
told {h} {p} (w_block {k = k} {i} {zs} {bs} v c o z y hw) =
    block k i (per_map h - suc (length bs)) (record { exponent = p.exponent; values = zs }) ∷ told hw
told (w_close c hw) = told hw
told (w_file c u hw) = told hw
