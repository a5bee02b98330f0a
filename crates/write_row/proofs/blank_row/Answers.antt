-- `write_row::blank_row` meets its contract: a label has 20 bytes, so behind it nothing is left of the row.
use mathlib.Core.Path.{sym}
use mathlib.Core.List.{[]}
use native.Mathlib.Omega.{arith}
use lib.ListN.{get_or}
use Rattle.layout.specs.Labels.{name}
use Rattle.layout.specs.Names.{names}
use Rattle.layout.proofs.Laws.{label_length}
use Rattle.write_row.proofs.RowLaws.{label_put}
use Rattle.write_row.proofs.blank_row.Goals as goal

pub slice_bounds-put_text-end-2 : goal.slice_bounds-put_text-end-2
unfolding names name
slice_bounds-put_text-end-2 c = let s = c.before.before.before in sym (label_length s.args.k s.requires)

pub put_text-requires : goal.put_text-requires
unfolding names name
put_text-requires c = let s = c.before.before.before in omega (arith, label_length s.args.k s.requires)

pub returns : goal.returns
unfolding names name
returns c = let s = c.before.before.before.before.before in label_put (get_or names s.args.k []) _ (label_length s.args.k s.requires) c.put_text.ensures
