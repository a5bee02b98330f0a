-- `write_head_row::version_row` meets its contract.
use mathlib.Core.Path.{◌≡◌, sym, ◌∙◌}
use mathlib.Core.List.{◌++◌}
use native.Mathlib.Omega.{arith}
use lib.IntN.{pos}
use lib.ListN.{length, take, drop}
use mir.Syntax.{w32}
use mir.Facts.{to_z_pos}
use borrow.Author.Rules.{rules}
use Rattle.forms.specs.Form.{W1}
use Rattle.forms.specs.Show.{show_field}
use Rattle.layout.specs.Labels.{bytes}
use Rattle.layout.specs.Names.{names}
use Rattle.layout.proofs.Laws.{code_length}
use Rattle.write_head_row.proofs.Laws.{version_filled}
use Rattle.write_head_row.proofs.version_row.Statement.{statement}
use Rattle.write_head_row.proofs.version_row.Tie as tie

-- the version, in tenths, stands in columns 1 to 8
version_put : (c : tie.After-put_tenths)
    → c.put_tenths.new.line ≡ take 0 c.blank_row-row.result ++ (show_field W1 8 (pos c.args.version.tenths) ++ drop 8 c.blank_row-row.result)
version_put c =
    let row = c.blank_row-row.result in
    c.put_tenths.ensures ∙ (λ i. take 0 row ++ (show_field W1 8 (to_z_pos w32 c.requires.0 i) ++ drop 8 row))

maps_put : (c : tie.After-put_text)
    → c.put_text.new.line ≡ take 20 c.put_tenths.new.line ++ (bytes "IONOSPHERE MAPS" ++ drop 35 c.put_tenths.new.line)
maps_put c = c.put_text.ensures

cast-code : tie.Need-overflow_cast-code
cast-code c = search rules

mul-text : tie.Need-offset_bounds-code
mul-text c = search rules

array-copy-out-text : tie.Need-bounds-code-code
array-copy-out-text c = search rules

blank-row-requires : tie.Need-blank_row-row-requires
blank-row-requires c κs = search rules

slice-aggregate-put-tenths : tie.Need-slice_bounds-put_tenths-end
slice-aggregate-put-tenths c = search rules

cast-put-tenths : tie.Need-overflow_cast-version
cast-put-tenths c = search rules

put-tenths-requires : tie.Need-put_tenths-requires
put-tenths-requires c κs = search rules

slice-aggregate-put-text : tie.Need-slice_bounds-put_text-end
slice-aggregate-put-text c = search rules

slice-aggregate-put-text-2 : tie.Need-slice_bounds-put_text-end-3
slice-aggregate-put-text-2 c = search rules

put-text-requires : tie.Need-put_text-requires
put-text-requires c κs = search rules

slice-aggregate-put-text-3 : tie.Need-slice_bounds-put_text-end-4
slice-aggregate-put-text-3 c = search rules

-- left: slice-aggregate-put-text-4 : tie.Need-slice-aggregate-put-text-4
-- left: slice-aggregate-put-text-4 c =
-- left:     let s = c.before.before.before.before.before.before.before.before.before.before.before.before.before in
-- left:     sym (code_length s.args.version.code s.requires.1)

put-text-requires-2 : tie.Need-put_text-requires-2
put-text-requires-2 c κs =
    let s = c.before.before.before.before.before.before.before.before.before.before.before.before.before in
    let n = code_length s.args.version.code s.requires.1 in
    let m : 80 ≡ length c.put_text.new.line = search rules in
    omega (arith, n, m)

returns : tie.Need-returns
unfolding names
returns c =
    let s = c.before.before.before.before.before.before.before.before.before.before.before.before.before.before.before in
    version_filled _ _ _ _ s.args.version s.requires.1 c.blank_row-row.ensures (version_put c.before.before.before.before.before.before.before.before.before.before) (maps_put c.before.before.before.before.before) c.put_text-2.ensures

pub version_row_spec : {M : Type 1} → statement M
version_row_spec = tie.close (tie.spec cast-code mul-text array-copy-out-text blank-row-requires slice-aggregate-put-tenths cast-put-tenths put-tenths-requires slice-aggregate-put-text put-text-requires slice-aggregate-put-text-2 slice-aggregate-put-text-3 put-text-requires-2 returns)
