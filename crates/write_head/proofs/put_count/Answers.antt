-- `write_head::put_count` meets its contract.
use mir.Syntax.{w32}
use mir.Facts.{to_z_pos}
use Rattle.write_head.proofs.put_count.Goals as goal

pub put_number-requires : goal.put_number-requires
put_number-requires c = let s = c.before.before in (s.requires.0, rw (to_z_pos w32 s.requires.1) s.requires.2)

pub returns : goal.returns
returns c =
    let s = c.before.before.before.before.before in
    rw (to_z_pos w32 s.requires.1) at c.put_number.ensures
