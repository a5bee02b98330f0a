-- `write_map::put_epoch` meets its contract.
use mathlib.Core.Path.{◌≡◌}
use Rattle.mapset.specs.declared.Kind.TheVariants.{Tec}
use Rattle.write_line.proofs.PutLaws.{put_none}
use Rattle.write_map.proofs.put_epoch.Goals as goal

-- only a TEC map has its epoch written
pub put_epoch-requires : goal.put_epoch-requires
put_epoch-requires c =
    let s = c.before.before.before in
    let tec : s.args.kind ≡ Tec = c.in-Tec.is in
    rw tec at s.requires

pub returns-in-Tec : goal.returns-in-Tec
returns-in-Tec c = rw c.in-Tec.is c.put_epoch.ensures

pub returns-in-Rms : goal.returns-in-Rms
returns-in-Rms c = rw c.in-Rms.is put_none

pub returns-in-Height : goal.returns-in-Height
returns-in-Height c = rw c.in-Height.is put_none
