-- `program_text::put_canonical` meets its contract.
use native.Mathlib.Omega.{arith}
use Rattle.mapset.specs.Described.{full}
use Rattle.mapset.specs.Areas.{six}
use Rattle.program_text.proofs.PrintedLaws.{due}
use Rattle.program_text.proofs.put_canonical.Goals as goal

pub put_written-requires : goal.put_written-requires
put_written-requires c =
    let l = six c.args.tec.now c.args.rms.now c.args.height.now c.args.exponents.now c.args.epochs.now c.args.marks.now in
    let w = c.write_text-written in
    let d = due c.args.header (full c.args.texts c.args.descriptions.now) l c.args.out.now w.result w.new.out w.ensures in
    (omega arith, d.0)

pub returns : goal.returns
returns c =
    let l = six c.args.tec.now c.args.rms.now c.args.height.now c.args.exponents.now c.args.epochs.now c.args.marks.now in
    let w = c.write_text-written in
    let d = due c.args.header (full c.args.texts c.args.descriptions.now) l c.args.out.now w.result w.new.out w.ensures in
    rw d.1 at c.put_written.ensures
