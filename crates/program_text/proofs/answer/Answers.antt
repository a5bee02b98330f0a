-- `program_text::answer` meets its contract.
use mathlib.Core.Path.{◌≡◌}
use native.Mathlib.Omega.{arith}
use lib.ListN.{length, take}
use lib.Seq.{length-take-le}
use Rattle.mapset.specs.Areas.{six}
use Rattle.program_line.specs.Lines.{big_line}
use Rattle.program_line.proofs.LineLaws.{begins}
use Rattle.program_text.proofs.PrintedLaws.{read_printed, printed_big, printed_read}
use Rattle.program_text.proofs.answer.Goals as goal

pub returns-then-n-gt-MOST : goal.returns-then-n-gt-MOST
unfolding big_line
returns-then-n-gt-MOST c =
    let t = take c.args.n c.args.buffer.now in
    let size : length t ≡ c.args.n = length-take-le _ _ (omega (arith, c.requires.1.1.0, c.requires.1.1.1)) in
    rw (printed_big t (omega (arith, c.if-n-gt-MOST.true, size))) (begins c.put.ensures (omega (arith, c.requires.1.0, c.put.ensures.moved)))

pub put_answer-requires : goal.put_answer-requires
put_answer-requires c = omega (arith, c.requires.1.0)

pub returns : goal.returns
returns c =
    let t = take c.args.n c.args.buffer.now in
    let size : length t ≡ c.args.n = length-take-le _ _ (omega (arith, c.requires.1.1.0, c.requires.1.1.1)) in
    let l = six c.args.tec.now c.args.rms.now c.args.height.now c.args.exponents.now c.args.epochs.now c.args.marks.now in
    let n = c.read_text-read.new in
    let r = six n.tec n.rms n.height n.exponents n.epochs n.marks in
    let e = read_printed t l c.read_text-read.result r c.read_text-read.ensures c.requires.0 in
    rw (printed_read t (omega (arith, c.if-n-gt-MOST.false, size))) (rw (c.requires.1.0, e) at c.put_answer.ensures)
