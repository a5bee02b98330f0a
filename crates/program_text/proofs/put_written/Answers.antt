-- `program_text::put_written` meets its contract.
use mathlib.Core.Path.{refl}
use native.Mathlib.Omega.{arith}
use Rattle.program_line.specs.Lines.{unsound_line}
use Rattle.program_line.proofs.LineLaws.{begins}
use Rattle.program_text.proofs.put_written.Goals as goal

pub returns-in-Ok : goal.returns-in-Ok
returns-in-Ok c =
    let e = c.in-Ok.is in
    rw e (record { within = rw e at c.requires.1; front = refl })

pub returns-in-Err-Short : goal.returns-in-Err-Short
returns-in-Err-Short c =
    let e = rw c.in-Err-Short.is at c.in-Err-Short.field-0-is in
    rw (c.in-Err-Short.is, e) c.put_need.ensures

pub returns-in-Err-Unsound : goal.returns-in-Err-Unsound
unfolding unsound_line
returns-in-Err-Unsound c =
    let e = rw c.in-Err-Unsound.is at c.in-Err-Unsound.field-0-is in
    rw (c.in-Err-Unsound.is, e) (begins c.put.ensures (omega (arith, c.put.ensures.moved)))
