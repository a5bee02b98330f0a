use mathlib.Core.Path.{◌≡◌, refl, sym}
use lib.ListN.{length}
use Rattle.read_outcome.specs.Outcome.{texts_in}
use Rattle.c_answers.proofs.ReadLaws.{no_header, no_texts}
use borrow.Author.Rules.{rules}
use Rattle.c_answers.proofs.put_reading.Goals as goal

pub put_header-requires : goal.put_header-requires
put_header-requires c =
    let z = rw c.in-Ok.is at c.requires.1.1.1 in
    (c.requires.0, z.0, z.1)

pub returns-in-Ok : goal.returns-in-Ok
returns-in-Ok c = rw c.in-Ok.is (refl, (c.put_header.ensures, (c.put_texts.ensures, refl)))

pub returns-in-Err : goal.returns-in-Err
returns-in-Err c =
    let a = c.args in
    let w = c.put_refusal.ensures in
    let k = c.in-Err.reason in
    rw c.in-Err.is (w.0, (no_header k a.header.now, (no_texts k (texts_in a.r) a.texts.now, w.1)))
