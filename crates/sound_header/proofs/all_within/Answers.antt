-- `sound_header::all_within` meets its contract.
use mathlib.Core.Path.{sym, ◌∙◌}
use native.Mathlib.Decide.{dec_le}
use lib.ListN.{get_or}
use Rattle.kit.specs.Range.{within?}
use Rattle.kit.proofs.TruthLaws.{both, le_tells}
use Rattle.mapset.proofs.SoundLaws.{each_next, each_end}
use Rattle.sound_header.proofs.all_within.Goals as goal

pub loop-b-preserved : goal.loop-b-preserved
unfolding within?
loop-b-preserved c =
    let a = c.args in
    let l = c.loop-b in
    let b = get_or a.bytes.now l.b-index 0 in
    l.invariant ∙ each_next 0 (within? a.low a.high) a.bytes.now l.b-index c.loop-b-test.true l.fits (both (dec_le a.low b) (dec_le b a.high) (le_tells _ _) (le_tells _ _))

pub returns : goal.returns
returns c =
    let a = c.args in
    let l = c.loop-b in
    sym (l.invariant ∙ each_end 0 (within? a.low a.high) a.bytes.now l.b-index c.loop-b-test.false l.fits)
