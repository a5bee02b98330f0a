use mathlib.Core.Path.{refl}
use Rattle.std.proofs.lemmas.Result.{err_from_is_err_and}
use Rattle.mapset.specs.Lines.{no_lines}
use Rattle.mapset.specs.MapSet.{MapSet}
use Rattle.read_judge.specs.Scanned.{set_of}
use Rattle.read_judge.proofs.JudgeLaws.{one_to_ten}
use Rattle.read_judge.proofs.NeedLaws.{limits, few_by, need_by}
use Rattle.read_measure.proofs.measure.Goals as goal

pub judge-requires : goal.judge-requires
unfolding no_lines
judge-requires c = refl

pub size_of-size-requires : goal.size_of-size-requires
size_of-size-requires c = limits _ _ _ _ _ _ c.in_ok-scan.ensures

pub needed-requires : goal.needed-requires
needed-requires c =
    let z = c.size_of-size.ensures in
    few_by _ _ _ _ _ _ c.in_ok-scan.ensures z.0 z.1 z.2

pub returns-in_err-scan : goal.returns-in_err-scan
returns-in_err-scan c =
    let p = err_from_is_err_and c.from_residual.result c.from_residual.ensures.1 in
    rw p.1 (_, (c.in_err-scan.ensures, p.2 (one_to_ten _ _ c.in_err-scan.ensures)))

-- an accepted text is read as a map set, not refused with a reason
pub returns : goal.returns
returns c =
    let a = c.in_ok-scan.ensures in
    let z = c.size_of-size.ensures in
    let set : MapSet = set_of _ _ a.maps in
    (set, (a.reads, need_by _ _ _ _ _ _ a z.0 z.1 z.2 c.needed.ensures))
