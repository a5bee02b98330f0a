-- `fields::text_into` meets its contract: the first i bytes are the first i columns.
use mathlib.Core.Path.{◌≡◌, refl, sym, ap, ◌∙◌}
use native.Mathlib.Omega.{arith}
use lib.ListN.{length}
use lib.Seq.{take-length}
use Rattle.forms.specs.Columns.{columns}
use Rattle.fields.proofs.Lines.{put_next}
use Rattle.fields.proofs.text_into.Goals as goal

pub loop-i-init : goal.loop-i-init
loop-i-init c = unfold columns in refl

pub loop-i-preserved : goal.loop-i-preserved
loop-i-preserved c = put_next _ c.loop-i.out _ c.loop-i.i _ (omega arith) c.loop-i.invariant c.byte_at.ensures

pub returns : goal.returns
returns c =
    let e : c.loop-i.i ≡ length c.loop-i.out = omega arith in
    sym (take-length c.loop-i.out) ∙ (rw e at c.loop-i.invariant) ∙ ap (columns _ _) (omega arith)
