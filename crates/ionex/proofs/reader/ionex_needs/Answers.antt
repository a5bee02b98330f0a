use mathlib.Core.Logic.{inl, inr}
use native.Mathlib.Omega.{arith}
use Rattle.c_answers.specs.NeedsExported.{area_short, answered}
use Rattle.ionex.proofs.reader.ionex_needs.Goals as goal

pub returns-then-needs-lt6 : goal.returns-then-needs-lt6
returns-then-needs-lt6 c = record { outcome = area_short (inl (omega (arith, c.if-needs-lt6.true))) }

pub returns-then-place-lt2 : goal.returns-then-place-lt2
returns-then-place-lt2 c = record { outcome = area_short (inr (omega (arith, c.if-place-lt2.true))) }

pub returns : goal.returns
returns c = record {
  outcome =
      let w = c.put_needs.ensures in
      let m = c.before.before.before.before.before.before.before in
      rw (w.0, w.1.0, w.1.1)
      (answered (omega (arith, m.if-needs-lt6.false)) (omega (arith, m.if-place-lt2.false)) m.measure-measured.result m.measure-measured.ensures);
}
