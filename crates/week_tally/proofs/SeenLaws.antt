-- What is held stays held when a node comes.
use mathlib.Core.Path.{ap, sym, ◌∙◌}
use mathlib.Core.Option.{none}
use Prim.Native.Nat.{◌≤◌}
use native.Mathlib.Omega.{arith}
use lib.IntN.{ℤ, nat_abs, +ℤ_idr}
use Rattle.std.specs.Int.{int_min, int_max}
use Rattle.std.proofs.lemmas.Int.{ints, clamps}
use Rattle.std.specs.Prelude.{Option as Maybe, Some, None}
use Rattle.kit.proofs.Parts.{abs_parts}
use Rattle.week_tally.specs.Figures.{given, lacking, range, sum, figures, joined, single, hull, from}
use Rattle.week_tally.specs.Seen.{Spans, Holds}
use Rattle.week_tally.specs.declared.Tally.{Tally}
use Rattle.week_tally.specs.declared.Range.{Range}
use Rattle.week_tally.specs.declared.Seen.{Seen}
use Rattle.week_tally.proofs.ExtremeLaws.{min_smaller, max_larger}
use Rattle.week_tally.proofs.FigureLaws.{hull_none}

pub spans_more : (r : Maybe Range) (v low high : ℤ) → nat_abs v ≤ 99_999_000 → Spans r low high → Spans (hull r (from v v)) (int_min low v) (int_max high v)
spans_more None v low high b h = let a = abs_parts v in rw (h.0, h.1) (omega (arith, ints, clamps), omega (arith, ints, clamps))
spans_more (Some r) v low high b h = (ap (λ x. int_min x v) h.0 ∙ min_smaller r.smallest v, ap (λ x. int_max x v) h.1 ∙ max_larger r.largest v)

pub holds_none : (t : Tally) (s : Seen) → Holds t s → Holds (joined t (single none)) s
unfolding joined figures given lacking range sum
holds_none t s h = (h.0 ∙ omega arith, (h.1.0 ∙ sym (+ℤ_idr t.sum), rw (hull_none t.range) h.1.1))
