use mathlib.Core.Path.{◌≡◌}
use Prim.Native.Nat.{◌≤◌, ◌+◌, ◌*◌, ◌^◌}
use lib.ListN.{drop}
use Rattle.forms.specs.Form.{numeral}
use Rattle.fields.proofs.numeral_of.Given as goal

abbrev pub invariant-loop-b : goal.invariant-loop-b
invariant-loop-b l = (l.n + 23 ≤ 1000000023 * 10 ^ l.b-index) × (numeral l.acc l.f ≡ numeral l.n (drop l.b-index l.f))
