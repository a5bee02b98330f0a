-- `sound::epochs_fit` meets its contract.
use mathlib.Core.Path.{◌≡◌, ◌∙◌}
use mathlib.Core.Bool.{Bool, false, ◌&&◌}
use mathlib.Core.List.{List, [], ◌∷◌}
use native.Mathlib.Omega.{arith}
use Prim.Native.Nat.{ℕ, ◌<◌, ◌≤◌, ◌-◌}
use lib.Dec.{eqb}
use lib.ListN.{length, take, drop, get_or}
use Rattle.kit.specs.Truth.{truth}
use Rattle.kit.proofs.ListLaws.{rest_of}
use Rattle.kit.proofs.TruthLaws.{both, fails, eq_tells}
use Rattle.mapset.specs.declared.Times.{Times}
use Rattle.mapset.specs.Sound.{starts?, runs?, epochs?}
use Rattle.mapset.specs.SoundDecided.{run?}
use Rattle.sound.proofs.epochs_fit.Goals as goal

none : (t : Times) (es : List ℕ) → length es < 1 → false ≡ truth (epochs? t es)
none t [] h = fails (epochs? t []) (λ e. e.0)
none t (e ∷ es) h = absurd (omega arith)

some : (t : Times) (es : List ℕ) {r : Bool} → 1 ≤ length es → r ≡ truth (run? t.interval t.last (get_or es 0 0) (take (length es - 1) (drop 1 es))) → (eqb (get_or es 0 0) t.first && r) ≡ truth (epochs? t es)
unfolding epochs? starts? runs?
some t [] h r = absurd (omega arith)
some t (e ∷ es) h r = both (starts? t.first (e ∷ es)) (runs? t.interval t.last (e ∷ es)) (eq_tells e t.first) (r ∙ (λ i. truth (run? t.interval t.last e (rest_of (e ∷ es) 1 i))))

pub returns-in-empty : goal.returns-in-empty
returns-in-empty c = none c.args.times c.args.epochs.now c.in-empty.len_below

pub returns-in-len1-up : goal.returns-in-len1-up
returns-in-len1-up c = some c.args.times c.args.epochs.now c.in-len1-up.len_at_least c.epochs_run.ensures
