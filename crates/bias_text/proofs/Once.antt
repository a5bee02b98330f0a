-- `biases` has no second answer; it gives exactly what the rules make, where the areas are long enough.
use mathlib.Core.Path.{◌≡◌, sym, ap, ◌∙◌}
use mathlib.Core.List.{List}
use Prim.Native.Nat.{ℕ}
use native.Mathlib.Omega.{arith}
use Rattle.std.specs.Prelude.{Result, Ok, Err}
use Rattle.kit.specs.Answer.{refused}
use Rattle.mapset.specs.MapSet.{MapSet}
use Rattle.reading.specs.declared.Why.{Why}
use Rattle.read_outcome.specs.Outcome.{told_reason}
use Rattle.read_outcome.specs.declared.Reason.{Reason}
use Rattle.read_outcome.proofs.Once.{told_once}
use Rattle.read_needs.specs.Needs.{first_short}
use Rattle.biases.specs.Biases.{Biases}
use Rattle.biases.specs.Rules.{Makes}
use Rattle.biases.specs.Read.{biases}
use Rattle.biases.proofs.Exact.{biases_read}
use Rattle.bias_fill.specs.Flat.{Lent, flat}
use Rattle.bias_text.specs.Biased.{needed_and_lent, with_room, outcome_of, outcome, told, comes}
use Rattle.bias_scan.specs.declared.Counts.{Counts}

-- the contract: of the text t and the areas l it hands back r and leaves the areas l'
abbrev pub Reads : List ℕ → Lent → Result Counts Reason → Lent → Type 0
Reads t l r l' = comes r l' ≡ outcome t l

same_told : (r s : Result Counts Reason) → told r ≡ told s → r ≡ s
same_told (Ok a) (Ok b) e = let x : a.satellites ≡ b.satellites = cc in let y : a.stations ≡ b.stations = cc in λ i. Ok (record { satellites = x i; stations = y i })
same_told (Ok a) (Err w) e = let z : ◌≡◌ {A = ℕ} 0 1 = cc in absurd (omega arith)
same_told (Err w) (Ok a) e = let z : ◌≡◌ {A = ℕ} 0 1 = cc in absurd (omega arith)
same_told (Err v) (Err w) e =
    let x : told_reason v ≡ told_reason w = cc in
    let y = told_once (Err v) (Err w) x in
    let z : v ≡ w = cc in
    ap Err z

pub biases_once : (t : List ℕ) (l : Lent) (r s : Result Counts Reason) (l' l'' : Lent) → Reads t l r l' → Reads t l s l'' → (r ≡ s) × (l' ≡ l'')
biases_once t l r s l' l'' p q =
    let e = p ∙ sym q in
    (same_told r s (ap (λ o. o.told) e), ap (λ o. o.areas) e)

-- in words of the rules: what is made from biases is answered with them, where there is room
pub made_answered : {m : MapSet} {b : Biases} {t : List ℕ} → Makes m b t → (l : Lent) → outcome t l ≡ with_room b l (first_short 1 (needed_and_lent (flat b) l))
unfolding outcome_of
made_answered k l = ap (λ a. outcome_of a l) (biases_read k)

-- a refusal leaves the areas as they were
pub untouched : (t : List ℕ) (l : Lent) (r : Result Counts Reason) (l' : Lent) (w : Why) → Reads t l r l' → biases t ≡ refused w → l' ≡ l
unfolding outcome_of
untouched t l r l' w p e = ap (λ o. o.areas) (p ∙ ap (λ a. outcome_of a l) e)
