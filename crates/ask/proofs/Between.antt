-- The answer never lies outside the smallest and the largest needed node: whatever bounds each needed node bounds the answer.
use mathlib.Core.Path.{◌≡◌, refl, sym, ap, ◌∙◌}
use mathlib.Core.Logic.{◌⊎◌, ⊎_elim}
use mathlib.Core.List.{List, [], ◌∷◌}
use mathlib.Core.Option.{Option, none, some}
use Prim.Native.Nat.{ℕ, zero, suc, ◌+◌, ◌*◌, ◌≤◌, ◌<◌}
use native.Mathlib.Nat.{mul-le-mul_left}
use native.Mathlib.Omega.{arith}
use lib.IntN.{ℤ, pos, ◌*ℤ◌}
use Rattle.kit.specs.Answer.{All}
use Rattle.kit.specs.Integer.{up, dn, Between}
use Rattle.kit.proofs.Parts.{add_parts, scale_up, scale_dn, parts_le, le_parts}
use Rattle.mapset.specs.declared.Kind.{Kind}
use Rattle.mapset.specs.declared.Kind.TheVariants.{Tec as tec, Rms as rms, Height as height}
use Rattle.ask_round.specs.Rounded.{rounded}
use Rattle.ask_round.proofs.RoundLaws.{round_above, round_below, round_nearest, nearest_unique}
use Rattle.ask_nodes.specs.Value.{kind_of, or_zero}
use Rattle.ask_sums.specs.Mean.{Term, IsSome, Valued, Mean, weighted, weight}
use Rattle.ask.specs.Ask.{Question, Told, tecu, km, refused, in_unit, stop, go, Weighs, asked, Answers}
use Rattle.ask.proofs.Once.{weighs_once, weighs_weight}
use Rattle.ask_nodes.specs.declared.Weighed.{Weighed}

-- a needed node's value lies from lo to hi
abbrev pub Bounds : ℤ → ℤ → Term → Type 0
Bounds lo hi t = (v : ℤ) → 0 < t.0 → t.1 ≡ some v → Between lo hi v

-- the weighted sum z of weight w lies from w·lo to w·hi
abbrev Sums : ℤ → ℤ → ℕ → ℤ → Type 0
Sums lo hi w z = (w * up lo + dn z ≤ up z + w * dn lo) × (up z + w * dn hi ≤ w * up hi + dn z)

term : (lo hi : ℤ) (w : ℕ) (o : Option ℤ) → (w ≡ 0) ⊎ IsSome o → Bounds lo hi (w, o) → Sums lo hi w (pos w *ℤ or_zero o)
term lo hi zero o e h = let a = scale_up 0 (or_zero o) in let b = scale_dn 0 (or_zero o) in (omega arith, omega arith)
term lo hi (suc w) none e h = absurd (⊎_elim (λ z. omega arith) (λ z. z) e)
term lo hi (suc w) (some v) e h =
    let k = h v (omega arith) refl in
    let a = scale_up (suc w) v in
    let b = scale_dn (suc w) v in
    let p = mul-le-mul_left (suc w) (parts_le lo v k.from) in
    let q = mul-le-mul_left (suc w) (parts_le v hi k.to) in
    (omega arith, omega arith)

sums : (lo hi : ℤ) (ts : List Term) → Valued ts → All (Bounds lo hi) ts → Sums lo hi (weight ts) (weighted ts)
unfolding weight weighted
sums lo hi [] v b = (omega arith, omega arith)
sums lo hi (t ∷ ts) v b =
    let p = term lo hi t.0 t.1 v.0 b.0 in
    let r = sums lo hi ts v.1 b.1 in
    let a = add_parts (pos t.0 *ℤ or_zero t.1) (weighted ts) in
    (omega arith, omega arith)

mean_between : (lo hi : ℤ) (ts : List Term) → 0 < weight ts → Valued ts → All (Bounds lo hi) ts → (v : ℤ) → Mean ts v → Between lo hi v
mean_between lo hi ts h a b v m =
    let e : rounded (weighted ts) (weight ts) ≡ v = nearest_unique (weighted ts) (weight ts) h (rounded (weighted ts) (weight ts)) v (round_nearest (weighted ts) (weight ts) h) m in
    let s = sums lo hi ts a b in
    record {
      from = rw e at (le_parts lo (rounded (weighted ts) (weight ts)) (round_above (weighted ts) (weight ts) h (up lo) (dn lo) s.0));
      to = rw e at (le_parts (rounded (weighted ts) (weight ts)) hi (round_below (weighted ts) (weight ts) h (up hi) (dn hi) s.1));
    }

-- ---- of a question
abbrev pub thousandths_of : Told → Option ℤ
thousandths_of (tecu v) = some v
thousandths_of (km v) = some v
thousandths_of (refused n) = none

pub in_unit_of : (k : Kind) (v : ℤ) → thousandths_of (in_unit k v) ≡ some v
in_unit_of tec v = refl
in_unit_of rms v = refl
in_unit_of height v = refl

pub some_once : (v w : ℤ) → some v ≡ some w → v ≡ w
some_once v w e = cc

pub none_some : (v : ℤ) → ¬ (none ≡ some v)
none_some v e = let z : ◌≡◌ {A = ℕ} 0 1 = cc in omega arith

pub between : (q : Question) (a : Told) (v : ℤ) → Answers q a → thousandths_of a ≡ some v → (ns : List Weighed) → Weighs q ns → (lo hi : ℤ) → All (Bounds lo hi) (asked q ns) → Between lo hi v
between q a v (stop n) e ns w lo hi b = absurd (none_some v e)
between q a v (go known (stop n)) e ns w lo hi b = absurd (none_some v e)
between q a v (go known (go sound (stop n))) e ns w lo hi b = absurd (none_some v e)
between q a v (go known (go sound (go served (stop n)))) e ns w lo hi b = absurd (none_some v e)
between q a v (go known (go sound (go served (go time (stop n))))) e ns w lo hi b = absurd (none_some v e)
between q a v (go known (go sound (go served (go time (go inside (ms, (x, stop n))))))) e ns w lo hi b = absurd (none_some v e)
between q a v (go known (go sound (go served (go time (go inside (ms, (x, go valued (u, (m, f))))))))) e ns w lo hi b =
    let same : ms ≡ ns = weighs_once q sound ms ns x w in
    let uv : u ≡ v = some_once u v (sym (in_unit_of (kind_of q.kind) u) ∙ ap thousandths_of (sym f) ∙ e) in
    rw uv at (mean_between lo hi (asked q ms) (weighs_weight q sound served ms x) valued (rw same b) u m)
