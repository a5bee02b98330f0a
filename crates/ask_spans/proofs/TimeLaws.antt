-- The epochs of a sound map set rise, so a second falls between the maps in one way only.
use mathlib.Core.Path.{◌≡◌, refl, ap}
use mathlib.Core.Logic.{◌⊎◌, inl, inr}
use mathlib.Core.List.{List, [], ◌∷◌}
use Prim.Native.Nat.{ℕ, zero, suc, ◌+◌, ◌-◌, ◌≤◌, ◌<◌}
use native.Mathlib.Nat.{lt_of_not-le, add-zero}
use native.Mathlib.Numerals.{add-one}
use native.Mathlib.Decide.{dec_le, dec_lt}
use native.Mathlib.Omega.{arith}
use lib.ListN.{length, get_or}
use Rattle.mapset.specs.Areas.{Follows}
use Rattle.mapset.specs.Sound.{Runs}
use Rattle.ask_spans.specs.Spans.{Regular}
use Rattle.ask_spans.specs.Time.{Close, epoch, gap, NearestMap, alone, shared, Uses, nearest, between, last}
use Rattle.ask_spans.specs.declared.Shares.{Shares}

-- ---- from the rules
follows_at : (interval end : ℕ) (es : List ℕ) → Runs interval end es → (i : ℕ) → suc i < length es → Follows interval (get_or es i 0) (get_or es (suc i) 0)
follows_at interval end [] r i h = absurd r
follows_at interval end (e ∷ []) r i h = absurd (omega arith)
follows_at interval end (e ∷ (f ∷ es)) r zero h = r.0
follows_at interval end (e ∷ (f ∷ es)) r (suc i) h = follows_at interval end (f ∷ es) r.1 i (omega arith)

pub regular : (interval end : ℕ) (es : List ℕ) → Runs interval end es → Regular es
regular interval end es r = record {
  rises = λ i h. rw (add-one i) (follows_at interval end es r i (omega arith)).0.0;
  near = λ i h. rw (add-one i) (follows_at interval end es r i (omega arith)).0.1;
}

pub last_epoch : (interval end : ℕ) (es : List ℕ) → Runs interval end es → (i : ℕ) → i + 1 ≡ length es → epoch es i ≡ end
last_epoch interval end [] r i h = absurd r
last_epoch interval end (e ∷ []) r zero h = r
last_epoch interval end (e ∷ []) r (suc i) h = absurd (omega arith)
last_epoch interval end (e ∷ (f ∷ es)) r zero h = absurd (omega arith)
last_epoch interval end (e ∷ (f ∷ es)) r (suc i) h = last_epoch interval end (f ∷ es) r.1 i (omega arith)

module _ (es : List ℕ) (r : Regular es) where
  -- ---- over several maps
  rises_by : (i k : ℕ) → i + k < length es → epoch es i ≤ epoch es (i + k)
  rises_by i zero h = rw (add-zero i) (omega arith)
  rises_by i (suc k) h =
      let e : i + suc k ≡ (i + k) + 1 = omega arith in
      rw e (omega (arith, rises_by i k (omega arith), r.rises (i + k) (omega arith)))

  pub rises_to : (i j : ℕ) → i ≤ j → j < length es → epoch es i ≤ epoch es j
  rises_to i j h k =
      let e : i + (j - i) ≡ j = omega arith in
      rw e at (rises_by i (j - i) (omega arith))

  pub rises_past : (i j : ℕ) → i < j → j < length es → epoch es i < epoch es j
  rises_past i j h k = omega (arith, r.rises i (omega arith), rises_to (i + 1) j (omega arith) k)

  module _ (t : ℕ) where
    -- ---- the nearest map
    pub nearest_last : (i : ℕ) → i + 1 ≡ length es → t ≡ epoch es i → NearestMap es t i
    nearest_last i h e = record { map = omega arith; near = λ j k. omega arith; earlier = λ j k. omega (arith, rises_past j i k (omega arith)) }

    pub nearest_early : (i : ℕ) → i + 1 < length es → epoch es i ≤ t → t < epoch es (i + 1) → t - epoch es i ≤ epoch es (i + 1) - t → NearestMap es t i
    nearest_early i h p q n = record { map = omega arith; near = λ j k. by j k (dec_le j i); earlier = λ j k. omega (arith, rises_past j i k (omega arith)) }
      where
        by : (j : ℕ) → j < length es → Dec (j ≤ i) → gap t (epoch es i) ≤ gap t (epoch es j)
        by j k (yes l) = omega (arith, rises_to j i l (omega arith))
        by j k (no l) = omega (arith, rises_to (i + 1) j (omega (arith, lt_of_not-le l)) k)

    pub nearest_late : (i : ℕ) → i + 1 < length es → epoch es i ≤ t → t < epoch es (i + 1) → epoch es (i + 1) - t < t - epoch es i → NearestMap es t (i + 1)
    nearest_late i h p q n = record { map = h; near = λ j k. by j k (dec_le j i); earlier = λ j k. omega (arith, rises_to j i (omega arith) (omega arith)) }
      where
        by : (j : ℕ) → j < length es → Dec (j ≤ i) → gap t (epoch es (i + 1)) ≤ gap t (epoch es j)
        by j k (yes l) = omega (arith, rises_to j i l (omega arith))
        by j k (no l) = omega (arith, rises_to (i + 1) j (omega (arith, lt_of_not-le l)) k)

    -- ---- no second answer fits
    nearest_below : (i j : ℕ) → NearestMap es t i → NearestMap es t j → i < j → ⊥
    nearest_below i j p q h = omega (arith, p.near j q.map, q.earlier i h)

    between_below : (i j : ℕ) → j < length es → t < epoch es (i + 1) → epoch es j ≤ t → i < j → ⊥
    between_below i j k p q h = omega (arith, rises_to (i + 1) j (omega arith) k)

    same : (i j : ℕ) → ¬ (i < j) → ¬ (j < i) → i ≡ j
    same i j p q = by (dec_lt i j) (dec_lt j i)
      where
        by : Dec (i < j) → Dec (j < i) → i ≡ j
        by (yes a) b = absurd (p a)
        by (no a) (yes b) = absurd (q b)
        by (no a) (no b) = omega arith

    pub uses_once : (method : ℕ) {a b : Shares} → Uses es t method a → Uses es t method b → a ≡ b
    uses_once method (nearest i m p) (nearest j n q) = ap alone (same i j (nearest_below i j p q) (nearest_below j i q p))
    uses_once method (nearest i m p) (between j n h k l) = absurd (omega arith)
    uses_once method (nearest i m p) (last j n h k) = absurd (omega arith)
    uses_once method (between i m h k l) (nearest j n q) = absurd (omega arith)
    uses_once method (between i m h k l) (between j n h' k' l') =
        let e : i ≡ j = same i j (between_below i j (omega arith) l k') (between_below j i (omega arith) l' k) in
        λ x. shared (e x) (epoch es (e x + 1) - t) (t - epoch es (e x))
    uses_once method (between i m h k l) (last j n h' k') = absurd (between_below i j (omega arith) l (omega arith) (omega arith))
    uses_once method (last i m h k) (nearest j n q) = absurd (omega arith)
    uses_once method (last i m h k) (between j n h' k' l') = absurd (between_below j i (omega arith) l' (omega arith) (omega arith))
    uses_once method (last i m h k) (last j n h' k') = ap alone (omega arith)

    -- ---- the shares are small, and the maps they are taken from are there
    pub shares_within : (limit : ℕ) → 1 ≤ limit → Close limit es → (method : ℕ) {s : Shares} → Uses es t method s → s.early + s.late ≤ limit
    shares_within limit o c method (nearest i m p) = omega arith
    shares_within limit o c method (between i m h k l) = omega (arith, c i h)
    shares_within limit o c method (last i m h k) = omega arith

    pub shares_small : (method : ℕ) {s : Shares} → Uses es t method s → (1 ≤ s.early) × (s.early + s.late ≤ 21600) × (s.map < length es) × ((s.late ≡ 0) ⊎ (s.map + 1 < length es))
    shares_small method (nearest i m p) = (omega arith, omega arith, p.map, inl refl)
    shares_small method (between i m h k l) = (omega arith, omega (arith, r.near i h), omega arith, inr h)
    shares_small method (last i m h k) = (omega arith, omega arith, omega arith, inl refl)

    pub uses_last : (method i : ℕ) → method < 2 → i + 1 ≡ length es → t ≡ epoch es i → Uses es t method (alone i)
    uses_last zero i m h e = nearest i refl (nearest_last i h e)
    uses_last (suc zero) i m h e = last i refl h e
    uses_last (suc (suc n)) i m h e = absurd (omega arith)
