-- What one event stores, and where the scan goes on.
use mathlib.Core.Path.{◌≡◌, refl, ap, subst, ◌∙◌}
use mathlib.Core.List.{List}
use Prim.Native.Nat.{ℕ, ◌+◌, ◌-◌, ◌*◌, ◌≤◌, ◌<◌}
use native.Mathlib.Omega.{arith}
use lib.ListN.{length, set, get_or}
use lib.Seq.{sets}
use lib.IntN.{ℤ}
use Rattle.kit.specs.Answer.{All}
use Rattle.mapset.specs.Areas.{Areas, six, first_of}
use Rattle.mapset.specs.declared.Kind.{Kind}
use Rattle.mapset.specs.declared.Kind.TheVariants.{Tec, Rms, Height}
use Rattle.areas.specs.Stores.{with_mark, Inside, lengths, scanned}
use Rattle.areas.specs.Places.{before}
use Rattle.read_fill.specs.Rows.{Valued}
use Rattle.read_events.specs.Brings.{tells, due}
use Rattle.read_fill.specs.Scan.{Resumes, Resumed}
use Rattle.read_events.specs.declared.Event.{Event}
use Rattle.read_events.specs.declared.Event.TheVariants.{Nothing, Epoch, Marked, Block}

-- ---- what an event asks of the areas

pub at_event : (n B C : ℕ) (N : Kind → ℕ) (zs : List ℤ) {x y : Event} → x ≡ y → All (Inside n B C N) (tells x zs) → All (Inside n B C N) (tells y zs)
at_event n B C N zs e h = subst (λ z. All (Inside n B C N) (tells z zs)) e h

-- the area of the kind
pub of_kind : (l : Areas) {x : ℕ} {k k' : Kind} → k ≡ k' → x ≤ lengths l k → x ≤ lengths l k'
of_kind l {x} e h = subst (λ z. x ≤ lengths l z) e h

pub below_all : (l : Areas) (m : ℕ) (k : Kind) → length l.tec < m → length l.rms < m → length l.height < m → lengths l k < m
below_all l m Tec x y z = x
below_all l m Rms x y z = y
below_all l m Height x y z = z

pub values_due : (C : ℕ) (rs : List (List ℕ)) {x y : Event} → x ≡ y → Valued C (due C x) rs → Valued C (due C y) rs
values_due C rs e h = subst (λ z. Valued C (due C z) rs) e h

-- ---- where the scan goes on

pub goes_on : (t : List ℕ) (at C : ℕ) {x y : Event} → x ≡ y → due C y ≡ 0 → at ≤ length t → Resumed t at C x at
goes_on t at C e z h =
    let d = ap (due C) e ∙ z in
    record {
      resumes = rw d (record { within = h; on = λ C s. refl; valued = λ C v. v; fewer = omega arith });
      still = λ _. refl;
    }

pub goes_past : (t : List ℕ) (at C : ℕ) {x : Event} {k : Kind} {i b r : ℕ} {e : ℤ} → x ≡ Block k i b e → Resumes t at C r → Resumed t at C x r
goes_past t at C e h = record { resumes = rw e h; still = λ q. let z : ◌≡◌ {A = ℕ} 0 1 = cc in absurd (omega arith) }

-- ---- the stores

module _ (n B C : ℕ) (zs t r h x : List ℤ) (p m : List ℕ) {ev : Event} where
  pub stores_nothing : ev ≡ Nothing → six t r h x p m ≡ scanned n B C (tells ev zs) (six t r h x p m)
  unfolding scanned
  stores_nothing q = rw q

  pub stores_epoch : {i e : ℕ} {p' : List ℕ} → ev ≡ Epoch i e → p' ≡ set p (i - 1) e → six t r h x p' m ≡ scanned n B C (tells ev zs) (six t r h x p m)
  unfolding scanned
  stores_epoch q s = rw q (λ j. six t r h x (s j) m)

  pub stores_mark : {k : Kind} {i : ℕ} {m' : List ℕ} → ev ≡ Marked k i → m' ≡ set m (i - 1) (with_mark k (get_or m (i - 1) 0))
      → six t r h x p m' ≡ scanned n B C (tells ev zs) (six t r h x p m)
  unfolding scanned
  stores_mark q s = rw q (λ j. six t r h x p (s j))

  module _ {k : Kind} {i b : ℕ} {e e' : ℤ} {x' : List ℤ} {at : ℕ} (q : ev ≡ Block k i b e) (o : e' ≡ e) (s : x' ≡ set x (first_of k (n * B) + before B i b) e') (w : at ≡ before B i b) where
    exponent_set : (k' : Kind) → k ≡ k' → x' ≡ set x (first_of k' (n * B) + before B i b) e
    exponent_set k' g = s ∙ (λ j. set x (first_of (g j) (n * B) + before B i b) (o j))

    pub stores_tec : {t' : List ℤ} → k ≡ Tec → t' ≡ sets t (at * C) zs → six t' r h x' p m ≡ scanned n B C (tells ev zs) (six t r h x p m)
    unfolding scanned
    stores_tec g u = rw (q, g) (λ j. six ((u ∙ ap (λ y. sets t (y * C) zs) w) j) r h (exponent_set Tec g j) p m)

    pub stores_rms : {r' : List ℤ} → k ≡ Rms → r' ≡ sets r (at * C) zs → six t r' h x' p m ≡ scanned n B C (tells ev zs) (six t r h x p m)
    unfolding scanned
    stores_rms g u = rw (q, g) (λ j. six t ((u ∙ ap (λ y. sets r (y * C) zs) w) j) h (exponent_set Rms g j) p m)

    pub stores_height : {h' : List ℤ} → k ≡ Height → h' ≡ sets h (at * C) zs → six t r h' x' p m ≡ scanned n B C (tells ev zs) (six t r h x p m)
    unfolding scanned
    stores_height g u = rw (q, g) (λ j. six t r ((u ∙ ap (λ y. sets h (y * C) zs) w) j) (exponent_set Height g j) p m)
