-- The second scan stores a block's position where it stores its exponent and its values, so the three agree at each block that it brought.
use mathlib.Core.Path.{◌≡◌, refl, sym, ap, subst, ◌∙◌}
use mathlib.Core.Bool.{Bool, true, false, cond}
use mathlib.Core.Logic.{◌⊎◌, inl, inr, ⊎_elim}
use mathlib.Core.List.{List, [], ◌∷◌, ◌++◌, append_assoc}
use Prim.Native.Nat.{ℕ, suc, ◌+◌, ◌-◌, ◌*◌, ◌≤◌, ◌<◌}
use native.Mathlib.Omega.{arith}
use native.Mathlib.Decide.{ℕ_discrete, dec_le}
use native.Mathlib.Nat.{suc-mul, mul-le-mul_right}
use lib.IntN.{ℤ, pos}
use lib.ListN.{length, get_or, set, take, drop, length-set}
use lib.Seq.{sets, sets-eq, length-sets, take_at, drop_at, length-take-le, drop-set-lt, drop-set-add, take-set-le, get_or-set_same, get_or-set_other}
use Rattle.kit.specs.Answer.{All, ×_dec}
use Rattle.mapset.specs.declared.Kind.{Kind}
use Rattle.mapset.specs.declared.Kind.TheVariants.{Tec, Rms, Height}
use Rattle.mapset.specs.declared.Header.{Header}
use Rattle.mapset.specs.MapSet.{Block}
use Rattle.layout.specs.Layout.{Exponent, per_map}
use Rattle.reading.specs.Maps.{kind?}
use Rattle.areas.specs.Events as event
use Rattle.areas.specs.Events.{Event}
use Rattle.mapset.proofs.FirstLaws.{first_in}
use Rattle.areas.specs.Stores.{is, put_values, put_exponent, Inside, scan}
use Rattle.mapset.specs.Areas.{first_of}
use Rattle.areas.specs.Places.{before, place}
use Rattle.areas.proofs.Sorted.{is_self}
use Rattle.index.specs.Stands.{Stands}
use Rattle.index.specs.Made.{put_starts}
use Rattle.index.proofs.Told.{Matched, m_end, m_epoch, m_marked, m_block}

-- ---- runs of stores

module _ {A : Type 0} where
  -- what was stored
  slice_same : (vs l : List A) (i c : ℕ) → length vs ≡ c → i + c ≤ length l → take c (drop i (sets l i vs)) ≡ vs
  slice_same vs l i c z h =
      let e : sets l i vs ≡ take i l ++ (vs ++ drop (i + length vs) l) = sets-eq vs l i (omega arith) ∙ append_assoc (take i l) vs (drop (i + length vs) l) in
      ap (λ r. take c (drop i r)) e ∙ ap (take c) (drop_at (take i l) (vs ++ drop (i + length vs) l) i (length-take-le i l (omega arith))) ∙ take_at vs (drop (i + length vs) l) c z

  -- what lies before or behind a store
  slice_set : (l : List A) (i j c : ℕ) (a : A) → (j + c ≤ i) ⊎ (i < j) → take c (drop j (set l i a)) ≡ take c (drop j l)
  slice_set l i j c a (inr h) = ap (take c) (drop-set-lt j l i a h)
  slice_set l i j c a (inl h) =
      let e : i ≡ j + (i - j) = omega arith in
      ap (λ k. take c (drop j (set l k a))) e ∙ ap (take c) (drop-set-add j l (i - j) a) ∙ take-set-le c (drop j l) (i - j) a (omega arith)

  slice_other : (vs l : List A) (i j c : ℕ) → (j + c ≤ i) ⊎ (i + length vs ≤ j) → take c (drop j (sets l i vs)) ≡ take c (drop j l)
  slice_other [] l i j c h = refl
  slice_other (v ∷ vs) l i j c h =
      slice_other vs (set l i v) (suc i) j c (⊎_elim (λ x. inl (omega arith)) (λ x. inr (omega arith)) h)
      ∙ slice_set l i j c v (⊎_elim (λ x. inl (omega arith)) (λ x. inr (omega arith)) h)

-- ---- places

-- other blocks of a kind have other places
before_apart : (B i d i' d' : ℕ) → 1 ≤ i → 1 ≤ i' → d < B → d' < B → ¬ ((i' ≡ i) × (d' ≡ d)) → ¬ (before B i' d' ≡ before B i d)
before_apart B i d i' d' l l' h h' n e = by (ℕ_discrete i' i) (dec_le i i')
  where
    by : Dec (i' ≡ i) → Dec (i ≤ i') → ⊥
    by (yes p) o = n (p, let q : i' - 1 ≡ i - 1 = omega arith in let r : (i' - 1) * B ≡ (i - 1) * B = ap (λ j. j * B) q in omega arith)
    by (no p) (yes o) = let s : suc (i - 1) ≤ i' - 1 = omega arith in omega (arith, mul-le-mul_right B s, suc-mul (i - 1) B)
    by (no p) (no o) = let s : suc (i' - 1) ≤ i - 1 = omega arith in omega (arith, mul-le-mul_right B s, suc-mul (i' - 1) B)

place_apart : (x y c : ℕ) → ¬ (y ≡ x) → (x * c + c ≤ y * c) ⊎ (y * c + c ≤ x * c)
place_apart x y c n = by (dec_le (suc x) y)
  where
    by : Dec (suc x ≤ y) → (x * c + c ≤ y * c) ⊎ (y * c + c ≤ x * c)
    by (yes h) = inl (omega (arith, mul-le-mul_right c h, suc-mul x c))
    by (no h) = let s : suc y ≤ x = omega arith in inr (omega (arith, mul-le-mul_right c s, suc-mul y c))

-- entries of two kinds
kind_apart : (k k' : Kind) (s x y : ℕ) → x < s → y < s → ¬ (k' ≡ k) → ¬ (first_of k' s + y ≡ first_of k s + x)
kind_apart Tec Tec s x y h h' n e = n refl
kind_apart Tec Rms s x y h h' n e = omega arith
kind_apart Tec Height s x y h h' n e = omega arith
kind_apart Rms Tec s x y h h' n e = omega arith
kind_apart Rms Rms s x y h h' n e = n refl
kind_apart Rms Height s x y h h' n e = omega arith
kind_apart Height Tec s x y h h' n e = omega arith
kind_apart Height Rms s x y h h' n e = omega arith
kind_apart Height Height s x y h h' n e = n refl

is_not : (k k' : Kind) → ¬ (k' ≡ k) → is k k' ≡ false
is_not Tec Tec n = absurd (n refl)
is_not Tec Rms n = refl
is_not Tec Height n = refl
is_not Rms Tec n = refl
is_not Rms Rms n = absurd (n refl)
is_not Rms Height n = refl
is_not Height Tec n = refl
is_not Height Rms n = refl
is_not Height Height n = absurd (n refl)

-- ---- a block that the events bring
pub data Has (k : Kind) (i d : ℕ) : List Event → Type 0 where
  here : {k' : Kind} {i' d' : ℕ} {x : Block} {es : List Event} → k' ≡ k → i' ≡ i → d' ≡ d → Has k i d (event.block k' i' d' x ∷ es)
  later : {e : Event} {es : List Event} → Has k i d es → Has k i d (e ∷ es)

module _ (t : List ℕ) (h : Header) (n C : ℕ) (N : Kind → ℕ) (k : Kind) (i d : ℕ) where
  abbrev key : ℕ
  key = first_of k (n * per_map h) + before (per_map h) i d

  -- values, exponents and positions agree: the block stands at its position, under an exponent from -3 to 0
  pub record Agree (vs es : List ℤ) (os : List ℕ) : Type 0 where
    pub bytes : List ℕ
    pub stands : Stands h d (drop (get_or os (key) 0) t) (take C (drop (place (per_map h) C i d) vs)) bytes
    pub exponent : Exponent (get_or es (key) (pos 0))

  module _ (l : 1 ≤ i) (u : d < per_map h) (f : before (per_map h) i d < n * per_map h) where
    -- a block is stored
    fresh : (k' : Kind) (i' d' a : ℕ) (x : Block) {b : List ℕ} (vs es : List ℤ) (os : List ℕ) → k' ≡ k → i' ≡ i → d' ≡ d
        → Stands h d' (drop a t) x.values b → Exponent x.exponent → Inside n (per_map h) C N (event.block k' i' d' x)
        → N k ≡ length vs → 3 * (n * per_map h) ≤ length es → 3 * (n * per_map h) ≤ length os
        → Agree (put_values (per_map h) C k (event.block k' i' d' x) vs) (put_exponent n (per_map h) (event.block k' i' d' x) es)
        (set os (first_of k' (n * per_map h) + before (per_map h) i' d') a)
    fresh k' i' d' a x {b} vs es os p q r s o g z z' z'' =
        let B : ℕ = per_map h in
        let w : key < 3 * (n * B) = first_in k (n * B) (before B i d) f in
        let e : first_of k' (n * B) + before B i' d' ≡ key = λ j. first_of (p j) (n * B) + before B (q j) (r j) in
        let y : place B C i' d' ≡ place B C i d = λ j. place B C (q j) (r j) in
        let m : N k' ≡ N k = ap N p in
        let v : take C (drop (place B C i d) (put_values B C k (event.block k' i' d' x) vs)) ≡ x.values =
        ap (λ c. take C (drop (place B C i d) (cond c (sets vs (place B C i' d') x.values) vs))) (ap (is k) p ∙ is_self k)
        ∙ ap (λ c. take C (drop (place B C i d) (sets vs c x.values))) y
        ∙ slice_same x.values vs (place B C i d) C g.1 (omega (arith, g.2)) in
        let c : get_or (set os (first_of k' (n * B) + before B i' d') a) key 0 ≡ a = ap (λ j. get_or (set os j a) key 0) e ∙ get_or-set_same os key a 0 (omega arith) in
        let c' : get_or (set es (first_of k' (n * B) + before B i' d') x.exponent) key (pos 0) ≡ x.exponent =
        ap (λ j. get_or (set es j x.exponent) key (pos 0)) e ∙ get_or-set_same es key x.exponent (pos 0) (omega arith) in
        record {
          bytes = b;
          stands = subst (λ zs. Stands h d (drop (get_or (set os (first_of k' (n * B) + before B i' d') a) key 0) t) zs b) (sym v)
              (subst (λ j. Stands h d (drop j t) x.values b) (sym c) (subst (λ j. Stands h j (drop a t) x.values b) r s));
          exponent = subst Exponent (sym c') o;
        }

    -- another is stored
    unmoved : (k' : Kind) (i' d' a : ℕ) (x : Block) (vs es : List ℤ) (os : List ℕ) → ¬ ((k' ≡ k) × ((i' ≡ i) × (d' ≡ d)))
        → 1 ≤ i' → d' < per_map h → Inside n (per_map h) C N (event.block k' i' d' x) → Agree vs es os
        → Agree (put_values (per_map h) C k (event.block k' i' d' x) vs) (put_exponent n (per_map h) (event.block k' i' d' x) es)
        (set os (first_of k' (n * per_map h) + before (per_map h) i' d') a)
    unmoved k' i' d' a x vs es os ne l' u' g w =
        let B : ℕ = per_map h in
        let key' : ℕ = first_of k' (n * B) + before B i' d' in
        let apart : ¬ (key ≡ key') = λ e. keys (kind? k' k) (sym e) in
        let v : take C (drop (place B C i d) (put_values B C k (event.block k' i' d' x) vs)) ≡ take C (drop (place B C i d) vs) = slices (kind? k' k) in
        record {
          bytes = w.bytes;
          stands = subst (λ zs. Stands h d (drop (get_or (set os key' a) key 0) t) zs w.bytes) (sym v)
              (subst (λ j. Stands h d (drop j t) (take C (drop (place B C i d) vs)) w.bytes) (sym (get_or-set_other os key' key a 0 apart)) w.stands);
          exponent = subst Exponent (sym (get_or-set_other es key' key x.exponent (pos 0) apart)) w.exponent;
        }
      where
        far : k' ≡ k → ¬ (before (per_map h) i' d' ≡ before (per_map h) i d)
        far p = before_apart (per_map h) i d i' d' l l' u u' (λ q. ne (p, q))

        keys : Dec (k' ≡ k) → ¬ (first_of k' (n * per_map h) + before (per_map h) i' d' ≡ first_of k (n * per_map h) + before (per_map h) i d)
        keys (yes p) e =
            let s : first_of k' (n * per_map h) ≡ first_of k (n * per_map h) = ap (λ c. first_of c (n * per_map h)) p in
            far p (omega arith)
        keys (no m) e = kind_apart k k' (n * per_map h) (before (per_map h) i d) (before (per_map h) i' d') f g.0 m e

        slices : Dec (k' ≡ k) → take C (drop (place (per_map h) C i d) (put_values (per_map h) C k (event.block k' i' d' x) vs)) ≡ take C (drop (place (per_map h) C i d) vs)
        slices (no m) = ap (λ c. take C (drop (place (per_map h) C i d) (cond c (sets vs (place (per_map h) C i' d') x.values) vs))) (is_not k k' m)
        slices (yes p) =
            let s = place_apart (before (per_map h) i d) (before (per_map h) i' d') C (far p) in
            ap (λ c. take C (drop (place (per_map h) C i d) (cond c (sets vs (place (per_map h) C i' d') x.values) vs))) (ap (is k) p ∙ is_self k)
            ∙ slice_other x.values vs (place (per_map h) C i' d') (place (per_map h) C i d) C (⊎_elim (λ y. inl y) (λ y. inr (omega (arith, g.1))) s)

    -- one event that is a block
    step : (k' : Kind) (i' d' a : ℕ) (x : Block) {b : List ℕ} {es : List Event} (vs xs : List ℤ) (ps : List ℕ)
        → Stands h d' (drop a t) x.values b → Exponent x.exponent → 1 ≤ i' → d' < per_map h → Inside n (per_map h) C N (event.block k' i' d' x)
        → N k ≡ length vs → 3 * (n * per_map h) ≤ length xs → 3 * (n * per_map h) ≤ length ps → Has k i d (event.block k' i' d' x ∷ es) ⊎ Agree vs xs ps
        → Has k i d es ⊎ Agree (put_values (per_map h) C k (event.block k' i' d' x) vs) (put_exponent n (per_map h) (event.block k' i' d' x) xs)
        (set ps (first_of k' (n * per_map h) + before (per_map h) i' d') a)
    step k' i' d' a x vs xs ps s o l' u' g z z' z'' (inl (here p q r)) = inr (fresh k' i' d' a x vs xs ps p q r s o g z z' z'')
    step k' i' d' a x vs xs ps s o l' u' g z z' z'' (inl (later y)) = inl y
    step k' i' d' a x vs xs ps s o l' u' g z z' z'' (inr w) = inr (by (×_dec (kind? k' k) (×_dec (ℕ_discrete i' i) (ℕ_discrete d' d))))
      where
        by : Dec ((k' ≡ k) × ((i' ≡ i) × (d' ≡ d))) → Agree (put_values (per_map h) C k (event.block k' i' d' x) vs) (put_exponent n (per_map h) (event.block k' i' d' x) xs)
            (set ps (first_of k' (n * per_map h) + before (per_map h) i' d') a)
        by (yes p) = fresh k' i' d' a x vs xs ps p.0 p.1.0 p.1.1 s o g z z' z''
        by (no ne) = unmoved k' i' d' a x vs xs ps ne l' u' g w

    put_length : (c : Bool) (p : ℕ) (zs vs : List ℤ) → length (cond c (sets vs p zs) vs) ≡ length vs
    put_length true p zs vs = length-sets vs p zs
    put_length false p zs vs = refl

    -- over all events: where a block is brought, or was there before, the three agree at the end
    pub agree : {es : List Event} {os : List ℕ} → Matched h t es os → All (Inside n (per_map h) C N) es → (vs xs : List ℤ) (ps : List ℕ)
        → N k ≡ length vs → 3 * (n * per_map h) ≤ length xs → 3 * (n * per_map h) ≤ length ps → Has k i d es ⊎ Agree vs xs ps
        → Agree (scan (put_values (per_map h) C k) es vs) (scan (put_exponent n (per_map h)) es xs) (put_starts n (per_map h) es os ps)
    agree m_end g vs xs ps z z' z'' (inr w) = w
    agree (m_epoch m) g vs xs ps z z' z'' (inl (later s)) = agree m g.1 vs xs ps z z' z'' (inl s)
    agree (m_epoch m) g vs xs ps z z' z'' (inr w) = agree m g.1 vs xs ps z z' z'' (inr w)
    agree (m_marked m) g vs xs ps z z' z'' (inl (later s)) = agree m g.1 vs xs ps z z' z'' (inl s)
    agree (m_marked m) g vs xs ps z z' z'' (inr w) = agree m g.1 vs xs ps z z' z'' (inr w)
    agree (m_block {k = k'} {i = i'} {d = d'} {a} {x} b s o l' u' m) g vs xs ps z z' z'' w =
        let y : ℕ = first_of k' (n * per_map h) + before (per_map h) i' d' in
        agree m g.1 (put_values (per_map h) C k (event.block k' i' d' x) vs) (set xs y x.exponent) (set ps y a)
        (z ∙ sym (put_length (is k k') (place (per_map h) C i' d') x.values vs)) (omega (arith, length-set xs y x.exponent)) (omega (arith, length-set ps y a))
        (step k' i' d' a x vs xs ps s o l' u' g.0 z z' z'' w)
    agree (m_end {os = os}) g vs xs ps z z' z'' (inl x17) = elim x17 [ ]
