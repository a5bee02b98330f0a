-- Every block of every map that is there is told.
use mathlib.Core.Path.{◌≡◌, refl, sym, ap, subst, ◌∙◌}
use mathlib.Core.Bool.{true, false}
use mathlib.Core.Logic.{◌⊎◌, inl, inr, ⊎_elim}
use mathlib.Core.List.{List, [], ◌∷◌, ◌++◌}
use Prim.Native.Nat.{ℕ, suc, ◌+◌, ◌-◌, ◌≤◌, ◌<◌}
use native.Mathlib.Omega.{arith}
use native.Mathlib.Decide.{ℕ_discrete}
use lib.ListN.{length, length-append}
use Rattle.mapset.specs.declared.Kind.{Kind}
use Rattle.mapset.specs.declared.Kind.TheVariants.{Tec, Rms, Height}
use Rattle.mapset.specs.declared.Header.{Header}
use Rattle.mapset.specs.MapSet.{Block, TecMap, OtherMap, Maps}
use Rattle.layout.specs.Layout.{Force, with_last, one_more, one_tec, Other, Left, nothing, maps, early, blocks, per_map, Writes, w_end, w_comment, w_exponent, w_tec, w_epoch, w_other, w_again, w_block, w_close, w_file}
use Rattle.areas.specs.Flat.{found, there}
use Rattle.areas.specs.Events as event
use Rattle.areas.specs.Events.{Event, told}
use Rattle.areas.proofs.KindLaws.{found_past}
use Rattle.index.proofs.Kept.{Has, here, later}

-- the map of kind k and number i is among the maps ms, before which n TEC maps have their epoch
abbrev pub Among : Kind → (i n : ℕ) → Maps → Type 0
Among Tec i n ms = (n < i) × (i ≤ n + length ms.tec)
Among Rms i n ms = there (found ms.rms i) ≡ true
Among Height i n ms = there (found ms.height i) ≡ true

module _ (h : Header) (k : Kind) (i d : ℕ) where
  -- the block after d others of that map is still to be written
  abbrev Wanted : ℕ → Left → Type 0
  Wanted n nothing = ⊥
  Wanted n (maps ms) = Among k i n ms
  Wanted n (early m ms) = Among k i n (one_tec m ms)
  Wanted n (blocks e k' j bs ms) = ((k' ≡ k) × ((j ≡ i) × (per_map h - length bs ≤ d))) ⊎ Among k i n ms

-- the TEC map whose epoch stands, or one behind it
tec_or : (k : Kind) (i n : ℕ) (m : TecMap) (ms : Maps) → Among k i n (one_tec m ms) → ((Tec ≡ k) × (suc n ≡ i)) ⊎ Among k i (suc n) ms
tec_or Tec i n m ms a = by (ℕ_discrete (suc n) i)
  where
    by : Dec (suc n ≡ i) → ((Tec ≡ Tec) × (suc n ≡ i)) ⊎ ((suc n < i) × (i ≤ suc n + length ms.tec))
    by (yes e) = inl (refl, e)
    by (no e) = let l = a.0 in let u = a.1 in inr (omega arith, omega arith)
tec_or Rms i n m ms a = inr a
tec_or Height i n m ms a = inr a

-- the map that starts, or one behind it
first_or : (x : OtherMap) (xs : List OtherMap) (i : ℕ) → there (found (x ∷ xs) i) ≡ true → (x.of ≡ i) ⊎ (there (found xs i) ≡ true)
first_or x xs i e = by (ℕ_discrete x.of i)
  where
    by : Dec (x.of ≡ i) → (x.of ≡ i) ⊎ (there (found xs i) ≡ true)
    by (yes p) = inl p
    by (no p) = inr (sym (ap there (found_past x xs i p)) ∙ e)

other_or : (k k' : Kind) → Other k' → (i n : ℕ) (x : OtherMap) (ms : Maps) → Among k i n (one_more k' x ms) → ((k' ≡ k) × (x.of ≡ i)) ⊎ Among k i n ms
other_or Tec Rms o i n x ms a = inr a
other_or Tec Height o i n x ms a = inr a
other_or Rms Rms o i n x ms a = ⊎_elim (λ e. inl (refl, e)) inr (first_or x ms.rms i a)
other_or Rms Height o i n x ms a = inr a
other_or Height Rms o i n x ms a = inr a
other_or Height Height o i n x ms a = ⊎_elim (λ e. inl (refl, e)) inr (first_or x ms.height i a)
other_or Tec Tec o i n x ms a = elim o [ ]
other_or Rms Tec o i n x ms a = elim o [ ]
other_or Height Tec o i n x ms a = elim o [ ]

none_among : (k : Kind) (i n : ℕ) {X : Type 0} → Among k i n (record { tec = []; rms = []; height = [] }) → X
none_among Tec i n a = let l = a.0 in let u = a.1 in absurd (omega arith)
none_among Rms i n a = let z : ◌≡◌ {A = ℕ} 0 1 = cc in absurd (omega arith)
none_among Height i n a = let z : ◌≡◌ {A = ℕ} 0 1 = cc in absurd (omega arith)

module _ (h : Header) (k : Kind) (i d : ℕ) (u : d < per_map h) where
  -- the block that opens, or one behind it
  block_or : (k' : Kind) (j n : ℕ) (x : Block) (bs : List Block) (ms : Maps) (es : List Event)
      → (Wanted h k i d n (blocks false k' j bs ms) → Has k i d es) → Wanted h k i d n (blocks false k' j (x ∷ bs) ms) → Has k i d (event.block k' j (per_map h - suc (length bs)) x ∷ es)
  block_or k' j n x bs ms es f (inr a) = later (f (inr a))
  block_or k' j n x bs ms es f (inl a) = by (ℕ_discrete (per_map h - suc (length bs)) d)
    where
      by : Dec (per_map h - suc (length bs) ≡ d) → Has k i d (event.block k' j (per_map h - suc (length bs)) x ∷ es)
      by (yes e) = here a.0 a.1.0 e
      by (no e) = let l = a.1.1 in later (f (inl (a.0, (a.1.0, omega arith))))

  same_epochs : (k' : Kind) (n : ℕ) (p : Force) (w : Left) → Wanted h k i d (length p.epochs) w → Wanted h k i d (length (with_last k' n p).epochs) w
  same_epochs Tec n p w a = a
  same_epochs Rms n p w a = a
  same_epochs Height n p w a = a

  pub cover : {p : Force} {w : Left} {rs : List (List ℕ)} (hw : Writes h p w rs) → Wanted h k i d (length p.epochs) w → Has k i d (told hw)
  unfolding told
  cover w_end a = absurd a
  cover (w_comment l c hw) a = cover hw a
  cover (w_exponent l c v hw) a = cover hw a
  cover (w_tec c v hw) a = cover hw a
  cover {p} (w_epoch {m = m} {ms} s c t v z hw) a =
      let n : length (p.epochs ++ (m.epoch ∷ [])) ≡ suc (length p.epochs) = length-append p.epochs (m.epoch ∷ []) ∙ omega arith in
      later (cover hw (subst (λ j. Wanted h k i d j (blocks false Tec (suc (length p.epochs)) m.blocks ms)) (sym n)
      (⊎_elim (λ e. inl (e.0, (e.1, omega arith))) inr (tec_or k i (length p.epochs) m ms a))))
  cover {p} (w_other k' {x} {ms} o c v v' z hw) a =
      later (cover hw (same_epochs k' x.of p (blocks true k' x.of x.blocks ms) (⊎_elim (λ e. inl (e.0, (e.1, omega arith))) inr (other_or k k' o i (length p.epochs) x ms a))))
  cover (w_again s c t hw) a = cover hw a
  cover {p} (w_block {k = k'} {i = j} {zs = zs} {bs} {ms} v c o z y hw) a =
      block_or k' j (length p.epochs) (record { exponent = p.exponent; values = zs }) bs ms (told hw) (λ a. cover hw a) a
  cover (w_close c hw) (inl a) = let l = a.1.1 in absurd (omega arith)
  cover (w_close c hw) (inr a) = cover hw a
  cover {p} (w_file c v hw) a = none_among k i (length p.epochs) a
