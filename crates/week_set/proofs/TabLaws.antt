-- Tables of lists, one after the other.
use mathlib.Core.Path.{◌≡◌, refl, sym, ap, ap₂, ◌∙◌}
use mathlib.Core.List.{List, ◌∷◌, ◌++◌, map, append_assoc}
use mathlib.Core.Option.{Option}
use Prim.Native.Nat.{ℕ, zero, suc, ◌+◌, ◌*◌, ◌≤◌, ◌<◌}
use native.Mathlib.Omega.{arith}
use lib.ListN.{length, get_or, take, drop, replicate, length-append, replicate-append-replicate}
use lib.Seq.{drop-cons}
use lib.IntN.{ℤ}
use Rattle.kit.specs.Answer.{All}
use Rattle.kit.proofs.ListLaws.{all_append}
use Rattle.areas.specs.Lists.{flat, tab}
use Rattle.week_tally.specs.Gathered.{gathered}
use Rattle.week_tally.specs.Figures.{figures, joined, total}
use Rattle.week_tally.proofs.FigureLaws.{figures_none, figures_append}

-- a table further on
tab_shift : {A : Type 0} (b a k : ℕ) (g : ℕ → A) → tab a k (λ r. g (b + r)) ≡ tab (b + a) k g
tab_shift b a zero g = refl
tab_shift b a (suc k) g = ap (g (b + a) ∷◌) (tab_shift b (suc a) k g ∙ ap (λ (n : ℕ). tab n k g) (omega arith))

module _ {A : Type 0} where
  flat_tab_append : (a m n : ℕ) (g : ℕ → List A) → flat (tab a (m + n) g) ≡ flat (tab a m g) ++ flat (tab (a + m) n g)
  flat_tab_append a zero n g = let e : a + 0 ≡ a = omega arith in let f : 0 + n ≡ n = omega arith in rw (e, f) refl
  flat_tab_append a (suc m) n g =
      let f : suc m + n ≡ suc (m + n) = omega arith in
      let e : suc a + m ≡ a + suc m = omega arith in
      rw f (ap (g a ++◌) (flat_tab_append (suc a) m n g ∙ ap (λ (k : ℕ). flat (tab (suc a) m g) ++ flat (tab k n g)) e) ∙ sym (append_assoc (g a) (flat (tab (suc a) m g)) (flat (tab (a + suc m) n g))))

  -- rows of layers are blocks
  pub tab_grid : (q l L R : ℕ) (g : ℕ → List A) → flat (tab l L (λ l'. flat (tab 0 R (λ r. g ((q + l') * R + r))))) ≡ flat (tab ((q + l) * R) (L * R) g)
  tab_grid q l zero R g = let e : 0 * R ≡ 0 = omega arith in rw e refl
  tab_grid q l (suc L) R g =
      let e : suc L * R ≡ R + L * R = omega arith in
      let n : (q + l) * R + R ≡ (q + suc l) * R = omega arith in
      let z : (q + l) * R + 0 ≡ (q + l) * R = omega arith in
      let f : flat (tab 0 R (λ r. g ((q + l) * R + r))) ≡ flat (tab ((q + l) * R) R g) = ap flat (tab_shift ((q + l) * R) 0 R g ∙ ap (λ (k : ℕ). tab k R g) z) in
      ap₂ ◌++◌ f (tab_grid q (suc l) L R g ∙ ap (λ (k : ℕ). flat (tab k (L * R) g)) (sym n))
      ∙ sym (flat_tab_append ((q + l) * R) R (L * R) g) ∙ ap (λ (k : ℕ). flat (tab ((q + l) * R) k g)) (sym e)

  pub length_flat_tab : (w a k : ℕ) (g : ℕ → List A) → ((j : ℕ) → length (g j) ≡ w) → length (flat (tab a k g)) ≡ k * w
  length_flat_tab w a zero g h = omega arith
  length_flat_tab w a (suc k) g h = omega (arith, length-append (g a) (flat (tab (suc a) k g)), h a, length_flat_tab w (suc a) k g h)

  pub length_flat_within : (w a k : ℕ) (g : ℕ → List A) → ((j : ℕ) → a ≤ j → j < a + k → length (g j) ≡ w) → length (flat (tab a k g)) ≡ k * w
  length_flat_within w a zero g h = omega arith
  length_flat_within w a (suc k) g h =
      omega (arith, length-append (g a) (flat (tab (suc a) k g)), h a (omega arith) (omega arith), length_flat_within w (suc a) k g (λ j p q. h j (omega arith) (omega arith)))

  pub tab_same : (a k : ℕ) (f g : ℕ → A) → ((j : ℕ) → a ≤ j → j < a + k → f j ≡ g j) → tab a k f ≡ tab a k g
  tab_same a zero f g h = refl
  tab_same a (suc k) f g h = ap₂ ◌∷◌ (h a (omega arith) (omega arith)) (tab_same (suc a) k f g (λ j p q. h j (omega arith) (omega arith)))

  pub all_flat_tab : (P : A → Type 0) (a k : ℕ) (f : ℕ → List A) → ((j : ℕ) → All P (f j)) → All P (flat (tab a k f))
  all_flat_tab P a zero f h = tt
  all_flat_tab P a (suc k) f h = all_append P (f a) (flat (tab (suc a) k f)) (h a) (all_flat_tab P (suc a) k f h)

  pub flat_replicate : (a k w : ℕ) (x : A) → flat (tab a k (λ _. replicate w x)) ≡ replicate (k * w) x
  flat_replicate a zero w x = let e : 0 * w ≡ 0 = omega arith in rw e refl
  flat_replicate a (suc k) w x =
      let e : suc k * w ≡ w + k * w = omega arith in
      rw e (ap (replicate w x ++◌) (flat_replicate (suc a) k w x) ∙ replicate-append-replicate w (k * w) x)

  pub tab_replicate : (a k : ℕ) (x : A) → tab a k (λ _. x) ≡ replicate k x
  tab_replicate a zero x = refl
  tab_replicate a (suc k) x = ap (x ∷◌) (tab_replicate (suc a) k x)

-- what stands at places one after the other is a part of the list
pub tab_part : {A B : Type 0} (f : A → B) (vs : List A) (z : A) (p C : ℕ) → p + C ≤ length vs → tab 0 C (λ c. f (get_or vs (p + c) z)) ≡ map f (take C (drop p vs))
tab_part f vs z p C h = (tab_shift p 0 C (λ j. f (get_or vs j z)) ∙ ap (λ (k : ℕ). tab k C (λ j. f (get_or vs j z))) (omega arith)) ∙ from p C h
  where
    from : (q n : ℕ) → q + n ≤ length vs → tab q n (λ j. f (get_or vs j z)) ≡ map f (take n (drop q vs))
    from q zero k = refl
    from q (suc n) k = let g : q < length vs = omega arith in rw (drop-cons vs q z g) (ap (f (get_or vs q z) ∷◌) (from (suc q) n (omega arith)))

-- ---- figures of tables
pub figures_tab : (a k : ℕ) (g : ℕ → List (Option ℤ)) → figures (flat (tab a k g)) ≡ total (tab a k (λ j. figures (g j)))
unfolding gathered
figures_tab a zero g = figures_none
figures_tab a (suc k) g = figures_append (g a) (flat (tab (suc a) k g)) ∙ ap (joined (figures (g a))) (figures_tab (suc a) k g)
