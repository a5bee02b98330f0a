-- Figures form a commutative monoid, and those of nodes one after the other are the figures combined.
use mathlib.Core.Path.{◌≡◌, refl, sym, ap, ap₂, ◌∙◌}
use mathlib.Core.Logic.{◌⊎◌, inl, inr, ⊎_elim}
use mathlib.Core.List.{List, [], ◌∷◌, ◌++◌, map, map-append}
use mathlib.Core.Option.{Option, none, some}
use Prim.Native.Nat.{ℕ, zero, suc, ◌+◌, ◌≤◌, ◌<◌}
use native.Mathlib.Nat.{add_assoc, add_comm, zero-add, add-zero}
use native.Mathlib.Omega.{arith}
use lib.IntN.{ℤ, pos, nat_abs, ◌+ℤ◌, +ℤ_idl, +ℤ_idr, +ℤ_assoc, +ℤ_comm}
use lib.Signed.{◌≤ℤ◌, ≤ℤ_refl}
use lib.ListN.{length, replicate, get_or, take, drop, drop_of_length-le, length-map}
use lib.Seq.{drop-cons, take-suc}
use native.Mathlib.Numerals.{add-one}
use Rattle.kit.specs.Answer.{All}
use Rattle.kit.proofs.AnswerLaws.{pick_elim}
use Rattle.kit.proofs.Parts.{add_parts, abs_parts, one_zero}
use Rattle.ask_nodes.specs.Nodes.{plain, Small}
use Rattle.ask_nodes.proofs.NodeLaws.{small_plain}
use Rattle.week_tally.specs.Gathered.{Combines}
use Rattle.week_tally.proofs.Orders.{Order, first, rising, falling, le_trans}
use Rattle.week_tally.proofs.ExtremeLaws.{first_left, first_right, first_assoc, first_comm}
use Rattle.week_tally.specs.Figures.{given, lacking, smaller, larger, hull, point, range, sum, figures, joined, from, nothing, empty, single, nodes_in, Bounded, Ready, Fit}
use Rattle.week_tally.specs.declared.Tally.{Tally}
use Rattle.week_tally.specs.declared.Range.{Range}
use Rattle.std.specs.Prelude.{Option as Maybe, Some, None}

-- ---- ranges
pub hull_none : (r : Maybe Range) → hull r None ≡ r
hull_none None = refl
hull_none (Some r) = refl

hull_comm : (r s : Maybe Range) → hull r s ≡ hull s r
hull_comm None None = refl
hull_comm None (Some s) = refl
hull_comm (Some r) None = refl
hull_comm (Some r) (Some s) = ap₂ from (first_comm rising r.smallest s.smallest) (first_comm falling r.largest s.largest)

hull_assoc : (r s t : Maybe Range) → hull (hull r s) t ≡ hull r (hull s t)
hull_assoc None s t = refl
hull_assoc (Some r) None t = refl
hull_assoc (Some r) (Some s) None = refl
hull_assoc (Some r) (Some s) (Some t) = ap₂ from (first_assoc rising r.smallest s.smallest t.smallest) (first_assoc falling r.largest s.largest t.largest)

-- ---- one operation with a neutral element, associative and commutative
pub joined_none : (t : Tally) → joined nothing t ≡ t
unfolding joined
joined_none t = λ i. record { given = zero-add t.given i; lacking = zero-add t.lacking i; range = t.range; sum = +ℤ_idl t.sum i }

pub joined_comm : (t u : Tally) → joined t u ≡ joined u t
unfolding joined
joined_comm t u =
    λ i. record {
      given = add_comm t.given u.given i;
      lacking = add_comm t.lacking u.lacking i;
      range = hull_comm t.range u.range i;
      sum = +ℤ_comm t.sum u.sum i;
    }

pub joined_assoc : (t u v : Tally) → joined (joined t u) v ≡ joined t (joined u v)
unfolding joined
joined_assoc t u v =
    λ i. record {
      given = add_assoc t.given u.given v.given i;
      lacking = add_assoc t.lacking u.lacking v.lacking i;
      range = hull_assoc t.range u.range v.range i;
      sum = +ℤ_assoc t.sum u.sum v.sum i;
    }

pub combines : Combines joined nothing
combines = record { neutral = joined_none; comm = joined_comm; assoc = joined_assoc }

pub none_joined : (t : Tally) → joined t nothing ≡ t
none_joined t = joined_comm t nothing ∙ joined_none t

-- ---- one node more, and nodes one after the other
pub same : {t u : Tally} → t.given ≡ u.given → t.lacking ≡ u.lacking → t.range ≡ u.range → t.sum ≡ u.sum → t ≡ u
same a b c d = λ i. record { given = a i; lacking = b i; range = c i; sum = d i }

figures_cons : (n : Option ℤ) (ns : List (Option ℤ)) → figures (n ∷ ns) ≡ joined (single n) (figures ns)
unfolding figures joined given lacking range sum
figures_cons none ns = same (omega arith) (omega arith) refl refl
figures_cons (some v) ns = same (omega arith) (omega arith) refl (ap (λ (z : ℤ). z +ℤ sum ns) (sym (+ℤ_idr v)))

pub figures_none : figures [] ≡ nothing
unfolding figures given lacking range sum
figures_none = refl

pub figures_append : (ms ns : List (Option ℤ)) → figures (ms ++ ns) ≡ joined (figures ms) (figures ns)
figures_append [] ns = rw figures_none (sym (joined_none (figures ns)))
figures_append (m ∷ ms) ns = rw (figures_cons m (ms ++ ns), figures_cons m ms, figures_append ms ns) (sym (joined_assoc (single m) (figures ms) (figures ns)))

-- ---- the two counts add to the number of nodes
pub counts_add : (ns : List (Option ℤ)) → given ns + lacking ns ≡ length ns
unfolding given lacking
counts_add [] = omega arith
counts_add (none ∷ ns) = omega (arith, counts_add ns)
counts_add (some v ∷ ns) = omega (arith, counts_add ns)

pub figures_empty : (k : ℕ) → figures (replicate k none) ≡ empty k
unfolding figures given lacking range sum
figures_empty zero = refl
figures_empty (suc k) =
    let e = figures_empty k in
    same (ap (λ (t : Tally). t.given) e) (ap (λ (t : Tally). suc t.lacking) e) (ap (λ (t : Tally). t.range) e) (ap (λ (t : Tally). pos 0 +ℤ t.sum) e)

-- ---- the sum is at most 99,999,000 for each node with a value
pub abs_add : (x y : ℤ) → nat_abs (x +ℤ y) ≤ nat_abs x + nat_abs y
abs_add x y =
    let a = add_parts x y in
    let b = abs_parts (x +ℤ y) in
    let d = abs_parts x in
    let e = abs_parts y in
    ⊎_elim (λ o. omega arith) (λ o. omega arith) (one_zero (x +ℤ y))

pub bounded_joined : (t u : Tally) → Bounded t → Bounded u → Bounded (joined t u)
unfolding joined
bounded_joined t u p q = omega (arith, abs_add t.sum u.sum)

bounded_single : (n : Option ℤ) → Small n → Bounded (single n)
unfolding figures given sum
bounded_single none s = omega arith
bounded_single (some v) s = rw (+ℤ_idr v) (omega arith)

pub bounded_figures : (ns : List (Option ℤ)) → All Small ns → Bounded (figures ns)
bounded_figures [] a = rw figures_none (omega arith)
bounded_figures (n ∷ ns) a = rw (figures_cons n ns) (bounded_joined (single n) (figures ns) (bounded_single n a.0) (bounded_figures ns a.1))

-- ---- smallest and largest are values of nodes, and bound all
abbrev pub Among : ℤ → List (Option ℤ) → Type 0
Among v [] = ⊥
Among v (n ∷ ns) = (n ≡ some v) ⊎ Among v ns

abbrev pub Inside : ℤ → ℤ → Option ℤ → Type 0
Inside a b none = Unit {0}
Inside a b (some v) = (a ≤ℤ v) × (v ≤ℤ b)

abbrev pub Spans : List (Option ℤ) → Maybe Range → Type 0
Spans ns None = All (λ n. n ≡ none) ns
Spans ns (Some r) = Among r.smallest ns × Among r.largest ns × All (Inside r.smallest r.largest) ns

wider : (a b c d : ℤ) → a ≤ℤ c → d ≤ℤ b → (ns : List (Option ℤ)) → All (Inside c d) ns → All (Inside a b) ns
wider a b c d p q [] h = tt
wider a b c d p q (none ∷ ns) h = (tt, wider a b c d p q ns h.1)
wider a b c d p q (some v ∷ ns) h = ((le_trans a c v p h.0.0, le_trans v d b h.0.1 q), wider a b c d p q ns h.1)

-- with none before: nothing is given
no_more : (a b : ℤ) (ns : List (Option ℤ)) → All (λ n. n ≡ none) ns → All (Inside a b) ns
no_more a b [] h = tt
no_more a b (n ∷ ns) h = (rw h.0 tt, no_more a b ns h.1)

-- of the first of two, one that holds of both
of_first : {R : ℤ → ℤ → Type 0} (o : Order R) (P : ℤ → Type 0) (a b : ℤ) → P a → P b → P (first o a b)
of_first o P a b p q = pick_elim P (o.first? a b) (λ _. p) (λ _. q)

spans_cons : (n : Option ℤ) (ns : List (Option ℤ)) (r : Maybe Range) → Spans ns r → Spans (n ∷ ns) (hull (point n) r)
spans_cons none ns None h = (refl, h)
spans_cons none ns (Some r) h = (inr h.0, inr h.1, (tt, h.2))
spans_cons (some v) ns None h = (inl refl, inl refl, ((≤ℤ_refl v, ≤ℤ_refl v), no_more v v ns h))
spans_cons (some v) ns (Some r) h =
    let c = r.smallest in
    let d = r.largest in (
      of_first rising (λ (z : ℤ). Among z (some v ∷ ns)) v c (inl refl) (inr h.0),
      of_first falling (λ (z : ℤ). Among z (some v ∷ ns)) v d (inl refl) (inr h.1),
      ((first_left rising v c, first_left falling v d), wider (smaller v c) (larger v d) c d (first_right rising v c) (first_right falling v d) ns h.2),
    )

pub range_spans : (ns : List (Option ℤ)) → Spans ns (range ns)
unfolding range
range_spans [] = tt
range_spans (n ∷ ns) = spans_cons n ns (range ns) (range_spans ns)

pub fit_figures : (ns : List (Option ℤ)) → Fit (given ns) (range ns)
unfolding given range
fit_figures [] = tt
fit_figures (none ∷ ns) = fit_figures ns
fit_figures (some v ∷ ns) = by (given ns) (range ns) (fit_figures ns)
  where
    by : (k : ℕ) (r : Maybe Range) → Fit k r → Fit (suc k) (hull (point (some v)) r)
    by zero None f = ≤ℤ_refl v
    by zero (Some r) f = absurd f
    by (suc k) None f = absurd f
    by (suc k) (Some r) f = le_trans (smaller v r.smallest) v (larger v r.largest) (first_left rising v r.smallest) (first_left falling v r.largest)

-- ---- how many nodes
pub nodes_joined : (t u : Tally) → nodes_in (joined t u) ≡ nodes_in t + nodes_in u
unfolding joined
nodes_joined t u = omega arith

pub nodes_single : (n : Option ℤ) → nodes_in (single n) ≡ 1
unfolding figures given lacking
nodes_single none = omega arith
nodes_single (some v) = omega arith

pub nodes_figures : (ns : List (Option ℤ)) → nodes_in (figures ns) ≡ length ns
unfolding figures
nodes_figures ns = counts_add ns

-- a small figure is one that can be combined
pub small_single : (n : Option ℤ) → Small n → Ready (single n)
small_single n s = (bounded_single n s, omega (arith, nodes_single n))

-- ---- figures of a list from an index on

module _ {A : Type 0} (f : A → Option ℤ) (s : List A) (z : A) (i : ℕ) where
  pub figures_next : (t : Tally) → i < length s → joined (joined t (single (f (get_or s i z)))) (figures (map f (drop (i + 1) s))) ≡ joined t (figures (map f (drop i s)))
  figures_next t h =
      rw (add-one, drop-cons s i z h, figures_cons (f (get_or s i z)) (map f (drop (suc i) s))) (joined_assoc t (single (f (get_or s i z))) (figures (map f (drop (suc i) s))))

  pub figures_end : (t : Tally) → length s ≤ i → joined t (figures (map f (drop i s))) ≡ t
  figures_end t h = rw (drop_of_length-le s h, figures_none) (none_joined t)

  pub figures_taken : i < length s → figures (map f (take (i + 1) s)) ≡ joined (figures (map f (take i s))) (single (f (get_or s i z)))
  figures_taken h = rw (add-one, take-suc s i z h, map-append f (take i s) (get_or s i z ∷ [])) (figures_append (map f (take i s)) (f (get_or s i z) ∷ []))

-- ---- numbers under one exponent
pub small_numbers : (e : ℤ) (vs : List ℤ) → All Small (map (λ v. plain v e) vs)
small_numbers e [] = tt
small_numbers e (v ∷ vs) = (small_plain v e, small_numbers e vs)

pub bounded_numbers : (e : ℤ) (vs : List ℤ) → Bounded (figures (map (λ v. plain v e) vs))
bounded_numbers e vs = bounded_figures (map (λ v. plain v e) vs) (small_numbers e vs)

pub nodes_numbers : (e : ℤ) (vs : List ℤ) → nodes_in (figures (map (λ v. plain v e) vs)) ≡ length vs
nodes_numbers e vs = nodes_figures (map (λ v. plain v e) vs) ∙ length-map vs (λ v. plain v e)

pub fit_all : (ns : List (Option ℤ)) → Fit (figures ns).given (figures ns).range
unfolding figures
fit_all ns = fit_figures ns

fit_joined : (m n : ℕ) (r s : Maybe Range) → Fit m r → Fit n s → Fit (m + n) (hull r s)
fit_joined zero zero None None f g = tt
fit_joined zero zero None (Some s) f g = absurd g
fit_joined zero zero (Some r) s f g = absurd f
fit_joined zero (suc n) None None f g = absurd g
fit_joined zero (suc n) None (Some s) f g = rw (zero-add (suc n)) g
fit_joined zero (suc n) (Some r) s f g = absurd f
fit_joined (suc m) n None s f g = absurd f
fit_joined (suc m) zero (Some r) None f g = rw (add-zero (suc m)) f
fit_joined (suc m) zero (Some r) (Some s) f g = absurd g
fit_joined (suc m) (suc n) (Some r) None f g = absurd g
fit_joined (suc m) (suc n) (Some r) (Some s) f g =
    let e : suc m + suc n ≡ suc (m + suc n) = omega arith in
    let low = first_left rising r.smallest s.smallest in
    let high = first_left falling r.largest s.largest in
    rw e (le_trans (smaller r.smallest s.smallest) r.smallest (larger r.largest s.largest) low (le_trans r.smallest r.largest (larger r.largest s.largest) f high))

pub joined_fit : (t u : Tally) → Fit t.given t.range → Fit u.given u.range → Fit (joined t u).given (joined t u).range
unfolding joined
joined_fit t u p q = fit_joined t.given u.given t.range u.range p q
