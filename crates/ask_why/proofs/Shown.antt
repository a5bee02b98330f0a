-- What an explanation shows: the needed nodes, each once and in order, with weights that are positive and come to the denominator; and
-- their weighted sum, rounded once, is the answer.
use mathlib.Core.Path.{◌≡◌, refl, sym, ap, ap₂, subst, ◌∙◌}
use mathlib.Core.Logic.{◌⊎◌, inl, inr, ⊎_elim}
use mathlib.Core.List.{List, [], ◌∷◌, ◌++◌, map}
use mathlib.Core.Option.{none, some}
use Prim.Native.Nat.{ℕ, ◌+◌, ◌-◌, ◌<◌}
use native.Mathlib.Decide.{ℕ_discrete}
use native.Mathlib.Omega.{arith}
use lib.IntN.{ℤ, pos, ◌+ℤ◌, ◌*ℤ◌, +ℤ_idl, zero-*ℤ}
use lib.ListN.{length, take, replicate}
use lib.Seq.{take-append_seam}
use Rattle.kit.specs.Answer.{All, pick}
use Rattle.mapset.specs.Areas.{Sound}
use Rattle.ask_round.specs.Round.{Nearest}
use Rattle.ask_nodes.specs.Value.{kind_of, or_zero}
use Rattle.ask_nodes.specs.Units.{bare}
use Rattle.ask_nodes.specs.declared.Weighed.{Weighed}
use Rattle.ask_nodes.proofs.NodeLaws.{bare_node}
use Rattle.ask_sums.specs.Mean.{IsSome, Valued, terms, weighted, weight}
use Rattle.ask.specs.Ask.{Question, Told, refused, stop, go, Served, Weighs, asked, Blended, Answers, Asked}
use Rattle.ask.specs.Ask as ask
use Rattle.ask.proofs.AskLaws.{whole_weight}
use Rattle.ask.proofs.Once.{weighs_once, answers_once}
use Rattle.ask.proofs.Between.{thousandths_of, in_unit_of, some_once, none_some}
use Rattle.ask_why.specs.Explain.{needed, value_of, listed, filler, FirstLacking, told, Lists, ListsNothing, Beside, Explains, Explained}
use Rattle.ask_why.specs.Shown.{shown, weights, weighted_sum, Before, Rising, Among, first, later, NamesFirst}
use Rattle.ask_why.specs.declared.Needed.{Needed}
use Rattle.ask_why.specs.declared.Lacking.{Lacking}
use Rattle.std.specs.Prelude.{Ok, Err}
use Rattle.ask_nodes.specs.declared.Value.TheVariants as V
use Rattle.ask_why.specs.declared.Unanswered.TheVariants as U
use Rattle.ask_why.specs.declared.Explanation.{Explanation}
use Rattle.ask_why.proofs.WhyLaws.{Looks, Opened, opened, length_listed, denominator_is}
use Rattle.ask_why.proofs.Once.{denominator_once, no_value, lacks_value}
use Rattle.ask_why.proofs.Order.{in_order}

-- ---- the needed ones are those whose weight is not zero
pub needed_weight : (ns : List Weighed) → All (λ (n : Weighed). 0 < n.weight) (needed ns)
unfolding needed pick
needed_weight [] = tt
needed_weight (m ∷ ns) = by (ℕ_discrete m.weight 0) (needed_weight ns)
  where
    by : (d : Dec (m.weight ≡ 0)) → All (λ (n : Weighed). 0 < n.weight) (needed ns) → All (λ (n : Weighed). 0 < n.weight) (pick d (needed ns) (m ∷ needed ns))
    by (yes z) a = a
    by (no z) a = (omega (arith, z), a)

pub needed_listed : (n : Weighed) (ns : List Weighed) → Among n ns → ¬ (n.weight ≡ 0) → Among n (needed ns)
unfolding needed pick
needed_listed n (m ∷ ns) first z = by (ℕ_discrete n.weight 0)
  where
    by : (d : Dec (n.weight ≡ 0)) → Among n (pick d (needed ns) (n ∷ needed ns))
    by (yes e) = absurd (z e)
    by (no e) = first
needed_listed n (m ∷ ns) (later a) z = by (ℕ_discrete m.weight 0) (needed_listed n ns a z)
  where
    by : (d : Dec (m.weight ≡ 0)) → Among n (needed ns) → Among n (pick d (needed ns) (m ∷ needed ns))
    by (yes e) b = b
    by (no e) b = later b
needed_listed n [] x'' z = elim x'' [ ]

among_cons : {A : Type 0} (n m : A) (l k : List A) → (Among n l → Among n k) → Among n (m ∷ l) → Among n (m ∷ k)
among_cons n m l k f first = first
among_cons n m l k f (later a) = later (f a)

pub listed_needed : (n : Weighed) (ns : List Weighed) → Among n (needed ns) → Among n ns
unfolding needed pick
listed_needed n (m ∷ ns) a = by (ℕ_discrete m.weight 0) a (listed_needed n ns)
  where
    by : (d : Dec (m.weight ≡ 0)) → Among n (pick d (needed ns) (m ∷ needed ns)) → (Among n (needed ns) → Among n ns) → Among n (m ∷ ns)
    by (yes e) b f = later (f b)
    by (no e) b f = among_cons n m (needed ns) ns f b
listed_needed n [] a = elim a [ ]

-- ---- sums over the needed nodes are sums over all
module _ (q : Question) where
  weights_all : (ns : List Weighed) → weights (map (listed q) (needed ns)) ≡ weight (asked q ns)
  unfolding needed pick weights weight terms
  weights_all [] = refl
  weights_all (m ∷ ns) = by (ℕ_discrete m.weight 0) (weights_all ns)
    where
      by : (d : Dec (m.weight ≡ 0)) → weights (map (listed q) (needed ns)) ≡ weight (asked q ns) → weights (map (listed q) (pick d (needed ns) (m ∷ needed ns))) ≡ m.weight + weight (asked q ns)
      by (yes z) e = omega (arith, z, e)
      by (no z) e = ap (λ (k : ℕ). m.weight + k) e

  sum_all : (ns : List Weighed) → weighted_sum (map (listed q) (needed ns)) ≡ weighted (asked q ns)
  unfolding needed pick weighted_sum weighted terms
  sum_all [] = refl
  sum_all (m ∷ ns) = by (ℕ_discrete m.weight 0) (sum_all ns)
    where
      by : (d : Dec (m.weight ≡ 0)) → weighted_sum (map (listed q) (needed ns)) ≡ weighted (asked q ns)
          → weighted_sum (map (listed q) (pick d (needed ns) (m ∷ needed ns))) ≡ pos m.weight *ℤ or_zero (value_of q m) +ℤ weighted (asked q ns)
      by (yes z) e =
          let w = weighted (asked q ns) in
          e ∙ sym (+ℤ_idl w) ∙ ap (λ (x : ℤ). x +ℤ w) (sym (ap (λ (k : ℕ). pos k *ℤ or_zero (value_of q m)) z ∙ zero-*ℤ (or_zero (value_of q m))))
      by (no z) e = ap₂ (λ (x y : ℤ). pos m.weight *ℤ x +ℤ y) (ap or_zero (bare_node (kind_of q.kind) (value_of q m))) e

  all_valued : (ns : List Weighed) → Valued (asked q ns) → All (λ (n : Needed). IsSome (bare n.value)) (map (listed q) (needed ns))
  unfolding needed pick terms
  all_valued [] v = tt
  all_valued (m ∷ ns) v = by (ℕ_discrete m.weight 0) v.0 (all_valued ns v.1)
    where
      by : (d : Dec (m.weight ≡ 0)) → (m.weight ≡ 0) ⊎ IsSome (value_of q m) → All (λ (n : Needed). IsSome (bare n.value)) (map (listed q) (needed ns)) → All (λ (n : Needed). IsSome (bare n.value)) (map (listed q) (pick d (needed ns) (m ∷ needed ns)))
      by (yes z) x a = a
      by (no z) x a = (rw (bare_node (kind_of q.kind) (value_of q m)) (⊎_elim (λ e. absurd (z e)) (λ i. i) x), a)

  map_weights : (ns : List Weighed) → All (λ (n : Weighed). 0 < n.weight) ns → All (λ (n : Needed). 0 < n.weight) (map (listed q) ns)
  map_weights [] a = tt
  map_weights (n ∷ ns) a = (a.0, map_weights ns a.1)

-- ---- what is shown
shown_is : (q : Question) (e : Explanation) (l : Lists q e) → shown e ≡ map (listed q) (needed l.nodes)
shown_is q e l =
    let ns = map (listed q) (needed l.nodes) in
    let c : e.count ≡ length ns = l.count ∙ sym (length_listed q (needed l.nodes)) in
    ap₂ (λ (k : ℕ) (x : List Needed). take k x) c l.listed ∙ take-append_seam ns (replicate (8 - length ns) filler)

-- the weights of all nodes come to the denominator
pub lists_weight : (q : Question) (e : Explanation) → Sound q.header q.texts q.areas → Served q → (l : Lists q e) → weight (asked q l.nodes) ≡ e.denominator
lists_weight q e sound served l =
    let w = l.weighs in
    let d = denominator_once q sound _ e.denominator (denominator_is q sound w.shares w.uses w.first w.second w.cells) l.denominator in
    ap (λ (ns : List Weighed). weight (asked q ns)) w.nodes ∙ whole_weight q sound served w.shares w.uses w.first w.second w.cells ∙ d

-- the answer has a value: the nodes stand beside it
abbrev pub Given : Explanation → ℤ → Type 0
Given e v = thousandths_of (told e.answer) ≡ some v

lists_of : (q : Question) (e : Explanation) (a : Explained) (v : ℤ) → Beside q e a → thousandths_of (told a) ≡ some v → Lists q e × Looks (told a)
lists_of q e (Ok (V.Tecu w)) v b g = (b, tt)
lists_of q e (Ok (V.Km w)) v b g = (b, tt)
lists_of q e (Err (U.Lacks l)) v b g = absurd (none_some v g)
lists_of q e (Err (U.Refused w)) v b g = absurd (none_some v g)

-- the mean of the nodes
mean_of : (q : Question) (a : Told) (v : ℤ) → Blended q a → thousandths_of a ≡ some v → (ns : List Weighed) × (Weighs q ns × (Valued (asked q ns) × Nearest (weighted (asked q ns)) (weight (asked q ns)) v))
mean_of q a v (ns, (w, stop n)) g = absurd (none_some v g)
mean_of q a v (ns, (w, go valued (u, (m, f)))) g =
    let e : u ≡ v = some_once u v (sym (in_unit_of (kind_of q.kind) u) ∙ ap thousandths_of (sym f) ∙ g) in
    (ns, (w, (valued, rw e at m)))

module _ (q : Question) (e : Explanation) (x : Explains q e) (v : ℤ) (g : Given e v) where
  lists : Lists q e
  lists = (lists_of q e e.answer v x.beside g).0

  passed : Opened q (told e.answer)
  passed = opened q (told e.answer) x.answers (lists_of q e e.answer v x.beside g).1

  -- the nodes are the needed ones
  pub nodes_exact : (ns : List Weighed) → Weighs q ns → shown e ≡ map (listed q) (needed ns)
  nodes_exact ns w = shown_is q e lists ∙ ap (λ (l : List Weighed). map (listed q) (needed l)) (weighs_once q passed.sound lists.nodes ns lists.weighs w)

  -- none twice, in the order map, row, column
  pub nodes_rise : Rising (shown e)
  nodes_rise = rw (shown_is q e lists) (in_order q passed.sound passed.served lists.nodes lists.weighs)

  pub weights_positive : All (λ (n : Needed). 0 < n.weight) (shown e)
  weights_positive = rw (shown_is q e lists) (map_weights q (needed lists.nodes) (needed_weight lists.nodes))

  whole : weight (asked q lists.nodes) ≡ e.denominator
  whole = lists_weight q e passed.sound passed.served lists

  -- the weights add to the denominator
  pub weights_add : weights (shown e) ≡ e.denominator
  weights_add = ap weights (shown_is q e lists) ∙ weights_all q lists.nodes ∙ whole

  mean : (ns : List Weighed) × (Weighs q ns × (Valued (asked q ns) × Nearest (weighted (asked q ns)) (weight (asked q ns)) v))
  mean = mean_of q (told e.answer) v passed.blended g

  same : mean.0 ≡ lists.nodes
  same = weighs_once q passed.sound mean.0 lists.nodes mean.1.0 lists.weighs

  -- each has a value
  pub values_given : All (λ (n : Needed). IsSome (bare n.value)) (shown e)
  values_given = rw (shown_is q e lists) (all_valued q lists.nodes (rw same at mean.1.1.0))

  -- their weighted sum, rounded once, is the answer
  pub sum_is_answer : Nearest (weighted_sum (shown e)) e.denominator v
  sum_is_answer =
      let n : Nearest (weighted (asked q lists.nodes)) (weight (asked q lists.nodes)) v = rw same at mean.1.1.1 in
      let s : weighted (asked q lists.nodes) ≡ weighted_sum (shown e) = sym (ap weighted_sum (shown_is q e lists) ∙ sum_all q lists.nodes) in
      rw (s, whole) at n

-- the answer is the question's own, and so is each refusal
pub as_asked : (q : Question) (e : Explanation) (r : Asked) → Explains q e → Answers q (ask.told r) → told e.answer ≡ ask.told r
as_asked q e r x y = answers_once q (told e.answer) (ask.told r) x.answers y

-- a refusal shows no node
nothing : (q : Question) (e : Explanation) (a : Explained) → Beside q e a → thousandths_of (told a) ≡ none → ListsNothing e
nothing q e (Ok (V.Tecu w)) b g = absurd (none_some w.0 (sym g))
nothing q e (Ok (V.Km w)) b g = absurd (none_some w.0 (sym g))
nothing q e (Err (U.Lacks l)) b g = b.1
nothing q e (Err (U.Refused w)) b g = b.1

pub refused_shows_nothing : (q : Question) (e : Explanation) → Explains q e → thousandths_of (told e.answer) ≡ none → ListsNothing e
refused_shows_nothing q e x g = nothing q e e.answer x.beside g

-- 22 names its node
named : (q : Question) (e : Explanation) (a : Explained) → Beside q e a → told a ≡ refused 22 → (l : Lacking) × ((a ≡ Err (U.Lacks l)) × FirstLacking q l)
named q e (Ok (V.Tecu w)) b g = absurd (let z : ◌≡◌ {A = ℕ} 0 1 = cc in omega arith)
named q e (Ok (V.Km w)) b g = absurd (let z : ◌≡◌ {A = ℕ} 0 1 = cc in omega arith)
named q e (Err (U.Lacks l)) b g = (l, (refl, b.0))
named q e (Err (U.Refused w)) b g = absurd (b.0 (cc))

pub names_first_lacking : (q : Question) (e : Explanation) → Explains q e → told e.answer ≡ refused 22 → (l : Lacking) × ((e.answer ≡ Err (U.Lacks l)) × FirstLacking q l)
names_first_lacking q e x g = named q e e.answer x.beside g

-- of all needed nodes, by their place and not by a list
before_behind : (q : Question) (m n : Weighed) (ns : List Weighed) → All (Before (listed q m)) (map (listed q) ns) → Among n ns → Before (listed q m) (listed q n)
before_behind q m n (k ∷ ns) a first = a.0
before_behind q m n (k ∷ ns) a (later x) = before_behind q m n ns a.1 x
before_behind q m n [] a x'' = elim x'' [ ]

others_behind : (q : Question) (m n : Weighed) (b c : List Weighed) → All (λ k. IsSome (value_of q k)) b → Rising (map (listed q) (b ++ (m ∷ c))) → value_of q n ≡ none
    → Among n (b ++ (m ∷ c)) → (n ≡ m) ⊎ Before (listed q m) (listed q n)
others_behind q m n [] c v r e first = inl refl
others_behind q m n [] c v r e (later x) = inr (before_behind q m n c r.0 x)
others_behind q m n (k ∷ b) c v r e first = absurd (no_value (value_of q n) e v.0)
others_behind q m n (k ∷ b) c v r e (later x) = others_behind q m n b c v.1 r.1 e x

in_between : (m : Weighed) (b c : List Weighed) → Among m (b ++ (m ∷ c))
in_between m [] c = first
in_between m (k ∷ b) c = later (in_between m b c)

pub names_first : (q : Question) (e : Explanation) → Explains q e → told e.answer ≡ refused 22 → (ns : List Weighed) → Weighs q ns
    → (l : Lacking) × ((e.answer ≡ Err (U.Lacks l)) × NamesFirst q ns l)
names_first q e x g ns w =
    let n = names_first_lacking q e x g in
    let f : FirstLacking q n.0 = n.1.1 in
    let o : Opened q (told e.answer) = opened q (told e.answer) x.answers (subst Looks (sym g) refl) in
    let s : needed ns ≡ f.before ++ (f.node ∷ f.behind) = ap needed (weighs_once q o.sound ns f.nodes w f.weighs) ∙ f.order in
    let r : Rising (map (listed q) (f.before ++ (f.node ∷ f.behind))) = subst (λ k. Rising (map (listed q) k)) s (in_order q o.sound o.served ns w) in (
      n.0,
      (
        n.1.0,
        record {
          node = f.node;
          is_needed = subst (Among f.node) (sym s) (in_between f.node f.before f.behind);
          lacks = lacks_value q f.node n.0.cause f.cause;
          cause = f.cause;
          map = f.map;
          layer = f.layer;
          row = f.row;
          column = f.column;
          others = λ m a v. others_behind q f.node m f.before f.behind f.valued r v (subst (Among m) s a);
        },
      ),
    )
