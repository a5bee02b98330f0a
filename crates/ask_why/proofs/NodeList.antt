-- The nodes one by one are the needed ones; and the first of them that has no value.
use mathlib.Core.Path.{◌≡◌, refl, sym, ap, ◌∙◌}
use mathlib.Core.Logic.{inl, inr}
use mathlib.Core.List.{List, [], ◌∷◌, ◌++◌, map, append-nil}
use mathlib.Core.Option.{Option, none, some}
use Prim.Native.Nat.{ℕ, suc, ◌+◌, ◌-◌, ◌≤◌, ◌<◌}
use native.Mathlib.Decide.{ℕ_discrete}
use native.Mathlib.Omega.{arith}
use lib.IntN.{ℤ, pos, negsuc}
use lib.ListN.{length, get_or, set, drop, replicate, length-append}
use lib.Seq.{append_snoc, set-append_seam, drop-cons}
use native.Mathlib.Numerals.{add-one}
use Rattle.kit.specs.Answer.{All, pick, ×_dec}
use Rattle.kit.proofs.ListLaws.{all_append}
use Rattle.kit.proofs.AnswerLaws.{pick_yes, pick_no, pick_elim}
use Rattle.kit.proofs.Parts.{le_parts}
use Rattle.kit.specs.Integer.{Between, int?, between?}
use Rattle.mapset.specs.Areas.{Present, present?}
use Rattle.mapset.specs.declared.Kind.{Kind}
use Rattle.mapset.specs.declared.Kind.TheVariants.{Tec as tec, Rms as rms, Height as height}
use Rattle.ask_nodes.specs.Value.{IsValue, is_value?, thousandths, worth, kind_of, value}
use Rattle.ask_nodes.specs.Units.{in_node}
use Rattle.ask_nodes.specs.declared.Shape.{Shape}
use Rattle.ask_nodes.specs.declared.Weighed.{Weighed}
use Rattle.ask_cells.specs.declared.Cell.{Cell}
use Rattle.ask_spans.specs.declared.Shares.{Shares}
use Rattle.ask_sums.specs.Mean.{corners, spread, IsSome, Valued, terms}
use Rattle.ask_sums.proofs.SumLaws.{all_corners}
use Rattle.ask_why.specs.Explain.{needed, filler, places, Causes, absent, by_exponent, by_number, is_9999}
use Rattle.ask_why.specs.Parts.{node_with, put, add, collect, plain_cause, cause_of, lack_with, found, or_else, cause, lacks, first}
use Rattle.ask_why.specs.declared.Needed.{Needed}
use Rattle.ask_why.specs.declared.nodes.Listing.{Listing}
use Rattle.ask_why.specs.declared.Cause.{Cause}
use Rattle.ask_why.specs.declared.Cause.TheVariants as C
use Rattle.ask_why.specs.declared.Lacking.{Lacking}
use Rattle.std.specs.Prelude.{Option as Maybe, Some, None}

-- ---- a node more
set_next : {A : Type 0} (l : List A) (f x : A) (k : ℕ) → set (l ++ replicate (suc k) f) (length l) x ≡ (l ++ (x ∷ [])) ++ replicate k f
set_next l f x k = set-append_seam l f (replicate k f) x ∙ sym (append_snoc l x (replicate k f))

-- these nodes, and fillers behind
abbrev of_nodes : List Needed → Listing
of_nodes l = record { count = length l; nodes = places l }

put_next : (l : List Needed) (n : Needed) → length l < 8 → put (of_nodes l) n ≡ of_nodes (l ++ (n ∷ []))
put_next l n h =
    let m : length l + 1 ≡ length (l ++ (n ∷ [])) = sym (length-append l (n ∷ [])) in
    let e : 8 - length l ≡ suc (8 - length (l ++ (n ∷ []))) = omega (arith, m) in
    let p : set (places l) (length l) n ≡ places (l ++ (n ∷ [])) = ap (λ (k : ℕ). set (l ++ replicate k filler) (length l) n) e ∙ set_next l filler n (8 - length (l ++ (n ∷ []))) in
    λ i. record { count = m i; nodes = p i }

module _ (s : Shape) (vs ks : List ℤ) (ms : List ℕ) where
  abbrev pub shown : Weighed → Needed
  shown n = node_with n s.layer (in_node (kind_of s.kind) (value s vs ks ms n))

  collect_next : (l : List Needed) (ns : List Weighed) → length l + length ns ≤ 8 → collect s vs ks ms (of_nodes l) ns ≡ of_nodes (l ++ map shown (needed ns))
  unfolding collect add needed pick
  collect_next l [] h = ap of_nodes (sym (append-nil l))
  collect_next l (n ∷ ns) h =
      by (ℕ_discrete n.weight 0) (collect_next l ns (omega arith)) (collect_next (l ++ (shown n ∷ [])) ns (omega (arith, length-append l (shown n ∷ []))))
    where
      by : (d : Dec (n.weight ≡ 0)) → collect s vs ks ms (of_nodes l) ns ≡ of_nodes (l ++ map shown (needed ns))
          → collect s vs ks ms (of_nodes (l ++ (shown n ∷ []))) ns ≡ of_nodes ((l ++ (shown n ∷ [])) ++ map shown (needed ns))
          → collect s vs ks ms (pick d (of_nodes l) (put (of_nodes l) (shown n))) ns ≡ of_nodes (l ++ map shown (pick d (needed ns) (n ∷ needed ns)))
      by (yes z) p q = p
      by (no z) p q = ap (λ (x : Listing). collect s vs ks ms x ns) (put_next l (shown n) (omega arith)) ∙ q ∙ ap of_nodes (append_snoc l (shown n) (map shown (needed ns)))

  -- all of at most eight
  pub collected : (ns : List Weighed) → length ns ≤ 8 → collect s vs ks ms (of_nodes []) ns ≡ of_nodes (map shown (needed ns))
  collected ns h = collect_next [] ns (omega arith)

  -- from an index on
  module _ (ns : List Weighed) (d : Weighed) (k : ℕ) (h : k < length ns) where
    pub next_collected : (l : Listing) → collect s vs ks ms (add s vs ks ms l (get_or ns k d)) (drop (k + 1) ns) ≡ collect s vs ks ms l (drop k ns)
    unfolding collect
    next_collected l = rw (add-one, drop-cons ns k d h) refl

    pub next_first : first s vs ks ms (drop k ns) ≡ or_else (lacks s vs ks ms (get_or ns k d)) (first s vs ks ms (drop (k + 1) ns))
    unfolding first
    next_first = rw (add-one, drop-cons ns k d h) refl

module _ (s : Shape) (vs ks : List ℤ) (ms : List ℕ) (l : Listing) (n : Weighed) where
  pub add_none : n.weight ≡ 0 → add s vs ks ms l n ≡ l
  unfolding add
  add_none z = pick_yes (ℕ_discrete n.weight 0) l (put l (shown s vs ks ms n)) z

  pub add_some : ¬ (n.weight ≡ 0) → add s vs ks ms l n ≡ put l (shown s vs ks ms n)
  unfolding add
  add_some z = pick_no (ℕ_discrete n.weight 0) l (put l (shown s vs ks ms n)) z

-- the maps that are looked at
pub few_maps : (h : Shares) (c d : Cell) → h.map ≤ 1000 → All (λ (n : Weighed). n.map ≤ 1001) (spread h c d)
unfolding spread
few_maps h c d m =
    let p : h.map ≤ 1001 = omega arith in
    let q : h.map + 1 ≤ 1001 = omega arith in
    all_append (λ (n : Weighed). n.map ≤ 1001) (corners h.early h.map c) (corners h.late (h.map + 1) d)
    (all_corners h.early h.map c (λ (n : Weighed). n.map ≤ 1001) p p p p) (all_corners h.late (h.map + 1) d (λ (n : Weighed). n.map ≤ 1001) q q q q)

-- a node more or none
pub add_count : (s : Shape) (vs ks : List ℤ) (ms : List ℕ) (l : Listing) (n : Weighed) → (add s vs ks ms l n).count ≤ l.count + 1
unfolding add
add_count s vs ks ms l n = pick_elim (λ (x : Listing). x.count ≤ l.count + 1) (ℕ_discrete n.weight 0) (λ e. omega arith) (λ e. omega arith)

module _ (s : Shape) (vs ks : List ℤ) (ms : List ℕ) (n : Weighed) where
  pub lacks_light : n.weight ≡ 0 → lacks s vs ks ms n ≡ None
  unfolding lacks
  lacks_light z = pick_yes (ℕ_discrete n.weight 0) None (found (value s vs ks ms n) (lack_with n s.layer (cause s vs ks ms n))) z

  pub lacks_by : ¬ (n.weight ≡ 0) → (o : Option ℤ) → value s vs ks ms n ≡ o → lacks s vs ks ms n ≡ found o (lack_with n s.layer (cause s vs ks ms n))
  unfolding lacks
  lacks_by z o e = pick_no (ℕ_discrete n.weight 0) None (found (value s vs ks ms n) (lack_with n s.layer (cause s vs ks ms n))) z ∙ ap (λ (o : Option ℤ). found o (lack_with n s.layer (cause s vs ks ms n))) e

-- a node told in its unit has a value
pub found_value : (k : Kind) (o : Option ℤ) (l : Lacking) → ¬ (in_node k o ≡ None) → None ≡ found o l
found_value k none l n = absurd (n refl)
found_value k (some v) l n = refl

pub found_nothing : (k : Kind) (o : Option ℤ) (l : Lacking) → in_node k o ≡ None → Some l ≡ found o l
found_nothing k none l e = refl
found_nothing tec (some v) l e = absurd (let z : ◌≡◌ {A = ℕ} 0 1 = cc in omega arith)
found_nothing rms (some v) l e = absurd (let z : ◌≡◌ {A = ℕ} 0 1 = cc in omega arith)
found_nothing height (some v) l e = absurd (let z : ◌≡◌ {A = ℕ} 0 1 = cc in omega arith)

-- ---- the cause
pub exponent_cause : (v k : ℤ) → ¬ Between (negsuc 2) (pos 0) k → C.Exponent ≡ plain_cause v k
unfolding plain_cause
exponent_cause v k n = sym (pick_no (between? (negsuc 2) (pos 0) k) (pick (between? (negsuc 9998) (pos 99999) v) C.Is9999 C.Number) C.Exponent n)

pub number_cause : (v k : ℤ) → Between (negsuc 2) (pos 0) k → ¬ Between (negsuc 9998) (pos 99999) v → C.Number ≡ plain_cause v k
unfolding plain_cause
number_cause v k b n = sym (pick_yes (between? (negsuc 2) (pos 0) k) (pick (between? (negsuc 9998) (pos 99999) v) C.Is9999 C.Number) C.Exponent b ∙ pick_no (between? (negsuc 9998) (pos 99999) v) C.Is9999 C.Number n)

pub last_cause : (v k : ℤ) → Between (negsuc 2) (pos 0) k → Between (negsuc 9998) (pos 99999) v → C.Is9999 ≡ plain_cause v k
unfolding plain_cause
last_cause v k b n = sym (pick_yes (between? (negsuc 2) (pos 0) k) (pick (between? (negsuc 9998) (pos 99999) v) C.Is9999 C.Number) C.Exponent b ∙ pick_yes (between? (negsuc 9998) (pos 99999) v) C.Is9999 C.Number n)

pub absent_cause : (kind : Kind) (mark : ℕ) (v k : ℤ) → ¬ Present kind mark → C.MapAbsent ≡ cause_of kind mark v k
unfolding cause_of
absent_cause kind mark v k n = sym (pick_no (present? kind mark) (plain_cause v k) C.MapAbsent n)

pub present_cause : (kind : Kind) (mark : ℕ) (v k : ℤ) → Present kind mark → plain_cause v k ≡ cause_of kind mark v k
unfolding cause_of
present_cause kind mark v k p = sym (pick_yes (present? kind mark) (plain_cause v k) C.MapAbsent p)

none_some : {v : ℤ} → ¬ (some v ≡ none)
none_some e = let z : ◌≡◌ {A = ℕ} 0 1 = cc in omega arith

plain_causes : (kind : Kind) (mark : ℕ) (v k : ℤ) → Present kind mark → ¬ IsValue v k → Causes kind mark v k (plain_cause v k)
unfolding plain_cause
plain_causes kind mark v k p n =
    pick_elim (Causes kind mark v k) (between? (negsuc 2) (pos 0) k)
    (λ e. pick_elim (Causes kind mark v k) (between? (negsuc 9998) (pos 99999) v) (λ b. is_9999 p e (same (int? v (pos 9999)) b e)) (λ b. by_number p e b))
    (λ e. by_exponent p e)
  where
    same : Dec (v ≡ pos 9999) → Between (negsuc 9998) (pos 99999) v → Between (negsuc 2) (pos 0) k → v ≡ pos 9999
    same (yes e) b x = e
    same (no g) b x = absurd (n (record { number = b; given = g; exponent = x }))

pub causes : (kind : Kind) (mark : ℕ) (v k : ℤ) → worth kind mark v k ≡ none → Causes kind mark v k (cause_of kind mark v k)
unfolding worth cause_of
causes kind mark v k e = pick_elim (Causes kind mark v k) (present? kind mark) (λ p. plain_causes kind mark v k p (λ i. none_some (sym (pick_yes (×_dec (present? kind mark) (is_value? v k)) (some (thousandths v k)) none (p, i)) ∙ e))) (λ n. absent n)

in_range : (v : ℤ) → v ≡ pos 9999 → Between (negsuc 9998) (pos 99999) v
in_range v e = rw e (record { from = le_parts (negsuc 9998) (pos 9999) (omega arith); to = le_parts (pos 9999) (pos 99999) (omega arith) })

no_value : (kind : Kind) (mark : ℕ) (v k : ℤ) (c : Cause) → Causes kind mark v k c → Present kind mark → ¬ IsValue v k
no_value kind mark v k c (absent a) p i = a p
no_value kind mark v k c (by_exponent q a) p i = a i.exponent
no_value kind mark v k c (by_number q y a) p i = a i.number
no_value kind mark v k c (is_9999 q y a) p i = i.given a

-- a node with a cause has no value
pub no_worth : (kind : Kind) (mark : ℕ) (v k : ℤ) (c : Cause) → Causes kind mark v k c → worth kind mark v k ≡ none
unfolding worth
no_worth kind mark v k c x = pick_no (×_dec (present? kind mark) (is_value? v k)) (some (thousandths v k)) none (λ h. no_value kind mark v k c x h.0 h.1)

-- what makes a node lack a value is one thing
pub cause_once : (kind : Kind) (mark : ℕ) (v k : ℤ) (c d : Cause) → Causes kind mark v k c → Causes kind mark v k d → c ≡ d
cause_once kind mark v k c d (absent a) (absent b) = refl
cause_once kind mark v k c d (absent a) (by_exponent p b) = absurd (a p)
cause_once kind mark v k c d (absent a) (by_number p x b) = absurd (a p)
cause_once kind mark v k c d (absent a) (is_9999 p x b) = absurd (a p)
cause_once kind mark v k c d (by_exponent q a) (absent b) = absurd (b q)
cause_once kind mark v k c d (by_exponent q a) (by_exponent p b) = refl
cause_once kind mark v k c d (by_exponent q a) (by_number p x b) = absurd (a x)
cause_once kind mark v k c d (by_exponent q a) (is_9999 p x b) = absurd (a x)
cause_once kind mark v k c d (by_number q y a) (absent b) = absurd (b q)
cause_once kind mark v k c d (by_number q y a) (by_exponent p b) = absurd (b y)
cause_once kind mark v k c d (by_number q y a) (by_number p x b) = refl
cause_once kind mark v k c d (by_number q y a) (is_9999 p x b) = absurd (a (in_range v b))
cause_once kind mark v k c d (is_9999 q y a) (absent b) = absurd (b q)
cause_once kind mark v k c d (is_9999 q y a) (by_exponent p b) = absurd (b y)
cause_once kind mark v k c d (is_9999 q y a) (by_number p x b) = absurd (b (in_range v a))
cause_once kind mark v k c d (is_9999 q y a) (is_9999 p x b) = refl

-- ---- the first that has no value
module _ (s : Shape) (vs ks : List ℤ) (ms : List ℕ) where
  -- a value at each of these nodes, none at the next
  pub record NodeFound (ns : List Weighed) : Type 0 where
    pub before : List Weighed
    pub node : Weighed
    pub behind : List Weighed
    pub order : needed ns ≡ before ++ (node ∷ behind)
    pub valued : All (λ n. IsSome (value s vs ks ms n)) before
    pub lacks : value s vs ks ms node ≡ none
    pub is : first s vs ks ms ns ≡ Some (lack_with node s.layer (cause s vs ks ms node))

  module _ (m : Weighed) (ns : List Weighed) where
    light : m.weight ≡ 0 → (needed (m ∷ ns) ≡ needed ns) × (first s vs ks ms (m ∷ ns) ≡ first s vs ks ms ns)
    unfolding needed first
    light z = (pick_yes (ℕ_discrete m.weight 0) (needed ns) (m ∷ needed ns) z, ap (λ (f : Maybe Lacking). or_else f (first s vs ks ms ns)) (lacks_light s vs ks ms m z))

    heavy : ¬ (m.weight ≡ 0) → (o : Option ℤ) → value s vs ks ms m ≡ o → (needed (m ∷ ns) ≡ m ∷ needed ns) × (first s vs ks ms (m ∷ ns) ≡ or_else (found o (lack_with m s.layer (cause s vs ks ms m))) (first s vs ks ms ns))
    unfolding needed first
    heavy z o e = (pick_no (ℕ_discrete m.weight 0) (needed ns) (m ∷ needed ns) z, ap (λ (f : Maybe Lacking). or_else f (first s vs ks ms ns)) (lacks_by s vs ks ms m z o e))

    skip : m.weight ≡ 0 → NodeFound ns → NodeFound (m ∷ ns)
    skip z f = record { before = f.before; node = f.node; behind = f.behind; order = (light z).0 ∙ f.order; valued = f.valued; lacks = f.lacks; is = (light z).1 ∙ f.is }

    here : ¬ (m.weight ≡ 0) → value s vs ks ms m ≡ none → NodeFound (m ∷ ns)
    here z e = record { before = []; node = m; behind = needed ns; order = (heavy z none e).0; valued = tt; lacks = e; is = (heavy z none e).1 }

    past : ¬ (m.weight ≡ 0) → (v : ℤ) → value s vs ks ms m ≡ some v → NodeFound ns → NodeFound (m ∷ ns)
    past z v e f = record {
      before = m ∷ f.before;
      node = f.node;
      behind = f.behind;
      order = (heavy z (some v) e).0 ∙ ap (λ l. m ∷ l) f.order;
      valued = (rw e tt, f.valued);
      lacks = f.lacks;
      is = (heavy z (some v) e).1 ∙ f.is;
    }

    weighed : (Dec (m.weight ≡ 0)) → (o : Option ℤ) → value s vs ks ms m ≡ o → (¬ Valued (terms s vs ks ms ns) → NodeFound ns) → ¬ Valued (terms s vs ks ms (m ∷ ns)) → NodeFound (m ∷ ns)
    unfolding terms
    weighed (yes z) o e f n = skip z (f (λ a. n (inl z, a)))
    weighed (no z) none e f n = here z e
    weighed (no z) (some v) e f n = past z v e (f (λ a. n (inr (rw e tt), a)))

  pub find : (ns : List Weighed) → ¬ Valued (terms s vs ks ms ns) → NodeFound ns
  unfolding terms
  find [] n = absurd (n tt)
  find (m ∷ ns) n = weighed m ns (ℕ_discrete m.weight 0) (value s vs ks ms m) refl (find ns) n
