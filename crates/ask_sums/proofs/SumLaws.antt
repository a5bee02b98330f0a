-- A sum node by node is the sum of the list, in the kind's unit.
use mathlib.Core.Path.{◌≡◌, refl, sym, ap, ap₂, ◌∙◌}
use mathlib.Core.Logic.{inl, inr, ⊎_elim}
use mathlib.Core.List.{List, [], ◌∷◌, ◌++◌}
use mathlib.Core.Option.{Option, none, some}
use Prim.Native.Nat.{ℕ, zero, suc, ◌+◌, ◌-◌, ◌≤◌, ◌<◌}
use native.Mathlib.Nat.{mul-le-mul, le_refl, zero-add, add_assoc}
use native.Mathlib.Omega.{arith}
use lib.IntN.{ℤ, pos, nat_abs, ◌+ℤ◌, ◌*ℤ◌, +ℤ_idr, +ℤ_idl, +ℤ_assoc, zero-*ℤ}
use lib.ListN.{length, get_or, drop, length-append}
use lib.Seq.{drop-cons}
use native.Mathlib.Decide.{dec_lt}
use native.Mathlib.Numerals.{add-one}
use Rattle.kit.proofs.Parts.{abs_add_scaled}
use Rattle.kit.specs.Answer.{All, pick}
use Rattle.mapset.specs.declared.Kind.{Kind}
use Rattle.mapset.specs.declared.Kind.TheVariants.{Tec as tec, Rms as rms, Height as height}
use Rattle.ask_nodes.specs.Value.{kind_of, value, or_zero, corner}
use Rattle.ask_nodes.specs.Nodes.{Small}
use Rattle.ask_nodes.specs.Units.{in_node, bare}
use Rattle.ask_nodes.proofs.NodeLaws.{small_value, bare_node}
use Rattle.ask_sums.specs.Mean.{left, right, next_left, next_right, by_column, Term, Valued, corners, spread, terms, weighted, weight}
use Rattle.ask_sums.specs.Sums.{valued?, four, beside, in_sum, add_node, add_value, add_all, Fits, SumRoom, Ready}
use Rattle.ask_cells.specs.declared.Cell.{Cell}
use Rattle.ask_spans.specs.declared.Shares.{Shares}
use Rattle.ask_nodes.specs.declared.Shape.{Shape}
use Rattle.ask_nodes.specs.declared.Weighed.{Weighed}
use Rattle.std.specs.Prelude.{Option as Maybe, Some, None}
use Rattle.ask_nodes.specs.declared.Value.{Value}
use Rattle.ask_nodes.specs.declared.Value.TheVariants as V
use Rattle.ask_sums.specs.declared.Sum.{Sum}
use Rattle.ask_sums.specs.declared.Sum.TheVariants as S

-- ---- the unit taken off
pub small_node : {n : Maybe Value} (k : Kind) (o : Option ℤ) → n ≡ in_node k o → Small o → Small (bare n)
small_node k o e h = rw (ap bare e ∙ bare_node k o) h

add_lacks : (k : Kind) (w : ℕ) (o : Option ℤ) → add_value k None w o ≡ None
add_lacks k zero o = refl
add_lacks k (suc w) o = refl

add_none : (k : Kind) (t : ℤ) (u w : ℕ) → add_value k (in_sum k t u) (suc w) none ≡ None
add_none tec t u w = refl
add_none rms t u w = refl
add_none height t u w = refl

-- the unit stays
add_some : (k : Kind) (t : ℤ) (u w : ℕ) (v : ℤ) → add_value k (in_sum k t u) (suc w) (some v) ≡ in_sum k (t +ℤ pos (suc w) *ℤ v) (u + suc w)
add_some tec t u w v = refl
add_some rms t u w v = refl
add_some height t u w v = refl

-- ---- there is room for the rest
fits_add : (t : ℤ) (u w : ℕ) (v : ℤ) (k : ℕ) → Fits t u (w + k) → nat_abs v ≤ 99_999_000 → Fits (t +ℤ pos w *ℤ v) (u + w) k
fits_add t u w v k h r = (omega (arith, abs_add_scaled t w v, mul-le-mul (le_refl w) r), omega arith)

room_node : (s : Maybe Sum) (w : ℕ) (n : Maybe Value) (k : ℕ) → SumRoom s (w + k) → Small (bare n) → SumRoom (add_node s w n) k
room_node None w n k h r = omega arith
room_node (Some (S.Tecu t)) w None k h r = omega arith
room_node (Some (S.Tecu t)) w (Some (V.Tecu v)) k h r = fits_add t.sum t.weights w v.0 k h r
room_node (Some (S.Tecu t)) w (Some (V.Km v)) k h r = omega arith
room_node (Some (S.Km t)) w None k h r = omega arith
room_node (Some (S.Km t)) w (Some (V.Tecu v)) k h r = omega arith
room_node (Some (S.Km t)) w (Some (V.Km v)) k h r = fits_add t.sum t.weights w v.0 k h r

room_add : (kind : Kind) (s : Maybe Sum) (w : ℕ) (o : Option ℤ) (k : ℕ) → SumRoom s (w + k) → Small o → SumRoom (add_value kind s w o) k
room_add kind s zero o k h r = rw (zero-add k) at h
room_add kind s (suc w) o k h r = room_node s (suc w) (in_node kind o) k h (rw (bare_node kind o) r)

room_less : (s : Maybe Sum) (w k : ℕ) → SumRoom s (w + k) → SumRoom s w
room_less None w k h = omega arith
room_less (Some (S.Tecu t)) w k h = omega arith
room_less (Some (S.Km t)) w k h = omega arith

-- ---- the whole list
pub all_lacks : (k : Kind) (ts : List Term) → add_all k None ts ≡ None
unfolding add_all
all_lacks k [] = refl
all_lacks k (t ∷ ts) = rw (add_lacks k t.0 t.1) (all_lacks k ts)

pub valued_sum : (k : Kind) (ts : List Term) → Valued ts → (t : ℤ) (u : ℕ) → add_all k (in_sum k t u) ts ≡ in_sum k (t +ℤ weighted ts) (u + weight ts)
unfolding add_all weighted weight
valued_sum k [] a t u = ap₂ (in_sum k) (sym (+ℤ_idr t)) (omega arith)
valued_sum k ((zero, o) ∷ ts) a t u = rw (zero-*ℤ (or_zero o), +ℤ_idl (weighted ts), zero-add) (valued_sum k ts a.1 t u)
valued_sum k ((suc w, none) ∷ ts) a t u = absurd (⊎_elim (λ e. omega arith) (λ i. i) a.0)
valued_sum k ((suc w, some v) ∷ ts) a t u = rw (add_some k t u w v, ← +ℤ_assoc t (pos (suc w) *ℤ v) (weighted ts), ← add_assoc u (suc w) (weight ts)) (valued_sum k ts a.1 (t +ℤ pos (suc w) *ℤ v) (u + suc w))

-- a list that has a needed node without a value lacks it, whatever the sum
pub lacking_sum : (k : Kind) (ts : List Term) → ¬ Valued ts → (t : ℤ) (u : ℕ) → add_all k (in_sum k t u) ts ≡ None
unfolding add_all
lacking_sum k [] n t u = absurd (n tt)
lacking_sum k ((zero, o) ∷ ts) n t u = lacking_sum k ts (λ a. n (inl refl, a)) t u
lacking_sum k ((suc w, none) ∷ ts) n t u = rw (add_none k t u w) (all_lacks k ts)
lacking_sum k ((suc w, some v) ∷ ts) n t u = rw (add_some k t u w v) (lacking_sum k ts (λ a. n (inr tt, a)) (t +ℤ pos (suc w) *ℤ v) (u + suc w))

room_all : (k : Kind) (s : Maybe Sum) (ts : List Term) → SumRoom s (weight ts) → All (λ (t : Term). Small t.1) ts → SumRoom (add_all k s ts) 0
unfolding add_all weight
room_all k s [] h a = rw (zero-add 0) h
room_all k s (t ∷ ts) h a = room_all k (add_value k s t.0 t.1) ts (room_add k s t.0 t.1 (weight ts) h a.0) a.1

-- ---- the list from an index on
module _ (s : Shape) (vs ks : List ℤ) (ms : List ℕ) (ns : List Weighed) (d : Weighed) (k : ℕ) (h : k < length ns) where
  abbrev this : Weighed
  this = get_or ns k d

  split : terms s vs ks ms (drop k ns) ≡ (this.weight, value s vs ks ms this) ∷ terms s vs ks ms (drop (k + 1) ns)
  unfolding terms
  split = rw (add-one, drop-cons ns k d h) refl

  pub this_room : (t : Maybe Sum) → SumRoom t (weight (terms s vs ks ms (drop k ns))) → SumRoom t this.weight
  unfolding weight
  this_room t r = room_less t this.weight (weight (terms s vs ks ms (drop (k + 1) ns))) (rw split at r)

  pub next_room : (t : Maybe Sum) → SumRoom t (weight (terms s vs ks ms (drop k ns))) → SumRoom (add_value (kind_of s.kind) t this.weight (value s vs ks ms this)) (weight (terms s vs ks ms (drop (k + 1) ns)))
  unfolding weight
  next_room t r = room_add (kind_of s.kind) t this.weight (value s vs ks ms this) (weight (terms s vs ks ms (drop (k + 1) ns))) (rw split at r) (small_value s vs ks ms this)

  pub next_sum : (t : Maybe Sum) → add_all (kind_of s.kind) (add_value (kind_of s.kind) t this.weight (value s vs ks ms this)) (terms s vs ks ms (drop (k + 1) ns)) ≡ add_all (kind_of s.kind) t (terms s vs ks ms (drop k ns))
  unfolding add_all
  next_sum t = rw split refl

-- ---- the nodes one by one
early_at : (l m : List Weighed) (d : Weighed) (k : ℕ) → k < length l → get_or (l ++ m) k d ≡ get_or l k d
early_at [] m d k h = absurd (omega arith)
early_at (n ∷ l) m d zero h = refl
early_at (n ∷ l) m d (suc k) h = early_at l m d k (omega arith)

late_at : (l m : List Weighed) (d : Weighed) (k : ℕ) → get_or (l ++ m) (length l + k) d ≡ get_or m k d
late_at [] m d k = rw (zero-add k) refl
late_at (n ∷ l) m d k = let e : suc (length l) + k ≡ suc (length l + k) = omega arith in rw e (late_at l m d k)

-- the nodes of a cell come in one of two orders
module _ (t m : ℕ) (c : Cell) where
  pub corners_elim : (Q : List Weighed → Type 0) → (¬ (c.right < c.column) → Q (four t m c)) → (c.right < c.column → Q (right t m c ∷ left t m c ∷ next_right t m c ∷ next_left t m c ∷ [])) → Q (corners t m c)
  unfolding corners by_column pick
  corners_elim Q f g = by (dec_lt c.right c.column)
    where
      by : (d : Dec (c.right < c.column)) → Q (pick d (right t m c ∷ left t m c ∷ []) (left t m c ∷ right t m c ∷ []) ++ pick d (next_right t m c ∷ next_left t m c ∷ []) (next_left t m c ∷ next_right t m c ∷ []))
      by (yes p) = g p
      by (no n) = f n

  pub all_corners : (P : Weighed → Type 0) → P (left t m c) → P (right t m c) → P (next_left t m c) → P (next_right t m c) → All P (corners t m c)
  all_corners P a b d e = corners_elim (All P) (λ n. (a, (b, (d, (e, tt))))) (λ p. (b, (a, (e, (d, tt)))))

  pub four_nodes : length (corners t m c) ≡ 4
  four_nodes = corners_elim (λ ns. length ns ≡ 4) (λ n. refl) (λ p. refl)

  -- place k of either order
  pub plain_node : (k : ℕ) → ¬ (c.right < c.column) → get_or (corners t m c) k (corner 0 0 0 0) ≡ get_or (four t m c) k (corner 0 0 0 0)
  plain_node k n = corners_elim (λ ns. get_or ns k (corner 0 0 0 0) ≡ get_or (four t m c) k (corner 0 0 0 0)) (λ h. refl) (λ p. absurd (n p))

  pub strip_node : (k : ℕ) → k < 4 → c.right < c.column → get_or (corners t m c) k (corner 0 0 0 0) ≡ get_or (four t m c) (beside k) (corner 0 0 0 0)
  strip_node k h p = corners_elim (λ ns. get_or ns k (corner 0 0 0 0) ≡ get_or (four t m c) (beside k) (corner 0 0 0 0)) (λ n. absurd (n p)) (λ q. at k h)
    where
      at : (k : ℕ) → k < 4 → get_or (right t m c ∷ left t m c ∷ next_right t m c ∷ next_left t m c ∷ []) k (corner 0 0 0 0) ≡ get_or (four t m c) (beside k) (corner 0 0 0 0)
      at zero h = refl
      at (suc zero) h = refl
      at (suc (suc zero)) h = refl
      at (suc (suc (suc zero))) h = refl
      at (suc (suc (suc (suc k)))) h = absurd (omega arith)

module _ (h : Shares) (first second : Cell) (k : ℕ) where
  pub early_node : k < 4 → get_or (spread h first second) k (corner 0 0 0 0) ≡ get_or (corners h.early h.map first) k (corner 0 0 0 0)
  unfolding spread
  early_node i = early_at (corners h.early h.map first) (corners h.late (h.map + 1) second) (corner 0 0 0 0) k (omega (arith, four_nodes h.early h.map first))

  pub late_node : 4 ≤ k → get_or (spread h first second) k (corner 0 0 0 0) ≡ get_or (corners h.late (h.map + 1) second) (k - 4) (corner 0 0 0 0)
  unfolding spread
  late_node i =
      let e : length (corners h.early h.map first) + (k - 4) ≡ k = omega (arith, four_nodes h.early h.map first) in
      rw e at (late_at (corners h.early h.map first) (corners h.late (h.map + 1) second) (corner 0 0 0 0) (k - 4))

pub eight_nodes : (h : Shares) (first second : Cell) → length (spread h first second) ≡ 8
unfolding spread
eight_nodes h first second = length-append (corners h.early h.map first) (corners h.late (h.map + 1) second) ∙ ap₂ ◌+◌ (four_nodes h.early h.map first) (four_nodes h.late (h.map + 1) second)

-- ---- what a sum comes to is ready to be told
small_terms : (s : Shape) (vs ks : List ℤ) (ms : List ℕ) (ns : List Weighed) → All (λ (t : Term). Small t.1) (terms s vs ks ms ns)
unfolding terms
small_terms s vs ks ms [] = tt
small_terms s vs ks ms (n ∷ ns) = (small_value s vs ks ms n, small_terms s vs ks ms ns)

pub start_room : (k : Kind) (w : ℕ) → w ≤ 64_800_000_000 → SumRoom (in_sum k (pos 0) 0) w
start_room tec w h = omega arith
start_room rms w h = omega arith
start_room height w h = omega arith

ready_in : (k : Kind) (t : ℤ) (u : ℕ) → SumRoom (in_sum k t u) 0 → 0 < u → Ready (in_sum k t u)
ready_in tec t u r h = (r, h)
ready_in rms t u r h = (r, h)
ready_in height t u r h = (r, h)

ready_sum : (k : Kind) (ts : List Term) → 0 < weight ts → weight ts ≤ 64_800_000_000 → All (λ (t : Term). Small t.1) ts → Ready (add_all k (in_sum k (pos 0) 0) ts)
ready_sum k ts h w a = by (valued? ts) (room_all k (in_sum k (pos 0) 0) ts (start_room k (weight ts) w) a)
  where
    by : Dec (Valued ts) → SumRoom (add_all k (in_sum k (pos 0) 0) ts) 0 → Ready (add_all k (in_sum k (pos 0) 0) ts)
    by (yes v) r =
        let e = valued_sum k ts v (pos 0) 0 in
        let f : SumRoom (in_sum k (pos 0 +ℤ weighted ts) (0 + weight ts)) 0 = rw e at r in
        rw e (ready_in k _ _ f (omega arith))
    by (no n) r = rw (lacking_sum k ts n (pos 0) 0) tt

pub ready_terms : (s : Shape) (vs ks : List ℤ) (ms : List ℕ) (ns : List Weighed) → 0 < weight (terms s vs ks ms ns) → weight (terms s vs ks ms ns) ≤ 64_800_000_000 → Ready (add_all (kind_of s.kind) (in_sum (kind_of s.kind) (pos 0) 0) (terms s vs ks ms ns))
ready_terms s vs ks ms ns h w = ready_sum (kind_of s.kind) (terms s vs ks ms ns) h w (small_terms s vs ks ms ns)
