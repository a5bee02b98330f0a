use Rattle.std.specs.Prelude.{Some}
-- From the tests of the code to the refusals of `index`, one law for each.
use mathlib.Core.Path.{◌≡◌, refl, sym, subst}
use mathlib.Core.Bool.{Bool, true, false}
use mathlib.Core.Option.{none}
use mathlib.Core.List.{List}
use Prim.Native.Nat.{ℕ, ◌+◌, ◌-◌, ◌*◌, ◌≤◌, ◌<◌}
use native.Mathlib.Omega.{arith}
use borrow.Author.Tests.{ltb-true, ltb-false}
use lib.Dec.{ltb}
use lib.IntN.{ℤ, pos}
use lib.ListN.{length, get_or, take, drop, length-drop}
use lib.Seq.{length-take-le}
use Rattle.kit.specs.Answer.{all_dec}
use Rattle.kit.specs.Range.{Within, within?}
use Rattle.kit.specs.Truth.{truth, Says}
use Rattle.kit.proofs.TruthLaws.{truth_true, truth_false}
use Rattle.forms.specs.Form.{I}
use Rattle.forms.specs.Read.{read_field}
use Rattle.mapset.specs.Areas.{Present, blocks}
use Rattle.mapset.specs.Grid.{layers, rows, columns, Limits}
use Rattle.mapset.specs.Sound.{HeaderSays}
use Rattle.mapset.proofs.Groups.{header_groups, groups_header, from_zero, to_three}
use Rattle.mapset.specs.declared.Header.{Header}
use Rattle.mapset.specs.Described.{FullTexts}
use Rattle.layout.specs.Layout.{Exponent, per_map}
use Rattle.areas.specs.Places.{before}
use Rattle.ask_nodes.specs.Value.{kind_of}
use Rattle.index.specs.Index.{Index, Fit, Node, Inside, entries, index, node, done, entry, given, stop, go, position, exponent}
use Rattle.index.proofs.FoundLaws.{stands_found, found_stands}
use Rattle.mapset.proofs.FirstLaws.{first_in}
use Rattle.index.proofs.AsRead.{done_in, before_in}
use Rattle.index_block.specs.Hits.{between, block_from, At}
use Rattle.index_node.specs.Told.{InGrid, Numbers, Finds}
use Rattle.index_node.specs.declared.Why.TheVariants.{Unknown, Unfit, Outside, Absent, Astray}
use Rattle.std.specs.Prelude.{Result, Ok, Err}
use Rattle.index_node.specs.declared.Why.{Why}
use Rattle.index_node.specs.declared.Found.{Found}

-- ---- 31

module _ (h : Header) (x : FullTexts) (ps : List ℕ) (es : List ℤ) (ms : List ℕ) where
  pub no_header : ¬ HeaderSays h x → ¬ Fit (index h x (entries ps es ms))
  no_header n f = n (header_groups h x f.header)

  pub marks_decide : HeaderSays h x → 3 * blocks h ≤ length ps → 3 * blocks h ≤ length es → h.times.maps ≤ length ms
      → (b : Bool) → b ≡ truth (all_dec (within? 0 3) (take h.times.maps ms)) → Says b (Fit (index h x (entries ps es ms)))
  marks_decide s p e m true q = record { header = groups_header h x s; positions = p; exponents = e; marks = m; marked = to_three (take h.times.maps ms) (truth_true (all_dec (within? 0 3) (take h.times.maps ms)) (sym q)) }
  marks_decide s p e m false q = λ f. truth_false (all_dec (within? 0 3) (take h.times.maps ms)) (sym q) (from_zero (take h.times.maps ms) f.marked)

pub limits : (h : Header) (x : FullTexts) → HeaderSays h x → Limits h.times.maps h.grid
limits h x s = s.1.1.1.1.1.1.1.1.1

pub fit_limits : (x : Index) → Fit x → Limits x.header.times.maps x.header.grid
fit_limits x f = limits x.header x.texts (header_groups x.header x.texts f.header)

-- ---- 21

pub less_decides : (a n m : ℕ) → n ≡ m → Says (ltb a n) (a < m)
less_decides a n m e = by (ltb a n) refl
  where
    by : (b : Bool) → ltb a n ≡ b → Says b (a < m)
    by true h = omega (arith, ltb-true a n h)
    by false h = λ k. omega (arith, ltb-false a n h)

pub column_decides : (h : Header) (i l r c : ℕ) → Within 1 h.times.maps i → l < layers h.grid → r < rows h.grid → (b : Bool) → Says b (c < columns h.grid) → Says b (InGrid h i l r c)
column_decides h i l r c m p q true d = (m, (p, (q, d)))
column_decides h i l r c m p q false d = λ g. d g.1.1.1

pub inside : (h : Header) (k i l r c : ℕ) → InGrid h i l r c → Inside h (node k i l r c)
inside h k i l r c g = record { map = g.0; layer = g.1.0; row = g.1.1.0; column = g.1.1.1 }

pub not_inside : (h : Header) (k i l r c : ℕ) → ¬ InGrid h i l r c → ¬ Inside h (node k i l r c)
not_inside h k i l r c n g = n (g.map, (g.layer, (g.row, g.column)))

pub mark_in : (x : Index) (q : Node) → Fit x → Inside x.header q → q.map - 1 < length x.marks
mark_in x q f i = omega (arith, i.map.0, i.map.1, f.marks)

pub entry_in : (x : Index) (q : Node) → Inside x.header q → before (per_map x.header) q.map (done x.header q) < blocks x.header
entry_in x q i = before_in x.header.times.maps (per_map x.header) q.map (done x.header q) i.map.0 i.map.1 (done_in x.header q i)

pub entry_small : (x : Index) (q : Node) → Inside x.header q → entry x.header q < 3 * blocks x.header
entry_small x q i = first_in (kind_of q.kind) (blocks x.header) _ (entry_in x q i)

-- ---- 50

pub five_long : (t : List ℕ) (s : ℕ) → s + 5 ≤ length t → length (between t s (s + 5)) ≤ 9
five_long t s h = omega (arith, length-take-le (s + 5 - s) (drop s t) (omega (arith, length-drop s t)))

module _ (h : Header) (d : ℕ) (t : List ℕ) (at : ℕ) (e : ℤ) (c : ℕ) where
  pub no_exponent : ¬ Exponent e → Numbers h d t at e c (Err Astray)
  no_exponent n = record { answers = stop (λ p. n p.exponent); inside = tt; starts = tt }

  pub no_block : block_from h d t at ≡ none → Numbers h d t at e c (Err Astray)
  no_block z =
      record {
        answers = stop (λ p. let k : ◌≡◌ {A = ℕ} 0 1 = cc (z, stands_found h d p.stands) in omega arith);
        inside = tt;
        starts = tt;
      }

  pub a_number : Exponent e → (end spot : ℕ) → At t at c end spot (block_from h d t at) → (z : ℤ) → Some z ≡ read_field I (between t spot (spot + 5)) → Numbers h d t at e c (Ok (record { number = z; exponent = e; start = at; end = end }))
  a_number x end spot f z r =
      let v : z ≡ get_or f.have c (pos 0) = cc (r, f.reads.five) in
      record {
        answers = go (record { values = f.have; lines = between t at end; stands = found_stands h d (drop at t) f.found; exponent = x }) (λ i. given (v i) e (between t at end));
        inside = (f.ahead, f.within);
        starts = refl;
      }

-- ---- the refusals in their order

module _ (x : Index) (t : List ℕ) (q : Node) where
  pub unknown : 3 ≤ q.kind → Finds x t q (Err Unknown)
  unknown h = record { replies = stop (λ k. omega (arith, h, k)); inside = tt; starts = tt }

  module _ (k : q.kind < 3) where
    pub unfit : ¬ Fit x → Finds x t q (Err Unfit)
    unfit n = record { replies = go k (stop n); inside = tt; starts = tt }

    module _ (f : Fit x) where
      pub outside : ¬ Inside x.header q → Finds x t q (Err Outside)
      outside n = record { replies = go k (go f (stop n)); inside = tt; starts = tt }

      module _ (i : Inside x.header q) where
        pub absent : ¬ Present (kind_of q.kind) (get_or x.marks (q.map - 1) 0) → Finds x t q (Err Absent)
        absent n = record { replies = go k (go f (go i (stop n))); inside = tt; starts = tt }

        pub numbered : Present (kind_of q.kind) (get_or x.marks (q.map - 1) 0) → (r : Result Found Why)
            → Numbers x.header (done x.header q) t (position x q) (exponent x q) q.column r → Finds x t q r
        numbered p r n = record { replies = go k (go f (go i (go p n.answers))); inside = n.inside; starts = n.starts }
