-- What the parts come to is an explanation of the answer.
use mathlib.Core.Path.{◌≡◌, refl, sym, ap, ap₂, ◌∙◌}
use mathlib.Core.Bool.{true, false}
use mathlib.Core.List.{List, [], ◌∷◌, map}
use mathlib.Core.Option.{none, some}
use Prim.Native.Nat.{ℕ, suc, ◌+◌, ◌-◌, ◌*◌, ◌<◌}
use native.Mathlib.Omega.{arith}
use lib.IntN.{ℤ}
use lib.ListN.{length}
use Rattle.mapset.specs.Grid.{layers}
use Rattle.mapset.specs.Areas.{Sound}
use Rattle.ask_cells.specs.declared.Cell.{Cell}
use Rattle.ask_spans.specs.Time.{epoch, Uses}
use Rattle.ask_spans.specs.Time as time
use Rattle.ask_spans.specs.declared.Shares.{Shares}
use Rattle.ask_spans.proofs.TimeLaws.{shares_small}
use Rattle.ask_nodes.specs.Value.{kind_of, value}
use Rattle.ask_nodes.specs.declared.Weighed.{Weighed}
use Rattle.ask_sums.specs.Mean.{Valued, spread}
use Rattle.ask_sums.proofs.SumLaws.{eight_nodes}
use Rattle.ask.specs.Ask.{Question, Told, tecu, km, refused, in_unit, stop, go, Known, epochs, Served, InTime, Inside, Weighs, area, shape, asked, Blended, Answers, Asked, number}
use Rattle.ask.specs.Ask as ask
use Rattle.ask.specs.Sun.{in_time, Cells}
use Rattle.ask.specs.declared.Why.{Why}
use Rattle.ask.specs.declared.Why.TheVariants as W
use Rattle.ask.proofs.AskLaws.{steady, last_is, can_sum}
use Rattle.ask.proofs.Once.{weighs_once}
use Rattle.ask.proofs.Between.{thousandths_of, in_unit_of}
use Rattle.ask_why.specs.Explain.{needed, listed, places, Gap, nearest, last, between, Denominator, CauseAt, Lists, Explains, Explained}
use Rattle.ask_why.specs.Parts.{Listable, none_listed, collect, first, cause, blank, without, of_answer, denominator, with_nodes, explained_by, is_22, has_nodes}
use Rattle.ask_why.specs.declared.Lacking.{Lacking}
use Rattle.ask_why.specs.declared.nodes.Listing.{Listing}
use Rattle.std.specs.Prelude.{Option as Maybe, Ok, Err}
use Rattle.ask_nodes.specs.declared.Value.TheVariants as V
use Rattle.ask_why.proofs.NodeList.{collected, causes, NodeFound, find}

-- ---- an answer that looked at nodes has passed all tests before
abbrev pub Looks : Told → Type 0
Looks (tecu v) = Unit {0}
Looks (km v) = Unit {0}
Looks (refused n) = n ≡ 22

pub record Opened (q : Question) (a : Told) : Type 0 where
  pub known : Known q
  pub sound : Sound q.header q.texts q.areas
  pub served : Served q
  pub time : InTime q
  pub inside : Inside q
  pub blended : Blended q a

pub opened : (q : Question) (a : Told) → Answers q a → Looks a → Opened q a
opened q a (stop n) l = absurd (omega (arith, l))
opened q a (go known (stop n)) l = absurd (omega (arith, l))
opened q a (go known (go sound (stop n))) l = absurd (omega (arith, l))
opened q a (go known (go sound (go served (stop n)))) l = absurd (omega (arith, l))
opened q a (go known (go sound (go served (go time (stop n))))) l = absurd (omega (arith, l))
opened q a (go known (go sound (go served (go time (go inside b))))) l = record { known = known; sound = sound; served = served; time = time; inside = inside; blended = b }

looks_22 : (w : Why) → is_22 w ≡ true → number w ≡ 22
looks_22 W.Unknown e = absurd (let z : ◌≡◌ {A = ℕ} 0 1 = cc in omega arith)
looks_22 W.Unsound e = absurd (let z : ◌≡◌ {A = ℕ} 0 1 = cc in omega arith)
looks_22 W.Unserved e = absurd (let z : ◌≡◌ {A = ℕ} 0 1 = cc in omega arith)
looks_22 W.OutOfTime e = absurd (let z : ◌≡◌ {A = ℕ} 0 1 = cc in omega arith)
looks_22 W.OutOfPlace e = absurd (let z : ◌≡◌ {A = ℕ} 0 1 = cc in omega arith)
looks_22 W.NoValue e = refl

other_22 : (w : Why) → is_22 w ≡ false → ¬ (number w ≡ 22)
other_22 W.Unknown e n = omega arith
other_22 W.Unsound e n = omega arith
other_22 W.Unserved e n = omega arith
other_22 W.OutOfTime e n = omega arith
other_22 W.OutOfPlace e n = omega arith
other_22 W.NoValue e n = let z : ◌≡◌ {A = ℕ} 0 1 = cc in omega arith

pub looks : (a : Asked) → has_nodes a ≡ true → Looks (ask.told a)
looks (Ok (V.Tecu v)) e = tt
looks (Ok (V.Km v)) e = tt
looks (Err w) e = looks_22 w e

-- ---- an answer that looked at none
pub unexplained : (q : Question) (a : Asked) → Answers q (ask.told a) → has_nodes a ≡ false → Explains q (blank (of_answer a))
unexplained q (Ok v) x e = absurd (let z : ◌≡◌ {A = ℕ} 0 1 = cc in omega arith)
unexplained q (Err w) x e = record { answers = x; beside = (other_22 w e, record { count = refl; denominator = refl; listed = refl }) }

-- ---- the denominator
gap_of : (q : Question) → Sound q.header q.texts q.areas → (h : Shares) → Uses (epochs q) q.second (in_time q.method) h → Gap q (h.early + h.late)
gap_of q sound h (time.nearest i e n) = nearest e
gap_of q sound h (time.between i e l p r) =
    let z : (epoch (epochs q) (i + 1) - q.second) + (q.second - epoch (epochs q) i) ≡ epoch (epochs q) (i + 1) - epoch (epochs q) i = omega (arith, p, r) in
    rw z (between i e l p r)
gap_of q sound h (time.last i e l p) = last e (p ∙ last_is q sound i l)

-- the nodes of a list, in the question's areas
abbrev collect_of : Question → List Weighed → Listing
collect_of q ns = collect (shape q) (area (kind_of q.kind) q.areas) q.areas.exponents q.areas.marks none_listed ns

abbrev first_of : Question → List Weighed → Maybe Lacking
first_of q ns = first (shape q) (area (kind_of q.kind) q.areas) q.areas.exponents q.areas.marks ns

pub length_listed : (q : Question) (ns : List Weighed) → length (map (listed q) ns) ≡ length ns
length_listed q [] = refl
length_listed q (n ∷ ns) = ap suc (length_listed q ns)

no_mean : (q : Question) (ns : List Weighed) (v : ℤ) → ¬ (refused 22 ≡ in_unit (kind_of q.kind) v)
no_mean q ns v e = let z : none ≡ some v = ap thousandths_of e ∙ in_unit_of (kind_of q.kind) v in let y : ◌≡◌ {A = ℕ} 0 1 = cc in omega arith

module _ (q : Question) (sound : Sound q.header q.texts q.areas) (h : Shares) (u : Uses (epochs q) q.second (in_time q.method) h) (c d : Cell) (x : Cells q.method q.header.grid q.lat q.lon q.second (epochs q) h c d) where
  abbrev ns : List Weighed
  ns = spread h c d

  pub weighs : Weighs q ns
  weighs = record { shares = h; uses = u; first = c; second = d; cells = x; nodes = refl }

  pub denominator_is : Denominator q (denominator h c)
  denominator_is = (h.early + h.late, (gap_of q sound h u, ap₂ (λ (t w : ℕ). (h.early + h.late) * (t * w)) x.first_in.tall x.first_in.wide))

  listing_is : collect_of q ns ≡ record { count = length (map (listed q) (needed ns)); nodes = places (map (listed q) (needed ns)) }
  listing_is = collected (shape q) (area (kind_of q.kind) q.areas) q.areas.exponents q.areas.marks ns (omega (arith, eight_nodes h c d))

  lacks_value : (a : Told) → a ≡ refused 22 → Blended q a → ¬ Valued (asked q ns)
  lacks_value a e (ms, (w, stop n)) = rw (weighs_once q sound ns ms weighs w) n
  lacks_value a e (ms, (w, go v (z, (m, f)))) = absurd (no_mean q ns z (sym e ∙ f))

  pub can_list : Known q → Served q → q.layer < layers q.header.grid → Listable (area (kind_of q.kind) q.areas) q.areas.exponents q.areas.marks (shape q) h c d
  can_list known served layer =
      record { summable = can_sum q sound served h u c d x known layer; span = (shares_small (epochs q) (steady q sound) q.second (in_time q.method) u).1 }

  lists : (a : Explained) → Lists q (with_nodes a (denominator h c) (collect_of q ns))
  lists a =
      record { nodes = ns; weighs = weighs; count = ap (λ (l : Listing). l.count) listing_is ∙ length_listed q (needed ns); denominator = denominator_is; listed = ap (λ (l : Listing). l.nodes) listing_is }

  -- the cause of the node that was found
  found_cause : (f : NodeFound (shape q) (area (kind_of q.kind) q.areas) q.areas.exponents q.areas.marks ns) → CauseAt q f.node (cause (shape q) (area (kind_of q.kind) q.areas) q.areas.exponents q.areas.marks f.node)
  unfolding cause value
  found_cause f = causes _ _ _ _ f.lacks

  lacking : ¬ Valued (asked q ns) → Answers q (refused 22) → (w : Why) → Explains q (without w (first_of q ns))
  lacking n y w =
      let f = find (shape q) (area (kind_of q.kind) q.areas) q.areas.exponents q.areas.marks ns n in
      rw f.is (record {
        answers = y;
        beside = (
          record {
            nodes = ns;
            weighs = weighs;
            before = f.before;
            node = f.node;
            behind = f.behind;
            order = f.order;
            valued = f.valued;
            cause = found_cause f;
            map = refl;
            layer = refl;
            row = refl;
            column = refl;
          },
          record { count = refl; denominator = refl; listed = refl },
        );
      })

  pub explains : (a : Asked) → Answers q (ask.told a) → has_nodes a ≡ true → Explains q (explained_by a h c d (shape q) (area (kind_of q.kind) q.areas) q.areas.exponents q.areas.marks)
  explains (Ok v) y e = record { answers = y; beside = lists (Ok v) }
  explains (Err w) y e =
      let t = looks_22 w e in
      lacking (lacks_value (refused (number w)) (ap refused t) (opened q (refused (number w)) y t).blended) (rw t at y) w
