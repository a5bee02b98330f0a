-- No second answer fits.
use mathlib.Core.Path.{◌≡◌, refl, sym, ap, ◌∙◌}
use mathlib.Core.Logic.{◌⊎◌, inl, inr}
use mathlib.Core.List.{List}
use Prim.Native.Nat.{ℕ, ◌+◌, ◌<◌}
use lib.IntN.{ℤ}
use native.Mathlib.Omega.{arith}
use native.Mathlib.Decide.{ℕ_discrete}
use Rattle.kit.specs.Answer.{pick}
use Rattle.mapset.specs.Areas.{Sound}
use Rattle.mapset.specs.declared.Grid.{Grid}
use Rattle.mapset.specs.declared.Kind.{Kind}
use Rattle.ask_round.proofs.RoundLaws.{nearest_unique}
use Rattle.ask_cells.proofs.PlaceLaws.{cell_once}
use Rattle.ask_spans.specs.Time.{epoch}
use Rattle.ask_spans.proofs.TimeLaws.{uses_once}
use Rattle.ask_nodes.specs.Value.{kind_of}
use Rattle.ask_sums.specs.Mean.{Term, Valued, spread, weight, weighted}
use Rattle.ask.specs.Ask.{Question, Told, tecu, km, refused, in_unit, Guard, stop, go, epochs, Served, Weighs, asked, Rounded, Blended, Answers, number, Asked, told}
use Rattle.ask.specs.Sun.{in_time, unit_of, lon_at, CellAt, Cells}
use Rattle.ask.proofs.AskLaws.{steady, has_weight}
use Rattle.ask_cells.specs.declared.Cell.{Cell}
use Rattle.ask_spans.specs.declared.Shares.{Shares}
use Rattle.ask_nodes.specs.declared.Weighed.{Weighed}
use Rattle.ask.specs.declared.Why.{Why}
use Rattle.ask.specs.declared.Why.TheVariants as W
use Rattle.std.specs.Prelude.{Ok, Err}
use Rattle.ask_nodes.specs.declared.Value.TheVariants as V

-- at most one answer
abbrev pub Once : (Told → Type 0) → Type 0
Once R = (a b : Told) → R a → R b → a ≡ b

guard_once : {P : Type 0} {n : ℕ} {R : Told → Type 0} → (P → Once R) → Once (Guard P n R)
guard_once u a b (stop n) (stop m) = refl
guard_once u a b (stop n) (go p r) = absurd (n p)
guard_once u a b (go p r) (stop n) = absurd (n p)
guard_once u a b (go p r) (go q s) = u p a b r s

rounded_once : (k : Kind) (ts : List Term) → 0 < weight ts → Once (Rounded k ts)
rounded_once k ts h a b (v, (m, e)) (w, (n, f)) = e ∙ ap (in_unit k) (nearest_unique (weighted ts) (weight ts) h v w m n) ∙ sym f

-- the mean of a list, or that it lacks a value
pub mean_once : (k : Kind) (ts : List Term) → 0 < weight ts → Once (Guard (Valued ts) 22 (Rounded k ts))
mean_once k ts h = guard_once (λ v. rounded_once k ts h)

-- the cells of the maps are those of one pair
module _ (method : ℕ) (g : Grid) (lat lon : ℤ) (t : ℕ) (es : List ℕ) (h : Shares) (c d e f : Cell) (x : Cells method g lat lon t es h c d) (y : Cells method g lat lon t es h e f) where
  pub first_once : c ≡ e
  first_once = cell_once (unit_of method) g lat (lon_at method lon t (epoch es h.map)) c e x.first_in y.first_in

  pub second_once : d ≡ f
  second_once = by x.second_in y.second_in
    where
      by : ((h.late ≡ 0) × (d ≡ c)) ⊎ ((0 < h.late) × CellAt method g lat lon t (epoch es (h.map + 1)) d) → ((h.late ≡ 0) × (f ≡ e)) ⊎ ((0 < h.late) × CellAt method g lat lon t (epoch es (h.map + 1)) f) → d ≡ f
      by (inl a) (inl b) = a.1 ∙ first_once ∙ sym b.1
      by (inl a) (inr b) = absurd (omega (arith, a.0, b.0))
      by (inr a) (inl b) = absurd (omega (arith, a.0, b.0))
      by (inr a) (inr b) = cell_once (unit_of method) g lat (lon_at method lon t (epoch es (h.map + 1))) d f a.1 b.1

module _ (q : Question) (sound : Sound q.header q.texts q.areas) where
  -- the nodes are those of the one pair of shares and the one pair of cells
  pub weighs_once : (ns ms : List Weighed) → Weighs q ns → Weighs q ms → ns ≡ ms
  weighs_once ns ms w x =
      let e : w.shares ≡ x.shares = uses_once (epochs q) (steady q sound) q.second (in_time q.method) w.uses x.uses in
      let y : Cells q.method q.header.grid q.lat q.lon q.second (epochs q) x.shares w.first w.second = rw e at w.cells in
      let a = first_once q.method q.header.grid q.lat q.lon q.second (epochs q) x.shares w.first w.second x.first x.second y x.cells in
      let b = second_once q.method q.header.grid q.lat q.lon q.second (epochs q) x.shares w.first w.second x.first x.second y x.cells in
      w.nodes ∙ (λ i. spread (e i) (a i) (b i)) ∙ sym x.nodes

  pub weighs_weight : Served q → (ns : List Weighed) → Weighs q ns → 0 < weight (asked q ns)
  weighs_weight served ns w = rw w.nodes (has_weight q sound served w.shares w.uses w.first w.second w.cells)

  blended_once : Served q → Once (Blended q)
  blended_once served a b (ns, (w, g)) (ms, (x, f)) =
      let e = weighs_once ns ms w x in
      mean_once (kind_of q.kind) (asked q ms) (weighs_weight served ms x) a b (rw e at g) f

pub answers_once : (q : Question) → Once (Answers q)
answers_once q = guard_once (λ known. guard_once (λ sound. guard_once (λ served. guard_once (λ time. guard_once (λ inside. blended_once q sound served)))))

-- ---- and so for what the code returns
unfoldable why_of : ℕ → Why
why_of n = pick (ℕ_discrete n 23) W.Unknown (pick (ℕ_discrete n 31) W.Unsound (pick (ℕ_discrete n 24) W.Unserved (pick (ℕ_discrete n 20) W.OutOfTime (pick (ℕ_discrete n 21) W.OutOfPlace W.NoValue))))

abbrev back : Told → Asked
back (tecu v) = Ok (V.Tecu (record { 0 = v }))
back (km v) = Ok (V.Km (record { 0 = v }))
back (refused n) = Err (why_of n)

back_why : (w : Why) → why_of (number w) ≡ w
unfolding why_of pick ℕ_discrete
back_why W.Unknown = refl
back_why W.Unsound = refl
back_why W.Unserved = refl
back_why W.OutOfTime = refl
back_why W.OutOfPlace = refl
back_why W.NoValue = refl

pub number_once : (v w : Why) → number v ≡ number w → v ≡ w
number_once v w e = sym (back_why v) ∙ ap why_of e ∙ back_why w

back_told : (r : Asked) → back (told r) ≡ r
back_told (Ok (V.Tecu v)) = refl
back_told (Ok (V.Km v)) = refl
back_told (Err w) = ap Err (back_why w)

pub ask_once : (q : Question) (r s : Asked) → Answers q (told r) → Answers q (told s) → r ≡ s
ask_once q r s a b = sym (back_told r) ∙ ap back (answers_once q (told r) (told s) a b) ∙ back_told s
