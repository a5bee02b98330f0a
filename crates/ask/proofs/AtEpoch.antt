-- At a map's epoch the answer is that map's alone, whatever the method; and at a node of it, the node's own value.
use mathlib.Core.Path.{◌≡◌, refl, sym, ap, ap₂, ◌∙◌}
use mathlib.Core.Logic.{◌⊎◌, inl, inr, ⊎_elim}
use mathlib.Core.List.{List, [], ◌∷◌, ◌++◌}
use mathlib.Core.Option.{Option, none, some}
use Prim.Native.Nat.{ℕ, zero, suc, ◌+◌, ◌-◌, ◌*◌, ◌≤◌, ◌<◌}
use native.Mathlib.Nat.{mul-le-mul_left, mul-pos, mul-sub, lt_of_not-le, mul-zero}
use native.Mathlib.Decide.{dec_le, dec_lt}
use native.Mathlib.Omega.{arith}
use lib.IntN.{ℤ, pos, nat_abs, ◌+ℤ◌, ◌-ℤ◌, ◌*ℤ◌, +ℤ_idr, +ℤ_idl, +ℤ_invr, zero-*ℤ}
use lib.ListN.{length}
use Rattle.kit.specs.Answer.{All, pick}
use Rattle.kit.proofs.Parts.{add_parts, sub_parts2, scale_up, scale_dn, eq_parts, abs_scale}
use Rattle.mapset.specs.Areas.{Sound}
use Rattle.mapset.specs.declared.Grid.{Grid}
use Rattle.mapset.specs.declared.Kind.{Kind}
use Rattle.ask_round.specs.Round.{apart, Nearest}
use Rattle.ask_round.specs.Rounded.{rounded}
use Rattle.ask_round.proofs.RoundLaws.{round_nearest, nearest_unique}
use Rattle.ask_cells.specs.Place.{InCell100}
use Rattle.ask_cells.proofs.EarthLaws.{finer, finer_in}
use Rattle.ask_spans.specs.Time.{epoch, NearestMap, shared, Uses, nearest, between, last}
use Rattle.ask_spans.specs.Spans.{Regular}
use Rattle.ask_spans.proofs.TimeLaws.{nearest_last, nearest_early}
use Rattle.ask_nodes.specs.Value.{kind_of, value, corner, or_zero}
use Rattle.ask_sums.specs.Mean.{left, right, next_left, next_right, by_column, corners, spread, Term, terms, Valued, weighted, weight}
use Rattle.ask_sums.proofs.SumLaws.{corners_elim}
use Rattle.ask.specs.Ask.{Question, Told, refused, in_unit, Guard, stop, go, Known, epochs, Served, InTime, Inside, Weighs, area, shape, asked, Rounded, Blended, Answers}
use Rattle.ask.specs.Summed.{in_told}
use Rattle.ask.specs.Sun.{in_time, moved, CellAt}
use Rattle.ask.proofs.AskLaws.{in_time_small, steady}
use Rattle.ask.proofs.Once.{mean_once, weighs_once, weighs_weight}
use Rattle.ask_cells.specs.declared.Cell.{Cell}
use Rattle.ask_nodes.specs.declared.Weighed.{Weighed}

-- ---- a map's epoch is the second: its share is all
uses_at : (es : List ℕ) → Regular es → (t method i : ℕ) → method < 2 → i < length es → epoch es i ≡ t → (g : ℕ) × ((1 ≤ g) × Uses es t method (shared i g 0))
uses_at es r t zero i m h e = (1, (omega arith, nearest i refl (at (dec_lt (i + 1) (length es)))))
  where
    at : Dec (i + 1 < length es) → NearestMap es t i
    at (yes k) = nearest_early es r t i k (omega arith) (omega (arith, r.rises i k)) (omega arith)
    at (no k) = nearest_last es r t i (omega arith) (sym e)
uses_at es r t (suc zero) i m h e = at (dec_lt (i + 1) (length es))
  where
    at : Dec (i + 1 < length es) → (g : ℕ) × ((1 ≤ g) × Uses es t 1 (shared i g 0))
    at (yes k) =
        let z : t - epoch es i ≡ 0 = omega arith in
        let u : Uses es t 1 (shared i (epoch es (i + 1) - t) (t - epoch es i)) = between i refl k (omega arith) (omega (arith, r.rises i k)) in
        (epoch es (i + 1) - t, (omega (arith, r.rises i k), rw z at u))
    at (no k) = (1, (omega arith, last i refl (omega arith) (sym e)))
uses_at es r t (suc (suc n)) i m h e = absurd (omega arith)

-- ---- every weight g times as large, and nodes of weight zero besides, leave the mean as it is
scaled_sum : (g : ℕ) (x y : ℤ) → pos g *ℤ x +ℤ pos g *ℤ y ≡ pos g *ℤ (x +ℤ y)
scaled_sum g x y =
    eq_parts (pos g *ℤ x +ℤ pos g *ℤ y) (pos g *ℤ (x +ℤ y))
    (omega (arith, add_parts (pos g *ℤ x) (pos g *ℤ y), scale_up g x, scale_dn g x, scale_up g y, scale_dn g y, scale_up g (x +ℤ y), scale_dn g (x +ℤ y), ap (λ (k : ℕ). g * k) (add_parts x y)))

scaled_less : (g : ℕ) (x y : ℤ) → pos g *ℤ x -ℤ pos g *ℤ y ≡ pos g *ℤ (x -ℤ y)
scaled_less g x y =
    eq_parts (pos g *ℤ x -ℤ pos g *ℤ y) (pos g *ℤ (x -ℤ y))
    (omega (arith, sub_parts2 (pos g *ℤ x) (pos g *ℤ y), scale_up g x, scale_dn g x, scale_up g y, scale_dn g y, scale_up g (x -ℤ y), scale_dn g (x -ℤ y), ap (λ (k : ℕ). g * k) (sub_parts2 x y)))

scaled_twice : (g w : ℕ) (v : ℤ) → pos (g * w) *ℤ v ≡ pos g *ℤ (pos w *ℤ v)
scaled_twice g w v =
    eq_parts (pos (g * w) *ℤ v) (pos g *ℤ (pos w *ℤ v))
    (omega (arith, scale_up (g * w) v, scale_dn (g * w) v, scale_up g (pos w *ℤ v), scale_dn g (pos w *ℤ v), ap (λ (k : ℕ). g * k) (scale_up w v), ap (λ (k : ℕ). g * k) (scale_dn w v)))

scaled_nearest : (g : ℕ) (s : ℤ) (d : ℕ) (v : ℤ) → 0 < g → Nearest s d v → Nearest (pos g *ℤ s) (g * d) v
scaled_nearest g s d v h n = record { near = omega (arith, wide, mul-le-mul_left g n.near); away = λ e. by (dec_le d (2 * apart s d v)) e }
  where
    wide : apart (pos g *ℤ s) (g * d) v ≡ g * apart s d v
    wide = unfold apart in (ap nat_abs (ap (λ (z : ℤ). z -ℤ pos g *ℤ s) (scaled_twice g d v) ∙ scaled_less g (pos d *ℤ v) s) ∙ abs_scale g (pos d *ℤ v -ℤ s))

    by : Dec (d ≤ 2 * apart s d v) → 2 * apart (pos g *ℤ s) (g * d) v ≡ g * d → nat_abs (pos g *ℤ s) < g * d * nat_abs v
    by (yes k) e =
        let m = n.away (omega (arith, n.near)) in
        omega (arith, abs_scale g s, mul-le-mul_left g m)
    by (no k) e = absurd (omega (arith, wide, mul-le-mul_left g (lt_of_not-le k)))

-- a list whose every term is another's, g times as heavy
abbrev times : ℕ → List Term → List Term
times g [] = []
times g (t ∷ ts) = (g * t.0, t.1) ∷ times g ts

abbrev Weightless : List Term → Type 0
Weightless ts = All (λ (t : Term). t.0 ≡ 0) ts

times_weighted : (g : ℕ) (ts : List Term) → weighted (times g ts) ≡ pos g *ℤ weighted ts
unfolding weighted
times_weighted g [] = eq_parts (pos 0) (pos g *ℤ pos 0) (omega (arith, scale_up g (pos 0), scale_dn g (pos 0)))
times_weighted g (t ∷ ts) = ap₂ ◌+ℤ◌ (scaled_twice g t.0 (or_zero t.1)) (times_weighted g ts) ∙ scaled_sum g (pos t.0 *ℤ or_zero t.1) (weighted ts)

times_weight : (g : ℕ) (ts : List Term) → weight (times g ts) ≡ g * weight ts
unfolding weight
times_weight g [] = omega arith
times_weight g (t ∷ ts) = omega (arith, times_weight g ts)

times_valued : (g : ℕ) (ts : List Term) → 0 < g → Valued (times g ts) → Valued ts
times_valued g [] h v = tt
times_valued g ((zero, o) ∷ ts) h v = (inl refl, times_valued g ts h v.1)
times_valued g ((suc w, o) ∷ ts) h v = (⊎_elim (λ e. absurd (omega (arith, mul-pos {m = g} {n = suc w} h (omega arith)))) inr v.0, times_valued g ts h v.1)

valued_times : (g : ℕ) (ts : List Term) → Valued ts → Valued (times g ts)
valued_times g [] v = tt
valued_times g (t ∷ ts) v = (⊎_elim (λ e. inl (rw e (mul-zero g))) inr v.0, valued_times g ts v.1)

-- terms of weight zero
light_weighted : (ts zs : List Term) → Weightless zs → weighted (ts ++ zs) ≡ weighted ts
unfolding weighted
light_weighted [] [] w = refl
light_weighted [] (z ∷ zs) w = rw (w.0, zero-*ℤ (or_zero z.1), light_weighted [] zs w.1) refl
light_weighted (t ∷ ts) zs w = ap (λ (x : ℤ). pos t.0 *ℤ or_zero t.1 +ℤ x) (light_weighted ts zs w)

light_weight : (ts zs : List Term) → Weightless zs → weight (ts ++ zs) ≡ weight ts
unfolding weight
light_weight [] [] w = refl
light_weight [] (z ∷ zs) w = omega (arith, w.0, light_weight [] zs w.1)
light_weight (t ∷ ts) zs w = ap (λ (x : ℕ). t.0 + x) (light_weight ts zs w)

light_valued : (ts zs : List Term) → Valued (ts ++ zs) → Valued ts
light_valued [] zs v = tt
light_valued (t ∷ ts) zs v = (v.0, light_valued ts zs v.1)

valued_light : (ts zs : List Term) → Weightless zs → Valued ts → Valued (ts ++ zs)
valued_light [] [] w v = tt
valued_light [] (z ∷ zs) w v = (inl w.0, valued_light [] zs w.1 tt)
valued_light (t ∷ ts) zs w v = (v.0, valued_light ts zs w v.1)

same_mean : (k : Kind) (g : ℕ) (ts zs : List Term) → 0 < g → 0 < weight ts → Weightless zs → (a : Told) → Guard (Valued (times g ts ++ zs)) 22 (Rounded k (times g ts ++ zs)) a → Guard (Valued ts) 22 (Rounded k ts) a
same_mean k g ts zs h p w a (stop n) = stop (λ v. n (valued_light (times g ts) zs w (valued_times g ts v)))
same_mean k g ts zs h p w a (go v (x, (m, e))) =
    let r = rounded (weighted ts) (weight ts) in
    let n = round_nearest (weighted ts) (weight ts) p in
    let s : weighted (times g ts ++ zs) ≡ pos g *ℤ weighted ts = light_weighted (times g ts) zs w ∙ times_weighted g ts in
    let d : weight (times g ts ++ zs) ≡ g * weight ts = light_weight (times g ts) zs w ∙ times_weight g ts in
    let m' : Nearest (pos g *ℤ weighted ts) (g * weight ts) x = rw (s, d) at m in
    let same : x ≡ r = nearest_unique (pos g *ℤ weighted ts) (g * weight ts) (mul-pos h p) x r m' (scaled_nearest g (weighted ts) (weight ts) r h n) in
    go (times_valued g ts h (light_valued (times g ts) zs v)) (r, (n, e ∙ ap (in_unit k) same))

-- ---- the nodes of one map
abbrev pub own : Question → Weighed → Option ℤ
own q n = value (shape q) (area (kind_of q.kind) q.areas) q.areas.exponents q.areas.marks n

-- a node whose weight is not zero, with others whose weight is
light_all : (zs : List Term) → Weightless zs → Valued zs
light_all [] w = tt
light_all (z ∷ zs) w = (inl w.0, light_all zs w.1)

itself : (w : ℕ) (v : ℤ) → 0 < w → Nearest (pos w *ℤ v) w v
itself w v h =
    let z : apart (pos w *ℤ v) w v ≡ 0 = unfold apart in ap nat_abs (+ℤ_invr (pos w *ℤ v)) in
    record { near = omega arith; away = λ e. absurd (omega arith) }

single : (k : Kind) (w : ℕ) (o : Option ℤ) (zs : List Term) → 0 < w → Weightless zs → Guard (Valued ((w, o) ∷ zs)) 22 (Rounded k ((w, o) ∷ zs)) (in_told k o)
single k w none zs h z = stop (λ v. ⊎_elim (λ e. omega arith) (λ x. x) v.0)
single k w (some v) zs h z =
    let s : weighted ((w, some v) ∷ zs) ≡ pos w *ℤ v = light_weighted ((w, some v) ∷ []) zs z ∙ (unfold weighted in +ℤ_idr (pos w *ℤ v)) in
    let d : weight ((w, some v) ∷ zs) ≡ w = light_weight ((w, some v) ∷ []) zs z ∙ (unfold weight in omega arith) in
    go (inr tt, light_all zs z) (v, (rw (s, d) (itself w v h), refl))

-- one of weight zero before
light_first : (k : Kind) (z : Term) (ts : List Term) (a : Told) → z.0 ≡ 0 → Guard (Valued ts) 22 (Rounded k ts) a → Guard (Valued (z ∷ ts)) 22 (Rounded k (z ∷ ts)) a
light_first k z ts a e (stop n) = stop (λ v. n v.1)
light_first k z ts a e (go v (x, (m, f))) =
    let s : weighted (z ∷ ts) ≡ weighted ts = unfold weighted in rw (e, zero-*ℤ (or_zero z.1), +ℤ_idl (weighted ts)) refl in
    let d : weight (z ∷ ts) ≡ weight ts = unfold weight in omega (arith, e) in
    go (inl e, v) (x, (rw (s, d) m, f))

terms_append : (q : Question) (l m : List Weighed) → asked q (l ++ m) ≡ asked q l ++ asked q m
unfolding terms
terms_append q [] m = refl
terms_append q (n ∷ l) m = ap (λ (ts : List Term). (n.weight, own q n) ∷ ts) (terms_append q l m)

-- a share g and units k times as fine make every weight g·k times as large
heavier : (q : Question) (g k i : ℕ) (c : Cell) → asked q (corners g i (finer k c)) ≡ times (g * k) (asked q (corners 1 i c))
unfolding corners by_column pick terms value
heavier q g k i c =
    let e : (x y : ℕ) → g * (x * (k * y)) ≡ g * k * (1 * (x * y)) = λ x y. omega arith in
    let f : (x : ℕ) → g * (x * (k * c.wide - k * c.across)) ≡ g * k * (1 * (x * (c.wide - c.across))) = λ x. ap (λ (y : ℕ). g * (x * y)) (sym (mul-sub k c.wide c.across)) ∙ e x (c.wide - c.across) in
    by (f (c.tall - c.down)) (e (c.tall - c.down) c.across) (f c.down) (e c.down c.across) (dec_lt c.right c.column)
  where
    by : (left g i (finer k c)).weight ≡ g * k * (left 1 i c).weight → (right g i (finer k c)).weight ≡ g * k * (right 1 i c).weight
        → (next_left g i (finer k c)).weight ≡ g * k * (next_left 1 i c).weight → (next_right g i (finer k c)).weight ≡ g * k * (next_right 1 i c).weight → (d : Dec (c.right < c.column)) →
        asked q (pick d (right g i (finer k c) ∷ left g i (finer k c) ∷ []) (left g i (finer k c) ∷ right g i (finer k c) ∷ []) ++ pick d (next_right g i (finer k c) ∷ next_left g i (finer k c) ∷ []) (next_left g i (finer k c) ∷ next_right g i (finer k c) ∷ []))
        ≡ times (g * k) (asked q (pick d (right 1 i c ∷ left 1 i c ∷ []) (left 1 i c ∷ right 1 i c ∷ []) ++ pick d (next_right 1 i c ∷ next_left 1 i c ∷ []) (next_left 1 i c ∷ next_right 1 i c ∷ [])))
    by l r m n (yes p) = λ j. (r j, own q (right 1 i c)) ∷ (l j, own q (left 1 i c)) ∷ (n j, own q (next_right 1 i c)) ∷ (m j, own q (next_left 1 i c)) ∷ []
    by l r m n (no p) = λ j. (l j, own q (left 1 i c)) ∷ (r j, own q (right 1 i c)) ∷ (m j, own q (next_left 1 i c)) ∷ (n j, own q (next_right 1 i c)) ∷ []

shareless : (q : Question) (m : ℕ) (c : Cell) → Weightless (asked q (corners 0 m c))
unfolding terms
shareless q m c =
    corners_elim 0 m c (λ ns. Weightless (asked q ns)) (λ n. (omega arith, (omega arith, (omega arith, (omega arith, tt))))) (λ n. (omega arith, (omega arith, (omega arith, (omega arith, tt)))))

passed : {P : Type 0} {n : ℕ} {R : Told → Type 0} {a : Told} → P → Guard P n R a → R a
passed p (stop n) = absurd (n p)
passed p (go x r) = r

-- the mean of map i's nodes alone
abbrev Alone : Question → ℕ → Cell → Told → Type 0
Alone q i c = Guard (Valued (asked q (corners 1 i c))) 22 (Rounded (kind_of q.kind) (asked q (corners 1 i c)))

-- ---- at its own epoch a map is not moved
unmoved : (lon : ℤ) (t : ℕ) → moved lon t t ≡ pos 12 *ℤ lon
unmoved lon t =
    let z : ℤ = pos t -ℤ pos t in
    eq_parts (moved lon t t) (pos 12 *ℤ lon) (omega (arith, add_parts (pos 12 *ℤ lon) (pos 5 *ℤ z), scale_up 5 z, scale_dn 5 z, sub_parts2 (pos t) (pos t)))

same_cell : (c : Cell) → finer 1 c ≡ c
same_cell c =
    let e : (x : ℕ) → 1 * x ≡ x = λ x. omega arith in
    λ j. record { row = c.row; down = c.down; tall = c.tall; column = c.column; right = c.right; across = e c.across j; wide = e c.wide j }

-- its cell is the place's, in the method's units
cell_here : (m : ℕ) (g : Grid) (lat lon : ℤ) (t : ℕ) (c : Cell) → InCell100 g lat lon c → (k : ℕ) × ((0 < k) × CellAt m g lat lon t t (finer k c))
cell_here zero g lat lon t c i = (1, (omega arith, rw (same_cell c) i))
cell_here (suc zero) g lat lon t c i = (1, (omega arith, rw (same_cell c) i))
cell_here (suc (suc m)) g lat lon t c i = (12, (omega arith, rw (unmoved lon t) (finer_in g lat lon c i)))

module _ (q : Question) (sound : Sound q.header q.texts q.areas) (served : Served q) (inside : Inside q) (i : ℕ) (there : i < length (epochs q)) (now : epoch (epochs q) i ≡ q.second) where
  abbrev c : Cell
  c = inside.cell

  share : (g : ℕ) × ((1 ≤ g) × Uses (epochs q) q.second (in_time q.method) (shared i g 0))
  share = uses_at (epochs q) (steady q sound) q.second (in_time q.method) i (in_time_small q.method) there now

  fine : (k : ℕ) × ((0 < k) × CellAt q.method q.header.grid q.lat q.lon q.second q.second (finer k c))
  fine = cell_here q.method q.header.grid q.lat q.lon q.second c inside.place

  abbrev d : Cell
  d = finer fine.0 c

  abbrev g : ℕ
  g = share.0 * fine.0

  here : Weighs q (spread (shared i share.0 0) d d)
  here = record { shares = shared i share.0 0; uses = share.1.1; first = d; second = d; cells = record { first_in = rw now fine.1.1; second_in = inl (refl, refl) }; nodes = refl }

  parts : asked q (spread (shared i share.0 0) d d) ≡ times g (asked q (corners 1 i c)) ++ asked q (corners 0 (i + 1) d)
  unfolding spread
  parts = terms_append q (corners share.0 i d) (corners 0 (i + 1) d) ∙ ap (λ (ts : List Term). ts ++ asked q (corners 0 (i + 1) d)) (heavier q share.0 fine.0 i c)

  heavy : 0 < weight (asked q (corners 1 i c))
  heavy = by (dec_lt 0 (weight (asked q (corners 1 i c))))
    where
      by : Dec (0 < weight (asked q (corners 1 i c))) → 0 < weight (asked q (corners 1 i c))
      by (yes h) = h
      by (no h) =
          let z : weight (asked q (corners 1 i c)) ≡ 0 = omega arith in
          let w : weight (asked q (spread (shared i share.0 0) d d)) ≡ g * weight (asked q (corners 1 i c)) =
          ap weight parts ∙ light_weight (times g (asked q (corners 1 i c))) (asked q (corners 0 (i + 1) d)) (shareless q (i + 1) d) ∙ times_weight g (asked q (corners 1 i c)) in
          absurd (omega (arith, weighs_weight q sound served (spread (shared i share.0 0) d d) here, w, ap (λ (k : ℕ). g * k) z))

  at_epoch : (a : Told) → Blended q a → Alone q i c a
  at_epoch a (ns, (w, b)) =
      let e : ns ≡ spread (shared i share.0 0) d d = weighs_once q sound ns (spread (shared i share.0 0) d d) w here in
      let f : asked q ns ≡ times g (asked q (corners 1 i c)) ++ asked q (corners 0 (i + 1) d) = ap (asked q) e ∙ parts in
      same_mean (kind_of q.kind) g (asked q (corners 1 i c)) (asked q (corners 0 (i + 1) d)) (mul-pos share.1.0 fine.1.0) heavy (shareless q (i + 1) d) a (rw f at b)

  -- at a node of the map, its own value
  alone_at_node : c.down ≡ 0 → c.across ≡ 0 → Alone q i c (in_told (kind_of q.kind) (own q (corner 1 i c.row c.column)))
  unfolding terms value weight
  alone_at_node d e =
      let r : (x : ℕ) → 1 * (x * c.across) ≡ 0 = λ x. ap (λ (y : ℕ). 1 * (x * y)) e ∙ omega arith in
      let n : (x : ℕ) → 1 * (c.down * x) ≡ 0 = λ x. ap (λ (y : ℕ). 1 * (y * x)) d ∙ omega arith in
      let p : 0 < (left 1 i c).weight =
      corners_elim 1 i c (λ ns. 0 < weight (asked q ns) → 0 < (left 1 i c).weight)
      (λ z h. omega (arith, r (c.tall - c.down), n (c.wide - c.across), n c.across))
      (λ z h. omega (arith, r (c.tall - c.down), n (c.wide - c.across), n c.across)) heavy in
      corners_elim 1 i c (λ ns. Guard (Valued (asked q ns)) 22 (Rounded (kind_of q.kind) (asked q ns)) (in_told (kind_of q.kind) (own q (left 1 i c))))
      (λ z. single (kind_of q.kind) (left 1 i c).weight (own q (left 1 i c)) (asked q (right 1 i c ∷ next_left 1 i c ∷ next_right 1 i c ∷ [])) p (r (c.tall - c.down), (n (c.wide - c.across), (n c.across, tt))))
      (λ z. light_first (kind_of q.kind) ((right 1 i c).weight, own q (right 1 i c)) (asked q (left 1 i c ∷ next_right 1 i c ∷ next_left 1 i c ∷ [])) _ (r (c.tall - c.down))
      (single (kind_of q.kind) (left 1 i c).weight (own q (left 1 i c)) (asked q (next_right 1 i c ∷ next_left 1 i c ∷ [])) p (n c.across, (n (c.wide - c.across), tt))))

  pub at_node : Known q → InTime q → (a : Told) → c.down ≡ 0 → c.across ≡ 0 → Answers q a → a ≡ in_told (kind_of q.kind) (own q (corner 1 i c.row c.column))
  at_node known time a d e answer =
      mean_once (kind_of q.kind) (asked q (corners 1 i c)) heavy a _ (at_epoch a (passed inside (passed time (passed served (passed sound (passed known answer)))))) (alone_at_node d e)

-- ---- the methods agree at a map's epoch
abbrev by_method : ℕ → Question → Question
by_method m q =
    record { header = q.header; texts = q.texts; areas = q.areas; kind = q.kind; method = m; layer = q.layer; lat = q.lat; lon = q.lon; second = q.second }

guards_agree : {P Q : Type 0} {n : ℕ} {R S : Told → Type 0} {a b : Told} → (P → Q) → (Q → P) → (P → R a → S b → a ≡ b) → Guard P n R a → Guard Q n S b → a ≡ b
guards_agree f g u (stop n) (stop m) = refl
guards_agree f g u (stop n) (go q s) = absurd (n (g q))
guards_agree f g u (go p r) (stop m) = absurd (m (f p))
guards_agree f g u (go p r) (go q s) = u p r s

-- 24 is not given
spared : {P : Type 0} {R : Told → Type 0} {a : Told} → P ⊎ ¬ (a ≡ refused 24) → Guard P 24 R a → P × R a
spared (inl p) g = (p, passed p g)
spared (inr n) (stop m) = absurd (n refl)
spared (inr n) (go p r) = (p, r)

module _ (q : Question) (i : ℕ) (there : i < length (epochs q)) (now : epoch (epochs q) i ≡ q.second) where
  agree : (m n : ℕ) → m < 4 → n < 4 → (a b : Told) → Served (by_method m q) ⊎ ¬ (a ≡ refused 24) → Served (by_method n q) ⊎ ¬ (b ≡ refused 24) → Answers (by_method m q) a → Answers (by_method n q) b → a ≡ b
  agree m n h k a b u v =
      guards_agree (λ x. (x.0, k)) (λ x. (x.0, h))
      (λ known. guards_agree (λ s. s) (λ s. s)
      (λ sound x y.
      let f = spared u x in
      let g = spared v y in
      guards_agree (λ t. t) (λ t. t)
      (λ time. guards_agree (λ z. other n z) (λ z. other m z)
      (λ inside r s. mean_once (kind_of q.kind) (asked q (corners 1 i inside.cell))
      (heavy (by_method m q) sound f.0 inside i there now) a b
      (at_epoch (by_method m q) sound f.0 inside i there now a r)
      (at_epoch (by_method n q) sound g.0 (other n inside) i there now b s)))
      f.1 g.1))
    where
      other : (m : ℕ) {n : ℕ} → Inside (by_method n q) → Inside (by_method m q)
      other m x = record { layer = x.layer; cell = x.cell; place = x.place }

  pub methods_agree : (a b : Told) → Answers (by_method 0 q) a → Answers (by_method 1 q) b → a ≡ b
  methods_agree a b = agree 0 1 (omega arith) (omega arith) a b (inl (inl (omega arith))) (inl (inl (omega arith)))

  -- where 24 is not given, the maps that turn with the Sun give what those that stand still give, or the same refusal
  pub sun_at_epoch : (a b : Told) → ¬ (a ≡ refused 24) → Answers (by_method 2 q) a → Answers (by_method 1 q) b → a ≡ b
  sun_at_epoch a b n = agree 2 1 (omega arith) (omega arith) a b (inr n) (inl (inl (omega arith)))

  pub nearest_sun_at_epoch : (a b : Told) → ¬ (a ≡ refused 24) → Answers (by_method 3 q) a → Answers (by_method 0 q) b → a ≡ b
  nearest_sun_at_epoch a b n = agree 3 0 (omega arith) (omega arith) a b (inr n) (inl (inl (omega arith)))
