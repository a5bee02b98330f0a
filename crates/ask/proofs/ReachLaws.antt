-- The needed nodes of a sound map set stand in its areas, and their weights come to the common denominator.
use mathlib.Core.Path.{◌≡◌, sym, ap, ap₂, ◌∙◌}
use mathlib.Core.Logic.{◌⊎◌, inl, inr, ⊎_elim}
use mathlib.Core.List.{List, [], ◌∷◌, ◌++◌}
use Prim.Native.Nat.{ℕ, ◌+◌, ◌-◌, ◌*◌, ◌≤◌, ◌<◌}
use native.Mathlib.Nat.{mul-le-mul_right, mul_assoc, sub-add_cancel, mul-pos}
use native.Mathlib.Omega.{arith}
use lib.Arith.{digits_lt}
use lib.IntN.{ℤ, pos, nat_abs}
use lib.ListN.{length, take, get_or}
use lib.Seq.{get_or-take, length-take-le}
use Rattle.kit.proofs.Parts.{parts_le, abs_parts, one_zero}
use Rattle.kit.specs.Answer.{All}
use Rattle.kit.proofs.AnswerLaws.{pick_no}
use Rattle.kit.proofs.ListLaws.{all_append}
use Rattle.mapset.specs.Grid.{layers, rows, columns}
use Rattle.mapset.specs.Areas.{Present, Nowhere, nowhere?, blocks, values, Sound}
use Rattle.mapset.specs.declared.Kind.{Kind}
use Rattle.mapset.specs.declared.Kind.TheVariants.{Tec as tec, Rms as rms, Height as height}
use Rattle.mapset.proofs.Groups.{header_groups, marked}
use Rattle.mapset.proofs.FirstLaws.{first_in}
use Rattle.mapset.proofs.SoundLaws.{few_blocks, some_nodes}
use Rattle.ask_cells.specs.Place.{InCell}
use Rattle.ask_nodes.specs.Value.{kind_of, block}
use Rattle.ask_sums.specs.Mean.{corners, spread, terms, weight}
use Rattle.ask.specs.Ask.{Question, area, shape}
use Rattle.ask_nodes.specs.Nodes.{Reached}
use Rattle.ask_sums.specs.Sums.{Reaches, Shared, Summable}
use Rattle.ask_sums.proofs.SumLaws.{corners_elim, all_corners}
use Rattle.ask_cells.specs.declared.Cell.{Cell}
use Rattle.ask_spans.specs.declared.Shares.{Shares}
use Rattle.ask_nodes.specs.declared.Shape.{Shape}
use Rattle.ask_nodes.specs.declared.Weighed.{Weighed}

-- ---- the steps of the axes
pub latitude_step : (q : Question) → Sound q.header q.texts q.areas → (0 < nat_abs q.header.grid.latitudes.step) × (nat_abs q.header.grid.latitudes.step ≤ 150)
latitude_step q s = (header_groups q.header q.texts s.header).1.1.1.1.0.1.0.step

pub longitude_step : (q : Question) → Sound q.header q.texts q.areas → (0 < nat_abs q.header.grid.longitudes.step) × (nat_abs q.header.grid.longitudes.step ≤ 150)
longitude_step q s =
    let d = q.header.grid.longitudes.step in
    let b = (header_groups q.header q.texts s.header).1.1.1.1.0.1.1.step in
    let l = parts_le (pos 1) d b.from in
    let h = parts_le d (pos 150) b.to in
    ⊎_elim (λ o. (omega (arith, abs_parts d), omega (arith, abs_parts d))) (λ o. absurd (omega arith)) (one_zero d)

-- ---- the weights of a cell come to its share of the whole
spreads : (t a f b g : ℕ) → t * (a * b) + (t * (a * g) + (t * (f * b) + (t * (f * g) + 0))) ≡ t * ((a + f) * (b + g))
spreads t a f b g = omega arith

turned : (t a f b g : ℕ) → t * (a * g) + (t * (a * b) + (t * (f * g) + (t * (f * b) + 0))) ≡ t * ((a + f) * (b + g))
turned t a f b g = omega arith

module _ (s : Shape) (vs ks : List ℤ) (ms : List ℕ) where
  corners_weight : (t m : ℕ) (c : Cell) → c.down ≤ c.tall → c.across ≤ c.wide → weight (terms s vs ks ms (corners t m c)) ≡ t * (c.tall * c.wide)
  unfolding terms weight
  corners_weight t m c p q =
      let e : t * ((c.tall - c.down + c.down) * (c.wide - c.across + c.across)) ≡ t * (c.tall * c.wide) = ap₂ (λ (x y : ℕ). t * (x * y)) (sub-add_cancel p) (sub-add_cancel q) in
      corners_elim t m c (λ ns. weight (terms s vs ks ms ns) ≡ t * (c.tall * c.wide))
      (λ n. spreads t (c.tall - c.down) c.down (c.wide - c.across) c.across ∙ e)
      (λ n. turned t (c.tall - c.down) c.down (c.wide - c.across) c.across ∙ e)

  weight_append : (l m : List Weighed) → weight (terms s vs ks ms (l ++ m)) ≡ weight (terms s vs ks ms l) + weight (terms s vs ks ms m)
  unfolding terms weight
  weight_append [] m = omega arith
  weight_append (n ∷ l) m = omega (arith, weight_append l m)

  spread_weight : (h : Shares) (c d : Cell) → c.down ≤ c.tall → c.across ≤ c.wide → d.down ≤ d.tall → d.across ≤ d.wide →
      weight (terms s vs ks ms (spread h c d)) ≡ h.early * (c.tall * c.wide) + h.late * (d.tall * d.wide)
  unfolding spread
  spread_weight h c d p q p' q' =
      weight_append (corners h.early h.map c) (corners h.late (h.map + 1) d) ∙ ap₂ ◌+◌ (corners_weight h.early h.map c p q) (corners_weight h.late (h.map + 1) d p' q')

-- ---- a kind with a map that is there has its values
module _ (q : Question) (s : Sound q.header q.texts q.areas) where
  abbrev n : ℕ
  n = q.header.times.maps

  pub maps_range : (1 ≤ n) × (n ≤ 300)
  maps_range = (header_groups q.header q.texts s.header).1.1.0.1.1.1

  gone : (k : Kind) (i : ℕ) → i < n → Present k (get_or q.areas.marks i 0) → ¬ Nowhere k (take n q.areas.marks)
  gone k i h p =
      let l : i < length (take n q.areas.marks) = rw (length-take-le n q.areas.marks s.room.marks) h in
      marked k (take n q.areas.marks) i l (rw (get_or-take n q.areas.marks i 0 h) p)

  held : (k : Kind) (i : ℕ) → i < n → Present k (get_or q.areas.marks i 0) → values q.header ≤ length (area k q.areas)
  held tec i h p = s.room.tec
  held rms i h p = rw (pick_no (nowhere? rms (take n q.areas.marks)) 0 (values q.header) (gone rms i h p)) at s.room.rms
  held height i h p = rw (pick_no (nowhere? height (take n q.areas.marks)) 0 (values q.header) (gone height i h p)) at s.room.height

  abbrev L : ℕ
  L = layers q.header.grid

  abbrev R : ℕ
  R = rows q.header.grid

  abbrev C : ℕ
  C = columns q.header.grid

  abbrev Stands : Weighed → Type 0
  Stands w = Reached (area (kind_of q.kind) q.areas) q.areas.exponents q.areas.marks (shape q) w

  -- a node of the grid is found
  reached : q.kind < 3 → q.layer < L → (w : Weighed) → w.map < n → w.row < R → w.column < C → Stands w
  reached k l w m r c =
      let limits = s.header.limits in
      let few = few_blocks n q.header.grid limits in
      let flat : w.map * L + q.layer < n * L = digits_lt m l in
      let b : block (shape q) w < blocks q.header = rw (← mul_assoc n L R) (digits_lt flat r) in
      record {
        mark = omega (arith, s.room.marks);
        exponent = omega (arith, first_in (kind_of q.kind) (blocks q.header) (block (shape q) w) b, s.room.exponents);
        number = λ p. omega (arith, digits_lt {q = block (shape q) w} {m = blocks q.header} b c, held (kind_of q.kind) w.map m p);
        block = omega arith;
        column = c;
        columns = limits.1;
        rows = some_nodes q.header.grid.latitudes;
        layer_blocks = omega (arith, mul-le-mul_right (L * R) maps_range.0);
        blocks = few;
        kind = k;
      }

  abbrev Needed : Weighed → Type 0
  Needed w = Reaches (area (kind_of q.kind) q.areas) q.areas.exponents q.areas.marks (shape q) w

  module _ (unit : ℕ) (some : 0 < unit) (lat lon : ℤ) (c : Cell) (i : InCell unit q.header.grid lat lon c) where
    -- the needed nodes of a cell, of a map that is there or has no share
    corners_reach : q.kind < 3 → q.layer < L → (t m : ℕ) → (t ≡ 0) ⊎ (m < n) → All Needed (corners t m c)
    corners_reach k l t m (inl z) =
        all_corners t m c Needed (inl (rw z (omega arith))) (inl (rw z (omega arith))) (inl (rw z (omega arith))) (inl (rw z (omega arith)))
    corners_reach k l t m (inr h) =
        let row = i.row.sits in
        let col = i.column.sits in
        let east : (c.across ≡ 0) ⊎ (c.right < C) = col.next in
        all_corners t m c Needed
        (inr (reached k l _ h row.node col.node))
        (⊎_elim (λ z. inl (rw z (omega arith))) (λ e. inr (reached k l _ h row.node e)) east)
        (⊎_elim (λ z. inl (rw z (omega arith))) (λ d. inr (reached k l _ h d col.node)) row.next)
        (⊎_elim (λ z. inl (rw z (omega arith))) (λ e. ⊎_elim (λ z. inl (rw z (omega arith))) (λ d. inr (reached k l _ h d e)) row.next) east)

    tall_small : (0 < c.tall) × (c.tall ≤ 1500)
    tall_small = let d = latitude_step q s in (omega (arith, i.tall), omega (arith, i.tall))

    wide_some : 0 < c.wide
    wide_some = rw i.wide (mul-pos some (longitude_step q s).0)

    down_less : c.down ≤ c.tall
    down_less = omega (arith, i.tall, i.row.sits.less)

    across_less : c.across ≤ c.wide
    across_less = omega (arith, i.wide, i.column.sits.less)

    shared_cell : (t : ℕ) → c.wide ≤ 6000 → t * (c.tall * c.wide) ≤ 64_800_000_000 → Shared t c
    shared_cell t w h = record { tall = tall_small.1; wide = w; weights = h; down = down_less; across = across_less; row = omega (arith, i.row.sits.node, s.header.limits.0) }

  -- two cells, those of the two maps
  module _ (unit : ℕ) (some : 0 < unit) (lat lon east : ℤ) (c d : Cell) (i : InCell unit q.header.grid lat lon c) (j : InCell unit q.header.grid lat east d) where
    abbrev pub T : Shares → ℕ
    T h = weight (terms (shape q) (area (kind_of q.kind) q.areas) q.areas.exponents q.areas.marks (spread h c d))

    same_size : d.tall * d.wide ≡ c.tall * c.wide
    same_size = ap₂ ◌*◌ (j.tall ∙ sym i.tall) (j.wide ∙ sym i.wide)

    pub total : (h : Shares) → T h ≡ (h.early + h.late) * (c.tall * c.wide)
    total h =
        spread_weight (shape q) (area (kind_of q.kind) q.areas) q.areas.exponents q.areas.marks h c d (down_less unit some lat lon c i) (across_less unit some lat lon c i) (down_less unit some lat east d j) (across_less unit some lat east d j)
        ∙ ap (λ (x : ℕ). h.early * (c.tall * c.wide) + h.late * x) same_size ∙ omega arith

    pub some_weight : (h : Shares) → 1 ≤ h.early → 0 < T h
    some_weight h e = rw (total h) (mul-pos (omega arith) (mul-pos (tall_small unit some lat lon c i).0 (wide_some unit some lat lon c i)))

    pub summable : q.kind < 3 → q.layer < L → (h : Shares) → c.wide ≤ 6000 → (h.early + h.late) * (c.tall * c.wide) ≤ 64_800_000_000 → h.map < n → (h.late ≡ 0) ⊎ (h.map + 1 < n) →
        Summable (area (kind_of q.kind) q.areas) q.areas.exponents q.areas.marks (shape q) h c d
    summable k l h w e m o = record {
      early = shared_cell unit some lat lon c i h.early w (omega arith);
      late = shared_cell unit some lat east d j h.late (omega (arith, i.wide, j.wide)) (rw same_size (omega arith));
      map = omega (arith, maps_range.1);
      reaches = unfold spread in all_append Needed (corners h.early h.map c) (corners h.late (h.map + 1) d) (corners_reach unit some lat lon c i k l h.early h.map (inr m)) (corners_reach unit some lat east d j k l h.late (h.map + 1) o);
      weights = rw (total h) e;
    }
