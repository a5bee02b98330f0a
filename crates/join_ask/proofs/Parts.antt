-- A question to part of a set: where its nodes stand d maps later in the whole, the whole answers as the part does.
use mathlib.Core.Path.{◌≡◌, refl, sym, ap, ap₂, subst, ◌∙◌}
use mathlib.Core.Logic.{◌⊎◌, inl, inr, ⊎_elim}
use mathlib.Core.List.{List, [], ◌∷◌, ◌++◌, map, map-append}
use Prim.Native.Nat.{ℕ, ◌+◌, ◌<◌}
use native.Mathlib.Decide.{dec_lt}
use native.Mathlib.Omega.{arith}
use lib.IntN.{ℤ}
use Rattle.kit.specs.Answer.{All, pick}
use Rattle.kit.proofs.ListLaws.{all_turn}
use Rattle.mapset.specs.Grid.{layers}
use Rattle.mapset.specs.Areas.{Areas, Sound}
use Rattle.mapset.specs.declared.Grid.{Grid}
use Rattle.mapset.specs.declared.Header.{Header}
use Rattle.mapset.specs.Described.{FullTexts}
use Rattle.ask_cells.specs.declared.Cell.{Cell}
use Rattle.ask_spans.specs.Time.{epoch, Uses}
use Rattle.ask_spans.specs.declared.Shares.{Shares}
use Rattle.ask_nodes.specs.Value.{kind_of}
use Rattle.ask_nodes.specs.declared.Weighed.{Weighed}
use Rattle.ask_sums.specs.Mean.{left, right, next_left, next_right, by_column, corners, spread}
use Rattle.ask.specs.Sun.{in_time, CellAt, Cells}
use Rattle.ask.specs.Ask.{Question, Told, stop, go, epochs, Served, InTime, area, shape, question, Answers}
use Rattle.ask.proofs.Standing.{Stands, Light, spread_stand}
use Rattle.join_ask.proofs.Terms.{later, Agrees, like_terms, like_answer}
use Rattle.join_ask.proofs.Epochs.{moved}

abbrev pub with_grid : Grid → Header → Header
with_grid g h =
    record { version = h.version; times = h.times; model = h.model; grid = g; stations = h.stations; satellites = h.satellites; systems = h.systems; descriptions = h.descriptions }

-- ---- the nodes d maps later
corners_later : (d t m : ℕ) (c : Cell) → map (later d) (corners t m c) ≡ corners t (d + m) c
unfolding corners by_column pick
corners_later d t m c = by (dec_lt c.right c.column)
  where
    by : (o : Dec (c.right < c.column)) →
        map (later d) (pick o (right t m c ∷ left t m c ∷ []) (left t m c ∷ right t m c ∷ []) ++ pick o (next_right t m c ∷ next_left t m c ∷ []) (next_left t m c ∷ next_right t m c ∷ []))
        ≡ pick o (right t (d + m) c ∷ left t (d + m) c ∷ []) (left t (d + m) c ∷ right t (d + m) c ∷ []) ++ pick o (next_right t (d + m) c ∷ next_left t (d + m) c ∷ []) (next_left t (d + m) c ∷ next_right t (d + m) c ∷ [])
    by (yes p) = refl
    by (no n) = refl

spread_later : (d : ℕ) (s : Shares) (c e : Cell) → map (later d) (spread s c e) ≡ spread (moved d s) c e
unfolding spread
spread_later d s c e =
    let o : d + (s.map + 1) ≡ d + s.map + 1 = omega arith in
    map-append (later d) (corners s.early s.map c) (corners s.late (s.map + 1) e)
    ∙ ap₂ ◌++◌ (corners_later d s.early s.map c) (corners_later d s.late (s.map + 1) e ∙ ap (λ m. corners s.late m e) o)

-- the cells stay where the epochs of the maps do
cells_later : (method : ℕ) (g : Grid) (lat lon : ℤ) (t : ℕ) (es fs : List ℕ) (d : ℕ) (s : Shares) (c e : Cell)
    → epoch es s.map ≡ epoch fs (d + s.map) → (s.late ≡ 0) ⊎ (epoch es (s.map + 1) ≡ epoch fs (d + s.map + 1))
    → Cells method g lat lon t es s c e → Cells method g lat lon t fs (moved d s) c e
cells_later method g lat lon t es fs d s c e p q x =
    record { first_in = subst (λ z. CellAt method g lat lon t z c) p x.first_in; second_in = both x.second_in q }
  where
    both : ((s.late ≡ 0) × (e ≡ c)) ⊎ ((0 < s.late) × CellAt method g lat lon t (epoch es (s.map + 1)) e) → (s.late ≡ 0) ⊎ (epoch es (s.map + 1) ≡ epoch fs (d + s.map + 1))
        → ((s.late ≡ 0) × (e ≡ c)) ⊎ ((0 < s.late) × CellAt method g lat lon t (epoch fs (d + s.map + 1)) e)
    both (inl z) q = inl z
    both (inr z) (inl w) = absurd (omega (arith, z.0))
    both (inr z) (inr w) = inr (z.0, subst (λ y. CellAt method g lat lon t y e) w z.1)

-- ---- the theorem
module _ (g : Grid) (part whole : Header) (t u : FullTexts) (a b : Areas) (kind method layer : ℕ) (lat lon : ℤ) (second N d : ℕ) where
  abbrev p : Question
  p = question (with_grid g part) t a kind method layer lat lon second

  abbrev q : Question
  q = question (with_grid g whole) u b kind method layer lat lon second

  pub record WithinWhole : Type 0 where
    pub sound : Sound (with_grid g part) t a
    pub whole_sound : Sound (with_grid g whole) u b
    pub served : Served p → Served q
    pub served_back : Served q → Served p
    pub time : InTime p → InTime q
    pub time_back : InTime q → InTime p
    pub same_epochs : (i : ℕ) → i < N → epoch (epochs p) i ≡ epoch (epochs q) (d + i)
    pub uses : InTime p → (s : Shares) → Uses (epochs p) second (in_time method) s → Uses (epochs q) second (in_time method) (moved d s) × (s.map < N) × ((s.late ≡ 0) ⊎ (s.map + 1 < N))
    pub agrees : kind < 3 → layer < layers g → (w : Weighed) → Stands g N w
        → Agrees (shape p) (shape q) (area (kind_of kind) a) a.exponents (area (kind_of kind) b) b.exponents a.marks b.marks d w

  -- the next map's epoch, where it has a share
  next_epoch : WithinWhole → (s : Shares) → (s.late ≡ 0) ⊎ (s.map + 1 < N) → (s.late ≡ 0) ⊎ (epoch (epochs p) (s.map + 1) ≡ epoch (epochs q) (d + s.map + 1))
  next_epoch x s (inl z) = inl z
  next_epoch x s (inr h) = let o : d + (s.map + 1) ≡ d + s.map + 1 = omega arith in inr (x.same_epochs (s.map + 1) h ∙ ap (epoch (epochs q)) o)

  pub asked_of_whole : WithinWhole → (r : Told) → Answers p r → Answers q r
  asked_of_whole x r (stop n) = stop n
  asked_of_whole x r (go k (stop n)) = absurd (n x.sound)
  asked_of_whole x r (go k (go s (stop n))) = go k (go x.whole_sound (stop (λ v. n (x.served_back v))))
  asked_of_whole x r (go k (go s (go v (stop n)))) = go k (go x.whole_sound (go (x.served v) (stop (λ h. n (x.time_back h)))))
  asked_of_whole x r (go k (go s (go v (go h (stop n))))) =
      go k (go x.whole_sound (go (x.served v) (go (x.time h) (stop (λ i. n (record { layer = i.layer; cell = i.cell; place = i.place }))))))
  asked_of_whole x r (go k (go s (go v (go h (go i (ns, (w, z))))))) =
      let y = x.uses h w.shares w.uses in
      let l : All (Light g N) ns = subst (All (Light g N)) (sym w.nodes) (spread_stand g N method lat lon second (epochs p) w.shares w.first w.second w.cells y.1 y.2) in
      go k
      (go x.whole_sound
      (go (x.served v)
      (go (x.time h)
      (go (record { layer = i.layer; cell = i.cell; place = i.place }) (
        map (later d) ns,
        (
          record {
            shares = moved d w.shares;
            uses = y.0;
            first = w.first;
            second = w.second;
            cells = cells_later method g lat lon second (epochs p) (epochs q) d w.shares w.first w.second (x.same_epochs w.shares.map y.1) (next_epoch x w.shares y.2) w.cells;
            nodes = ap (map (later d)) w.nodes ∙ spread_later d w.shares w.first w.second;
          },
          like_answer (kind_of kind) r
              (like_terms (shape p) (shape q) (area (kind_of kind) a) a.exponents (area (kind_of kind) b) b.exponents a.marks b.marks d ns
              (all_turn _ _ ns (λ n. ⊎_elim inl (λ z. inr (x.agrees k.0 i.layer n z))) l)) z,
        ),
      )))))
