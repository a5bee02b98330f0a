-- The maps of canonical text are written by the rules.
use mathlib.Core.Path.{◌≡◌, refl, ap, ◌∙◌}
use mathlib.Core.Bool.{Bool, true, false}
use mathlib.Core.Logic.{inr}
use mathlib.Core.List.{List, [], ◌∷◌, ◌++◌, map}
use Prim.Native.Nat.{ℕ, suc, ◌+◌, ◌-◌, ◌/◌, ◌%◌, ◌≤◌, ◌<◌}
use native.Mathlib.Omega.{arith}
use native.Mathlib.Nat.{mod-lt, div-lt_iff_lt-mul}
use lib.IntN.{ℤ, pos}
use lib.ListN.{length, length-append}
use Rattle.kit.specs.Answer.{All}
use Rattle.kit.proofs.AnswerLaws.{pick_elim}
use Rattle.kit.specs.Integer.{int?}
use Rattle.kit.proofs.ListLaws.{all_append}
use Rattle.calendar.specs.End.{end as after_2199}
use Rattle.mapset.specs.declared.Kind.{Kind}
use Rattle.mapset.specs.declared.Kind.TheVariants.{Tec, Rms, Height}
use Rattle.mapset.specs.declared.Header.{Header}
use Rattle.mapset.specs.Grid.{heights, latitudes, longitudes, rows, layers, columns}
use Rattle.mapset.specs.MapSet.{Block, TecMap, OtherMap, Maps}
use Rattle.mapset.specs.Areas.{Run}
use Rattle.mapset.proofs.Groups.{run_below}
use Rattle.layout.specs.Records.{Vals}
use Rattle.layout.specs.Labels.{exponent, epoch, block, start, end, layout}
use Rattle.layout.specs.Layout.{Force, under, with_epoch, last_of, with_last, one_more, one_tec, Other, Left, maps, blocks, Loose, Exponent, InTime, per_map, Opens, Writes, w_exponent, w_tec, w_epoch, w_other, w_block, w_close}
use Rattle.reading.proofs.RecordLaws.{known_maps}
use Rattle.areas.proofs.MadeMaps.{Onward, get_or_last}
use Rattle.areas.specs.Formed.{BlockRules, MapRules, Rising}
use Rattle.areas.specs.Value.{Value}
use Rattle.canonical.specs.Canon.{row_of, date_of, six, opening, exponent_rows, value_rows, block_rows, in_force, other_rows, tec_rows, Axes}
use Rattle.canonical.proofs.RowLaws.{GoodRow, Roomy, row_is, row_good, Fives, values_good}
use Rattle.canonical.proofs.RoomLaws.{five, six_digits, tenths_six, exponent_room, wide_end, wide_step, wide_node}
use Rattle.canonical.proofs.HeadRows.{date_is, date_room}

-- rows that write, and are good
abbrev pub Wrote : (h : Header) (p : Force) → Left → List (List ℕ) → Type 0
Wrote h p w rs = Writes h p w rs × All GoodRow rs

fives : (zs : List ℤ) → All Value zs → Fives zs
fives [] a = tt
fives (z ∷ zs) a = (five z a.0, fives zs a.1)

-- ---- what stays in force

-- the maps with others of a kind in front
abbrev pub with_others : Kind → List OtherMap → Maps → Maps
with_others k [] ms = ms
with_others k (x ∷ xs) ms = one_more k x (with_others k xs ms)

-- what a kind's maps leave as it was
abbrev pub Kept : Kind → Force → Force → Type 0
Kept Tec p q = Unit {0}
Kept Rms p q = (q.epochs ≡ p.epochs) × (q.height ≡ p.height)
Kept Height p q = q.epochs ≡ p.epochs

kept_same : (k : Kind) (p : Force) → Kept k p p
kept_same Tec p = tt
kept_same Rms p = (refl, refl)
kept_same Height p = refl

exponent_kept : (k : Kind) (i : ℕ) (p : Force) → (with_last k i p).exponent ≡ p.exponent
exponent_kept Tec i p = refl
exponent_kept Rms i p = refl
exponent_kept Height i p = refl

epochs_kept : (k : Kind) (i : ℕ) (p : Force) → (with_last k i p).epochs ≡ p.epochs
epochs_kept Tec i p = refl
epochs_kept Rms i p = refl
epochs_kept Height i p = refl

last_set : (k : Kind) → Other k → (i : ℕ) (p : Force) → last_of k (with_last k i p) ≡ i
last_set Rms o i p = refl
last_set Height o i p = refl
last_set Tec o i p = elim o [ ]

last_under : (k : Kind) (e : ℤ) (p : Force) → last_of k (under e p) ≡ last_of k p
last_under Tec e p = refl
last_under Rms e p = refl
last_under Height e p = refl

kept_on : (k : Kind) (i : ℕ) (e : ℤ) (p q : Force) → Kept k (under e (with_last k i p)) q → Kept k p q
kept_on Tec i e p q s = tt
kept_on Rms i e p q s = s
kept_on Height i e p q s = s

module _ (h : Header) (x : Axes h) where
  -- ---- a block

  opening_opens : (d : ℕ) → Opens h d (opening h d)
  opening_opens d = record { latitude = refl; first = refl; last = refl; step = refl; height = inr refl }

  opening_room : (d : ℕ) → d < per_map h → Roomy (layout block) (opening h d)
  opening_room d l =
      let g = h.grid in
      let r : 0 < rows g = omega arith in (
        tenths_six _ (wide_node latitudes g.latitudes (d % rows g) x.latitudes (mod-lt d r)),
        (
          tenths_six _ (wide_end longitudes g.longitudes.first x.longitudes.first),
          (
            tenths_six _ (wide_end longitudes g.longitudes.last x.longitudes.last),
            (
              tenths_six _ (wide_step longitudes g.longitudes.step x.longitudes.step),
              (tenths_six _ (wide_node heights g.heights (d / rows g) x.heights ((div-lt_iff_lt-mul {x = d} {y = layers g} r).1 l)), tt),
            ),
          ),
        ),
      )

  -- the exponent in force becomes the block's
  exponent_put : (p : Force) (e : ℤ) (w : Left) (rs : List (List ℕ)) → Loose w → Exponent e → Wrote h (under e p) w rs → Wrote h p w (exponent_rows p.exponent e ++ rs)
  exponent_put p e w rs l u y =
      pick_elim (λ (q : List (List ℕ)). Wrote h p w (q ++ rs)) (int? p.exponent e)
      (λ q. rw (← q) at y)
      (λ _. let r : Roomy (layout exponent) (e, tt) = (exponent_room e u, tt) in
      (w_exponent l (row_is exponent (e, tt) r) u y.0, (row_good exponent (e, tt) known_maps.1 r, y.1)))

  -- ---- a map's blocks, after d others; END may follow whether or not its epoch might still stand
  blocks_put : (k : Kind) (i : ℕ) (ms : Maps) (rest : List (List ℕ)) (bs : List Block) (p : Force) (b : Bool) (d : ℕ)
      → d + length bs ≡ per_map h → All (BlockRules (columns h.grid)) bs
      → ((b : Bool) → Wrote h (under (in_force p.exponent bs) p) (blocks b k i [] ms) rest)
      → Wrote h p (blocks b k i bs ms) (block_rows h d p.exponent bs rest)
  unfolding block_rows
  blocks_put k i ms rest [] p b d c a w = w b
  blocks_put k i ms rest (y ∷ bs) p b d c a w =
      let e : ℤ = y.exponent in
      let r = a.0 in
      let n : 1 ≤ length y.values = omega (arith, r.width) in
      let v = values_good (length y.values) y.values n (omega arith) (fives y.values r.values) in
      let q : per_map h - suc (length bs) ≡ d = omega arith in
      let o = opening_room d (omega arith) in
      let t = blocks_put k i ms rest bs (under e p) false (suc d) (omega arith) a.1 w in
      exponent_put p e (blocks b k i (y ∷ bs) ms) _ tt r.exponent (
        w_block (opening h d) (row_is block (opening h d) o) (rw q (opening_opens d)) r.width v.0 t.0,
        (row_good block (opening h d) known_maps.3 o, all_rows (value_rows (length y.values) y.values) _ v.1 t.1),
      )
    where
      all_rows : (vs rs : List (List ℕ)) → All GoodRow vs → All GoodRow rs → All GoodRow (vs ++ rs)
      all_rows vs rs f g = all_append GoodRow vs rs f g

  -- ---- RMS or height maps
  pub others_put : (k : Kind) → Other k → (rest : ℤ → List (List ℕ)) (ms : Maps) (xs : List OtherMap) (p : Force)
      → length p.epochs ≡ h.times.maps → h.times.maps ≤ 300 → Rising h.times.maps (per_map h) (columns h.grid) (last_of k p) xs
      → ((q : Force) → Kept k p q → Wrote h q (maps ms) (rest q.exponent))
      → Wrote h p (maps (with_others k xs ms)) (other_rows k h p.exponent xs rest)
  unfolding other_rows
  others_put k o rest ms [] p c n r w = w p (kept_same k p)
  others_put k o rest ms (y ∷ xs) p c n r w =
      let i : ℕ = y.of in
      let v : Vals (layout (start k)) = (pos i, tt) in
      let b : Roomy (layout (start k)) v = (six_digits i (omega (arith, r.1)), tt) in
      let f : Force = with_last k i p in
      let e : ℤ = in_force p.exponent y.blocks in
      let g : Force = under e f in
      let z : f.exponent ≡ p.exponent = exponent_kept k i p in
      let l : last_of k g ≡ i = last_under k e f ∙ last_set k o i p in
      let es : g.epochs ≡ p.epochs = epochs_kept k i p in
      let t = others_put k o rest ms xs g (ap length es ∙ c) n (rw (← l) at r.3) (λ q s. w q (kept_on k i e p q s)) in
      let end_row : List (List ℕ) = row_of (end k) v ∷ other_rows k h e xs rest in
      let closes : (b : Bool) → Wrote h g (blocks b k i [] (with_others k xs ms)) end_row =
      λ b'. (w_close (row_is (end k) v b) t.0, (row_good (end k) v (known_maps.6 k) b, t.1)) in
      let u = blocks_put k i (with_others k xs ms) end_row y.blocks f true 0 (omega (arith, r.2.count)) r.2.blocks (rw z closes) in
      let u' : Wrote h f (blocks true k i y.blocks (with_others k xs ms)) (block_rows h 0 p.exponent y.blocks end_row) = rw z at u in
      (w_other k o (row_is (start k) v b) r.0 (rw c r.1) r.2.count u'.0, (row_good (start k) v (known_maps.5 k) b, u'.1))

-- ---- epochs

onward_below : (h : Header) (es : List ℕ) (e : ℕ) (fs : List ℕ) → Onward h es (e ∷ fs) → e ≤ h.times.last
onward_below h [] e fs o = run_below h.times.interval h.times.last e fs o.1
onward_below h (x ∷ xs) e fs o = run_below h.times.interval h.times.last e fs o.1

run_end : (i last e : ℕ) (fs : List ℕ) → length fs ≡ 0 → Run i last e fs → e ≡ last
run_end i last e [] z r = r
run_end i last e (f ∷ fs) z r = absurd (omega arith)

onward_time : (h : Header) (es : List ℕ) (e : ℕ) (fs : List ℕ) → length es + suc (length fs) ≡ h.times.maps → Onward h es (e ∷ fs) → InTime h es e
onward_time h [] e fs c o = (o.0, λ q. run_end h.times.interval h.times.last e fs (omega arith) o.1)
onward_time h (x ∷ xs) e fs c o = (o.0, λ q. run_end h.times.interval h.times.last e fs (omega arith) o.1)

onward_next : (h : Header) (es : List ℕ) (e : ℕ) (fs : List ℕ) → Onward h es (e ∷ fs) → Onward h (es ++ (e ∷ [])) fs
onward_next h [] e fs o = o.1
onward_next h (x ∷ xs) e fs o =
    let n = length-append xs (e ∷ []) in
    let q : length (xs ++ (e ∷ [])) ≡ length (x ∷ xs) = omega arith in
    rw (q, get_or_last (x ∷ xs) e) o.1

-- ---- TEC maps

abbrev tec_epochs : List TecMap → List ℕ
tec_epochs ts = map (λ t. t.epoch) ts

abbrev pub with_tecs : List TecMap → Maps → Maps
with_tecs [] ms = ms
with_tecs (t ∷ ts) ms = one_tec t (with_tecs ts ms)

length_epochs : (ts : List TecMap) → length (tec_epochs ts) ≡ length ts
length_epochs [] = refl
length_epochs (t ∷ ts) = ap suc (length_epochs ts)

module _ (h : Header) (x : Axes h) (n : h.times.maps ≤ 300) (l : h.times.last < after_2199) where
  pub tecs_put : (rest : ℤ → List (List ℕ)) (ms : Maps) (ts : List TecMap) (p : Force)
      → length p.epochs + length ts ≡ h.times.maps → Onward h p.epochs (tec_epochs ts) → All (λ t. MapRules (per_map h) (columns h.grid) t.blocks) ts
      → ((q : Force) → length q.epochs ≡ h.times.maps → q.rms ≡ p.rms → q.height ≡ p.height → Wrote h q (maps ms) (rest q.exponent))
      → Wrote h p (maps (with_tecs ts ms)) (tec_rows h p.exponent (length p.epochs) ts rest)
  unfolding tec_rows
  tecs_put rest ms [] p c o a w = w p (omega arith) refl refl
  tecs_put rest ms (m ∷ ts) p c o a w =
      let t : ℕ = m.epoch in
      let i : ℕ = suc (length p.epochs) in
      let v : Vals (layout (start Tec)) = (pos i, tt) in
      let b : Roomy (layout (start Tec)) v = (six_digits i (omega arith), tt) in
      let f : Force = with_epoch t p in
      let e : ℤ = in_force p.exponent m.blocks in
      let g : Force = under e f in
      let s : length g.epochs ≡ i = length-append p.epochs (t ∷ []) ∙ omega arith in
      let d = date_is t (omega (arith, onward_below h p.epochs t (tec_epochs ts) o)) in
      let r = date_room (date_of t) t d in
      let y = tecs_put rest ms ts g (omega arith) (onward_next h p.epochs t (tec_epochs ts) o) a.1 w in
      let y' : Wrote h g (maps (with_tecs ts ms)) (tec_rows h e i ts rest) = rw s at y in
      let end_row : List (List ℕ) = row_of (end Tec) v ∷ tec_rows h e i ts rest in
      let u = blocks_put h x Tec i (with_tecs ts ms) end_row m.blocks f false 0 (omega (arith, a.0.count)) a.0.blocks
      (λ b'. (w_close (row_is (end Tec) v b) y'.0, (row_good (end Tec) v (known_maps.6 Tec) b, y'.1))) in
      let q = length_epochs ts in (
        w_tec {p = p} (row_is (start Tec) v b) (omega arith) (w_epoch (six (date_of t)) (row_is epoch (six (date_of t)) r) d (onward_time h p.epochs t (tec_epochs ts) (omega arith) o) a.0.count u.0),
        (row_good (start Tec) v (known_maps.5 Tec) b, (row_good epoch (six (date_of t)) known_maps.2 r, u.1)),
      )
