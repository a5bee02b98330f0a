-- Stations held in order, and rows whose station no row before gave.
use mathlib.Core.Path.{◌≡◌, refl, sym, ap, subst, ◌∙◌}
use mathlib.Core.List.{List, [], ◌∷◌}
use Prim.Native.Nat.{ℕ, zero, suc, ◌+◌, ◌-◌, ◌≤◌, ◌<◌}
use native.Mathlib.Decide.{dec_lt}
use native.Mathlib.Omega.{arith}
use lib.ListN.{length, get_or, take, drop, length-take, length-drop}
use lib.Seq.{get_or-take, get_or-drop, take-take, drop-drop, length-take-le}
use Rattle.kit.specs.Answer.{Answer, ok, refused, All}
use Rattle.kit.proofs.AnswerLaws.{bind_yields, Yields, y_ok, y_no, yields, pick_yes, pick_no}
use Rattle.kit.proofs.ListLaws.{drop_take}
use Rattle.forms.specs.Columns.{columns}
use Rattle.forms.proofs.ColumnLaws.{columns_whole, one_column}
use Rattle.layout.specs.Text.{pad}
use Rattle.layout.specs.Records.{Vals}
use Rattle.reading.specs.declared.Fault.{Fault}
use Rattle.reading.specs.Fields.{unless, blank_to}
use Rattle.biases.specs.Biases.{Biases, SameStation}
use Rattle.biases.specs.Rules.{station_items, Letter, its_g, no_letter, its_r}
use Rattle.biases.specs.Read.{system_of, station_meant, station_of}
use Rattle.biases.proofs.Laws.{system_yields}
use Rattle.biases.specs.declared.Station.{Station}
use Rattle.biases.specs.declared.Place.{Place}
use Rattle.biases.specs.declared.Place.TheVariants.{Outside}
use Rattle.biases.specs.declared.Role.TheVariants.{Skipped, OfSatellite, OfStation}
use Rattle.bias_line.specs.Lines.{pair_after}
use Rattle.bias_line.proofs.LineLaws.{station_is}
use Rattle.bias_scan.specs.Walk.{Going, first, with_satellite, with_station, after_role, after, walked}
use Rattle.bias_scan.proofs.WalkLaws.{walked_on, fewer_rows}
use Rattle.bias_scan.specs.Turns.{from, OnRow, Heard, Unheard}
use Rattle.bias_scan.proofs.TurnLaws.{after_is, station_unheard}
use Rattle.bias_scan.specs.Held.{seed, who, id, Before, Table, Splits, Apart, Inserted, RowGives, New, Good, Clear, Fence, Stood, StoodAt, Plain, Named, Peeks}
use Rattle.bias_scan.specs.declared.Cursor.{Cursor}
use Rattle.bias_scan.specs.declared.Slot.{Slot}
use Rattle.std.specs.Prelude.{Option, Some, None}
use Rattle.std.specs.Cmp.Lexicographic.{slice_cmp}
use Rattle.std.specs.Ordering.{nat_cmp, ordering_reverse}
use Rattle.std.specs.declared.cmp.Ordering.TheVariants.{Less, Equal, Greater}
use Rattle.std.proofs.lemmas.Cmp.{tied_itself, nat_list_cmp_total}

-- ---- in order

pub unlike : (x : List ℕ) → ¬ Before x x
unlike x e = let f = tied_itself nat_list_cmp_total x in let z : Less ≡ Equal = sym e ∙ f in cc

pub beyond : (x y z : List ℕ) → Before x y → Before y z → Before x z
beyond = nat_list_cmp_total.trans

-- the other way round
pub before_of : (x y : List ℕ) → Greater ≡ slice_cmp nat_cmp x y → Before y x
before_of x y e = nat_list_cmp_total.antisymm y x ∙ ap ordering_reverse (sym e)

-- ---- a table

module _ (t l : List ℕ) (z : Table t l) (s : ℕ) where
  pub low_on : (p : ℕ) → p < length l → Before (id t (get_or l p 0)) (id t s) → (i : ℕ) → i < p + 1 → Before (id t (get_or l i 0)) (id t s)
  low_on p h o i b = by (dec_lt i p)
    where
      by : Dec (i < p) → Before (id t (get_or l i 0)) (id t s)
      by (yes k) = beyond (id t (get_or l i 0)) (id t (get_or l p 0)) (id t s) (z.sorted i p k h) o
      by (no k) = let e : p ≡ i = omega arith in subst (λ (j : ℕ). Before (id t (get_or l j 0)) (id t s)) e o

  pub high_on : (p : ℕ) → Before (id t s) (id t (get_or l p 0)) → (i : ℕ) → p ≤ i → i < length l → Before (id t s) (id t (get_or l i 0))
  high_on p o i b h = by (dec_lt p i)
    where
      by : Dec (p < i) → Before (id t s) (id t (get_or l i 0))
      by (yes k) = beyond (id t s) (id t (get_or l p 0)) (id t (get_or l i 0)) o (z.sorted p i k h)
      by (no k) = let e : p ≡ i = omega arith in subst (λ (j : ℕ). Before (id t s) (id t (get_or l j 0))) e o

pub splits_apart : (t l : List ℕ) (s p : ℕ) → Splits t l s p → Apart t l (id t s)
splits_apart t l s p z = record { apart = λ i h. by i h (dec_lt i p) }
  where
    by : (i : ℕ) → i < length l → Dec (i < p) → ¬ (id t (get_or l i 0) ≡ id t s)
    by i h (yes k) e = unlike (id t s) (subst (λ (w : List ℕ). Before w (id t s)) e (z.low i k))
    by i h (no k) e = unlike (id t s) (subst (λ (w : List ℕ). Before (id t s) w) e (z.high i (omega arith) h))

pub table_none : (t : List ℕ) → Table t []
table_none t = record { within = λ i h. absurd (omega arith); sorted = λ i j h k. absurd (omega arith) }

-- one more, at p
record Grown (l k : List ℕ) (p o : ℕ) : Type 0 where
  long : length k ≡ length l + 1
  inside : p ≤ length l
  before : (i : ℕ) → i < p → get_or k i 0 ≡ get_or l i 0
  here : get_or k p 0 ≡ o
  behind : (i : ℕ) → p < i → i ≤ length l → get_or k i 0 ≡ get_or l (i - 1) 0

grown : (l k : List ℕ) (p n o : ℕ) → p ≤ n → n < length l → Inserted l k p n o → Grown (take n l) (take (n + 1) k) p o
grown l k p n o pn nl z =
    let a : length (take n l) ≡ n = length-take-le n l (omega arith) in
    let kl = z.long in
    let b : length (take (n + 1) k) ≡ n + 1 = length-take-le (n + 1) k (omega arith) in
    record {
      long = omega arith;
      inside = omega arith;
      before = λ i h. get_or-take (n + 1) k i 0 (omega arith) ∙ z.before i h ∙ sym (get_or-take n l i 0 (omega arith));
      here = get_or-take (n + 1) k p 0 (omega arith) ∙ z.here;
      behind = λ i h g. get_or-take (n + 1) k i 0 (omega arith) ∙ z.behind i h (omega arith) ∙ sym (get_or-take n l (i - 1) 0 (omega arith));
    }

data Where (p i : ℕ) : Type 0 where
  left : i < p → Where p i
  mid : i ≡ p → Where p i
  right : p < i → Where p i

where? : (p i : ℕ) → Where p i
where? p i = by (dec_lt i p) (dec_lt p i)
  where
    by : Dec (i < p) → Dec (p < i) → Where p i
    by (yes h) k = left h
    by (no h) (yes k) = right k
    by (no h) (no k) = mid (omega arith)

module _ (t l k : List ℕ) (p s : ℕ) (z : Table t l) (y : Splits t l s p) (w : Grown l k p s) where
  grown_within : s + 26 ≤ length t → (i : ℕ) → i < length k → get_or k i 0 + 26 ≤ length t
  grown_within b i h = by (where? p i)
    where
      by : Where p i → get_or k i 0 + 26 ≤ length t
      by (left e) = let v = w.inside in let f = w.before i e in let g = z.within i (omega arith) in omega arith
      by (mid e) = let f = w.here in let g : get_or k i 0 ≡ get_or k p 0 = ap (λ (j : ℕ). get_or k j 0) e in omega arith
      by (right e) = let v = w.long in let f = w.behind i e (omega arith) in let g = z.within (i - 1) (omega arith) in omega arith

  grown_sorted : (i j : ℕ) → i < j → j < length k → Before (id t (get_or k i 0)) (id t (get_or k j 0))
  grown_sorted i j ij h = by (where? p i) (where? p j)
    where
      two : (a b : ℕ) → get_or k i 0 ≡ a → get_or k j 0 ≡ b → Before (id t a) (id t b) → Before (id t (get_or k i 0)) (id t (get_or k j 0))
      two a b e f o = subst (λ (c : ℕ). Before (id t c) (id t (get_or k j 0))) (sym e) (subst (λ (c : ℕ). Before (id t a) (id t c)) (sym f) o)

      by : Where p i → Where p j → Before (id t (get_or k i 0)) (id t (get_or k j 0))
      by (left a) (left b) = let v = w.inside in two _ _ (w.before i a) (w.before j b) (z.sorted i j ij (omega arith))
      by (left a) (mid b) = two _ s (w.before i a) (ap (λ (c : ℕ). get_or k c 0) b ∙ w.here) (y.low i a)
      by (left a) (right b) = let v = w.long in two _ _ (w.before i a) (w.behind j b (omega arith)) (z.sorted i (j - 1) (omega arith) (omega arith))
      by (mid a) (left b) = absurd (omega arith)
      by (mid a) (mid b) = absurd (omega arith)
      by (mid a) (right b) = let v = w.long in two s _ (ap (λ (c : ℕ). get_or k c 0) a ∙ w.here) (w.behind j b (omega arith)) (y.high (j - 1) (omega arith) (omega arith))
      by (right a) (left b) = absurd (omega arith)
      by (right a) (mid b) = absurd (omega arith)
      by (right a) (right b) = let v = w.long in two _ _ (w.behind i a (omega arith)) (w.behind j b (omega arith)) (z.sorted (i - 1) (j - 1) (omega arith) (omega arith))

  grown_table : s + 26 ≤ length t → Table t k
  grown_table b = record { within = grown_within b; sorted = grown_sorted }

  grown_apart : (v : List ℕ) → Apart t k v → Apart t l v
  grown_apart v a = record { apart = λ i h. by i h (dec_lt i p) }
    where
      by : (i : ℕ) → i < length l → Dec (i < p) → ¬ (id t (get_or l i 0) ≡ v)
      by i h (yes e) f = let q = w.long in a.apart i (omega arith) (ap (id t) (w.before i e) ∙ f)
      by i h (no e) f =
          let q = w.long in
          let c : (i + 1) - 1 ≡ i = omega arith in
          a.apart (i + 1) (omega arith) (ap (id t) (w.behind (i + 1) (omega arith) (omega arith) ∙ ap (λ (j : ℕ). get_or l j 0) c) ∙ f)

  grown_here : (v : List ℕ) → Apart t k v → ¬ (id t s ≡ v)
  grown_here v a f = let q = w.long in let r = w.inside in a.apart p (omega arith) (ap (id t) w.here ∙ f)

pub table_more : (t l k : List ℕ) (p n s : ℕ) → n < length l → Table t (take n l) → Splits t (take n l) s p → Inserted l k p n s → s + 26 ≤ length t → Table t (take (n + 1) k)
table_more t l k p n s nl z y w b =
    let a : length (take n l) ≡ n = length-take-le n l (omega arith) in
    let i = y.inside in
    grown_table t (take n l) (take (n + 1) k) p s z y (grown l k p n s (omega arith) nl w) b

-- ---- a letter's system

pub seed_r : (b : ℕ) → b ≡ 82 → 82 ≡ seed b
unfolding seed
seed_r b e = sym (pick_yes _ 82 71 e)

pub seed_g : (b : ℕ) → ¬ (b ≡ 82) → 71 ≡ seed b
unfolding seed
seed_g b n = sym (pick_no _ 82 71 n)

letter_seed : {s b : ℕ} {l : List ℕ} → Letter s l → l ≡ b ∷ [] → seed b ≡ s
letter_seed {b = b} its_g e = sym (seed_g b (λ f. let k : 71 ≡ b = cc in omega arith))
letter_seed {b = b} no_letter e = sym (seed_g b (λ f. let k : 32 ≡ b = cc in omega arith))
letter_seed {b = b} its_r e = sym (seed_r b (let k : 82 ≡ b = cc in sym k))

-- ---- a station's record has its station's sum

unless_yields : {Q : Station → Type 0} (h : Option ℕ) (x : Answer Fault Station) → Yields Q x → Yields Q (unless h x)
unless_yields (Some c) x y = y_no
unless_yields None x y = y

abbrev Tells : List ℕ → List ℕ → Station → Type 0
Tells l n s = Letter s.system l × (s.name ≡ n)

meant_tells : (v : Vals station_items) → Yields (Tells v.0 v.1.0) (station_meant v)
unfolding station_meant
meant_tells v = bind_yields (system_of v.0) (λ s f. y_ok (yields _ (system_yields v.0) f, refl))

column : (line : List ℕ) (i : ℕ) → i < length line → get_or line i 32 ≡ get_or line i 0
column [] i h = absurd (omega arith)
column (b ∷ l) zero h = refl
column (b ∷ l) (suc i) h = column l i (omega arith)

module _ (line : List ℕ) (fits : length line ≤ 80) (long : 26 ≤ length line) where
  tells : Yields (Tells (columns line 3 1) (columns line 6 20)) (station_of (pad line))
  tells = rw (station_is line fits) (unless_yields (blank_to line 0 3) _ (unless_yields (blank_to line 4 6) _ (bind_yields (pair_after line 26) (λ p e. meant_tells (columns line 3 1, (columns line 6 20, (p.0, (p.1, tt))))))))

  station_who : (y : Station) → station_of (pad line) ≡ ok y → seed (get_or line 3 0) ∷ take 20 (drop 6 line) ≡ who y
  station_who y e =
      let z = yields _ tells e in
      let a : seed (get_or line 3 0) ≡ y.system = letter_seed z.0 (one_column line 3 ∙ ap (λ (b : ℕ). b ∷ []) (column line 3 (omega arith))) in
      let b : take 20 (drop 6 line) ≡ y.name = sym (columns_whole line 6 20 (omega arith)) ∙ sym z.1 in
      λ i. a i ∷ b i

-- the same, where the line stands in a text
pub line_who : (t : List ℕ) (s e : ℕ) → s ≤ e → e ≤ length t → e - s ≤ 80 → 26 ≤ e - s → (y : Station) → station_of (pad (take (e - s) (drop s t))) ≡ ok y → id t s ≡ who y
line_who t s e h w f g y q =
    let n : length (take (e - s) (drop s t)) ≡ e - s = simp (length-take, length-drop) (omega arith) in
    let a : get_or (take (e - s) (drop s t)) 3 0 ≡ get_or t (s + 3) 0 = get_or-take (e - s) (drop s t) 3 0 (omega arith) ∙ get_or-drop s t 3 0 in
    let b : take 20 (drop 6 (take (e - s) (drop s t))) ≡ take 20 (drop (s + 6) t) =
    ap (take 20) (drop_take 6 (e - s) (drop s t)) ∙ take-take 20 (e - s - 6) (drop 6 (drop s t)) (omega arith) ∙ ap (take 20) (drop-drop 6 s t) in
    (λ i. seed (sym a i) ∷ sym b i) ∙ station_who (take (e - s) (drop s t)) (omega arith) (omega arith) y q

same_who : (x y : Station) → SameStation x y → who x ≡ who y
same_who x y e = λ i. e.0 i ∷ e.1 i

-- ---- rows

longer : (y : Station) (l : List Station) → l ≡ y ∷ l → ⊥
longer y l e = let k : length l ≡ length (y ∷ l) = ap length e in omega arith

said_is : (y : Station) (g : Biases) (a : Answer Fault Station) → (with_station a g).stations ≡ y ∷ g.stations → a ≡ ok y
unfolding with_station
said_is y g (ok x) e = let k : x ≡ y = cc in ap ok k
said_is y g (refused w) e = absurd (longer y g.stations e)

module _ (t : List ℕ) (j at n : ℕ) (p : Place) (z : Stood t j at n p) where
  abbrev g : Biases
  g = (walked j (first t)).given

  one_on : walked (j + 1) (first t) ≡ after p g (from t at n)
  one_on = walked_on j (first t) p (from t at n) z.place z.rest

  pub stood_plain : (q : Place) (next m : ℕ) → Plain t at n p q next m → Stood t (j + 1) next m q
  stood_plain q next m o =
      record {
        within = o.within;
        lines = o.passed;
        place = ap (λ (w : Going). w.place) one_on ∙ o.place g;
        rest = ap (λ (w : Going). w.rest) one_on ∙ o.rest g;
      }

  pub stood_named : (q : Place) (next m h : ℕ) → Named t at n p q next m h → Stood t (j + 1) next m q
  stood_named q next m h o =
      record {
        within = o.within;
        lines = o.passed;
        place = ap (λ (w : Going). w.place) one_on ∙ o.place g;
        rest = ap (λ (w : Going). w.rest) one_on ∙ o.rest g;
      }

  plain_stations : (q : Place) (next m : ℕ) → Plain t at n p q next m → (walked (j + 1) (first t)).given.stations ≡ g.stations
  plain_stations q next m o = ap (λ (w : Going). w.given.stations) one_on ∙ o.same g

  pub plain_new : (q : Place) (next m : ℕ) → Plain t at n p q next m → New t j
  plain_new q next m o = record { new = λ y e. absurd (longer y g.stations (sym (plain_stations q next m o) ∙ e)) }

  pub fence_plain : (q : Place) (next m : ℕ) → Plain t at n p q next m → (l : ℕ) (s : List ℕ) → Fence t j l s → Fence t (j + 1) l s
  fence_plain q next m o l s f =
      record {
        new = λ i a b y e h. subst (λ (k : List Station). All (λ x. ¬ SameStation y x) k) (sym (plain_stations q next m o)) (f.new i (omega arith) b y e h);
      }

  named_given : (q : Place) (next m h : ℕ) (o : Named t at n p q next m h) → (walked (j + 1) (first t)).given ≡ with_station o.said g
  named_given q next m h o = ap (λ (w : Going). w.given) one_on ∙ o.given g

  named_who : (q : Place) (next m o : ℕ) → Named t at n p q next m o → (y : Station) → RowGives t j y → id t o ≡ who y
  named_who q next m o z y e = z.whose y (said_is y g z.said (ap (λ (b : Biases). b.stations) (sym (named_given q next m o z)) ∙ e))

  unheard_by : (o : ℕ) (y : Station) → ¬ (id t o ≡ who y) → (a : Answer Fault Station) → ((x : Station) → a ≡ ok x → id t o ≡ who x) → ¬ Heard y a
  unheard_by o y d (ok x) s e = d (s x refl ∙ sym (same_who y x e))
  unheard_by o y d (refused w) s e = e

  pub fence_named : (pl : Place) (next m o : ℕ) → Named t at n p pl next m o → (lim : ℕ) (l k : List ℕ) (q c : ℕ) → c < length l → Table t (take c l) → Splits t (take c l) o q → Inserted l k q c o
      → Fence t j lim (take c l) → Fence t (j + 1) lim (take (c + 1) k)
  fence_named pl next m o z lim l k q c cl tb sp ins f =
      let a : length (take c l) ≡ c = length-take-le c l (omega arith) in
      let si = sp.inside in
      let w = grown l k q c o (omega arith) cl ins in
      record {
        new = λ i a b y e v.
            subst (λ (k : Biases). Unheard y k) (sym (named_given pl next m o z))
            (station_unheard y z.said g (unheard_by o y (grown_here t (take c l) (take (c + 1) k) q o tb sp w (who y) v) z.said z.whose) (f.new i (omega arith) b y e (grown_apart t (take c l) (take (c + 1) k) q o tb sp w (who y) v)));
      }

  pub named_new : (pl : Place) (next m o : ℕ) → Named t at n p pl next m o → (b l : ℕ) (s : List ℕ) (q : ℕ) → Fence t b l s → b ≤ j → j < l → Splits t s o q
      → (k : ℕ) → k ≤ j → k ≤ b → (y : Station) → RowGives t j y → Unheard y (walked k (first t)).given
  named_new pl next m o z b l s q f bj jl sp k kj kb y e =
      fewer_rows y k (first t) b kb (f.new j bj jl y e (subst (λ (v : List ℕ). Apart t s v) (named_who pl next m o z y e) (splits_apart t s o q sp)))

-- ---- what a row is

module _ (t : List ℕ) (at n : ℕ) (p : Place) (r : List ℕ) (next m : ℕ) where
  pub skip_plain : (q : Place) → OnRow t at n p r next m (Skipped q) → Plain t at n p q next m
  unfolding after_role
  skip_plain q z =
      let e = after_is t at n p r next m (Skipped q) z in
      record {
        ahead = z.ahead;
        within = z.within;
        passed = z.passed;
        place = λ g. ap (λ (w : Going). w.place) (e g);
        rest = λ g. ap (λ (w : Going). w.rest) (e g);
        same = λ g. ap (λ (w : Going). w.given.stations) (e g);
      }

  satellite_same : (a : Answer Fault _) (g : Biases) → (with_satellite a g).stations ≡ g.stations
  unfolding with_satellite
  satellite_same (ok s) g = refl
  satellite_same (refused w) g = refl

  pub satellite_plain : OnRow t at n p r next m OfSatellite → Plain t at n p p next m
  unfolding after_role
  satellite_plain z =
      let e = after_is t at n p r next m OfSatellite z in
      record {
        ahead = z.ahead;
        within = z.within;
        passed = z.passed;
        place = λ g. ap (λ (w : Going). w.place) (e g);
        rest = λ g. ap (λ (w : Going). w.rest) (e g);
        same = λ g. ap (λ (w : Going). w.given.stations) (e g) ∙ satellite_same _ g;
      }

  pub station_named : OnRow t at n p r next m OfStation → (o : ℕ) → ((y : Station) → station_of r ≡ ok y → id t o ≡ who y) → o + 26 ≤ length t → Named t at n p p next m o
  unfolding after_role
  station_named z h s w =
      let e = after_is t at n p r next m OfStation z in
      record {
        ahead = z.ahead;
        within = z.within;
        passed = z.passed;
        place = λ g. ap (λ (w : Going). w.place) (e g);
        rest = λ g. ap (λ (w : Going). w.rest) (e g);
        said = station_of r;
        given = λ g. ap (λ (w : Going). w.given) (e g);
        whose = s;
        whole = w;
      }

-- ---- from row to row

module _ (t : List ℕ) where
  pub stood_first : Stood t 0 0 0 Outside
  unfolding walked
  stood_first = record { within = omega arith; lines = omega arith; place = refl; rest = refl }

  pub clear_none : (l : ℕ) → Clear t 0 l
  unfolding walked
  clear_none l = record { new = λ j k a b c y e. by k c y }
    where
      by : (k : ℕ) → k ≤ 0 → (y : Station) → Unheard y (walked k (first t)).given
      by zero c y = tt
      by (suc k) c y = absurd (omega arith)

  pub good_on : (j : ℕ) → Good t j → New t j → Good t (j + 1)
  good_on j z w = record { new = λ i h. by i h (dec_lt i j) }
    where
      by : (i : ℕ) → i < j + 1 → Dec (i < j) → New t i
      by i h (yes b) = z.new i b
      by i h (no b) = let e : j ≡ i = omega arith in subst (λ (k : ℕ). New t k) e w

  pub clear_on : (b j : ℕ) → Clear t b j → ((k : ℕ) → k ≤ j → k ≤ b → (y : Station) → RowGives t j y → Unheard y (walked k (first t)).given) → Clear t b (j + 1)
  clear_on b j z w = record { new = λ i k a c d. by i k a c d (dec_lt i j) }
    where
      by : (i k : ℕ) → i < j + 1 → k ≤ i → k ≤ b → Dec (i < j) → (y : Station) → RowGives t i y → Unheard y (walked k (first t)).given
      by i k a c d (yes h) = z.new i k h c d
      by i k a c d (no h) = let e : j ≡ i = omega arith in subst (λ (v : ℕ). (y : Station) → RowGives t v y → Unheard y (walked k (first t)).given) e (w k (omega arith) d)

  pub good_clear : (b : ℕ) → Good t b → Clear t b b
  good_clear b z = record { new = λ j k a c d y e. fewer_rows y k (first t) j c ((z.new j a).new y e) }

  pub clear_good : (b l : ℕ) → b ≤ l → Clear t b l → Good t b
  clear_good b l h z = record { new = λ j a. record { new = λ y e. z.new j j (omega arith) (omega arith) (omega arith) y e } }

  pub new_before : (j : ℕ) → New t j → (b : ℕ) → (k : ℕ) → k ≤ j → k ≤ b → (y : Station) → RowGives t j y → Unheard y (walked k (first t)).given
  new_before j z b k a c y e = fewer_rows y k (first t) j a (z.new y e)

  pub fence_none : (b l : ℕ) → Clear t b l → Fence t b l []
  fence_none b l z = record { new = λ j a h y e w. z.new j b h a (omega arith) y e }

-- ---- a row that was passed

module _ (t : List ℕ) (j at n : ℕ) (p : Place) (z : Stood t j at n p) (l : List ℕ) (q : Cursor) where
  pub peeked_stood : (s : Option Slot) → Peeks t at n p l q s → StoodAt t (j + 1) q
  peeked_stood None o = stood_plain t j at n p z q.place q.at q.lines o
  peeked_stood (Some s) o = stood_named t j at n p z q.place q.at q.lines s.start o.0

  pub peeked_new : (lim : ℕ) → Fence t j lim l → j < lim → (s : Option Slot) → Peeks t at n p l q s → New t j
  peeked_new lim f h None o = plain_new t j at n p z q.place q.at q.lines o
  peeked_new lim f h (Some s) o = record { new = named_new t j at n p z q.place q.at q.lines s.start o.0 j lim l s.index f (omega arith) h o.1 j (omega arith) (omega arith) }

  pub peeked_clear : (b lim : ℕ) → Fence t b lim l → b ≤ j → j < lim → Clear t b j → (s : Option Slot) → Peeks t at n p l q s → Clear t b (j + 1)
  peeked_clear b lim f h g c None o = clear_on t b j c (new_before t j (plain_new t j at n p z q.place q.at q.lines o) b)
  peeked_clear b lim f h g c (Some s) o = clear_on t b j c (named_new t j at n p z q.place q.at q.lines s.start o.0 b lim l s.index f h g o.1)
