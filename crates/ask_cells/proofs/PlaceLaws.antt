-- A place falls into one cell at most.
use mathlib.Core.Path.{◌≡◌, refl, sym, ap, ◌∙◌}
use mathlib.Core.Bool.{true, false}
use mathlib.Core.Logic.{⊎_elim}
use Prim.Native.Nat.{ℕ, ◌+◌, ◌*◌, ◌/◌, ◌≤◌, ◌<◌}
use native.Mathlib.Nat.{mul-le-mul_left, lt_of_not-le, mod-lt, div-add-mod}
use native.Mathlib.Decide.{ℕ_discrete, dec_le}
use native.Mathlib.Omega.{arith}
use lib.IntN.{ℤ, pos, negsuc, neg_ℤ, nat_abs, ◌+ℤ◌, ◌-ℤ◌, ◌*ℤ◌}
use lib.Signed.{lt_z}
use Rattle.std.specs.Int.{int_rem_euclid}
use Rattle.kit.specs.Integer.{up, dn}
use Rattle.kit.proofs.Parts.{add_parts, sub_parts2, scale_up, scale_dn, eq_parts, abs_parts, one_zero, neg_up, neg_dn, lt_true, not_below_zero}
use Rattle.kit.proofs.AnswerLaws.{pick_yes, pick_no}
use Rattle.kit.specs.Truth.{truth}
use Rattle.mapset.specs.Grid.{nodes}
use Rattle.mapset.specs.declared.Axis.{Axis}
use Rattle.mapset.specs.declared.Grid.{Grid}
use Rattle.ask_cells.specs.Place.{Sits, along, InRow, Turned, Strip, RightOf, first, next, InColumn, InCell}
use Rattle.ask_cells.specs.Found.{strip?, after, Located, RowFound, ColumnFound}
use Rattle.ask_cells.specs.declared.Cell.{Cell}
use Rattle.ask_cells.specs.declared.Spot.{Spot}
use Rattle.std.specs.Prelude.{Option, Some, None}

pub along_up : (d : ℤ) (k : ℕ) → lt_z d (pos 0) ≡ false → along d k ≡ pos k
along_up (pos a) k e = refl
along_up (negsuc a) k e = absurd (omega (arith, not_below_zero (negsuc a) e))

pub along_down : (d : ℤ) (k : ℕ) → lt_z d (pos 0) ≡ true → along d k ≡ neg_ℤ (pos k)
along_down (pos a) k e = absurd (omega (arith, lt_true (pos a) (pos 0) e))
along_down (negsuc a) k e = refl

pub along_zero : (d : ℤ) → along d 0 ≡ pos 0
along_zero (pos a) = refl
along_zero (negsuc a) = refl

along_size : (d : ℤ) (k : ℕ) → nat_abs (along d k) ≡ k
along_size (pos a) k = refl
along_size (negsuc a) k = omega (arith, abs_parts (neg_ℤ (pos k)), neg_up (pos k), neg_dn (pos k))

along_once : (p d : ℤ) (k l : ℕ) → p ≡ along d k → p ≡ along d l → k ≡ l
along_once p d k l e f = sym (along_size d k) ∙ ap nat_abs (sym e ∙ f) ∙ along_size d l

-- an offset is no larger than its two numbers allow
pub offset_size : (unit : ℕ) (p o : ℤ) → nat_abs (p -ℤ (pos unit *ℤ o)) ≤ nat_abs p + unit * nat_abs o
offset_size unit p o =
    let z : ℤ = p -ℤ (pos unit *ℤ o) in
    let a = sub_parts2 p (pos unit *ℤ o) in
    let b = scale_up unit o in
    let c = scale_dn unit o in
    let e = abs_parts z in
    let f = abs_parts p in
    let g : unit * nat_abs o ≡ unit * up o + unit * dn o = ap (λ (k : ℕ). unit * k) (abs_parts o) ∙ omega arith in
    ⊎_elim (λ o. omega arith) (λ o. omega arith) (one_zero z)

-- ---- what is located is found
pub row_found : (a : Axis) (lat : ℤ) (x : ℕ) (s : Option Spot) → lat -ℤ (pos 10 *ℤ a.first) ≡ along a.step x → Located false x (10 * nat_abs a.step) (nodes a) s → RowFound a lat s
unfolding after
row_found a lat x (Some s) e g = record { far = x; from_first = e; sits = rw g.1 at g.0 }
row_found a lat x None e g = λ i f r. g i f (rw (along_once _ a.step x r.far e r.from_first) r.sits)

-- ---- no second answer fits
module _ (step n x i k f j l g : ℕ) (a : Sits step n x i k f) (b : Sits step n x j l g) where
  not_below : i < j → ⊥
  not_below h = omega (arith, mul-le-mul_left step h, a.place, b.place, a.less)

sits_once : (step n x i k f j l g : ℕ) → Sits step n x i k f → Sits step n x j l g → (i ≡ j) × (f ≡ g)
sits_once step n x i k f j l g a b = by (dec_le i j) (dec_le j i)
  where
    by : Dec (i ≤ j) → Dec (j ≤ i) → (i ≡ j) × (f ≡ g)
    by (yes p) (yes q) = let e : i ≡ j = omega arith in (e, omega (arith, a.place, b.place, ap (λ (k : ℕ). step * k) e))
    by (yes p) (no q) = absurd (not_below step n x i k f j l g a b (lt_of_not-le q))
    by (no p) (yes q) = absurd (not_below step n x j l g i k f b a (lt_of_not-le p))
    by (no p) (no q) = absurd (omega arith)

pub turned_once : (turn : ℕ) (x : ℤ) (r s : ℕ) → Turned turn x r → Turned turn x s → r ≡ s
turned_once turn x r s a b =
    let k = a.turns in
    let l = b.turns in
    let p : up x + turn * dn k ≡ dn x + (r + turn * up k) = rw a.whole (omega (arith, add_parts (pos r) (pos turn *ℤ k), scale_up turn k, scale_dn turn k)) in
    let q : up x + turn * dn l ≡ dn x + (s + turn * up l) = rw b.whole (omega (arith, add_parts (pos s) (pos turn *ℤ l), scale_up turn l, scale_dn turn l)) in
    by (dec_le (up k + dn l) (up l + dn k)) (dec_le (up l + dn k) (up k + dn l)) (omega arith)
  where
    by : Dec (up a.turns + dn b.turns ≤ up b.turns + dn a.turns) → Dec (up b.turns + dn a.turns ≤ up a.turns + dn b.turns) →
        r + (turn * up a.turns + turn * dn b.turns) ≡ s + (turn * up b.turns + turn * dn a.turns) → r ≡ s
    by (yes f) (yes g) e = omega (arith, mul-le-mul_left turn f, mul-le-mul_left turn g)
    by (yes f) (no g) e = absurd (omega (arith, mul-le-mul_left turn (lt_of_not-le g), a.below))
    by (no f) (yes g) e = absurd (omega (arith, mul-le-mul_left turn (lt_of_not-le f), b.below))
    by (no f) (no g) e = absurd (omega arith)

-- a number of turns, in parts
pub turned_by : (turn : ℕ) (x : ℤ) (r : ℕ) (k : ℤ) → r < turn → up x + turn * dn k ≡ dn x + (r + turn * up k) → Turned turn x r
turned_by turn x r k h e = record { below = h; turns = k; whole = eq_parts x (pos r +ℤ (pos turn *ℤ k)) (omega (arith, add_parts (pos r) (pos turn *ℤ k), scale_up turn k, scale_dn turn k)) }

-- the remainder that is not below 0
pub euclid : (turn : ℕ) (x : ℤ) → 0 < turn → Turned turn x (nat_abs (int_rem_euclid x (pos turn)))
euclid turn (pos a) h = turned_by turn (pos a) _ (pos (a / turn)) (mod-lt a h) (omega (arith, div-add-mod a turn))
euclid turn (negsuc a) h = turned_by turn (negsuc a) _ (negsuc (a / turn)) (omega (arith, mod-lt a h)) (omega (arith, div-add-mod a turn, mod-lt a h))

-- every number can be brought there
pub turned_some : (x : ℤ) (m : ℕ) → 0 < m → (r : ℕ) × Turned m x r
turned_some x m h = (nat_abs (int_rem_euclid x (pos m)), euclid m x h)

-- ---- the column to the right
right_once : (a : Axis) (i : ℕ) {r s : ℕ} → RightOf a i r → RightOf a i s → r ≡ s
right_once a i (first p e) (first q f) = refl
right_once a i (first p e) (next n) = absurd (n (p, e))
right_once a i (next n) (first q f) = absurd (n (q, f))
right_once a i (next n) (next m) = refl

pub is_right : (a : Axis) (i : ℕ) → RightOf a i (after (truth (strip? a)) (nodes a) i)
unfolding truth after
is_right a i = by (strip? a) (ℕ_discrete (i + 1) (nodes a))
  where
    by : (d : Dec (Strip a)) (e : Dec (i + 1 ≡ nodes a)) → RightOf a i (after (truth d) (nodes a) i)
    by (yes p) (yes e) = rw (pick_yes (ℕ_discrete (i + 1) (nodes a)) 0 (i + 1) e) (first p e)
    by (yes p) (no n) = rw (pick_no (ℕ_discrete (i + 1) (nodes a)) 0 (i + 1) n) (next (λ h. n h.1))
    by (no n) e = next (λ h. n h.0)

pub column_found : (unit : ℕ) (a : Axis) (lon : ℤ) (x : ℕ) (s : Option Spot) → Turned (unit * 3600) (lon -ℤ (pos unit *ℤ a.first)) x → Located (truth (strip? a)) x (unit * nat_abs a.step) (nodes a) s → ColumnFound unit a lon s
column_found unit a lon x (Some s) e g = record { east = x; from_first = e; right = rw g.1 (is_right a s.node); sits = g.0 }
column_found unit a lon x None e g =
    λ i r f c.
    let t = turned_once (unit * 3600) _ x c.east e c.from_first in
    g i f (rw (t, right_once a i (is_right a i) c.right) c.sits)

row_once : (a : Axis) (lat : ℤ) (i f j g : ℕ) → InRow a lat i f → InRow a lat j g → (i ≡ j) × (f ≡ g)
row_once a lat i f j g p q =
    sits_once (10 * nat_abs a.step) (nodes a) q.far i (i + 1) f j (j + 1) g (rw (along_once (lat -ℤ (pos 10 *ℤ a.first)) a.step p.far q.far p.from_first q.from_first) at p.sits) q.sits

column_once : (unit : ℕ) (a : Axis) (lon : ℤ) (i r f j s g : ℕ) → InColumn unit a lon i r f → InColumn unit a lon j s g → (i ≡ j) × (r ≡ s) × (f ≡ g)
column_once unit a lon i r f j s g p q =
    let o = sits_once (unit * nat_abs a.step) (nodes a) q.east i r f j s g (rw (turned_once (unit * 3600) (lon -ℤ (pos unit *ℤ a.first)) p.east q.east p.from_first q.from_first) at p.sits) q.sits in
    (o.0, right_once a j (rw o.0 at p.right) q.right, o.1)

pub cell_once : (unit : ℕ) (g : Grid) (lat lon : ℤ) (c d : Cell) → InCell unit g lat lon c → InCell unit g lat lon d → c ≡ d
cell_once unit g lat lon c d p q =
    let r = row_once g.latitudes lat c.row c.down d.row d.down p.row q.row in
    let k = column_once unit g.longitudes lon c.column c.right c.across d.column d.right d.across p.column q.column in
    let t : c.tall ≡ d.tall = p.tall ∙ sym q.tall in
    let w : c.wide ≡ d.wide = p.wide ∙ sym q.wide in
    λ i. record { row = r.0 i; down = r.1 i; tall = t i; column = k.0 i; right = k.1 i; across = k.2 i; wide = w i }
