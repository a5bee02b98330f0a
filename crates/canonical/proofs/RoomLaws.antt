-- What a map set may say has room in its fields.
use mathlib.Core.Path.{◌≡◌, ap, ◌∙◌}
use mathlib.Core.Logic.{⊎_elim}
use Prim.Native.Nat.{ℕ, ◌+◌, ◌*◌, ◌/◌, ◌≤◌, ◌<◌}
use native.Mathlib.Omega.{arith}
use native.Mathlib.Nat.{mul-le-mul_right, div-mul-le_self}
use lib.IntN.{ℤ, pos, negsuc, nat_abs, ◌-ℤ◌, ◌*ℤ◌}
use lib.Signed.{lt_z, ◌<ℤ◌}
use lib.Dec.{leb→le}
use Rattle.kit.specs.Integer.{Between, up, dn}
use Rattle.kit.proofs.Parts.{add_parts, scale_up, scale_dn, sub_parts2, parts_le, le_parts, lt_true, abs_parts, one_zero}
use Rattle.kit.proofs.TruthLaws.{is_true}
use Rattle.forms.specs.Form as form
use Rattle.forms.specs.Show.{FieldRoom}
use Rattle.mapset.specs.declared.Axis.{Axis}
use Rattle.mapset.specs.Grid.{Line, heights, latitudes, longitudes, End, Step, AxisRules, nodes}
use Rattle.layout.specs.Layout.{node}
use Rattle.canonical.specs.Canon.{Wide}

-- an integer from -low to high has room where both ends have
room : (fm : form.Form) (w : ℕ) (low high : ℕ) (z : ℤ) → Between (negsuc low) (pos high) z
    → ((n : ℕ) → n ≤ high → FieldRoom fm w (pos n)) → ((n : ℕ) → n ≤ low → FieldRoom fm w (negsuc n)) → FieldRoom fm w z
room fm w low high (pos n) b f g = f n (leb→le n high b.to.le)
room fm w low high (negsuc n) b f g = g n (leb→le n low b.from.le)

pub five : (z : ℤ) → Between (negsuc 9998) (pos 99999) z → FieldRoom form.I 5 z
five z b = room form.I 5 9998 99999 z b (λ n h. (omega arith, omega arith)) (λ n h. (omega arith, omega arith))

pub six_digits : (n : ℕ) → n ≤ 999999 → FieldRoom form.I 6 (pos n)
six_digits n h = (omega arith, omega arith)

pub tenths_eight : (n : ℕ) → n ≤ 999999 → FieldRoom form.W1 8 (pos n)
tenths_eight n h = (omega arith, omega arith)

pub exponent_room : (e : ℤ) → Between (negsuc 2) (pos 0) e → FieldRoom form.I 6 e
exponent_room e b = room form.I 6 2 0 e b (λ n h. (omega arith, omega arith)) (λ n h. (omega arith, omega arith))

-- tenths of a degree or of a kilometre in six columns
pub tenths_six : (z : ℤ) → Between (negsuc 8999) (pos 99999) z → FieldRoom form.W1 6 z
tenths_six z b = room form.W1 6 8999 99999 z b (λ n h. (omega arith, omega arith)) (λ n h. (omega arith, omega arith))

-- ---- the nodes of an axis lie between its ends

-- x ≤ y, by parts
abbrev Below : ℤ → ℤ → Type 0
Below x y = up x + dn y ≤ up y + dn x

module _ (a : Axis) (i : ℕ) (h : i < nodes a) where
  reach : i * nat_abs a.step ≤ nat_abs (a.last -ℤ a.first)
  reach =
      let s : ℕ = nat_abs a.step in
      let d : ℕ = nat_abs (a.last -ℤ a.first) in
      let p : i * s ≤ d / s * s = mul-le-mul_right s (omega arith) in
      omega (arith, div-mul-le_self d s)

  -- i steps, in parts
  way : (up (pos i *ℤ a.step) ≡ i * up a.step) × (dn (pos i *ℤ a.step) ≡ i * dn a.step)
  way = (scale_up i a.step, scale_dn i a.step)

  rising : dn a.step ≡ 0 → Below a.first a.last → Below a.first (node a i) × Below (node a i) a.last
  rising z b =
      let t : ℤ = pos i *ℤ a.step in
      let n = add_parts a.first t in
      let e : dn t ≡ 0 = way.1 ∙ ap (λ k. i * k) z ∙ omega arith in
      let s : nat_abs a.step ≡ up a.step = omega (arith, abs_parts a.step) in
      let r : up t ≤ nat_abs (a.last -ℤ a.first) = omega (arith, way.0, ap (λ k. i * k) s, reach) in
      let d = sub_parts2 a.last a.first in
      let x = abs_parts (a.last -ℤ a.first) in
      ⊎_elim (λ o. (omega arith, omega arith)) (λ o. (omega arith, omega arith)) (one_zero (a.last -ℤ a.first))

  falling : up a.step ≡ 0 → Below a.last a.first → Below a.last (node a i) × Below (node a i) a.first
  falling z b =
      let t : ℤ = pos i *ℤ a.step in
      let n = add_parts a.first t in
      let e : up t ≡ 0 = way.0 ∙ ap (λ k. i * k) z ∙ omega arith in
      let s : nat_abs a.step ≡ dn a.step = omega (arith, abs_parts a.step) in
      let r : dn t ≤ nat_abs (a.last -ℤ a.first) = omega (arith, way.1, ap (λ k. i * k) s, reach) in
      let d = sub_parts2 a.last a.first in
      let x = abs_parts (a.last -ℤ a.first) in
      ⊎_elim (λ o. (omega arith, omega arith)) (λ o. (omega arith, omega arith)) (one_zero (a.last -ℤ a.first))

wider : (low high : ℤ) (x : ℤ) → Below (negsuc 8999) low → Below high (pos 99999) → Between low high x → Wide x
wider low high x p q b =
    record {
      from = le_parts (negsuc 8999) x (omega (arith, parts_le low x b.from));
      to = le_parts x (pos 99999) (omega (arith, parts_le x high b.to));
    }

pub wide_end : (l : Line) (x : ℤ) → End l x → Wide x
wide_end heights x e = wider (pos 0) (pos 99999) x (omega arith) (omega arith) e
wide_end latitudes x e = wider (negsuc 899) (pos 900) x (omega arith) (omega arith) e
wide_end longitudes x e = wider (negsuc 1799) (pos 3600) x (omega arith) (omega arith) e

pub wide_step : (l : Line) (x : ℤ) → Step l x → Wide x
wide_step heights x e = wider (pos 0) (pos 99999) x (omega arith) (omega arith) e
wide_step latitudes x e =
    let p = abs_parts x in
    record { from = le_parts (negsuc 8999) x (omega (arith, e.1)); to = le_parts x (pos 99999) (omega (arith, e.1)) }
wide_step longitudes x e = wider (pos 1) (pos 150) x (omega arith) (omega arith) e

hull : (x y z : ℤ) → Wide x → Wide y → Below x z → Below z y → Wide z
hull x y z p q b c =
    record {
      from = le_parts (negsuc 8999) z (omega (arith, parts_le (negsuc 8999) x p.from));
      to = le_parts z (pos 99999) (omega (arith, parts_le y (pos 99999) q.to));
    }

less_parts : (x y : ℤ) → x <ℤ y → Below x y
less_parts x y h = omega (arith, lt_true x y (is_true (lt_z x y) h.lt))

not_below : (x : ℤ) → Below (pos 0) x → dn x ≡ 0
not_below x h = ⊎_elim (λ o. o) (λ o. omega arith) (one_zero x)

not_above : (x : ℤ) → Below x (pos 0) → up x ≡ 0
not_above x h = ⊎_elim (λ o. omega arith) (λ o. o) (one_zero x)

module _ (l : Line) (a : Axis) (i : ℕ) (r : AxisRules l a) (h : i < nodes a) where
  up_wide : Below (pos 0) a.step → Below a.first a.last → Wide (node a i)
  up_wide s b =
      let x = rising a i h (not_below a.step s) b in
      hull a.first a.last (node a i) (wide_end l a.first r.first) (wide_end l a.last r.last) x.0 x.1

  down_wide : Below a.step (pos 0) → Below a.last a.first → Wide (node a i)
  down_wide s b =
      let x = falling a i h (not_above a.step s) b in
      hull a.last a.first (node a i) (wide_end l a.last r.last) (wide_end l a.first r.first) x.0 x.1

pub wide_node : (l : Line) (a : Axis) (i : ℕ) → AxisRules l a → i < nodes a → Wide (node a i)
wide_node heights a i r h =
    up_wide heights a i r h (parts_le (pos 0) a.step r.step.from)
    (⊎_elim (λ e. omega (arith, ap up e.1, ap dn e.1)) (λ e. less_parts a.first a.last e.0) r.together)
wide_node latitudes a i r h =
    ⊎_elim
    (λ e. up_wide latitudes a i r h (less_parts (pos 0) a.step e.0) (parts_le a.first a.last e.1))
    (λ e. down_wide latitudes a i r h (less_parts a.step (pos 0) e.0) (parts_le a.last a.first e.1))
    r.together.2
wide_node longitudes a i r h =
    up_wide longitudes a i r h (omega (arith, parts_le (pos 1) a.step r.step.from))
    (omega (arith, parts_le (pos 0) (a.last -ℤ a.first) r.together.2.from, sub_parts2 a.last a.first))
