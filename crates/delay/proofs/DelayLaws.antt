-- The answer from other names of its numbers; and that no second answer fits.
use mathlib.Core.Path.{◌≡◌, refl, sym, ap, subst, ◌∙◌}
use mathlib.Core.Bool.{true, false}
use lib.Dec.{T}
use lib.IntN.{ℤ}
use lib.Ieee.{Float, binary64, mul, div, le, of_int}
use Rattle.ask_nodes.specs.declared.MilliTecu.{MilliTecu}
use Rattle.delay.specs.Delay.{ToldDelay, given, refused, Delayed, told, whole, InBand, Delays, serves, refuses}
use Rattle.std.specs.Prelude.{Some, None}

pub delays_once : {x : MilliTecu} {f : Float} (a b : ToldDelay) → Delays x f a → Delays x f b → a ≡ b
delays_once a b (serves p) (serves q) = refl
delays_once a b (serves p) (refuses n) = absurd (n p)
delays_once a b (refuses n) (serves p) = absurd (n p)
delays_once a b (refuses m) (refuses n) = refl

-- and so for what the code returns
abbrev back : ToldDelay → Delayed
back (given c t m) = Some (record { carrier = c; tecu = t; metres = m })
back (refused n) = None

back_told : (r : Delayed) → back (told r) ≡ r
back_told (Some d) = refl
back_told None = refl

pub told_once : (r s : Delayed) → told r ≡ told s → r ≡ s
told_once r s e = sym (back_told r) ∙ ap back e ∙ back_told s

pub delay_once : {x : MilliTecu} {f : Float} (r s : Delayed) → Delays x f (told r) → Delays x f (told s) → r ≡ s
delay_once r s a b = told_once r s (delays_once (told r) (told s) a b)

-- ---- a, b, y, k and c: as a program names them

module _ {a b a' b' : Float} (p : a ≡ a') (q : b ≡ b') where
  pub passes : le a b ≡ true → T (le a' b')
  passes e = rw (sym p, sym q) (subst T (sym e) tt)

  pub fails : le a b ≡ false → ¬ T (le a' b')
  fails e t = subst T e (rw (p, q) t)

pub served : (x : MilliTecu) (f : Float) {y : ℤ} {k c : Float} → y ≡ x.0 → k ≡ whole 1_000 → c ≡ whole 403_000_000_000_000_000 → InBand f
    → Delays x f (given f (div binary64 (of_int binary64 y) k) (div binary64 (mul binary64 (div binary64 (of_int binary64 y) k) c) (mul binary64 f f)))
served x f p q r b = rw (p, q, r) (serves b)
