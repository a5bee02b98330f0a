-- No second answer fits.
use mathlib.Core.Path.{◌≡◌, refl, sym, ap, ◌∙◌}
use mathlib.Core.List.{List}
use Prim.Native.Nat.{ℕ}
use native.Mathlib.Omega.{arith}
use lib.IntN.{ℤ}
use lib.Ieee.{Float}
use Rattle.kit.specs.Lists.{front}
use Rattle.ask.specs.Ask.{Question}
use Rattle.delay.specs.Delay.{ToldDelay}
use Rattle.delay.proofs.DelayLaws.{delays_once}
use Rattle.ask_delay.proofs.Once.{ask_delays_once}
use Rattle.c_answers.specs.DelayExported.{told_number, told_record, TecuDelayCrosses, area_short, answered, DelayCrosses, short, asked}

module _ (f : Float) (v : List Float) where
  same : {a b : ToldDelay} → a ≡ b → (told_number a ≡ told_number b) × (front (told_record a) v ≡ front (told_record b) v)
  same p = (ap told_number p, ap (λ a. front (told_record a) v) p)

  pub ionex_tecu_delay_once : (x : ℤ) {n m : ℕ} {u w : List Float} → TecuDelayCrosses x f v n u → TecuDelayCrosses x f v m w → (n ≡ m) × (u ≡ w)
  ionex_tecu_delay_once x (area_short a) (area_short b) = (refl, refl)
  ionex_tecu_delay_once x (area_short a) (answered b t d) = absurd (omega arith)
  ionex_tecu_delay_once x (answered a t d) (area_short b) = absurd (omega arith)
  ionex_tecu_delay_once x (answered a t d) (answered b s e) = same (delays_once t s d e)

  pub ionex_delay_once : (h : List ℤ) (x : List ℕ) (q : Question) {n m : ℕ} {u w : List Float} → DelayCrosses h x q f v n u → DelayCrosses h x q f v m w → (n ≡ m) × (u ≡ w)
  ionex_delay_once h x q (short k e a) (short l g b) = (e ∙ sym g, refl)
  ionex_delay_once h x q (short k e a) (asked g t d) = absurd (omega (arith, e, g))
  ionex_delay_once h x q (asked e t d) (short k g a) = absurd (omega (arith, e, g))
  ionex_delay_once h x q (asked e t d) (asked g s r) = same (ask_delays_once q f t s d r)
