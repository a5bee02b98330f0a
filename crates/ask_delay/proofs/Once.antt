-- No second answer fits.
use mathlib.Core.Path.{◌≡◌, refl, ap, subst}
use Prim.Native.Nat.{ℕ}
use native.Mathlib.Omega.{arith}
use lib.Ieee.{Float}
use Rattle.kit.proofs.TruthLaws.{clash}
use Rattle.ask.specs.Ask as ask
use Rattle.ask.specs.Ask.{Question, number}
use Rattle.ask.proofs.Once.{answers_once, number_once}
use Rattle.ask.specs.declared.Why.{Why}
use Rattle.ask.specs.declared.Why.TheVariants as W
use Rattle.delay.specs.Delay as delay
use Rattle.delay.specs.Delay.{ToldDelay, refused, milli, Delayed, Delays}
use Rattle.delay.proofs.DelayLaws.{delays_once, told_once}
use Rattle.std.specs.Prelude.{Some, None, Ok, Err}
use Rattle.ask_delay.specs.AskDelay.{AskDelays, no_delay, refuses, serves, AskedDelay, told}

module _ (q : Question) (f : Float) where
  pub ask_delays_once : (a b : ToldDelay) → AskDelays q f a → AskDelays q f b → a ≡ b
  ask_delays_once a b (no_delay h) (no_delay k) = refl
  ask_delays_once a b (no_delay h) (refuses k n s) = absurd (k h)
  ask_delays_once a b (no_delay h) (serves k x s c d) = absurd (k h)
  ask_delays_once a b (refuses k n s) (no_delay h) = absurd (k h)
  ask_delays_once a b (refuses k n s) (refuses l m r) =
      let e = answers_once q (ask.refused n) (ask.refused m) s r in
      let z : n ≡ m = cc in ap refused z
  ask_delays_once a b (refuses k n s) (serves l x r c d) = let e = answers_once q (ask.refused n) (ask.tecu x) s r in clash (cc)
  ask_delays_once a b (serves k x s c d) (no_delay h) = absurd (k h)
  ask_delays_once a b (serves k x s c d) (refuses l n r) = let e = answers_once q (ask.tecu x) (ask.refused n) s r in clash (cc)
  ask_delays_once a b (serves k x s c d) (serves l y r c' d') =
      let e = answers_once q (ask.tecu x) (ask.tecu y) s r in
      let z : x ≡ y = cc in delays_once a b (subst (λ x. Delays (milli x) f a) z d) d'

-- ---- and so for what the code returns

-- 25 is no number of a question's refusal
not_twenty_five : {X : Type 0} (w : Why) → refused 25 ≡ refused (number w) → X
not_twenty_five W.Unknown e = let z : ◌≡◌ {A = ℕ} 25 23 = cc in absurd (omega arith)
not_twenty_five W.Unsound e = let z : ◌≡◌ {A = ℕ} 25 31 = cc in absurd (omega arith)
not_twenty_five W.Unserved e = let z : ◌≡◌ {A = ℕ} 25 24 = cc in absurd (omega arith)
not_twenty_five W.OutOfTime e = let z : ◌≡◌ {A = ℕ} 25 20 = cc in absurd (omega arith)
not_twenty_five W.OutOfPlace e = let z : ◌≡◌ {A = ℕ} 25 21 = cc in absurd (omega arith)
not_twenty_five W.NoValue e = let z : ◌≡◌ {A = ℕ} 25 22 = cc in absurd (omega arith)

no_refusal : {X : Type 0} (d : Delayed) (w : Why) → delay.told d ≡ refused (number w) → X
no_refusal (Some d) w e = clash (cc)
no_refusal None w e = not_twenty_five w e

asked_once : (r s : AskedDelay) → told r ≡ told s → r ≡ s
asked_once (Ok d) (Ok e) p = ap Ok (told_once d e p)
asked_once (Ok d) (Err w) p = no_refusal d w p
asked_once (Err w) (Ok d) p = no_refusal d w (let q : delay.told d ≡ refused (number w) = cc in q)
asked_once (Err v) (Err w) p = let z : number v ≡ number w = cc in ap Err (number_once v w z)

pub ask_delay_once : (q : Question) (f : Float) (r s : AskedDelay) → AskDelays q f (told r) → AskDelays q f (told s) → r ≡ s
ask_delay_once q f r s a b = asked_once r s (ask_delays_once q f (told r) (told s) a b)
