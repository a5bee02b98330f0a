-- What no layer, place or second changes: 23, 31 and 24, or that none of them is due.
use mathlib.Core.Path.{◌≡◌, refl}
use Prim.Native.Nat.{ℕ}
use Rattle.ask.specs.Ask.{Question, Told, refused, stop, go, Placed, Answers, Barred, unknown, unsound, unserved, Open}

module _ (q : Question) where
  -- the answer is the number that is due; where none is, that of place and second
  pub barred_answers : (n : ℕ) → Barred q n → Answers q (refused n)
  barred_answers n (unknown k) = stop k
  barred_answers n (unsound k s) = go k (stop s)
  barred_answers n (unserved k s v) = go k (go s (stop v))

  pub open_answers : Open q → (a : Told) → Placed q a → Answers q a
  open_answers o a p = go o.known (go o.sound (go o.served p))

  pub barred_open : {X : Type 0} (n : ℕ) → Barred q n → Open q → X
  barred_open n (unknown k) o = absurd (k o.known)
  barred_open n (unsound k s) o = absurd (s o.sound)
  barred_open n (unserved k s v) o = absurd (v o.served)

  pub barred_once : (n m : ℕ) → Barred q n → Barred q m → n ≡ m
  barred_once n m (unknown k) (unknown l) = refl
  barred_once n m (unknown k) (unsound l s) = absurd (k l)
  barred_once n m (unknown k) (unserved l s v) = absurd (k l)
  barred_once n m (unsound l s) (unknown k) = absurd (k l)
  barred_once n m (unsound k s) (unsound l t) = refl
  barred_once n m (unsound k s) (unserved l t v) = absurd (s t)
  barred_once n m (unserved l s v) (unknown k) = absurd (k l)
  barred_once n m (unserved l t v) (unsound k s) = absurd (s t)
  barred_once n m (unserved k s v) (unserved l t w) = refl
