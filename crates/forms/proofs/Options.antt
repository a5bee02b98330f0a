-- What was there, or not, by what `ok_or` made of it.
use mathlib.Core.Path.{◌≡◌, refl}
use Rattle.std.specs.Prelude.{Option, Some, None, Result, Ok, Err}
use Rattle.std.specs.Option.{ok_or}

module _ {A E : Type 0} where
  pub was_some : {x : A} (o : Option A) (k : E) (r : Result A E) → r ≡ ok_or o k → r ≡ Ok x → o ≡ Some x
  was_some (Some z) k r h e = cc
  was_some None k r h e = cc

  pub was_none : {j : E} (o : Option A) (k : E) (r : Result A E) → r ≡ ok_or o k → r ≡ Err j → (o ≡ None) × (j ≡ k)
  was_none (Some z) k r h e = cc
  was_none None k r h e = (refl, cc)
