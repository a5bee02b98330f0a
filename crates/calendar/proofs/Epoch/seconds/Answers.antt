-- `calendar::Epoch::seconds` meets its contract.
use native.Mathlib.Omega.{arith}
use mathlib.Core.Path.{◌≡◌, refl, sym}
use Prim.Native.Nat.{ℕ}
use Rattle.std.specs.Prelude.{Result, Ok, Err}
use Rattle.std.specs.Result.{result_ok}
use Rattle.calendar.specs.declared.Epoch.{Epoch}
use Rattle.calendar.specs.Calendar.{The, DateAt, told_when}
use Rattle.calendar.specs.Inner.{dated_of}
use Rattle.calendar.proofs.FieldLaws.{dated_ok, dated_at}
use Rattle.calendar.proofs.Epoch.seconds.Goals as goal

told : (e : Epoch) (r : Result ℕ ℕ) → r ≡ dated_of e → The (DateAt e) (told_when (result_ok r))
told e (Ok t) h = dated_ok _ _ _ _ _ _ _ (sym h)
told e (Err k) h = (refl, λ t d. let a = dated_at _ _ _ _ _ _ t d in let z : ◌≡◌ {A = ℕ} 0 1 = cc in omega arith)

pub returns : goal.returns
returns c = rw c.ok.ensures.value (told c.args.self c.judged.result c.judged.ensures)
