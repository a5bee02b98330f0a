-- `delay::delay_of` meets its contract: its literals are the whole numbers of the promise, and each test is the promise's comparison.
use borrow.Author.Rules.{rules}
use mathlib.Core.Path.{◌≡◌, refl}
use mir.Syntax.{w32}
use mir.Val.{to_z, of_z}
use Rattle.delay.specs.Delay.{refuses}
use Rattle.delay.proofs.Literals.{thousand, factor, lowest, highest}
use Rattle.delay.proofs.DelayLaws.{passes, fails, served}
use Rattle.delay.proofs.delay_of.Goals as goal

pub returns-then-f-2 : goal.returns-then-f-2
returns-then-f-2 c =
    let a = c.args in
    let x : to_z w32 (of_z w32 a.x.0) ≡ a.x.0 = search rules in
    served a.x a.f x thousand factor (passes {b = a.f} lowest refl c.if-f.true, passes {a = a.f} refl highest c.if-f-2.true)

pub returns-else-f-2 : goal.returns-else-f-2
returns-else-f-2 c = refuses (λ b. fails refl highest c.if-f-2.false b.1)

pub returns-else-f : goal.returns-else-f
returns-else-f c = refuses (λ b. fails lowest refl c.if-f.false b.0)
