-- 02, Ask 12: three lent sets joined by two calls of `join`, each by its contract.
use Rattle.kit.specs.Answer.{Answer, refused}
use Rattle.mapset.specs.declared.Header.{Header}
use Rattle.mapset.specs.Areas.{Areas}
use Rattle.join.specs.Into.{Lent, lent_of, Why}
use Rattle.join_areas.specs.Joined.{told_why, comes}
use Rattle.join_areas.specs.Contract.{Joins}
use Rattle.join_areas.specs.declared.Refusal.{Refusal}
use Rattle.std.specs.Prelude.{Result, Ok, Err}

-- the first two into l₁, and what is there with the third into l; the second call is made only where the first answers with a set
pub data Leftwards (x y z : Lent) (l₁ l : Areas) : Answer Why Lent → Type 0 where
  stopped : (w : Refusal) (l₁' : Areas) → Joins x y l₁ (Err w) l₁' → Leftwards x y z l₁ l (refused (told_why w))
  went : (h : Header) (l₁' : Areas) → Joins x y l₁ (Ok h) l₁' → (r : Result Header Refusal) (l' : Areas) → Joins (lent_of h y.texts l₁') z l r l'
      → Leftwards x y z l₁ l (comes r z.texts l').told

-- the last two into l₂, and the first with what is there into l
pub data Rightwards (x y z : Lent) (l₂ l : Areas) : Answer Why Lent → Type 0 where
  stopped : (w : Refusal) (l₂' : Areas) → Joins y z l₂ (Err w) l₂' → Rightwards x y z l₂ l (refused (told_why w))
  went : (h : Header) (l₂' : Areas) → Joins y z l₂ (Ok h) l₂' → (r : Result Header Refusal) (l' : Areas) → Joins x (lent_of h z.texts l₂') l r l'
      → Rightwards x y z l₂ l (comes r z.texts l').told
