-- No second answer fits: for any index and text, the reply is determined, with the lines that are handed back.
use mathlib.Core.Path.{◌≡◌, refl, sym, ap, ◌∙◌}
use mathlib.Core.List.{List, [], ◌∷◌, ◌++◌, append-nil}
use Prim.Native.Nat.{ℕ}
use native.Mathlib.Omega.{arith}
use lib.IntN.{ℤ, pos}
use lib.ListN.{get_or}
use Rattle.kit.specs.Answer.{All}
use Rattle.forms.specs.Columns.{Blank}
use Rattle.mapset.specs.declared.Header.{Header}
use Rattle.index.specs.Stands.{Shown, last, line}
use Rattle.index.specs.Index.{Index, Node, Reply, given, refused, Guard, stop, go, Pointed, Replies, part}
use Rattle.index.proofs.FoundLaws.{stands_once}

guard_once : {P : Type 0} {n : ℕ} {R : P → Reply → Type 0} → ((p q : P) (a b : Reply) → R p a → R q b → a ≡ b) → (a b : Reply) → Guard P n R a → Guard P n R b → a ≡ b
guard_once u a b (stop n) (stop m) = refl
guard_once u a b (stop n) (go p r) = absurd (n p)
guard_once u a b (go p r) (stop n) = absurd (n p)
guard_once u a b (go p r) (go q s) = u p q a b r s

-- the numbers and lines of the block that stands there
pointed_once : {h : Header} {d : ℕ} {u : List ℕ} {e : ℤ} (c : ℕ) (p q : Pointed h d u e) (a b : Reply) → a ≡ given (get_or p.values c (pos 0)) e p.lines
    → b ≡ given (get_or q.values c (pos 0)) e q.lines → a ≡ b
pointed_once {h} {d} {e = e} c p q a b k l =
    let s = stands_once h d p.stands q.stands in
    k ∙ (λ i. given (get_or (s.0 i) c (pos 0)) e (s.1 i)) ∙ sym l

module _ (x : Index) (t : List ℕ) (q : Node) where
  pub reply_once : (a b : Reply) → Replies x t q a → Replies x t q b → a ≡ b
  reply_once = guard_once (λ _ _. guard_once (λ _ _. guard_once (λ _ _. guard_once (λ _ _. guard_once (pointed_once q.column)))))

  -- and so is the part
  pub part_once : (a b : Reply) → Replies x t q a → Replies x t q b → part a ≡ part b
  part_once a b r s = ap part (reply_once a b r s)

-- ---- the part is empty exactly on a refusal

joined_some : (l r : List ℕ) → ¬ All Blank l → ¬ (l ++ r ≡ [])
joined_some [] r n e = n tt
joined_some (b ∷ l) r n e = let z : ◌≡◌ {A = ℕ} 0 1 = cc in omega arith

shown_some : {rs : List (List ℕ)} {u b : List ℕ} → Shown rs u b → ¬ (b ≡ [])
shown_some (last {l} c n o) e = joined_some l [] n (append-nil l ∙ e)
shown_some (line l c n x g s) e = joined_some l _ n e

pub passed : {P : Type 0} {n : ℕ} {R : P → Reply → Type 0} {z e : ℤ} {b : List ℕ} → Guard P n R (given z e b) → (p : P) × R p (given z e b)
passed (go p r) = (p, r)

-- a block that is answered has a byte
pub part_refused : (x : Index) (t : List ℕ) (q : Node) (a : Reply) → Replies x t q a → part a ≡ [] → (n : ℕ) × (a ≡ refused n)
part_refused x t q (refused n) r e = (n, refl)
part_refused x t q (given z k b) r e =
    let (p, s) = passed (passed (passed (passed (passed r).1).1).1).1 in
    absurd (shown_some p.stands.shown (ap part (sym s) ∙ e))
