-- No second answer fits, and the part is empty exactly where the node is refused.
use mathlib.Core.Path.{◌≡◌, refl, sym, ap, ◌∙◌}
use mathlib.Core.List.{List, []}
use Prim.Native.Nat.{ℕ, ◌-◌, ◌≤◌}
use native.Mathlib.Omega.{arith}
use native.Mathlib.Decide.{ℕ_discrete}
use lib.ListN.{length, drop, length-drop}
use lib.Seq.{length-take-le}
use Rattle.kit.specs.Answer.{pick}
use Rattle.index.specs.Index as index
use Rattle.index.specs.Index.{Index, Node, Replies}
use Rattle.index.proofs.Once.{reply_once, part_once, part_refused}
use Rattle.index_block.specs.Hits.{between}
use Rattle.index_node.specs.Told.{number, told, Inside, Starts, Finds, HandsBack}
use Rattle.index_node.specs.declared.Why.{Why}
use Rattle.index_node.specs.declared.Why.TheVariants.{Unknown, Unfit, Outside, Absent, Astray}
use Rattle.std.specs.Prelude.{Result, Ok, Err}
use Rattle.index_node.specs.declared.Found.{Found}

unfoldable why_of : ℕ → Why
why_of n = pick (ℕ_discrete n 23) Unknown (pick (ℕ_discrete n 31) Unfit (pick (ℕ_discrete n 21) Outside (pick (ℕ_discrete n 22) Absent Astray)))

back : (w : Why) → why_of (number w) ≡ w
unfolding why_of pick ℕ_discrete
back Unknown = refl
back Unfit = refl
back Outside = refl
back Absent = refl
back Astray = refl

pub between_length : (t : List ℕ) (a b : ℕ) → a ≤ b → b ≤ length t → length (between t a b) ≡ b - a
between_length t a b h k = length-take-le (b - a) (drop a t) (omega (arith, length-drop a t))

same_end : (t : List ℕ) (at a b a' b' : ℕ) → a ≡ at → a' ≡ at → a ≤ b → b ≤ length t → a' ≤ b' → b' ≤ length t → between t a b ≡ between t a' b' → b ≡ b'
same_end t at a b a' b' p p' h k h' k' e = omega (arith, between_length t a b h k, between_length t a' b' h' k', ap length e)

same_told : (t : List ℕ) (at : ℕ) (r s : Result Found Why) → Inside t r → Starts at r → Inside t s → Starts at s → told t r ≡ told t s → r ≡ s
same_told t at (Ok f) (Ok g) h p h' p' q =
    let k : f.number ≡ g.number = cc in
    let l : f.exponent ≡ g.exponent = cc in
    let m : between t f.start f.end ≡ between t g.start g.end = cc in
    let n : f.start ≡ g.start = p ∙ sym p' in
    let o : f.end ≡ g.end = same_end t at f.start f.end g.start g.end p p' h.0 h.1 h'.0 h'.1 m in
    λ i. Ok (record { number = k i; exponent = l i; start = n i; end = o i })
same_told t at (Ok f) (Err w) h p h' p' q = let z : ◌≡◌ {A = ℕ} 0 1 = cc in absurd (omega arith)
same_told t at (Err w) (Ok f) h p h' p' q = let z : ◌≡◌ {A = ℕ} 0 1 = cc in absurd (omega arith)
same_told t at (Err w) (Err v) h p h' p' q = let k : number w ≡ number v = cc in ap Err (sym (back w) ∙ ap why_of k ∙ back v)

module _ (x : Index) (t : List ℕ) (q : Node) where
  pub node_once : (r s : Result Found Why) → Finds x t q r → Finds x t q s → r ≡ s
  node_once r s f g = same_told t _ r s f.inside f.starts g.inside g.starts (reply_once x t q _ _ f.replies g.replies)

  pub block_once : (l m : List ℕ) → HandsBack x t q l → HandsBack x t q m → l ≡ m
  block_once l m (a, (r, e)) (b, (s, f)) = e ∙ part_once x t q a b r s ∙ sym f

  pub block_empty : (l : List ℕ) → HandsBack x t q l → l ≡ [] → (n : ℕ) × Replies x t q (index.refused n)
  block_empty l (a, (r, e)) z = let (n, k) = part_refused x t q a r (sym e ∙ z) in (n, rw k at r)

  pub block_refused : (l : List ℕ) (n : ℕ) → HandsBack x t q l → Replies x t q (index.refused n) → l ≡ []
  block_refused l n (a, (r, e)) s = e ∙ part_once x t q a (index.refused n) r s
