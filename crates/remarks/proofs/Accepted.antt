-- Which COMMENT lines stand where 01 allows them: all of an accepted text, and of a refused one all but the line at which it is refused.
use mathlib.Core.Path.{◌≡◌, refl, sym, ap, ◌∙◌}
use mathlib.Core.Logic.{inl, inr, ⊎_elim}
use mathlib.Core.List.{List, []}
use Prim.Native.Nat.{ℕ, suc, ◌≤◌, ◌<◌}
use native.Mathlib.Omega.{arith}
use native.Mathlib.Decide.{dec_lt}
use lib.ListN.{length, take, get_or, length-take}
use lib.Seq.{take-take, take-length}
use Rattle.kit.specs.Answer.{Answer, ok, refused}
use Rattle.mapset.specs.MapSet.{MapSet}
use Rattle.layout.specs.Labels.{comment}
use Rattle.reading.specs.declared.Why.{Why}
use Rattle.reading.specs.Feed.{split}
use Rattle.reading.specs.Maps.{short}
use Rattle.reading.specs.Read.{read}
use Rattle.reading.proofs.Machine.{first, from}
use Rattle.reading.specs.Refusals.{Cause, too_long, bad_byte, by_row, reads, Faultless}
use Rattle.reading.proofs.RefusalLaws.{ToldAtLine, Cut, Refusal, refusal, not_short}
use Rattle.remarks.specs.Remarks.{Bears, Remark, commented}

not_ten : {l : List ℕ} {w : Why} → Cause l w → ¬ (w.number ≡ 10)
not_ten (too_long a b c) e = omega arith
not_ten (bad_byte a b c d) e = omega arith
not_ten (by_row a b c d) e = omega arith

not_faultless : (ls : List (List ℕ)) (w : Why) {X : Type 0} → reads ls ≡ refused w → ¬ (w.number ≡ 10) → Faultless ls → X
not_faultless ls w e t (inl f) = not_short (suc (length ls)) (sym f ∙ e) t
not_faultless ls w e t (inr m) = let z : ◌≡◌ {A = Answer Why MapSet} (ok m.0) (refused w) = sym m.1 ∙ e in let y : ◌≡◌ {A = ℕ} 0 1 = cc in absurd (omega arith)

faultless_lines : (ls : List (List ℕ)) (w : Why) → Cut first 1 ls w → Faultless ls
unfolding reads from
faultless_lines ls w x = inl (ap reads (sym (take-length ls)) ∙ x.every (length ls) (omega arith) ∙ ap short (omega arith))

-- every beginning of lines without fault is without fault
pub beginning : (ls : List (List ℕ)) (k : ℕ) → Faultless ls → Faultless (take k ls)
unfolding reads from Refusal
beginning ls k f = by (reads (take k ls)) refl
  where
    told : (w : Why) → Refusal first 1 (take k ls) w → Faultless (take k ls)
    told w (inl x) =
        let i = x.inside in
        let n = length-take k ls in
        not_faultless ls w (x.decided ls (sym (take-take (suc x.before) k ls (omega arith)))) (not_ten x.cause) f
    told w (inr x) = faultless_lines (take k ls) w x

    by : (x : Answer Why MapSet) → reads (take k ls) ≡ x → Faultless (take k ls)
    by (ok m) e = inr (m, e)
    by (refused w) e = told w (refusal (take k ls) first 1 w e)

pub accepted_comment : (t : List ℕ) (m : MapSet) (k : ℕ) → read t ≡ ok m → Bears comment (get_or (split t) k []) → Remark (split t) k
unfolding read reads
accepted_comment t m k e b = commented b (λ p f. beginning (split t) (suc k) (inr (m, e)))

pub other_comment : (t : List ℕ) (w : Why) (k : ℕ) → read t ≡ refused w → ¬ (w.line ≡ suc k) → Bears comment (get_or (split t) k []) → Remark (split t) k
unfolding read reads from Refusal
other_comment t w k e n b = by (refusal (split t) first 1 w e)
  where
    told : (x : ToldAtLine first 1 (split t) w) → Dec (x.before < k) → Remark (split t) k
    told x (yes h) =
        commented b (λ p f. not_faultless (take k (split t)) w (x.decided (take k (split t)) (take-take (suc x.before) k (split t) h)) (not_ten x.cause) f)
    told x (no h) =
        let l = x.line in
        let z : suc k ≤ x.before = omega arith in
        commented b (λ p f. rw (take-take (suc k) x.before (split t) z) at (beginning (take x.before (split t)) (suc k) (⊎_elim (λ f. inl (f ∙ ap short (omega arith))) inr x.fine)))

    by : Refusal first 1 (split t) w → Remark (split t) k
    by (inl x) = told x (dec_lt x.before k)
    by (inr x) = commented b (λ p f. beginning (split t) (suc k) (faultless_lines (split t) w x))
