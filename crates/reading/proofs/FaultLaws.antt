-- Laws of the first faulty line.
use mathlib.Core.Path.{◌≡◌, refl, sym, ap, ◌∙◌}
use mathlib.Core.Logic.{◌⊎◌, inl, inr, ⊎_elim}
use Prim.Native.Nat.{ℕ, suc, ◌+◌, ◌≤◌, ◌<◌}
use native.Mathlib.Omega.{arith}
use mathlib.Core.List.{List, [], ◌∷◌}
use lib.ListN.{length, take, drop, get_or}
use lib.Seq.{drop-cons, take-length}
use native.Mathlib.Decide.{dec_le}
use Rattle.kit.specs.Answer.{refused, all_dec}
use Rattle.kit.proofs.AnswerLaws.{pick_yes, pick_no}
use Rattle.kit.specs.Range.{Within, within?, Printable}
use Rattle.reading.specs.declared.Why.{Why}
use Rattle.reading.specs.Feed.{why, split, bad, bad_column, feed}
use Rattle.reading.specs.Maps.{short}
use Rattle.reading.specs.Read.{begin, read}
use Rattle.reading.proofs.Machine.{first, from, from_bad}
use Rattle.reading.proofs.RefusalLaws.{Refusal, refusal, reaches}
use Rattle.reading.specs.Refusals.{three, Cause, too_long, bad_byte, by_row, reads, Faultless, AtLine, EndsEarly, FirstBad}

-- every refusal is one or the other
pub refusals : (t : List ℕ) (w : Why) → read t ≡ refused w → AtLine t w ⊎ EndsEarly t w
unfolding read reads from Refusal
refusals t w e = ⊎_elim
    (λ x. inl (record {
      before = x.before;
      line = x.line ∙ omega arith;
      inside = x.inside;
      faultless = ⊎_elim (λ f. inl (f ∙ ap short (omega arith))) inr x.fine;
      decided = λ t' q. x.decided (split t') q;
      cause = x.cause;
      three = λ q. (x.three q).1;
    }))
    (λ x. inr (record { every = λ k h. x.every k h ∙ ap short (omega arith) })) (refusal (split t) first 1 w e)

feed_long : (n : ℕ) (l : List ℕ) (ls : List (List ℕ)) → ¬ (length l ≤ 80) → feed n (l ∷ ls) ≡ bad (why 1 n 81)
unfolding feed
feed_long n l ls a = pick_no (dec_le (length l) 80) _ _ a

feed_dirty : (n : ℕ) (l : List ℕ) (ls : List (List ℕ)) → length l ≤ 80 → ¬ Printable l → feed n (l ∷ ls) ≡ bad (why 2 n (bad_column l))
unfolding feed
feed_dirty n l ls a b = pick_yes (dec_le (length l) 80) _ _ a ∙ pick_no (all_dec (within? 32 126) l) _ _ b

module _ (t : List ℕ) (k : ℕ) (h : k < length (split t)) (f : Faultless (take k (split t))) where
  -- a line that hands on a refusal, after lines without fault
  refused_line : (w : Why) → ((ls : List (List ℕ)) → feed (suc k) (get_or (split t) k [] ∷ ls) ≡ bad w) → read t ≡ refused w
  unfolding read reads from
  refused_line w g =
      reaches k (split t) first 1 w h (⊎_elim (λ f. inl (f ∙ ap short (omega arith))) inr f)
      (λ s. ap (λ x. from s (feed (1 + k) x)) (drop-cons (split t) k [] h) ∙ ap (λ n. from s (feed n (get_or (split t) k [] ∷ drop (suc k) (split t)))) (omega arith) ∙ ap (from s) (g _) ∙ from_bad s w)

  -- the first line over 80 bytes
  pub over_long : ¬ (length (get_or (split t) k []) ≤ 80) → read t ≡ refused (why 1 (suc k) 81)
  over_long a = refused_line _ (λ ls. feed_long (suc k) _ ls a)

  -- the first bad byte
  pub not_printable : length (get_or (split t) k []) ≤ 80 → ¬ Printable (get_or (split t) k []) → read t ≡ refused (why 2 (suc k) (bad_column (get_or (split t) k [])))
  not_printable a b = refused_line _ (λ ls. feed_dirty (suc k) _ ls a b)

pub first_bad : (l : List ℕ) → ¬ Printable l → FirstBad l
unfolding bad_column
first_bad [] n = absurd (n tt)
first_bad (x ∷ l) n = by (within? 32 126 x) (λ p. first_bad l (λ q. n (p, q)))
  where
    by : Dec (Within 32 126 x) → (Within 32 126 x → FirstBad l) → FirstBad (x ∷ l)
    by (yes p) r =
        let y = r p in
        record {
          before = x ∷ y.before;
          byte = y.byte;
          after = y.after;
          whole = ap (λ m. x ∷ m) y.whole;
          printable = (p, y.printable);
          outside = y.outside;
          column = pick_yes (within? 32 126 x) _ _ p ∙ ap suc y.column;
        }
    by (no k) r =
        record { before = []; byte = x; after = l; whole = refl; printable = tt; outside = k; column = pick_no (within? 32 126 x) _ _ k }

-- 10 exactly where the text ends early, at its number of lines + 1
pub ten : (t : List ℕ) (w : Why) → read t ≡ refused w → w.number ≡ 10 → EndsEarly t w
ten t w e q = ⊎_elim (λ x. absurd (other x.cause)) (λ x. x) (refusals t w e)
  where
    other : {l : List ℕ} → Cause l w → ⊥
    other (too_long a b c) = omega arith
    other (bad_byte a b c d) = omega arith
    other (by_row a b c d) = omega arith

pub ten_at : (t : List ℕ) (w : Why) → EndsEarly t w → read t ≡ short (suc (length (split t)))
unfolding read reads
ten_at t w x = ap (λ l. begin (feed 1 l)) (sym (take-length (split t))) ∙ x.every (length (split t)) (omega arith)
