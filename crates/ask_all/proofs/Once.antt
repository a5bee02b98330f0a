-- No second answer fits; and what is answered is what each question alone is answered.
use mathlib.Core.Path.{◌≡◌, refl, sym, ap, ◌∙◌}
use Prim.Native.Nat.{ℕ, ◌<◌}
use native.Mathlib.Decide.{dec_lt}
use native.Mathlib.Omega.{arith}
use lib.IntN.{ℤ, pos}
use lib.ListN.{get_or}
use lib.Seq.{ext_get_or}
use Rattle.ask.specs.Ask.{Question, Told, refused, told_number, Answers}
use Rattle.ask.proofs.Once.{Once, answers_once, number_once}
use Rattle.ask.proofs.Opened.{barred_answers, barred_open, barred_once}
use Rattle.ask_all.specs.AskAll.{Places, Slots, count, value_or, Fills, Each, AsksAll, barred, answered, AllAsked, told}
use Rattle.ask_all.proofs.EachLaws.{number_range}
use Rattle.std.specs.Prelude.{Ok, Err}

fills_once : {R : Told → Type 0} → Once R → (v : ℤ) {n k : ℕ} {w u : ℤ} → Fills R v n w → Fills R v k u → (n ≡ k) × (w ≡ u)
fills_once o v f g =
    let e = o f.answer g.answer f.given g.given in
    (f.number ∙ ap told_number e ∙ sym g.number, f.value ∙ ap (value_or v) e ∙ sym g.value)

module _ (R : ℤ → ℤ → ℕ → Told → Type 0) (o : (lat lon : ℤ) (t : ℕ) → Once (R lat lon t)) (n : ℕ) (p : Places) (l m m' : Slots) (e : Each R n p l m) (f : Each R n p l m') where
  at_answer : (k : ℕ) → Dec (k < n) → get_or m.answers k 0 ≡ get_or m'.answers k 0
  at_answer k (yes h) = (fills_once (o _ _ _) _ (e.each k h) (f.each k h)).0
  at_answer k (no h) = e.answers_behind k (omega arith) ∙ sym (f.answers_behind k (omega arith))

  at_value : (k : ℕ) → Dec (k < n) → get_or m.values k (pos 0) ≡ get_or m'.values k (pos 0)
  at_value k (yes h) = (fills_once (o _ _ _) _ (e.each k h) (f.each k h)).1
  at_value k (no h) = e.values_behind k (omega arith) ∙ sym (f.values_behind k (omega arith))

  each_once : m ≡ m'
  each_once =
      let a = ext_get_or 0 m.answers m'.answers (e.as_many_answers ∙ sym f.as_many_answers) (λ k h. at_answer k (dec_lt k n)) in
      let v = ext_get_or (pos 0) m.values m'.values (e.as_many_values ∙ sym f.as_many_values) (λ k h. at_value k (dec_lt k n)) in
      λ i. record { answers = a i; values = v i }

module _ (at : ℤ → ℤ → ℕ → Question) (p : Places) (l : Slots) where
  pub asks_all_once : {n k : ℕ} {m m' : Slots} → AsksAll at p l n m → AsksAll at p l k m' → (n ≡ k) × (m ≡ m')
  asks_all_once (barred n b) (barred k c) = (barred_once (at (pos 0) (pos 0) 0) n k (b (pos 0) (pos 0) 0) (c (pos 0) (pos 0) 0), refl)
  asks_all_once (barred n b) (answered o m e) = barred_open (at (pos 0) (pos 0) 0) n (b (pos 0) (pos 0) 0) (o (pos 0) (pos 0) 0)
  asks_all_once (answered o m e) (barred n b) = barred_open (at (pos 0) (pos 0) 0) n (b (pos 0) (pos 0) 0) (o (pos 0) (pos 0) 0)
  asks_all_once (answered o m e) (answered o' m' f) =
      (refl, each_once (λ lat lon t. Answers (at lat lon t)) (λ lat lon t. answers_once (at lat lon t)) (count p l) p l m m' e f)

  -- a call that is refused is refused as each of its questions is
  pub refused_alike : {m : Slots} (n : ℕ) → ¬ (n ≡ 0) → AsksAll at p l n m → (lat lon : ℤ) (t : ℕ) → Answers (at lat lon t) (refused n)
  refused_alike n z (barred k b) lat lon t = barred_answers (at lat lon t) n (b lat lon t)
  refused_alike n z (answered o m e) lat lon t = absurd (z refl)

-- ---- and so for what the code returns
told_once : (r s : AllAsked) → told r ≡ told s → r ≡ s
told_once (Ok u) (Ok v) e = refl
told_once (Ok u) (Err w) e = absurd (omega (arith, number_range w, e))
told_once (Err w) (Ok u) e = absurd (omega (arith, number_range w, e))
told_once (Err v) (Err w) e = ap Err (number_once v w e)

pub ask_all_once : (at : ℤ → ℤ → ℕ → Question) (p : Places) (l : Slots) (r s : AllAsked) {m m' : Slots} → AsksAll at p l (told r) m → AsksAll at p l (told s) m' → (r ≡ s) × (m ≡ m')
ask_all_once at p l r s a b = let e = asks_all_once at p l a b in (told_once r s e.0, e.1)
