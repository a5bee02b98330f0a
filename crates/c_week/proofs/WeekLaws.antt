-- A week as it crosses, case by case.
use mathlib.Core.Path.{◌≡◌, sym, ap, ◌∙◌}
use mathlib.Core.Bool.{Bool, true, false, cond}
use mathlib.Core.List.{List}
use Prim.Native.Nat.{ℕ, ◌≤◌, ◌<◌}
use native.Mathlib.Omega.{arith}
use lib.IntN.{ℤ, pos}
use lib.ListN.{length}
use lib.Signed.{lt_z}
use Rattle.kit.specs.Lists.{front}
use Rattle.mapset.specs.Areas.{Areas}
use Rattle.c_given.specs.Given.{nth}
use Rattle.c_answers.proofs.OwnLaws.{fit_two, unless_none, unless_short}
use Rattle.week.specs.Week.{Given}
use Rattle.week.specs.Sane.{Outcome, comes, outcome, SmallAnswer}
use Rattle.week.proofs.SaneLaws.{small_answer}
use Rattle.week.specs.declared.Week.{Week}
use Rattle.week.specs.declared.Why.{Why}
use Rattle.std.specs.Prelude.{Result}
use Rattle.c_week.specs.WeekNumbers.{broken, plain_week, week_at}
use Rattle.c_week.specs.WeekExported.{told_number, told_week, told_place, week_short, crossed, crosses, set_of, week_crossed}

-- ---- the week that numbers stand for
module _ (l : List ℤ) where
  pub week_broken : lt_z (nth l 0) (pos 0) ≡ true → {w : Week} → w ≡ broken → w ≡ week_at l
  unfolding week_at
  week_broken e q = q ∙ sym (ap (λ (b : Bool). cond b broken (plain_week l)) e)

  pub week_plain : lt_z (nth l 0) (pos 0) ≡ false → {w : Week} → w ≡ plain_week l → w ≡ week_at l
  unfolding week_at
  week_plain e q = q ∙ sym (ap (λ (b : Bool). cond b broken (plain_week l)) e)

-- ---- the areas of the call's own
module _ (h x w p : ℕ) where
  pub record Fits : Type 0 where
    pub header : 45 ≤ h
    pub texts : 1324 ≤ x
    pub week : 16 ≤ w
    pub place : 2 ≤ p

  pub fits : {k : ℕ} → k ≡ week_short h x w p → k < 1 → Fits
  unfolding week_short
  fits e a =
      let u = fit_two h x w 16 p 2 e a in
      record { header = u.header; texts = u.texts; week = u.first; place = u.second }

-- ---- the answer
pub small_comes : (w : Week) (s : Given) (r : Result Week Why) (l : List ℤ) → comes r l ≡ outcome w s → SmallAnswer r
small_comes w s r l e = rw (ap (λ (o : Outcome). o.answer) e) (small_answer w s)

module _ (w h : List ℤ) (x : List ℕ) (a : Areas) (r : List ℤ) (p : List ℕ) where
  pub cross_short : {k : ℕ} → k ≡ week_short (length h) (length x) (length w) (length p) → 1 ≤ k → crossed k w r p ≡ week_crossed w h x a r p
  unfolding week_crossed
  cross_short e n = ap (λ k. crossed k w r p) e ∙ sym (unless_short _ (λ k. crossed k w r p) (omega (arith, e, n)))

  pub cross_answer : {k : ℕ} → k ≡ week_short (length h) (length x) (length w) (length p) → k < 1
      → (t : Result Week Why) {n : ℕ} {w' r' : List ℤ} {p' : List ℕ} → comes t r' ≡ outcome (week_at w) (set_of h x a r)
      → n ≡ told_number t → w' ≡ front (told_week t) w → p' ≡ front (told_place t) p → crossed n w' r' p' ≡ week_crossed w h x a r p
  unfolding week_crossed crosses
  cross_answer e m t {r' = r'} o n u v = (λ i. crossed (n i) (u i) r' (v i)) ∙ ap (λ z. crosses z w p) o ∙ sym (unless_none _ (λ k. crossed k w r p) (omega (arith, sym e, m)))
