-- Question after question: the answers so far, and one more.
use mathlib.Core.Path.{◌≡◌, refl, ◌∙◌}
use Prim.Native.Nat.{ℕ, ◌+◌, ◌≤◌, ◌<◌, min}
use Rattle.kit.proofs.AnswerLaws.{pick_elim}
use native.Mathlib.Decide.{dec_lt}
use native.Mathlib.Omega.{arith}
use lib.IntN.{ℤ, pos}
use lib.ListN.{length, get_or, length-set}
use lib.Seq.{get_or-set_same, get_or-set_other}
use Rattle.kit.specs.Range.{lesser}
use Rattle.kit.proofs.LesserLaws.{lesser_is, lesser_within}
use Rattle.ask.specs.Ask.{Told, told_number, number}
use Rattle.ask.specs.declared.Why.{Why}
use Rattle.ask.specs.declared.Why.TheVariants as W
use Rattle.ask_all.specs.AskAll.{Places, Slots, count, value_or, Fills, Each}
use Rattle.ask_all.specs.Filling.{stored}

-- the shortest of the five, one after the other
pub count_is : (p : Places) (l : Slots) → min (min (min (min (length p.lats) (length p.lons)) (length p.seconds)) (length l.answers)) (length l.values) ≡ count p l
count_is p l =
    let a = lesser_is (length l.answers) (length l.values) in
    let b = lesser_is (length p.seconds) (lesser (length l.answers) (length l.values)) in
    let c = lesser_is (length p.lons) (lesser (length p.seconds) (lesser (length l.answers) (length l.values))) in
    let d = lesser_is (length p.lats) (lesser (length p.lons) (lesser (length p.seconds) (lesser (length l.answers) (length l.values)))) in
    omega arith

-- every question has its place in each of the five
pub record Reaches (n : ℕ) (p : Places) (l : Slots) : Type 0 where
  pub lats : n ≤ length p.lats
  pub lons : n ≤ length p.lons
  pub seconds : n ≤ length p.seconds
  pub answers : n ≤ length l.answers
  pub values : n ≤ length l.values

pub reaches : (n : ℕ) (p : Places) (l : Slots) → n ≤ count p l → Reaches n p l
reaches n p l h =
    let a = lesser_within (length l.answers) (length l.values) in
    let b = lesser_within (length p.seconds) (lesser (length l.answers) (length l.values)) in
    let c = lesser_within (length p.lons) (lesser (length p.seconds) (lesser (length l.answers) (length l.values))) in
    let d = lesser_within (length p.lats) (lesser (length p.lons) (lesser (length p.seconds) (lesser (length l.answers) (length l.values)))) in
    record { lats = omega (arith, d); lons = omega (arith, c, d); seconds = omega (arith, b, c, d); answers = omega (arith, a, b, c, d); values = omega (arith, a, b, c, d) }

module _ (R : ℤ → ℤ → ℕ → Told → Type 0) (p : Places) (l : Slots) where
  pub each_none : Each R 0 p l l
  each_none = record { as_many_answers = refl; as_many_values = refl; each = λ k h. absurd (omega arith); answers_behind = λ k h. refl; values_behind = λ k h. refl }

  pub each_next : (n : ℕ) (m : Slots) → Each R n p l m → n < length l.answers → n < length l.values → (a : Told) → R (get_or p.lats n (pos 0)) (get_or p.lons n (pos 0)) (get_or p.seconds n 0) a →
      Each R (n + 1) p l (stored a n m)
  each_next n m e ha hv a r =
      record {
        as_many_answers = length-set m.answers n (told_number a) ∙ e.as_many_answers;
        as_many_values = length-set m.values n (value_or (get_or m.values n (pos 0)) a) ∙ e.as_many_values;
        each = λ k h. by k h (dec_lt k n);
        answers_behind = λ k h. get_or-set_other m.answers n k (told_number a) 0 (λ z. omega arith) ∙ e.answers_behind k (omega arith);
        values_behind = λ k h. get_or-set_other m.values n k (value_or (get_or m.values n (pos 0)) a) (pos 0) (λ z. omega arith) ∙ e.values_behind k (omega arith);
      }
    where
      here : Fills (R (get_or p.lats n (pos 0)) (get_or p.lons n (pos 0)) (get_or p.seconds n 0)) (get_or l.values n (pos 0)) (get_or (stored a n m).answers n 0) (get_or (stored a n m).values n (pos 0))
      here =
          record {
            answer = a;
            given = r;
            number = get_or-set_same m.answers n (told_number a) 0 (omega (arith, e.as_many_answers));
            value = get_or-set_same m.values n (value_or (get_or m.values n (pos 0)) a) (pos 0) (omega (arith, e.as_many_values)) ∙ (λ i. value_or (e.values_behind n (omega arith) i) a);
          }

      by : (k : ℕ) → k < n + 1 → Dec (k < n) → Fills (R (get_or p.lats k (pos 0)) (get_or p.lons k (pos 0)) (get_or p.seconds k 0)) (get_or l.values k (pos 0)) (get_or (stored a n m).answers k 0) (get_or (stored a n m).values k (pos 0))
      by k h (yes z) =
          let f = e.each k z in
          record {
            answer = f.answer;
            given = f.given;
            number = get_or-set_other m.answers n k (told_number a) 0 (λ y. omega arith) ∙ f.number;
            value = get_or-set_other m.values n k (value_or (get_or m.values n (pos 0)) a) (pos 0) (λ y. omega arith) ∙ f.value;
          }
      by k h (no z) = let y : k ≡ n = omega arith in rw y here

-- another relation that follows
pub each_by : (R S : ℤ → ℤ → ℕ → Told → Type 0) → ((lat lon : ℤ) (t : ℕ) (a : Told) → R lat lon t a → S lat lon t a) → (n : ℕ) (p : Places) (l m : Slots) → Each R n p l m → Each S n p l m
each_by R S f n p l m e =
    record {
      as_many_answers = e.as_many_answers;
      as_many_values = e.as_many_values;
      each = λ k h. let x = e.each k h in record { answer = x.answer; given = f _ _ _ x.answer x.given; number = x.number; value = x.value };
      answers_behind = e.answers_behind;
      values_behind = e.values_behind;
    }

-- ---- 01's numbers of refusals fit a byte, and none is 0
pub number_range : (w : Why) → (1 ≤ number w) × (number w < 256)
number_range W.Unknown = (omega arith, omega arith)
number_range W.Unsound = (omega arith, omega arith)
number_range W.Unserved = (omega arith, omega arith)
number_range W.OutOfTime = (omega arith, omega arith)
number_range W.OutOfPlace = (omega arith, omega arith)
number_range W.NoValue = (omega arith, omega arith)
