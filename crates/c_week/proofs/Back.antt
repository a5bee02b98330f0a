-- A week that sets gave, as numbers, stands for itself; sixteen zeros stand for the empty week; a negative number of sets for none.
use mathlib.Core.Path.{◌≡◌, refl, sym, ap, ◌∙◌}
use mathlib.Core.Logic.{⊎_elim}
use mathlib.Core.List.{List, [], ◌∷◌}
use mathlib.Core.Option.{Option}
use Prim.Native.Nat.{ℕ, zero, suc, ◌≤◌}
use native.Mathlib.Omega.{arith}
use borrow.Author.Tests.{le-ltb}
use lib.IntN.{ℤ, pos, negsuc, nat_abs}
use lib.ListN.{replicate}
use Rattle.kit.specs.Answer.{All, ×_dec}
use Rattle.kit.proofs.AnswerLaws.{pick_yes}
use Rattle.kit.specs.Integer.{Between, between?}
use Rattle.kit.specs.Lists.{front}
use Rattle.kit.proofs.Parts.{abs_parts, one_zero, le_parts}
use Rattle.c_given.proofs.GivenLaws.{bounded_within}
use Rattle.ask_nodes.specs.Nodes.{Small}
use Rattle.week_tally.specs.Figures.{figures, Fit}
use Rattle.week_tally.proofs.FigureLaws.{Among, Spans, same}
use Rattle.week_tally.specs.Rows.{smallest, largest}
use Rattle.week_tally.specs.declared.Tally.{Tally}
use Rattle.week_tally.specs.declared.Range.{Range}
use Rattle.std.specs.Prelude.{Option as Maybe, Some, None}
use Rattle.week.specs.Week.{Given, accepted, week_nodes, week_of, no_sets}
use Rattle.week.proofs.WeekLaws.{week_small, week_spans, same as same_week}
use Rattle.week.specs.Sane.{Fair, Sane}
use Rattle.week.proofs.SaneLaws.{sane_week}
use Rattle.week.specs.declared.Week.{Week}
use Rattle.c_week.specs.WeekNumbers.{week_numbers, range_of, count_of, broken, week_at}

-- ---- numbers that are held
Held : ℤ → Type 0
Held z = Between (negsuc 2147483647) (pos 2147483647) z

abbrev HeldRange : Maybe Range → Type 0
HeldRange None = Unit {0}
HeldRange (Some r) = Held r.smallest × Held r.largest

count_back : (n : ℕ) → n ≤ 18446744073709551615 → count_of (pos n) ≡ n
count_back n h = sym (bounded_within 18446744073709551615 (pos n) (le-ltb n 0 (omega arith)) h)

range_back : (n : ℕ) (r : Maybe Range) → Fit n r → HeldRange r → range_of n (smallest r) (largest r) ≡ r
unfolding range_of Held
range_back zero None f h =
    pick_yes (×_dec (between? (pos 0) (pos 0) (pos 0)) (between? (pos 0) (pos 0) (pos 0))) _ _ (still, still)
  where
    still : Between (pos 0) (pos 0) (pos 0)
    still = record { from = le_parts (pos 0) (pos 0) (omega arith); to = le_parts (pos 0) (pos 0) (omega arith) }
range_back zero (Some r) f h = absurd f
range_back (suc n) None f h = absurd f
range_back (suc n) (Some r) f h =
    pick_yes (×_dec (between? (negsuc 2147483647) (pos 2147483647) r.smallest) (between? (negsuc 2147483647) (pos 2147483647) r.largest)) _ _ h

-- ---- a row is read back
module _ (t : Tally) (sets : ℕ) (few : sets ≤ 100) (f : Fair sets t) (h : HeldRange t.range) where
  given_back : count_of (pos t.given) ≡ t.given
  given_back = count_back t.given (omega (arith, f.0))

  lacking_back : count_of (pos t.lacking) ≡ t.lacking
  lacking_back = count_back t.lacking (omega (arith, f.0))

  ranged : range_of (count_of (pos t.given)) (smallest t.range) (largest t.range) ≡ t.range
  ranged = ap (λ (n : ℕ). range_of n (smallest t.range) (largest t.range)) given_back ∙ range_back t.given t.range f.1.1 h

  -- a place in the area, and what stands there
  tally_back : record { given = count_of (pos t.given); lacking = count_of (pos t.lacking); range = range_of (count_of (pos t.given)) (smallest t.range) (largest t.range); sum = t.sum } ≡ t
  tally_back = same given_back lacking_back ranged refl

-- ---- the values of nodes are small
among_small : (v : ℤ) (ns : List (Option ℤ)) → Among v ns → All Small ns → nat_abs v ≤ 99_999_000
among_small v [] m a = absurd m
among_small v (n ∷ ns) m a = ⊎_elim (λ e. rw e at a.0) (λ r. among_small v ns r a.1) m

small_held : (v : ℤ) → nat_abs v ≤ 99_999_000 → Held v
unfolding Held
small_held v h =
    let a = abs_parts v in
    ⊎_elim
    (λ o. record { from = le_parts (negsuc 2147483647) v (omega (arith, a, o, h)); to = le_parts v (pos 2147483647) (omega (arith, a, o, h)) })
    (λ o. record { from = le_parts (negsuc 2147483647) v (omega (arith, a, o, h)); to = le_parts v (pos 2147483647) (omega (arith, a, o, h)) })
    (one_zero v)

spans_held : (ns : List (Option ℤ)) (r : Maybe Range) → All Small ns → Spans ns r → HeldRange r
spans_held ns None a s = tt
spans_held ns (Some r) a s = (small_held r.smallest (among_small r.smallest ns s.0 a), small_held r.largest (among_small r.largest ns s.1 a))

-- ---- the week
module _ (w : Week) (l : List ℤ) (few : w.sets ≤ 100) (s : Sane w) (t : HeldRange w.tec.0.range) (r : HeldRange w.rms.0.range) (h : HeldRange w.height.0.range) where
  held_back : week_at (front (week_numbers w) l) ≡ w
  unfolding week_at
  held_back =
      rw (le-ltb w.sets 0 (omega arith))
      (same_week
      (rw (le-ltb 18446744073709551615 w.sets (omega arith)) refl)
      (tally_back w.tec.0 w.sets few s.0 t)
      (tally_back w.rms.0 w.sets few s.1.0 r)
      (tally_back w.height.0 w.sets few s.1.1 h))

pub week_back : (ss : List Given) (l : List ℤ) → accepted ss ≤ 100 → week_at (front (week_numbers (week_of ss)) l) ≡ week_of ss
unfolding week_of
week_back ss l few = held_back (week_of ss) l few (sane_week ss) (held 0) (held 1) (held 2)
  where
    held : (k : ℕ) → HeldRange (figures (week_nodes k ss)).range
    held k = spans_held (week_nodes k ss) (figures (week_nodes k ss)).range (week_small k ss) (week_spans k ss)

-- ---- sixteen zeros
pub zero_week : (l : List ℤ) → week_at (front (replicate 16 (pos 0)) l) ≡ no_sets
zero_week l = held_back no_sets l (omega arith) ((omega arith, (omega arith, tt)), ((omega arith, (omega arith, tt)), (omega arith, (omega arith, tt)))) tt tt tt

-- ---- a negative number of sets breaks a condition
pub broken_insane : ¬ Sane broken
broken_insane s = omega (arith, s.0.0)
