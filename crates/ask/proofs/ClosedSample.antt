-- A question on a grid that closes on itself, moved past LON2, whose answers are computed by hand. One row at 0.0, columns from 0.0 to 360.0 by 5.0, so that the
-- last stands on the first one's meridian; two maps, at second 0 and at second 7,200. In the first map the columns at 0.0 and at 5.0 have 10.0 and 20.0 TECU, and the
-- one at 360.0 has 99.0; in the second the columns at 330.0 and at 335.0 have 30.0 and 40.0; all others have 0.
use mathlib.Core.Path.{refl}
use mathlib.Core.Logic.{inl, inr}
use mathlib.Core.List.{[], ◌∷◌, ◌++◌}
use Prim.Native.Nat.{ℕ, zero, suc, ◌+◌, ◌≤◌, ◌<◌}
use native.Mathlib.Decide.{ℕ_discrete, dec_lt}
use native.Mathlib.Omega.{arith}
use lib.IntN.{pos, negsuc}
use lib.ListN.{replicate}
use Rattle.kit.specs.Answer.{pick, ×_dec, ⊎_dec, ¬_dec, all_dec}
use Rattle.kit.specs.Truth.{dec_by}
use Rattle.kit.proofs.TruthLaws.{truth_true}
use Rattle.kit.specs.Integer.{le?, int?, between?}
use Rattle.mapset.specs.Areas.{Areas, present?, Sound, six}
use Rattle.mapset.specs.SoundDecided.{sound?}
use Rattle.mapset.specs.declared.Header.{Header}
use Rattle.mapset.specs.Said.{axis_of}
use Rattle.mapset.specs.Samples.{plain_header}
use Rattle.ask_round.specs.Rounded.{rounded}
use Rattle.ask_cells.specs.Place.{next, InCell}
use Rattle.ask_spans.specs.Time.{epoch, gap, alone, shared, nearest, between}
use Rattle.ask_nodes.specs.Value.{is_value?, worth, value}
use Rattle.ask_sums.specs.Mean.{by_column, corners, spread, terms, weighted, weight}
use Rattle.ask_sums.specs.Sums.{valued?, mean}
use Rattle.ask.specs.Sun.{Turns}
use Rattle.ask.specs.Ask.{Question, question, tecu, Inside, Answers}
use Rattle.ask.proofs.AskLaws.{answered}
use Rattle.ask.proofs.Reckoned.{judged_sound}
use Rattle.ask.proofs.Sample.{texts}
use Rattle.ask_cells.specs.declared.Cell.{Cell}

unfoldable pub closed_header : Header
closed_header = plain_header (record { first = 0; last = 7200; interval = 7200; maps = 2 }) (axis_of (pos 0) (pos 0) (pos 50)) (axis_of (pos 0) (pos 3600) (pos 50))

unfoldable pub closed_areas : Areas
closed_areas =
    six (pos 100 ∷ pos 200 ∷ (replicate 70 (pos 0) ++ (pos 990 ∷ (replicate 66 (pos 0) ++ (pos 300 ∷ pos 400 ∷ replicate 5 (pos 0)))))) [] [] (replicate 6 (negsuc 0))
    (0 ∷ 7200 ∷ []) (0 ∷ 0 ∷ [])

-- TEC at 0.00 north and 359.00 east at second 1,200
unfoldable pub closed_at : ℕ → Question
closed_at method = question closed_header texts closed_areas 0 method 0 (pos 0) (pos 35900) 1200

sound : Sound closed_header texts closed_areas
unfolding judged_sound closed_header texts closed_areas
sound = truth_true (sound? closed_header texts closed_areas) refl

turns : Turns closed_header.grid.longitudes (0 ∷ 7200 ∷ [])
unfolding closed_header
turns = record { round = inr refl; step = omega arith; close = close }
  where
    close : (i : ℕ) → i + 1 < 2 → epoch (0 ∷ 7200 ∷ []) (i + 1) ≤ epoch (0 ∷ 7200 ∷ []) i + 7200
    close zero h = omega arith
    close (suc i) h = absurd (omega arith)

unfoldable cell : ℕ → ℕ → ℕ → ℕ → Cell
cell column right across wide =
    record { row = 0; down = 0; tall = 500; column = column; right = right; across = across; wide = wide }

inside : (m : ℕ) → Inside (closed_at m)
unfolding closed_at closed_header cell
inside m = record {
  layer = omega arith;
  cell = cell 71 72 400 500;
  place = record {
    row = record { far = 0; from_first = refl; sits = record { place = refl; less = omega arith; node = omega arith; next = inl refl } };
    tall = refl;
    column = record { east = 35900; from_first = record { below = omega arith; turns = pos 0; whole = refl }; right = next (λ h. omega (arith, h.1)); sits = record { place = refl; less = omega arith; node = omega arith; next = inr (omega arith) } };
    wide = refl;
  };
}

-- the first map, moved by 5.0 degrees, is asked at 364.00: 4.00 past the first column
moved_first : InCell 120 closed_header.grid (pos 0) (pos 436800) (cell 0 1 4800 6000)
unfolding closed_header cell
moved_first = record {
  row = record { far = 0; from_first = refl; sits = record { place = refl; less = omega arith; node = omega arith; next = inl refl } };
  tall = refl;
  column = record { east = 4800; from_first = record { below = omega arith; turns = pos 1; whole = refl }; right = next (λ h. omega (arith, h.1)); sits = record { place = refl; less = omega arith; node = omega arith; next = inr (omega arith) } };
  wide = refl;
}

-- the second, moved back by 25.0, at 334.00
moved_second : InCell 120 closed_header.grid (pos 0) (pos 400800) (cell 66 67 4800 6000)
unfolding closed_header cell
moved_second = record {
  row = record { far = 0; from_first = refl; sits = record { place = refl; less = omega arith; node = omega arith; next = inl refl } };
  tall = refl;
  column = record { east = 400800; from_first = record { below = omega arith; turns = pos 0; whole = refl }; right = next (λ h. omega (arith, h.1)); sits = record { place = refl; less = omega arith; node = omega arith; next = inr (omega arith) } };
  wide = refl;
}

-- by method 2: 18.0 and 38.0 by 5 to 1, 21.333
pub closed_answer : Answers (closed_at 2) (tecu (pos 21333))
unfolding closed_at closed_header cell closed_areas rounded mean valued? weighted weight ⊎_dec all_dec terms spread corners by_column dec_lt value worth is_value? between? present? pick ×_dec ¬_dec dec_by le? int? ℕ_discrete
closed_answer =
    answered (closed_at 2) sound (inr turns) (shared 0 6000 1200) (between 0 refl (omega arith) (omega arith) (omega arith))
    (cell 0 1 4800 6000) (cell 66 67 4800 6000) (record { first_in = moved_first; second_in = inr (omega arith, moved_second) })
    (omega arith, omega arith) (omega arith, omega arith) (inside 2) (tecu (pos 21333)) refl

-- by method 3 the first map alone: 18.0
pub nearest_closed_answer : Answers (closed_at 3) (tecu (pos 18000))
unfolding closed_at closed_header cell closed_areas rounded mean valued? weighted weight ⊎_dec all_dec terms spread corners by_column dec_lt value worth is_value? between? present? pick ×_dec ¬_dec dec_by le? int? ℕ_discrete
nearest_closed_answer =
    answered (closed_at 3) sound (inr turns) (alone 0) (nearest 0 refl (record { map = omega arith; near = near; earlier = λ j h. absurd (omega arith) }))
    (cell 0 1 4800 6000) (cell 0 1 4800 6000) (record { first_in = moved_first; second_in = inl (refl, refl) })
    (omega arith, omega arith) (omega arith, omega arith) (inside 3) (tecu (pos 18000)) refl
  where
    near : (j : ℕ) → j < 2 → gap 1200 (epoch (0 ∷ 7200 ∷ []) 0) ≤ gap 1200 (epoch (0 ∷ 7200 ∷ []) j)
    near zero h = omega arith
    near (suc zero) h = omega arith
    near (suc (suc j)) h = absurd (omega arith)
