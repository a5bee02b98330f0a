-- Questions in the strip and with maps that turn, whose answers are computed by hand. One row at 0.0, columns from 0.0 to 355.0 by 5.0, so that
-- the column after the last is the first; two maps, at second 0 and at second 7,200. In the first map the column at 355.0 has 10.0 and the one
-- at 0.0 has 20.0 TECU; in the second the columns at 325.0 and at 330.0 have 30.0 and 40.0; all others have 0. The last question has maps of its own.
use mathlib.Core.Path.{◌≡◌, refl}
use mathlib.Core.Logic.{inl, inr}
use mathlib.Core.List.{[], ◌∷◌, ◌++◌}
use Prim.Native.Nat.{ℕ, zero, suc, ◌+◌, ◌≤◌, ◌<◌}
use native.Mathlib.Decide.{ℕ_discrete, dec_lt}
use native.Mathlib.Omega.{arith}
use lib.IntN.{ℤ, pos, negsuc}
use lib.ListN.{replicate}
use Rattle.kit.specs.Answer.{pick, ×_dec, ⊎_dec, ¬_dec, all_dec}
use Rattle.kit.specs.Truth.{dec_by}
use Rattle.kit.proofs.TruthLaws.{truth_true}
use Rattle.kit.specs.Integer.{le?, int?, between?}
use Rattle.mapset.specs.Areas.{Areas, present?, Sound, six}
use Rattle.mapset.specs.SoundDecided.{sound?}
use Rattle.mapset.specs.declared.Header.{Header}
use Rattle.mapset.specs.Said.{axis_of}
use Rattle.mapset.specs.Samples.{plain_header}
use Rattle.ask_round.specs.Rounded.{rounded}
use Rattle.ask_cells.specs.Place.{first, next, InCell}
use Rattle.ask_spans.specs.Time.{epoch, gap, alone, shared, nearest, between}
use Rattle.ask_nodes.specs.Value.{is_value?, worth, value}
use Rattle.ask_sums.specs.Mean.{by_column, corners, spread, terms, weighted, weight}
use Rattle.ask_sums.specs.Sums.{valued?, mean}
use Rattle.ask.specs.Sun.{Turns}
use Rattle.ask.specs.Ask.{Question, question, tecu, Inside, Answers}
use Rattle.ask.proofs.AskLaws.{answered}
use Rattle.ask.proofs.Once.{answers_once}
use Rattle.ask.proofs.Reckoned.{judged_sound}
use Rattle.ask.proofs.Sample.{texts}
use Rattle.ask_cells.specs.declared.Cell.{Cell}

unfoldable pub header : Header
header = plain_header (record { first = 0; last = 7200; interval = 7200; maps = 2 }) (axis_of (pos 0) (pos 0) (pos 50)) (axis_of (pos 0) (pos 3550) (pos 50))

unfoldable pub held : Areas
held =
    six (pos 200 ∷ (replicate 70 (pos 0) ++ (pos 100 ∷ (replicate 65 (pos 0) ++ (pos 300 ∷ pos 400 ∷ replicate 5 (pos 0)))))) [] [] (replicate 6 (negsuc 0))
    (0 ∷ 7200 ∷ []) (0 ∷ 0 ∷ [])

-- TEC at latitude 0.00
unfoldable pub ask_at : ℕ → ℤ → ℕ → Question
ask_at method lon second = question header texts held 0 method 0 (pos 0) lon second

-- the same grid and epochs, in thousandths of a TECU: 1 at 0.0 in the first map, all others 0
unfoldable pub fine : Areas
fine =
    six (pos 1 ∷ replicate 143 (pos 0)) [] [] (negsuc 2 ∷ negsuc 2 ∷ replicate 4 (negsuc 0)) (0 ∷ 7200 ∷ []) (0 ∷ 0 ∷ [])

sound : Sound header texts held
unfolding judged_sound header texts held
sound = truth_true (sound? header texts held) refl

sound_fine : Sound header texts fine
unfolding judged_sound header texts fine
sound_fine = truth_true (sound? header texts fine) refl

-- the grid goes round, its step is 5.0, its maps are 7,200 s apart
turns : Turns header.grid.longitudes (0 ∷ 7200 ∷ [])
unfolding header
turns = record { round = inl refl; step = omega arith; close = close }
  where
    close : (i : ℕ) → i + 1 < 2 → epoch (0 ∷ 7200 ∷ []) (i + 1) ≤ epoch (0 ∷ 7200 ∷ []) i + 7200
    close zero h = omega arith
    close (suc i) h = absurd (omega arith)

-- a cell of the one row
unfoldable cell : ℕ → ℕ → ℕ → ℕ → Cell
cell column right across wide =
    record { row = 0; down = 0; tall = 500; column = column; right = right; across = across; wide = wide }

-- 357.50: halfway from the last column to the first
strip : InCell 10 header.grid (pos 0) (pos 35750) (cell 71 0 250 500)
unfolding header cell
strip = record {
  row = record { far = 0; from_first = refl; sits = record { place = refl; less = omega arith; node = omega arith; next = inl refl } };
  tall = refl;
  column = record { east = 35750; from_first = record { below = omega arith; turns = pos 0; whole = refl }; right = first refl refl; sits = record { place = refl; less = omega arith; node = omega arith; next = inr (omega arith) } };
  wide = refl;
}

-- by method 0 at the first epoch: (10.0 + 20.0) / 2 = 15.0
pub strip_answer : Answers (ask_at 0 (pos 35750) 0) (tecu (pos 15000))
unfolding ask_at header cell held rounded mean valued? weighted weight ⊎_dec all_dec terms spread corners by_column dec_lt value worth is_value? between? present? pick ×_dec ¬_dec dec_by le? int? ℕ_discrete
strip_answer =
    answered (ask_at 0 (pos 35750) 0) sound (inl (omega arith)) (alone 0)
    (nearest 0 refl (record { map = omega arith; near = λ j h. omega arith; earlier = λ j h. absurd (omega arith) }))
    (cell 71 0 250 500) (cell 71 0 250 500) (record { first_in = strip; second_in = inl (refl, refl) })
    (omega arith, omega arith) (omega arith, omega arith) (record { layer = omega arith; cell = cell 71 0 250 500; place = strip }) (tecu (pos 15000)) refl

-- ---- halfway between the maps, at second 3,600, each map is moved by 15.0 degrees: asked at 342.50, the first looks at 357.50, in the strip,
-- and the second at 327.50
inside : Inside (ask_at 2 (pos 34250) 3600)
unfolding ask_at header cell
inside = record {
  layer = omega arith;
  cell = cell 68 69 250 500;
  place = record {
    row = record { far = 0; from_first = refl; sits = record { place = refl; less = omega arith; node = omega arith; next = inl refl } };
    tall = refl;
    column = record { east = 34250; from_first = record { below = omega arith; turns = pos 0; whole = refl }; right = next (λ h. omega (arith, h.1)); sits = record { place = refl; less = omega arith; node = omega arith; next = inr (omega arith) } };
    wide = refl;
  };
}

moved_first : InCell 120 header.grid (pos 0) (pos 429000) (cell 71 0 3000 6000)
unfolding header cell
moved_first = record {
  row = record { far = 0; from_first = refl; sits = record { place = refl; less = omega arith; node = omega arith; next = inl refl } };
  tall = refl;
  column = record { east = 429000; from_first = record { below = omega arith; turns = pos 0; whole = refl }; right = first refl refl; sits = record { place = refl; less = omega arith; node = omega arith; next = inr (omega arith) } };
  wide = refl;
}

moved_second : InCell 120 header.grid (pos 0) (pos 393000) (cell 65 66 3000 6000)
unfolding header cell
moved_second = record {
  row = record { far = 0; from_first = refl; sits = record { place = refl; less = omega arith; node = omega arith; next = inl refl } };
  tall = refl;
  column = record { east = 393000; from_first = record { below = omega arith; turns = pos 0; whole = refl }; right = next (λ h. omega (arith, h.1)); sits = record { place = refl; less = omega arith; node = omega arith; next = inr (omega arith) } };
  wide = refl;
}

-- by method 2: (10.0 + 20.0 + 30.0 + 40.0) / 4 = 25.0
pub sun_answer : Answers (ask_at 2 (pos 34250) 3600) (tecu (pos 25000))
unfolding ask_at header cell held rounded mean valued? weighted weight ⊎_dec all_dec terms spread corners by_column dec_lt value worth is_value? between? present? pick ×_dec ¬_dec dec_by le? int? ℕ_discrete
sun_answer =
    answered (ask_at 2 (pos 34250) 3600) sound (inr turns) (shared 0 3600 3600) (between 0 refl (omega arith) (omega arith) (omega arith))
    (cell 71 0 3000 6000) (cell 65 66 3000 6000) (record { first_in = moved_first; second_in = inr (omega arith, moved_second) })
    (omega arith, omega arith) (omega arith, omega arith) inside (tecu (pos 25000)) refl

-- by method 3 the earlier of the two, which are equally near: (10.0 + 20.0) / 2 = 15.0
pub nearest_sun_answer : Answers (ask_at 3 (pos 34250) 3600) (tecu (pos 15000))
unfolding ask_at header cell held rounded mean valued? weighted weight ⊎_dec all_dec terms spread corners by_column dec_lt value worth is_value? between? present? pick ×_dec ¬_dec dec_by le? int? ℕ_discrete
nearest_sun_answer =
    answered (ask_at 3 (pos 34250) 3600) sound (inr turns) (alone 0) (nearest 0 refl (record { map = omega arith; near = near; earlier = λ j h. absurd (omega arith) }))
    (cell 71 0 3000 6000) (cell 71 0 3000 6000) (record { first_in = moved_first; second_in = inl (refl, refl) })
    (omega arith, omega arith) (omega arith, omega arith) (record { layer = inside.layer; cell = inside.cell; place = inside.place }) (tecu (pos 15000)) refl
  where
    near : (j : ℕ) → j < 2 → gap 3600 (epoch (0 ∷ 7200 ∷ []) 0) ≤ gap 3600 (epoch (0 ∷ 7200 ∷ []) j)
    near zero h = omega arith
    near (suc zero) h = omega arith
    near (suc (suc j)) h = absurd (omega arith)

-- ---- rounded once: the first map gives 1/2 and the second 0, so that halfway between them it is 1/4, rounded 0. Rounded in each map it would be
-- 1 and 0, and halfway 1/2, rounded 1
unfoldable pub fine_question : Question
fine_question = question header texts fine 0 2 0 (pos 0) (pos 34250) 3600

once_answer : Answers fine_question (tecu (pos 0))
unfolding fine_question ask_at header cell fine rounded mean valued? weighted weight ⊎_dec all_dec terms spread corners by_column dec_lt value worth is_value? between? present? pick ×_dec ¬_dec dec_by le? int? ℕ_discrete
once_answer =
    answered fine_question sound_fine (inr turns) (shared 0 3600 3600) (between 0 refl (omega arith) (omega arith) (omega arith))
    (cell 71 0 3000 6000) (cell 65 66 3000 6000) (record { first_in = moved_first; second_in = inr (omega arith, moved_second) })
    (omega arith, omega arith) (omega arith, omega arith) (record { layer = inside.layer; cell = inside.cell; place = inside.place }) (tecu (pos 0)) refl

pub not_rounded_in_each_map : ¬ Answers fine_question (tecu (pos 1))
not_rounded_in_each_map a = let e = answers_once fine_question (tecu (pos 0)) (tecu (pos 1)) once_answer a in let z : ◌≡◌ {A = ℕ} 0 1 = cc in omega arith
