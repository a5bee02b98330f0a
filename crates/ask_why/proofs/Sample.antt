-- An explanation worked out by hand: maps that turn with the Sun, asked at 342.50 halfway between two epochs 7,200 s apart, DLAT and DLON 5.0. The first
-- map is looked at in the strip, at 357.50, the second at 327.50: four nodes of equal weight.
use mathlib.Core.Path.{refl}
use mathlib.Core.Logic.{inl, inr}
use mathlib.Core.List.{[], ◌∷◌}
use Prim.Native.Nat.{ℕ}
use native.Mathlib.Decide.{ℕ_discrete, dec_lt}
use native.Mathlib.Omega.{arith}
use lib.IntN.{ℤ, pos}
use Rattle.kit.specs.Answer.{pick, ×_dec, ⊎_dec, ¬_dec}
use Rattle.kit.specs.Truth.{dec_by}
use Rattle.kit.specs.Integer.{le?, int?, between?}
use Rattle.mapset.specs.Areas.{present?}
use Rattle.ask_cells.specs.Place.{InCell, first, next}
use Rattle.ask_cells.specs.declared.Cell.{Cell}
use Rattle.ask_spans.specs.Time.{shared, between}
use Rattle.ask_nodes.specs.Value.{is_value?, worth, value}
use Rattle.std.specs.Prelude.{Some, Ok}
use Rattle.ask_nodes.specs.declared.Value.TheVariants as V
use Rattle.ask_sums.specs.Mean.{by_column, corners, spread}
use Rattle.ask.specs.Ask.{tecu}
use Rattle.ask.proofs.SunSample.{header, held, ask_at, sun_answer}
use Rattle.ask_why.specs.Explain.{places, Explains}
use Rattle.ask_why.specs.Parts.{add, collect}
use Rattle.ask_why.specs.declared.Needed.{Needed}
use Rattle.ask_why.proofs.WhyLaws.{opened, explains}

-- a cell of the one row
unfoldable cell : ℕ → ℕ → Cell
cell column right = record { row = 0; down = 0; tall = 500; column = column; right = right; across = 3000; wide = 6000 }

moved_first : InCell 120 header.grid (pos 0) (pos 429000) (cell 71 0)
unfolding header cell
moved_first = record {
  row = record { far = 0; from_first = refl; sits = record { place = refl; less = omega arith; node = omega arith; next = inl refl } };
  tall = refl;
  column = record { east = 429000; from_first = record { below = omega arith; turns = pos 0; whole = refl }; right = first refl refl; sits = record { place = refl; less = omega arith; node = omega arith; next = inr (omega arith) } };
  wide = refl;
}

moved_second : InCell 120 header.grid (pos 0) (pos 393000) (cell 65 66)
unfolding header cell
moved_second = record {
  row = record { far = 0; from_first = refl; sits = record { place = refl; less = omega arith; node = omega arith; next = inl refl } };
  tall = refl;
  column = record { east = 393000; from_first = record { below = omega arith; turns = pos 0; whole = refl }; right = next (λ h. omega (arith, h.1)); sits = record { place = refl; less = omega arith; node = omega arith; next = inr (omega arith) } };
  wide = refl;
}

-- a node of row 0 and its thousandths of a TECU: 3,600 s times 500 times 3,000
abbrev node : ℕ → ℕ → ℤ → Needed
node map column v = record { map = map; layer = 0; row = 0; column = column; value = Some (V.Tecu (record { 0 = v })); weight = 5_400_000_000 }

-- 500 times 6,000 times 7,200 s; in the strip column 0 comes before column 71
pub sun_explained : Explains (ask_at 2 (pos 34250) 3600) (record {
  answer = Ok (V.Tecu (record { 0 = pos 25000 }));
  count = 4;
  denominator = 21_600_000_000;
  nodes = places (node 1 0 (pos 20000) ∷ node 1 71 (pos 10000) ∷ node 2 65 (pos 30000) ∷ node 2 66 (pos 40000) ∷ []);
})
unfolding ask_at header cell held add collect spread corners by_column value worth is_value? between? present? pick ×_dec ⊎_dec ¬_dec dec_by le? int? ℕ_discrete dec_lt
sun_explained =
    explains (ask_at 2 (pos 34250) 3600) (opened (ask_at 2 (pos 34250) 3600) (tecu (pos 25000)) sun_answer tt).sound (shared 0 3600 3600) (between 0 refl (omega arith) (omega arith) (omega arith))
    (cell 71 0) (cell 65 66) (record { first_in = moved_first; second_in = inr (omega arith, moved_second) }) (Ok (V.Tecu (record { 0 = pos 25000 }))) sun_answer refl
