-- The reading takes a block's values as `values` has them, whatever the header, the place and what is in force.
use mathlib.Core.Path.{◌≡◌, refl, sym, ap, ◌∙◌}
use Prim.Native.Nat.{ℕ, zero, suc, ◌-◌}
use mathlib.Core.List.{List, ◌++◌, append_assoc}
use lib.IntN.{ℤ}
use Rattle.kit.specs.Answer.{Answer, ok, refused, bind, amap}
use Rattle.kit.proofs.AnswerLaws.{amap_amap, amap_same}
use Rattle.mapset.specs.declared.Header.{Header}
use Rattle.layout.specs.Layout.{Force}
use Rattle.reading.specs.declared.Why.{Why}
use Rattle.reading.specs.Feed.{on_line, Feed, over, bad, row}
use Rattle.reading.specs.Fields.{cells}
use Rattle.reading.specs.Maps.{Todo, short, on_row, run}
use Rattle.reading.specs.declared.Place.{Place}
use Rattle.read_blocks.specs.Blocks.{values}

-- values in front of what is read
abbrev pub in_front : {A : Type 0} → List ℤ → Answer Why (List ℤ × A) → Answer Why (List ℤ × A)
in_front zs x = amap (λ w. (zs ++ w.0, w.1)) x

module _ (h : Header) (q : Place) (p : Force) where
  -- the values, and what is then read
  abbrev pub resumed : Answer Why (List ℤ × Feed) → Answer Why (List ℤ × Todo q)
  resumed v = bind v (λ x. in_front x.0 (run h q p 0 x.1))

  one_row : (c : Answer Why (List ℤ)) (v : Answer Why (List ℤ × Feed)) (r : Answer Why (List ℤ × Todo q)) → r ≡ resumed v
      → bind c (λ zs. in_front zs r) ≡ resumed (bind c (λ zs. in_front zs v))
  unfolding bind amap
  one_row (ok zs) (ok x) r e = ap (in_front zs) e ∙ amap_amap _ _ _ (λ w. ap (λ (l : List ℤ). (l, w.1)) (sym (append_assoc zs x.0 w.0))) (run h q p 0 x.1)
  one_row (ok zs) (refused w) r e = ap (in_front zs) e
  one_row (refused w) v r e = refl

  pub run_values : (c : ℕ) (f : Feed) → run h q p c f ≡ resumed (values f c)
  unfolding run values short bind amap
  run_values zero (over n) = sym (amap_same _ (λ w. refl) _)
  run_values (suc c) (over n) = refl
  run_values zero (bad w) = refl
  run_values (suc c) (bad w) = refl
  run_values zero (row n r f) = sym (amap_same _ (λ w. refl) _)
  run_values (suc c) (row n r f) = one_row (on_line n (cells 1 (on_row (suc c)) r)) (values f (suc c - 16)) _ (run_values (suc c - 16) f)
