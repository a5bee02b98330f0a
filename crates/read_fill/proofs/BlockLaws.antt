-- A block's values in its part of an area.
use mathlib.Core.Path.{◌≡◌, sym, ap, subst, ◌∙◌}
use mathlib.Core.List.{List, append_assoc}
use Prim.Native.Nat.{ℕ, suc, ◌+◌, ◌-◌, ◌≤◌}
use native.Mathlib.Omega.{arith}
use lib.ListN.{length, take, drop, length-drop}
use lib.Seq.{sets, sets-eq, drop-drop, length-take-le}
use lib.IntN.{ℤ}
use borrow.Rule.Slice.PartMut.{put_mid}
use Rattle.kit.proofs.AnswerLaws.{yields}
use Rattle.kit.proofs.SetLaws.{mid_sets}
use Rattle.reading.specs.Feed.{split, feed}
use Rattle.read_values.specs.Values.{Okay}
use Rattle.read_blocks.specs.Blocks.{values, Filled}
use Rattle.areas.specs.Scan.{values_ahead, brought}
use Rattle.read_fill.specs.Rows.{rows_of, rows_from, Valued}
use Rattle.read_fill.specs.Scan.{Resumes}
use Rattle.read_fill.proofs.FeedLaws.{rows_numbered, valued_okay, Past, past}

module _ (t : List ℕ) (at c from : ℕ) (l : List ℤ) (fits : from + c ≤ length l) where
  part_long : length (take (from + c - from) (drop from l)) ≡ c
  part_long = let e : from + c - from ≡ c = omega arith in rw e (length-take-le c (drop from l) (omega (arith, length-drop from l)))

  pub block_okay : Valued c c (rows_from t at) → Okay (values (feed 1 (split (drop at t))) (length (take (from + c - from) (drop from l))))
  block_okay h = rw part_long (valued_okay c c (feed 1 (split (drop at t))) h)

  pub block_put : (r : ℕ) (xs : List ℤ) → Filled t at 0 (length (take (from + c - from) (drop from l))) r xs → length xs ≡ length (take (from + c - from) (drop from l))
      → Resumes t at c r × (put_mid from (from + c - from) l xs ≡ sets l from (values_ahead c (rows_from t at)))
  block_put r xs f z =
      let e = rw part_long at f.on in
      let p : Past c (feed 1 (split (drop at t))) (feed (suc f.lines) (split (drop r t))) xs = yields _ (past c (feed 1 (split (drop at t)))) e in
      let q : rows_of (feed (suc f.lines) (split (drop r t))) ≡ rows_from t r = rows_numbered (suc f.lines) 1 (split (drop r t)) in
      let n = p.fewer in (
        record {
          within = f.within;
          on = λ C s. p.on C s ∙ ap (λ rs. brought C s 0 rs) q;
          valued = λ C h. subst (λ rs. Valued C 0 rs) q (p.valued C h);
          fewer = omega (arith, n, ap length q);
        },
        mid_sets l (values_ahead c (rows_from t at)) xs from c (sym (ap length p.ahead ∙ z ∙ part_long)) fits (sym p.ahead),
      )
