-- The rows from a place of a text on.
use mathlib.Core.Path.{◌≡◌, refl, ap, ◌∙◌}
use mathlib.Core.List.{List, [], ◌∷◌, ◌++◌}
use Prim.Native.Nat.{ℕ, zero, suc, ◌-◌, ◌≤◌}
use native.Mathlib.Decide.{ℕ_discrete, dec_le}
use native.Mathlib.Omega.{arith}
use lib.ListN.{length, take, drop}
use lib.IntN.{ℤ}
use Rattle.kit.specs.Answer.{Answer, ok, refused, bind, amap, pick, all_dec}
use Rattle.kit.proofs.AnswerLaws.{Yields, y_ok, y_no, bind_yields, amap_yields, yields_map}
use Rattle.kit.specs.Range.{within?}
use Rattle.layout.specs.Text.{pad}
use Rattle.reading.specs.declared.Fault.{Fault}
use Rattle.reading.specs.declared.Why.{Why}
use Rattle.reading.specs.Feed.{why, on_line, Feed, over, bad, row, bad_column, split, feed}
use Rattle.reading.specs.Fields.{cells}
use Rattle.reading.specs.Maps.{short, on_row}
use Rattle.read_lines.specs.Leads.{LeadsOver, LeadsRow}
use Rattle.read_values.specs.Values.{Okay}
use Rattle.read_blocks.specs.Blocks.{values}
use Rattle.areas.specs.Scan.{Now, or_else, values_ahead, brought}
use Rattle.read_fill.specs.Rows.{rows_of, rows_from, Valued}

-- ---- the rows do not depend on the line's number

pub rows_numbered : (n m : ℕ) (ls : List (List ℕ)) → rows_of (feed n ls) ≡ rows_of (feed m ls)
unfolding feed rows_of pick
rows_numbered n m [] = refl
rows_numbered n m (l ∷ ls) = by (dec_le (length l) 80) (all_dec (within? 32 126) l) (all_dec (λ b. ℕ_discrete b 32) l) (rows_numbered (suc n) (suc m) ls)
  where
    by : {P Q R : Type 0} (d : Dec P) (e : Dec Q) (g : Dec R) → rows_of (feed (suc n) ls) ≡ rows_of (feed (suc m) ls)
        → rows_of (pick d (pick e (pick g (feed (suc n) ls) (row n (pad l) (feed (suc n) ls))) (bad (why 2 n (bad_column l)))) (bad (why 1 n 81)))
        ≡ rows_of (pick d (pick e (pick g (feed (suc m) ls) (row m (pad l) (feed (suc m) ls))) (bad (why 2 m (bad_column l)))) (bad (why 1 m 81)))
    by (yes p) (yes q) (yes r) ih = ih
    by (yes p) (yes q) (no r) ih = ap (λ rs. pad l ∷ rs) ih
    by (yes p) (no q) g ih = refl
    by (no p) e g ih = refl

-- ---- row by row

module _ (t : List ℕ) (at : ℕ) where
  pub rows_over : {m : ℕ} → LeadsOver t at 0 m → rows_from t at ≡ []
  unfolding rows_of
  rows_over h = ap rows_of h.on

  pub rows_bad : {w : Why} → feed 1 (split (drop at t)) ≡ bad w → rows_from t at ≡ []
  unfolding rows_of
  rows_bad h = ap rows_of h

  pub rows_row : {start end next m : ℕ} → LeadsRow t at 0 start end next m → rows_from t at ≡ pad (take (end - start) (drop start t)) ∷ rows_from t next
  unfolding rows_of
  rows_row {start} {end} {next} {m} h = ap rows_of h.on ∙ ap (λ rs. pad (take (end - start) (drop start t)) ∷ rs) (rows_numbered (suc (suc m)) 1 (split (drop next t)))

-- ---- the values of a block

on_line_ok : {A : Type 0} (n : ℕ) (x : Answer Fault A) {a : A} → on_line n x ≡ ok a → x ≡ ok a
unfolding on_line
on_line_ok n (ok b) e = cc
on_line_ok n (refused w) e = let z : ◌≡◌ {A = ℕ} 0 1 = cc in absurd (omega arith)

okay_bind : {A B D : Type 0} (n : ℕ) (x : Answer Fault A) (v : Answer Why B) (g : A → B → D) → Okay x → Okay v → Okay (bind (on_line n x) (λ a. amap (g a) v))
unfolding on_line bind amap
okay_bind n (ok a) (ok b) g p q = tt
okay_bind n (ok a) (refused w) g p q = absurd q
okay_bind n (refused w) v g p q = absurd p

pub valued_okay : (C c : ℕ) (f : Feed) → Valued C c (rows_of f) → Okay (values f c)
unfolding rows_of Valued values
valued_okay C zero (over n) h = tt
valued_okay C (suc c) (over n) h = absurd h
valued_okay C zero (bad w) h = tt
valued_okay C (suc c) (bad w) h = absurd h
valued_okay C zero (row n r f) h = tt
valued_okay C (suc c) (row n r f) h = okay_bind n (cells 1 (on_row (suc c)) r) (values f (suc c - 16)) (λ zs x. (zs ++ x.0, x.1)) h.0 (valued_okay C (suc c - 16) f h.1)

-- c values of f are out, and f' follows them
pub record Past (c : ℕ) (f f' : Feed) (out : List ℤ) : Type 0 where
  pub ahead : values_ahead c (rows_of f) ≡ out
  pub on : (C : ℕ) (s : Now) → brought C s c (rows_of f) ≡ brought C s 0 (rows_of f')
  pub valued : (C : ℕ) → Valued C c (rows_of f) → Valued C 0 (rows_of f')
  pub fewer : length (rows_of f') ≤ length (rows_of f)

no_values : (f : Feed) → Past 0 f f []
no_values f = record { ahead = none (rows_of f); on = λ C s. refl; valued = λ C h. h; fewer = omega arith }
  where
    none : (rs : List (List ℕ)) → values_ahead 0 rs ≡ []
    none [] = refl
    none (r ∷ rs) = refl

one_row : (c n : ℕ) (r : List ℕ) (f f' : Feed) (zs out : List ℤ) → cells 1 (on_row (suc c)) r ≡ ok zs → Past (suc c - 16) f f' out → Past (suc c) (row n r f) f' (zs ++ out)
unfolding rows_of brought Valued or_else
one_row c n r f f' zs out e p =
    record {
      ahead = rw e (ap (λ l. zs ++ l) p.ahead);
      on = λ C s. p.on C s;
      valued = λ C h. p.valued C h.1;
      fewer = omega (arith, p.fewer);
    }

pub past : (c : ℕ) (f : Feed) → Yields (λ w. Past c f w.1 w.0) (values f c)
unfolding values short
past zero (over n) = y_ok (no_values (over n))
past (suc c) (over n) = y_no
past zero (bad w) = y_ok (no_values (bad w))
past (suc c) (bad w) = y_no
past zero (row n r f) = y_ok (no_values (row n r f))
past (suc c) (row n r f) =
    bind_yields _ (λ zs e. amap_yields _ (yields_map (λ w p. one_row c n r f w.1 zs w.0 (on_line_ok n (cells 1 (on_row (suc c)) r) e) p) (past (suc c - 16) f)))
