-- The areas of the call's own are long enough where 0 is told; the nodes stand one behind the other.
use mathlib.Core.Path.{◌≡◌, refl, sym, ap, ◌∙◌}
use mathlib.Core.List.{List, [], ◌∷◌, ◌++◌}
use Prim.Native.Nat.{ℕ, ◌+◌, ◌*◌, ◌≤◌, ◌<◌}
use native.Mathlib.Numerals.{add-one}
use lib.IntN.{ℤ}
use lib.ListN.{length, get_or, drop}
use lib.Seq.{sets, drop-cons}
use Rattle.c_header.proofs.SetLaws.{sets_append}
use Rattle.ask_why.specs.declared.Needed.{Needed}
use native.Mathlib.Omega.{arith}
use Rattle.c_answers.proofs.OwnLaws.{fit_two}
use Rattle.c_why.specs.ExplainExported.{node_numbers, all_numbers, explain_short}

module _ (h x n l : ℕ) where
  pub record Fits : Type 0 where
    pub header : 45 ≤ h
    pub texts : 1324 ≤ x
    pub nodes : 51 ≤ n
    pub lacking : 5 ≤ l

  pub none : {k : ℕ} → k ≡ explain_short h x n l → k < 1 → explain_short h x n l ≡ 0
  none e p = omega (arith, e, p)

  pub fits : {k : ℕ} → k ≡ explain_short h x n l → k < 1 → Fits
  unfolding explain_short
  fits e a =
      let u = fit_two h x n 51 l 5 e a in
      record { header = u.header; texts = u.texts; nodes = u.first; lacking = u.second }

-- ---- the nodes
pub next_node : (ns : List Needed) (d : Needed) (i : ℕ) → i < length ns → (o : List ℤ) → sets (sets o (3 + 6 * i) (node_numbers (get_or ns i d))) (3 + 6 * (i + 1)) (all_numbers (drop (i + 1) ns)) ≡ sets o (3 + 6 * i) (all_numbers (drop i ns))
next_node ns d i h o =
    let e : all_numbers (drop i ns) ≡ node_numbers (get_or ns i d) ++ all_numbers (drop (i + 1) ns) = rw (add-one, drop-cons ns i d h) refl in
    sets_append (node_numbers (get_or ns i d)) (all_numbers (drop (i + 1) ns)) o (3 + 6 * i) (3 + 6 * (i + 1)) (omega arith) ∙ ap (sets o (3 + 6 * i)) (sym e)

pub numbers_length : (ns : List Needed) → length (all_numbers ns) ≡ 6 * length ns
numbers_length [] = refl
numbers_length (n ∷ ns) = omega (arith, numbers_length ns)
