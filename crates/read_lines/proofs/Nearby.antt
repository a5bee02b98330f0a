-- The first 82 bytes of a text show its first line, or that it is too long.
use mathlib.Core.Path.{◌≡◌, refl, sym, ap, ◌∙◌}
use mathlib.Core.List.{List}
use Prim.Native.Nat.{ℕ, ◌-◌, ◌≤◌, ◌<◌}
use native.Mathlib.Omega.{arith}
use native.Mathlib.Decide.{ℕ_discrete, dec_le}
use lib.ListN.{length, get_or, take, drop, take-append-drop}
use lib.Seq.{length-take-le, take_all}
use Rattle.reading.specs.Feed.{why, fault, split, bad, feed}
use Rattle.read_lines.specs.Lines.{passing, not_lf?, Spans}
use Rattle.read_lines.specs.Quick.{Near, NearLf}
use Rattle.read_lines.proofs.Passing.{passing_le, passing_append, passing_skip}
use Rattle.read_lines.proofs.Firsts.{spans_last, spans_cr, spans_lf, look_long, stand_bad}

module _ {P : ℕ → Type 0} (d : (b : ℕ) → Dec (P b)) (t : List ℕ) (m : ℕ) (within : m ≤ length t) where
  -- what stops within the front of a text stops there in the whole
  pub front_stops : (w : ℕ) → w ≡ passing d (take m t) → w < m → w ≡ passing d t
  front_stops w e h =
      let n : length (take m t) ≡ m = length-take-le m t within in
      e ∙ sym (passing_append d (take m t) (drop m t) (omega arith)) ∙ ap (passing d) (take-append-drop m t)

  -- what does not goes on behind it
  front_passes : (w : ℕ) → w ≡ passing d (take m t) → m ≤ w → m ≤ passing d t
  front_passes w e h =
      let n : length (take m t) ≡ m = length-take-le m t within in
      let l = passing_le d (take m t) in
      let s = passing_skip d m t (omega arith) in
      omega arith

pub near_lf : (t : List ℕ) (m e : ℕ) → Near t m → e ≡ passing not_lf? (take m t) → NearLf t e
near_lf t m e n is = record { is = near (dec_le m e); far = far }
  where
    size : length (take m t) ≡ m
    size = length-take-le m t n.within

    near : Dec (m ≤ e) → e < 82 → e ≡ passing not_lf? t
    near (yes h) q =
        let s = size in
        let l = passing_le not_lf? (take m t) in
        let whole : m ≡ length t = n.all (omega arith) in
        is ∙ ap (passing not_lf?) (take_all m t (omega arith))
    near (no h) q = front_stops not_lf? t m n.within e is (omega arith)

    far : 82 ≤ e → 82 ≤ passing not_lf? t
    far h =
        let s = size in
        let l = passing_le not_lf? (take m t) in
        let f = front_passes not_lf? t m n.within e is (omega (arith, n.most)) in
        omega arith

-- a text that starts with 82 bytes and no LF among them
pub stand_long : (t : List ℕ) → 82 ≤ passing not_lf? t → (n : ℕ) → feed n (split t) ≡ bad (why 1 n 81)
stand_long t h = by (dec_le (length t) e)
  where
    e : ℕ
    e = passing not_lf? t

    long : (w next : ℕ) → 80 < w → w ≤ length t → Spans t (record { width = w; next = next }) → (n : ℕ) → feed n (split t) ≡ bad (why 1 n 81)
    long w next f g s =
        let l : length (take w t) ≡ w = length-take-le w t g in
        stand_bad t (record { width = w; next = next }) s (fault 1 81) (look_long (take w t) (omega arith))

    ended : e < length t → Dec (get_or t (e - 1) 0 ≡ 13) → (n : ℕ) → feed n (split t) ≡ bad (why 1 n 81)
    ended q (yes c) = long _ _ (omega arith) (omega arith) (spans_cr t e refl q (λ z. omega arith) c)
    ended q (no c) = long _ _ (omega arith) (omega arith) (spans_lf t e refl q (λ z. omega arith) c)

    by : Dec (length t ≤ e) → (n : ℕ) → feed n (split t) ≡ bad (why 1 n 81)
    by (yes q) = let l = passing_le not_lf? t in long e e (omega arith) l (spans_last t e refl (omega arith) q)
    by (no q) = ended (omega arith) (ℕ_discrete (get_or t (e - 1) 0) 13)
