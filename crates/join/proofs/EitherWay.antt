-- 02, Ask 12: three map sets joined in either grouping give the same map set, or both groupings are refused.
use mathlib.Core.Path.{◌≡◌, sym, subst, ◌∙◌}
use Prim.Native.Nat.{ℕ, ◌≤◌}
use native.Mathlib.Omega.{arith}
use native.Mathlib.Nat.{mul-le-mul_right}
use Rattle.kit.specs.Answer.{Answer, ok, refused, need, bind}
use Rattle.mapset.specs.declared.Grid.{Grid}
use Rattle.mapset.specs.Grid.{layers, rows, columns}
use Rattle.mapset.specs.MapSet.{MapSet}
use Rattle.join.specs.Join.{count, joined, InLimits, MayJoin, join, Agree, both_given, both_refused}
use Rattle.join.proofs.Exactly.{Joins, not_formed, not_alike, not_met, too_many, given as may_join, join_exactly}
use Rattle.join.proofs.JoinedFormed.{some_maps, joined_formed}
use Rattle.join.proofs.Same.{counts, joined_either}

-- ---- where one grouping may be joined, so may the other

fewer : (m n : ℕ) (g : Grid) → m ≤ n → InLimits n g → InLimits m g
fewer m n g h l = (omega (arith, l.0), omega (arith, l.1, mul-le-mul_right (columns g) (mul-le-mul_right (rows g) (mul-le-mul_right (layers g) h))))

module _ (a b c : MapSet) where
  pub rightwards : MayJoin a b → MayJoin (joined a b) c → MayJoin b c × MayJoin a (joined b c)
  rightwards m n =
      let p : MayJoin b c =
      record {
        earlier = m.later;
        later = n.later;
        alike = record { grid = n.alike.grid; dimension = n.alike.dimension; radius = n.alike.radius };
        meet = n.meet;
        limits = fewer (count b.header c.header) (count (joined a b).header c.header) c.header.grid (omega (arith, some_maps a m.earlier, some_maps b m.later)) n.limits;
      } in (
        p,
        record {
          earlier = m.earlier;
          later = joined_formed b c p;
          alike = record {
            grid = m.alike.grid ∙ n.alike.grid;
            dimension = m.alike.dimension ∙ n.alike.dimension;
            radius = m.alike.radius ∙ n.alike.radius;
          };
          meet = m.meet;
          limits = subst (λ k. InLimits k c.header.grid) (counts a b c m.earlier m.later) n.limits;
        },
      )

  pub leftwards : MayJoin b c → MayJoin a (joined b c) → MayJoin a b × MayJoin (joined a b) c
  leftwards p q =
      let m : MayJoin a b =
      record {
        earlier = q.earlier;
        later = p.earlier;
        alike = record {
          grid = q.alike.grid ∙ sym p.alike.grid;
          dimension = q.alike.dimension ∙ sym p.alike.dimension;
          radius = q.alike.radius ∙ sym p.alike.radius;
        };
        meet = q.meet;
        limits =
            subst (λ g. InLimits (count a.header b.header) g) (sym p.alike.grid)
            (fewer (count a.header b.header) (count a.header (joined b c).header) c.header.grid (omega (arith, some_maps b p.earlier, some_maps c p.later)) q.limits);
      } in (
        m,
        record {
          earlier = joined_formed a b m;
          later = p.later;
          alike = record { grid = p.alike.grid; dimension = p.alike.dimension; radius = p.alike.radius };
          meet = p.meet;
          limits = subst (λ k. InLimits k c.header.grid) (sym (counts a b c q.earlier p.earlier)) q.limits;
        },
      )

-- ---- the answers

-- x where P holds, and else a refusal
pub data Judges {W A : Type 0} (P : Type 0) (x : A) : Answer W A → Type 0 where
  given : P → Judges P x (ok x)
  denied : {w : W} → ¬ P → Judges P x (refused w)

module _ {W A : Type 0} where
  pub need_judges : {P Q : Type 0} {x : A} {o : Answer W A} (d : Dec Q) (w : W) → (P → Q) → (Q → Judges P x o) → Judges P x (need d w o)
  unfolding need
  need_judges (yes q) w f g = g q
  need_judges (no n) w f g = denied (λ p. n (f p))

  and_judges : {P Q : Type 0} {y : A} {o : Answer W A} → P → Judges Q y o → Judges (P × Q) y o
  and_judges p (given q) = given (p, q)
  and_judges p (denied n) = denied (λ h. n h.1)

  pub bind_judges : {B P Q : Type 0} {x : B} {y : A} {o : Answer W B} (f : B → Answer W A) → Judges P x o → Judges Q y (f x) → Judges (P × Q) y (bind o f)
  unfolding bind
  bind_judges f (given p) j = and_judges p j
  bind_judges f (denied n) j = denied (λ h. n h.0)

  pub agree : {P Q : Type 0} {x y : A} {o o' : Answer W A} → (P → Q) → (Q → P) → (P → x ≡ y) → Judges P x o → Judges Q y o' → Agree o o'
  agree f g e (given p) (given q) = rw (e p) both_given
  agree f g e (given p) (denied n) = absurd (n (f p))
  agree f g e (denied n) (given q) = absurd (n (g q))
  agree f g e (denied n) (denied m) = both_refused

join_judges : (a b : MapSet) → Judges (MayJoin a b) (joined a b) (join a b)
join_judges a b = by (join_exactly a b)
  where
    by : {o : Answer ℕ MapSet} → Joins a b o → Judges (MayJoin a b) (joined a b) o
    by (not_formed n) = denied (λ m. n (m.earlier, m.later))
    by (not_alike p q n) = denied (λ m. n m.alike)
    by (not_met p q r n) = denied (λ m. n m.meet)
    by (too_many p q r s n) = denied (λ m. n m.limits)
    by (may_join m) = given m

pub either_way : (a b c : MapSet) → Agree (bind (join a b) (λ ab. join ab c)) (bind (join b c) (λ bc. join a bc))
either_way a b c =
    agree (λ h. rightwards a b c h.0 h.1) (λ h. leftwards a b c h.0 h.1) (λ h. joined_either a b c h.0.earlier h.0.later)
    (bind_judges (λ ab. join ab c) (join_judges a b) (join_judges (joined a b) c))
    (bind_judges (λ bc. join a bc) (join_judges b c) (join_judges a (joined b c)))
