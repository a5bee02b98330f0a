-- Each refusal of two lent sets exactly, as code judges them, and no second answer.
use mathlib.Core.Path.{◌≡◌, sym, ◌∙◌}
use Rattle.kit.specs.Answer.{Answer, ok, refused, need}
use Rattle.kit.proofs.AnswerLaws.{need_yes, need_no}
use Rattle.mapset.specs.MapSet.{MapSet}
use Rattle.mapset.specs.Areas.{Areas}
use Rattle.areas.proofs.ValidFormed.{nested_formed}
use Rattle.join.specs.Join.{count, joined, Alike, Meet, InLimits, alike?, meet?, in_limits?}
use Rattle.join.specs.Into.{Lent, IsValid, is_valid?, meaning, Why, because, lent_join, join_into, MayLent}

module _ (x y : Lent) where
  pub may_lent : IsValid x → IsValid y → Alike x.header y.header → Meet x.header y.header → InLimits (count x.header y.header) y.header.grid → MayLent x y
  may_lent p q r s t =
      record {
        earlier = p;
        later = q;
        join = record {
          earlier = nested_formed x.header x.texts x.areas p;
          later = nested_formed y.header y.texts y.areas q;
          alike = r;
          meet = s;
          limits = t;
        };
      }

  pub data LentJoins : Answer Why MapSet → Type 0 where
    not_valid : ¬ (IsValid x × IsValid y) → LentJoins (refused (because 31))
    not_alike : IsValid x → IsValid y → ¬ Alike x.header y.header → LentJoins (refused (because 40))
    not_met : IsValid x → IsValid y → Alike x.header y.header → ¬ Meet x.header y.header → LentJoins (refused (because 41))
    too_many : IsValid x → IsValid y → Alike x.header y.header → Meet x.header y.header
        → ¬ InLimits (count x.header y.header) y.header.grid → LentJoins (refused (because 42))
    given : MayLent x y → LentJoins (ok (joined (meaning x) (meaning y)))

module _ (x y : Lent) where
  -- after 31 and 40 comes 41, and 42 last
  meet_before_limits : IsValid x → IsValid y → Alike x.header y.header
      → lent_join x y ≡ need (meet? x.header y.header) (because 41) (need (in_limits? (count x.header y.header) y.header.grid) (because 42) (ok (joined (meaning x) (meaning y))))
  unfolding lent_join
  meet_before_limits p q r = need_yes (is_valid? x) _ _ p ∙ need_yes (is_valid? y) _ _ q ∙ need_yes (alike? x.header y.header) _ _ r

  pub lent_once : {o : Answer Why MapSet} → LentJoins x y o → lent_join x y ≡ o
  unfolding lent_join
  lent_once (not_valid n) = first (is_valid? x)
    where
      first : Dec (IsValid x) → lent_join x y ≡ refused (because 31)
      first (yes p) = need_yes (is_valid? x) _ _ p ∙ need_no (is_valid? y) _ _ (λ q. n (p, q))
      first (no p) = need_no (is_valid? x) _ _ p
  lent_once (not_alike p q n) = need_yes (is_valid? x) _ _ p ∙ need_yes (is_valid? y) _ _ q ∙ need_no (alike? x.header y.header) _ _ n
  lent_once (not_met p q r n) = meet_before_limits p q r ∙ need_no (meet? x.header y.header) _ _ n
  lent_once (too_many p q r s n) = meet_before_limits p q r ∙ need_yes (meet? x.header y.header) _ _ s ∙ need_no (in_limits? (count x.header y.header) y.header.grid) _ _ n
  lent_once (given m) =
      meet_before_limits m.earlier m.later m.join.alike ∙ need_yes (meet? x.header y.header) _ _ m.join.meet
      ∙ need_yes (in_limits? (count x.header y.header) y.header.grid) _ _ m.join.limits

  pub lent_exactly : LentJoins x y (lent_join x y)
  unfolding lent_join need
  lent_exactly = by (is_valid? x) (is_valid? y) (alike? x.header y.header) (meet? x.header y.header) (in_limits? (count x.header y.header) y.header.grid)
    where
      by : (p : Dec (IsValid x)) (q : Dec (IsValid y)) (r : Dec (Alike x.header y.header)) (s : Dec (Meet x.header y.header))
          (t : Dec (InLimits (count x.header y.header) y.header.grid))
          → LentJoins x y (need p (because 31) (need q (because 31) (need r (because 40) (need s (because 41) (need t (because 42) (ok (joined (meaning x) (meaning y))))))))
      by (no p) q r s t = not_valid (λ h. p h.0)
      by (yes p) (no q) r s t = not_valid (λ h. q h.1)
      by (yes p) (yes q) (no r) s t = not_alike p q r
      by (yes p) (yes q) (yes r) (no s) t = not_met p q r s
      by (yes p) (yes q) (yes r) (yes s) (no t) = too_many p q r s t
      by (yes p) (yes q) (yes r) (yes s) (yes t) = given (may_lent x y p q r s t)

  -- no second answer, into lent areas
  pub join_into_once : (l : Areas) {a b : Answer Why Lent} → a ≡ join_into x y l → b ≡ join_into x y l → a ≡ b
  join_into_once l e f = e ∙ sym f
