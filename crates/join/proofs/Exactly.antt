-- Each refusal of a join exactly, and no second answer.
use mathlib.Core.Path.{◌≡◌, ◌∙◌}
use Prim.Native.Nat.{ℕ}
use Rattle.kit.specs.Answer.{Answer, ok, refused, need}
use Rattle.kit.proofs.AnswerLaws.{need_yes, need_no}
use Rattle.mapset.specs.MapSet.{MapSet}
use Rattle.areas.specs.Formed.{Formed}
use Rattle.join.specs.FormedDecided.{formed?}
use Rattle.join.specs.Join.{count, joined, Alike, Meet, InLimits, MayJoin, alike?, meet?, in_limits?, join}

pub data Joins (a b : MapSet) : Answer ℕ MapSet → Type 0 where
  not_formed : ¬ (Formed a × Formed b) → Joins a b (refused 31)
  not_alike : Formed a → Formed b → ¬ Alike a.header b.header → Joins a b (refused 40)
  not_met : Formed a → Formed b → Alike a.header b.header → ¬ Meet a.header b.header → Joins a b (refused 41)
  too_many : Formed a → Formed b → Alike a.header b.header → Meet a.header b.header
      → ¬ InLimits (count a.header b.header) b.header.grid → Joins a b (refused 42)
  given : MayJoin a b → Joins a b (ok (joined a b))

module _ (a b : MapSet) where
  -- after 31 and 40 comes 41, and 42 last
  meet_before_limits : Formed a → Formed b → Alike a.header b.header
      → join a b ≡ need (meet? a.header b.header) 41 (need (in_limits? (count a.header b.header) b.header.grid) 42 (ok (joined a b)))
  unfolding join
  meet_before_limits p q r = need_yes (formed? a) _ _ p ∙ need_yes (formed? b) _ _ q ∙ need_yes (alike? a.header b.header) _ _ r

  pub join_once : {o : Answer ℕ MapSet} → Joins a b o → join a b ≡ o
  unfolding join
  join_once (not_formed n) = first (formed? a)
    where
      first : Dec (Formed a) → join a b ≡ refused 31
      first (yes p) = need_yes (formed? a) _ _ p ∙ need_no (formed? b) _ _ (λ q. n (p, q))
      first (no p) = need_no (formed? a) _ _ p
  join_once (not_alike p q n) = need_yes (formed? a) _ _ p ∙ need_yes (formed? b) _ _ q ∙ need_no (alike? a.header b.header) _ _ n
  join_once (not_met p q r n) = meet_before_limits p q r ∙ need_no (meet? a.header b.header) _ _ n
  join_once (too_many p q r s n) = meet_before_limits p q r ∙ need_yes (meet? a.header b.header) _ _ s ∙ need_no (in_limits? (count a.header b.header) b.header.grid) _ _ n
  join_once (given m) =
      meet_before_limits m.earlier m.later m.alike ∙ need_yes (meet? a.header b.header) _ _ m.meet
      ∙ need_yes (in_limits? (count a.header b.header) b.header.grid) _ _ m.limits

  pub join_exactly : Joins a b (join a b)
  unfolding join need
  join_exactly = by (formed? a) (formed? b) (alike? a.header b.header) (meet? a.header b.header) (in_limits? (count a.header b.header) b.header.grid)
    where
      by : (p : Dec (Formed a)) (q : Dec (Formed b)) (r : Dec (Alike a.header b.header)) (s : Dec (Meet a.header b.header))
          (t : Dec (InLimits (count a.header b.header) b.header.grid)) → Joins a b (need p 31 (need q 31 (need r 40 (need s 41 (need t 42 (ok (joined a b)))))))
      by (no p) q r s t = not_formed (λ h. p h.0)
      by (yes p) (no q) r s t = not_formed (λ h. q h.1)
      by (yes p) (yes q) (no r) s t = not_alike p q r
      by (yes p) (yes q) (yes r) (no s) t = not_met p q r s
      by (yes p) (yes q) (yes r) (yes s) (no t) = too_many p q r s t
      by (yes p) (yes q) (yes r) (yes s) (yes t) = given (record { earlier = p; later = q; alike = r; meet = s; limits = t })
