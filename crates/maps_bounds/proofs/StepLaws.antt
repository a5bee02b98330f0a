-- What each record does, one branch of its tests after the other.
use Rattle.std.specs.Prelude.{None, Result, Ok, Err}
use mathlib.Core.Path.{◌≡◌, refl, sym, ap, ◌∙◌}
use mathlib.Core.Bool.{true, false, not}
use mathlib.Core.List.{List, []}
use Prim.Native.Nat.{ℕ, suc, ◌≤◌, ◌<◌}
use native.Mathlib.Omega.{arith}
use lib.ListN.{length}
use lib.Seq.{drop-length}
use lib.IntN.{ℤ, pos, negsuc}
use lib.Signed.{lt_z, ◌≤ℤ◌}
use Rattle.std.proofs.lemmas.Int.{ints}
use denote.Enum.Bare.{sameb, differs_true, differs_false}
use Rattle.std.specs.Result.{IsErr, IsErrAnd}
use Rattle.kit.specs.Answer.{Answer, ok, refused, need, bind}
use Rattle.kit.proofs.AnswerLaws.{need_yes, need_no}
use Rattle.kit.specs.Integer.{int?, up}
use Rattle.kit.specs.Truth.{truth}
use Rattle.kit.proofs.TruthLaws.{truth_true, truth_false, clash}
use Rattle.mapset.specs.contracts.Kind.{the_type}
use Rattle.mapset.specs.declared.Kind.{Kind}
use Rattle.mapset.specs.declared.Kind.TheVariants.{Tec, Rms, Height}
use Rattle.mapset.specs.declared.Header.{Header}
use Rattle.layout.specs.Labels.{exponent}
use Rattle.layout.specs.Layout.{Force, under, last_of, with_last, per_map, one_more, one_tec, Exponent, exponent?}
use Rattle.reading.specs.declared.Fault.{Fault}
use Rattle.reading.specs.Feed.{fault}
use Rattle.reading.specs.Fields.{fields}
use Rattle.reading.specs.Maps.{Todo, Step, goes, stays, misplaced, loose, kind?, on_exponent, start_tec, start_other, end_map, on_end}
use Rattle.reading.specs.declared.Open.{Open}
use Rattle.reading.specs.declared.Place.{Place}
use Rattle.reading.specs.declared.Place.TheVariants.{Ended, Between, Early, Inside}
use Rattle.maps_bounds.specs.Steps.{force_of, past_of, moved, ended}
use Rattle.maps_bounds.specs.declared.Past.{Past}
use Rattle.maps_bounds.specs.declared.Next.{Next}

-- ---- answers and tests

module _ {A B : Type 0} where
  pub bind_ok : {x : Answer Fault B} {b : B} (f : B → Answer Fault A) → x ≡ ok b → bind x f ≡ f b
  unfolding bind
  bind_ok f e = rw e

  pub bind_no : {x : Answer Fault B} {w : Fault} (f : B → Answer Fault A) → x ≡ refused w → bind x f ≡ refused w
  unfolding bind
  bind_no f e = rw e

module _ {A P : Type 0} (d : Dec P) (w : Fault) (x : Answer Fault A) where
  pub need_true : truth d ≡ true → need d w x ≡ x
  need_true e = need_yes d w x (truth_true d e)

  pub need_false : truth d ≡ false → need d w x ≡ refused w
  need_false e = need_no d w x (truth_false d e)

-- ---- what the code makes of a step

pub stops : {q : Place} (es : List ℕ) {s : Step q} {f : Fault} → s ≡ refused f → Err f ≡ moved es s
unfolding moved
stops es e = rw e

-- the same of what `?` hands on
pub halts : {q : Place} (es : List ℕ) {s : Step q} {f : Fault} (r : Result Next Fault) → IsErr r × IsErrAnd r (λ e. e ≡ f) → s ≡ refused f → r ≡ moved es s
halts es (Ok x) h e = absurd h.1
halts es {s} {f} (Err g) h e = stops es (e ∙ ap refused (sym h.1))

-- of two kinds, from the code's test
pub other_kind : {a b : Kind} → true ≡ not (sameb the_type a b) → ¬ (a ≡ b)
other_kind {a} {b} e = differs_true the_type a b (sym e)

pub one_kind : {a b : Kind} → false ≡ not (sameb the_type a b) → a ≡ b
one_kind {a} {b} e = differs_false the_type tt a b (sym e)

-- the epochs stay
pub stills : {q : Place} (es : List ℕ) {s : Step q} (to : Place) (p : Past) {f : Todo to → Todo q}
    → s ≡ goes to (force_of p es) f → Ok (record { to = to; past = p; due = 0; epoch = None }) ≡ moved es s
unfolding moved
stills es to p e = rw (e, drop-length es)

pub same_move : {q : Place} (es : List ℕ) {s t : Step q} {m : Result Next Fault} → m ≡ moved es t → s ≡ t → m ≡ moved es s
same_move es e f = e ∙ ap (moved es) (sym f)

-- ---- EXPONENT and COMMENT

module _ {A : Type 0} (q : Place) (x : Answer Fault A) where
  loose_ended : ended q ≡ true → loose q x ≡ misplaced
  loose_ended e = by q e
    where
      by : (q : Place) → ended q ≡ true → loose q x ≡ misplaced
      by Ended e = unfold loose in refl
      by Between e = clash (cc)
      by Early e = clash (cc)
      by (Inside o) e = clash (cc)

  loose_on : ended q ≡ false → loose q x ≡ x
  loose_on e = by q e
    where
      by : (q : Place) → ended q ≡ false → loose q x ≡ x
      by Ended e = clash (cc)
      by Between e = unfold loose in refl
      by Early e = unfold loose in refl
      by (Inside o) e = unfold loose in refl

pub comment_ended : (q : Place) (p : Force) → ended q ≡ true → loose q (stays q p) ≡ refused (fault 5 61)
comment_ended q p e = loose_ended q _ e

pub comment_on : (q : Place) (p : Force) → ended q ≡ false → loose q (stays q p) ≡ stays q p
comment_on q p e = loose_on q _ e

module _ (q : Place) (p : Force) (r : List ℕ) where
  pub exponent_ended : ended q ≡ true → on_exponent q p r ≡ refused (fault 5 61)
  unfolding on_exponent
  exponent_ended e = loose_ended q _ e

  module _ (on : ended q ≡ false) where
    pub exponent_bad : {f : Fault} → fields exponent r ≡ refused f → on_exponent q p r ≡ refused f
    unfolding on_exponent
    exponent_bad e = loose_on q _ on ∙ bind_no _ e

    module _ (z : ℤ) (e : fields exponent r ≡ ok (z, tt)) where
      exponent_range : ¬ Exponent z → on_exponent q p r ≡ refused (fault 7 1)
      unfolding on_exponent
      exponent_range n = loose_on q _ on ∙ bind_ok _ e ∙ need_no (exponent? z) _ _ n

      pub exponent_low : lt_z z (negsuc 2) ≡ true → on_exponent q p r ≡ refused (fault 7 1)
      exponent_low l = exponent_range (λ b. let f : negsuc 2 ≤ℤ z = b.from in grind (arith, ints))

      pub exponent_high : lt_z (pos 0) z ≡ true → on_exponent q p r ≡ refused (fault 7 1)
      exponent_high l = exponent_range (λ b. let f : z ≤ℤ pos 0 = b.to in grind (arith, ints))

      pub exponent_fine : lt_z z (negsuc 2) ≡ false → lt_z (pos 0) z ≡ false → on_exponent q p r ≡ stays q (under z p)
      unfolding on_exponent
      exponent_fine l h = loose_on q _ on ∙ bind_ok _ e ∙ need_yes (exponent? z) _ _ (record { from = grind (arith, ints); to = grind (arith, ints) })

-- ---- START

from_up : (z : ℤ) (k : ℕ) → up z ≡ suc k → z ≡ pos (suc k)
from_up (pos n) k e = ap pos e
from_up (negsuc n) k e = clash (cc)

module _ (h : Header) (p : Force) (r : List ℕ) where
  pub tec_bad : {f : Fault} → fields exponent r ≡ refused f → start_tec h p r ≡ refused f
  unfolding start_tec fields
  tec_bad e = bind_no _ e

  module _ (z : ℤ) (e : fields exponent r ≡ ok (z, tt)) where
    pub tec_number : ¬ (up z ≡ suc (length p.epochs)) → start_tec h p r ≡ refused (fault 8 1)
    unfolding start_tec fields
    tec_number n = bind_ok _ e ∙ need_no _ _ _ (λ q. n (ap up q.0))

    pub tec_many : h.times.maps ≤ length p.epochs → start_tec h p r ≡ refused (fault 8 1)
    unfolding start_tec fields
    tec_many n = bind_ok _ e ∙ need_no _ _ _ (λ q. let l = q.1 in omega arith)

    pub tec_fine : up z ≡ suc (length p.epochs) → length p.epochs < h.times.maps → start_tec h p r ≡ goes Early p (λ w. one_tec w.0 w.1)
    unfolding start_tec fields
    tec_fine u l = bind_ok _ e ∙ need_yes _ _ _ (from_up z _ u, l)

module _ (k : Kind) (h : Header) (p : Force) (r : List ℕ) where
  pub other_bad : {f : Fault} → fields exponent r ≡ refused f → start_other k h p r ≡ refused f
  unfolding start_other fields
  other_bad e = bind_no _ e

  pub other_low : (z : ℤ) → fields exponent r ≡ ok (z, tt) → up z ≤ last_of k p → start_other k h p r ≡ refused (fault 8 1)
  unfolding start_other fields
  other_low (pos n) e l = bind_ok _ e ∙ need_no _ _ _ (λ q. let a = q.0 in omega arith)
  other_low (negsuc n) e l = bind_ok _ e ∙ need_no _ _ _ (λ q. q)

  pub other_high : (z : ℤ) → fields exponent r ≡ ok (z, tt) → length p.epochs < up z → start_other k h p r ≡ refused (fault 8 1)
  unfolding start_other fields
  other_high (pos n) e l = bind_ok _ e ∙ need_no _ _ _ (λ q. let a = q.1 in omega arith)
  other_high (negsuc n) e l = bind_ok _ e ∙ need_no _ _ _ (λ q. q)

  pub other_fine : (z : ℤ) → fields exponent r ≡ ok (z, tt) → last_of k p < up z → up z ≤ length p.epochs
      → start_other k h p r ≡ goes (Inside (record { fresh = true; kind = k; number = up z; left = per_map h })) (with_last k (up z) p) (λ w. one_more k (record { of = up z; blocks = w.0 }) w.1)
  unfolding start_other fields
  other_fine (pos n) e l u = bind_ok _ e ∙ need_yes _ _ _ (l, u)
  other_fine (negsuc n) e l u = absurd (omega arith)

pub with_last_of : (k : Kind) (i : ℕ) (p : Past) (es : List ℕ) → with_last k i (force_of p es) ≡ force_of (past_of (with_last k i (force_of p []))) es
with_last_of Tec i p es = refl
with_last_of Rms i p es = refl
with_last_of Height i p es = refl

-- ---- END

module _ (p : Force) (k : Kind) (r : List ℕ) where
  module _ (h : Header) where
    pub early_kind : ¬ (k ≡ Tec) → on_end h Early p k r ≡ refused (fault 5 61)
    unfolding on_end
    early_kind t = need_no (kind? k Tec) _ _ t

    pub early_bad : {f : Fault} → k ≡ Tec → fields exponent r ≡ refused f → on_end h Early p k r ≡ refused f
    unfolding on_end fields
    early_bad t e = need_yes (kind? k Tec) _ _ t ∙ bind_no _ e

    pub early_missing : {z : ℤ} → k ≡ Tec → fields exponent r ≡ ok (z, tt) → on_end h Early p k r ≡ refused (fault 9 0)
    unfolding on_end fields
    early_missing t e = need_yes (kind? k Tec) _ _ t ∙ bind_ok _ e

  module _ (o : Open) where
    pub end_kind : ¬ (k ≡ o.kind) → end_map o p k r ≡ refused (fault 5 61)
    unfolding end_map
    end_kind t = need_no (kind? k o.kind) _ _ t

    module _ (t : k ≡ o.kind) where
      pub end_bad : {f : Fault} → fields exponent r ≡ refused f → end_map o p k r ≡ refused f
      unfolding end_map fields
      end_bad e = need_yes (kind? k o.kind) _ _ t ∙ bind_no _ e

      module _ (z : ℤ) (e : fields exponent r ≡ ok (z, tt)) where
        pub end_left : ¬ (o.left ≡ 0) → end_map o p k r ≡ refused (fault 9 0)
        unfolding end_map fields
        end_left n = need_yes (kind? k o.kind) _ _ t ∙ bind_ok _ e ∙ need_no _ _ _ n

        pub end_number : o.left ≡ 0 → truth (int? z (pos o.number)) ≡ false → end_map o p k r ≡ refused (fault 8 1)
        unfolding end_map fields
        end_number l f = need_yes (kind? k o.kind) _ _ t ∙ bind_ok _ e ∙ need_yes _ _ _ l ∙ need_false (int? z (pos o.number)) _ _ f

        pub end_fine : o.left ≡ 0 → truth (int? z (pos o.number)) ≡ true → end_map o p k r ≡ goes Between p (λ w. ([], w))
        unfolding end_map fields
        end_fine l f = need_yes (kind? k o.kind) _ _ t ∙ bind_ok _ e ∙ need_yes _ _ _ l ∙ need_true (int? z (pos o.number)) _ _ f
