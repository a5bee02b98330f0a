use Rattle.std.specs.Prelude.{Result, Ok, Err}
-- What EPOCH, END OF FILE and the opening of a block do, one branch of their tests after the other.
use Rattle.std.specs.Prelude.{Option, Some, None, Ok}
use mathlib.Core.Path.{◌≡◌, refl, sym, ap, ◌∙◌}
use mathlib.Core.Bool.{Bool, true, false}
use mathlib.Core.List.{List, [], ◌∷◌}
use Prim.Native.Nat.{ℕ, suc, ◌-◌, ◌%◌}
use native.Mathlib.Omega.{arith}
use lib.ListN.{length, get_or}
use lib.Seq.{drop-length, drop-append_seam}
use lib.IntN.{ℤ}
use Rattle.kit.specs.Answer.{Answer, ok, refused, need, bind, pick}
use Rattle.kit.proofs.AnswerLaws.{need_yes, need_no}
use Rattle.kit.specs.Integer.{int?}
use Rattle.kit.specs.Truth.{truth}
use Rattle.kit.proofs.TruthLaws.{clash}
use Rattle.mapset.specs.declared.Kind.TheVariants.{Tec}
use Rattle.mapset.specs.declared.Header.{Header}
use Rattle.mapset.specs.Grid.{rows, columns}
use Rattle.layout.specs.Labels.{epoch, block, file_end, layout}
use Rattle.layout.specs.Records.{Vals}
use Rattle.layout.specs.Layout.{Force, with_epoch, per_map, node, Date}
use Rattle.reading.specs.declared.Fault.{Fault}
use Rattle.reading.specs.Feed.{fault}
use Rattle.reading.specs.Fields.{fields}
use Rattle.reading.specs.Maps.{Todo, Next, Step, goes, date, on_date, in_time?, height?, one_less, settled, epoch_tec, epoch_other, open_block, on_file}
use Rattle.reading.specs.declared.Open.{Open}
use Rattle.reading.specs.declared.Place.{Place}
use Rattle.reading.specs.declared.Place.TheVariants.{Ended, Between, Inside}
use Rattle.maps_agree.specs.Agreement.{differing}
use Rattle.maps_bounds.specs.Steps.{force_of, moved}
use Rattle.maps_body.specs.ByLabel.{opened}
use Rattle.maps_bounds.specs.declared.Past.{Past}
use Rattle.maps_bounds.proofs.StepLaws.{bind_ok, bind_no, need_true, need_false}

-- ---- EPOCH OF CURRENT MAP

module _ {A : Type 0} (f : ℕ → Answer Fault A) where
  at_date : (k : Result ℕ ℕ) (t : ℕ) → on_date k ok ≡ ok t → on_date k f ≡ f t
  unfolding on_date
  at_date (Ok u) t e = let z : u ≡ t = cc in ap f z
  at_date (Err c) t e = clash (cc)

  no_date : (k : Result ℕ ℕ) (w : Fault) → on_date {A = ℕ} k ok ≡ refused w → on_date k f ≡ refused w
  unfolding on_date
  no_date (Ok u) w e = clash (cc)
  no_date (Err c) w e = let z : fault 7 c ≡ w = cc in ap refused z

  then_date : (x : Answer Fault Date) (t : ℕ) → bind x (λ d. on_date (date d) ok) ≡ ok t → bind x (λ d. on_date (date d) f) ≡ f t
  unfolding bind
  then_date (ok d) t e = at_date (date d) t e
  then_date (refused w) t e = clash (cc)

  then_none : (x : Answer Fault Date) (w : Fault) → bind {A = ℕ} x (λ d. on_date (date d) ok) ≡ refused w → bind x (λ d. on_date (date d) f) ≡ refused w
  unfolding bind
  then_none (ok d) w e = no_date (date d) w e
  then_none (refused v) w e = let z : v ≡ w = cc in ap refused z

module _ (h : Header) (p : Force) (r : List ℕ) where
  pub epoch_bad : {f : Fault} → bind (fields epoch r) (λ d. on_date (date d) ok) ≡ refused f → epoch_tec h p r ≡ refused f
  unfolding epoch_tec
  epoch_bad e = then_none _ (fields epoch r) _ e

  module _ (t : ℕ) (e : bind (fields epoch r) (λ d. on_date (date d) ok) ≡ ok t) where
    pub epoch_late : truth (in_time? h p.epochs t) ≡ false → epoch_tec h p r ≡ refused (fault 8 1)
    unfolding epoch_tec in_time?
    epoch_late f = then_date _ (fields epoch r) t e ∙ need_false (in_time? h p.epochs t) _ _ f

    pub epoch_fine : truth (in_time? h p.epochs t) ≡ true
        → epoch_tec h p r ≡ goes (Inside (record { fresh = false; kind = Tec; number = suc (length p.epochs); left = per_map h })) (with_epoch t p) (λ w. (record { epoch = t; blocks = w.0 }, w.1))
    unfolding epoch_tec in_time?
    epoch_fine f = then_date _ (fields epoch r) t e ∙ need_true (in_time? h p.epochs t) _ _ f

-- an epoch is to be remembered
pub remembers : {q : Place} (es : List ℕ) {s : Step q} (to : Place) (p : Past) (t : ℕ) {f : Todo to → Todo q}
    → s ≡ goes to (with_epoch t (force_of p es)) f → Ok (record { to = to; past = p; due = 0; epoch = Some t }) ≡ moved es s
unfolding moved
remembers es to p t e = rw (e, drop-append_seam es (t ∷ []))

module _ (o : Open) (p : Force) (r : List ℕ) where
  pub again_late : o.fresh ≡ false → epoch_other o p r ≡ refused (fault 5 61)
  unfolding epoch_other
  again_late e = need_no _ _ _ (λ f. let z : ◌≡◌ {A = Bool} true false = sym f ∙ e in clash (cc))

  module _ (new : o.fresh ≡ true) where
    pub again_bad : {f : Fault} → bind (fields epoch r) (λ d. on_date (date d) ok) ≡ refused f → epoch_other o p r ≡ refused f
    unfolding epoch_other
    again_bad e = need_yes _ _ _ new ∙ then_none _ (fields epoch r) _ e

    module _ (t : ℕ) (e : bind (fields epoch r) (λ d. on_date (date d) ok) ≡ ok t) where
      pub again_not : ¬ (t ≡ get_or p.epochs (o.number - 1) 0) → epoch_other o p r ≡ refused (fault 8 1)
      unfolding epoch_other
      again_not n = need_yes _ _ _ new ∙ then_date _ (fields epoch r) t e ∙ need_no _ _ _ n

      pub again_fine : t ≡ get_or p.epochs (o.number - 1) 0 → epoch_other o p r ≡ goes (Inside (settled o)) p (λ w. w)
      unfolding epoch_other
      again_fine n = need_yes _ _ _ new ∙ then_date _ (fields epoch r) t e ∙ need_yes _ _ _ n

-- ---- END OF FILE

module _ (h : Header) (p : Force) (r : List ℕ) where
  pub file_bad : {c : ℕ} → fields file_end r ≡ refused (fault 6 c) → on_file h Between p r ≡ refused (fault 6 c)
  unfolding on_file
  file_bad e = bind_no _ e

  module _ (e : fields file_end r ≡ ok tt) where
    pub file_missing : ¬ (length p.epochs ≡ h.times.maps) → on_file h Between p r ≡ refused (fault 9 0)
    unfolding on_file
    file_missing n = bind_ok _ e ∙ need_no _ _ _ n

    pub file_fine : length p.epochs ≡ h.times.maps → on_file h Between p r ≡ goes Ended p (λ w. record { tec = []; rms = []; height = [] })
    unfolding on_file
    file_fine n = bind_ok _ e ∙ need_yes _ _ _ n

-- ---- LAT/LON1/LON2/DLON/H

one_differs : {A P Q R : Type 0} (p : Dec P) (q : Dec Q) (r : Dec R) (x : Answer Fault A) {c : ℕ} → pick p (pick q (pick r None (Some 21)) (Some 15)) (Some 9) ≡ Some c
    → need p (fault 8 9) (need q (fault 8 15) (need r (fault 8 21) x)) ≡ refused (fault 8 c)
unfolding pick need
one_differs (no p) q r x e = cc
one_differs (yes p) (no q) r x e = cc
one_differs (yes p) (yes q) (no r) x e = cc
one_differs (yes p) (yes q) (yes r) x e = cc

none_differs : {A P Q R : Type 0} (p : Dec P) (q : Dec Q) (r : Dec R) (x : Answer Fault A) → ◌≡◌ {A = Option ℕ} (pick p (pick q (pick r None (Some 21)) (Some 15)) (Some 9)) None
    → need p (fault 8 9) (need q (fault 8 15) (need r (fault 8 21) x)) ≡ x
unfolding pick need
none_differs (no p) q r x e = cc
none_differs (yes p) (no q) r x e = cc
none_differs (yes p) (yes q) (no r) x e = cc
none_differs (yes p) (yes q) (yes r) x e = refl

module _ (h : Header) (o : Open) (p : Force) (a b c d e : ℤ) where
  pub row_wrong : truth (int? a (node h.grid.latitudes ((per_map h - o.left) % rows h.grid))) ≡ false → opened h o p (a, (b, (c, (d, (e, tt))))) ≡ refused (fault 8 3)
  unfolding opened
  row_wrong t = need_false (int? a _) _ _ t

  module _ (t : truth (int? a (node h.grid.latitudes ((per_map h - o.left) % rows h.grid))) ≡ true) where
    pub longitude_wrong : {k : ℕ} → differing h.grid.longitudes b c d ≡ Some k → opened h o p (a, (b, (c, (d, (e, tt))))) ≡ refused (fault 8 k)
    unfolding opened differing
    longitude_wrong n = need_true (int? a _) _ _ t ∙ one_differs (int? b _) (int? c _) (int? d _) _ n

    module _ (z : differing h.grid.longitudes b c d ≡ None) where
      pub height_wrong : truth (height? h (per_map h - o.left) e) ≡ false → opened h o p (a, (b, (c, (d, (e, tt))))) ≡ refused (fault 8 27)
      unfolding opened differing
      height_wrong f = need_true (int? a _) _ _ t ∙ none_differs (int? b _) (int? c _) (int? d _) _ z ∙ need_false (height? h _ e) _ _ f

      pub opened_fine : truth (height? h (per_map h - o.left) e) ≡ true → opened h o p (a, (b, (c, (d, (e, tt))))) ≡ ok (record {
        to = Inside (one_less o);
        force = p;
        due = columns h.grid;
        back = λ zs w. (record { exponent = p.exponent; values = zs } ∷ w.0, w.1);
      })
      unfolding opened differing
      opened_fine f = need_true (int? a _) _ _ t ∙ none_differs (int? b _) (int? c _) (int? d _) _ z ∙ need_true (height? h _ e) _ _ f

-- the block's values come first
pub opens : {q : Place} (es : List ℕ) {s : Step q} (x : Next q) (p : Past) → x.force ≡ force_of p es → s ≡ ok x
    → Ok (record { to = x.to; past = p; due = x.due; epoch = None }) ≡ moved es s
unfolding moved
opens es x p f e = rw (e, f, drop-length es)

module _ (h : Header) (o : Open) (p : Force) (r : List ℕ) where
  pub block_none : o.left ≡ 0 → open_block h o p r ≡ refused (fault 5 61)
  unfolding open_block
  block_none z = need_no _ _ _ (λ l. omega arith)

  module _ (some : ¬ (o.left ≡ 0)) where
    pub block_bad : {f : Fault} → fields block r ≡ refused f → open_block h o p r ≡ refused f
    unfolding open_block
    block_bad e = need_yes _ _ _ (omega arith) ∙ bind_no _ e

    pub block_on : (v : Vals (layout block)) → fields block r ≡ ok v → open_block h o p r ≡ opened h o p v
    unfolding open_block opened
    block_on v e = need_yes _ _ _ (omega arith) ∙ bind_ok _ e
