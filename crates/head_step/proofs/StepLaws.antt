-- A row of the header by what the code looks at: the number of its label, what is kept, END OF HEADER.
use mathlib.Core.Path.{◌≡◌, refl, sym, ap, ap₂, subst, ◌∙◌}
use mathlib.Core.Bool.{Bool, true, false, not}
use mathlib.Core.Option.{Option, none, some}
use mathlib.Core.List.{List, [], ◌∷◌, ◌++◌, map}
use Prim.Native.Nat.{ℕ, zero, suc, ◌+◌, ◌-◌, ◌≤◌, ◌<◌}
use native.Mathlib.Decide.{ℕ_discrete, dec_lt}
use native.Mathlib.Omega.{arith}
use lib.Dec.{T, eqb, ltb, ltb→lt}
use borrow.Author.Tests.{eqb-true, eqb-false}
use lib.ListN.{length, get_or, set, take, drop, replicate, length-append, get_or-map}
use lib.IntN.{ℤ}
use Rattle.kit.specs.Answer.{Answer, ok, refused, need, bind, amap, get, same}
use Rattle.kit.proofs.AnswerLaws.{need_yes, need_no, pick_yes, pick_no, Yields, y_ok, y_no, need_yields, bind_yields}
use Rattle.kit.proofs.TruthLaws.{tested_at}
use Rattle.mapset.specs.declared.Version.{Version}
use Rattle.mapset.specs.declared.Header.{Header}
use Rattle.mapset.specs.Described.{most_lines}
use Rattle.mapset.specs.Lines.{lines_in, described}
use Rattle.mapset.proofs.DescribedLaws.{lines_length}
use Rattle.mapset.specs.Grid.{Limits}
use Rattle.mapset.specs.Header.{Content, system as a_system, starred, Said, Dimension}
use Rattle.mapset.specs.Decisions.{dimension?, limits?}
use Rattle.layout.specs.Text.{pad}
use Rattle.layout.specs.Labels.{Label, version, description, comment, system, exponent, aux_start, aux_end, header_end, epoch, block, file_end, head, start, end, name, labels, content, letters}
use Rattle.layout.specs.Layout.{Slots, Lines, plain, aux, mode, exponent?}
use Rattle.layout.specs.Names.{names, number_of}
use Rattle.reading.specs.declared.Fault.{Fault}
use Rattle.reading.specs.Feed.{fault}
use Rattle.reading.specs.Fields.{scan, fields, unless, blank_to}
use Rattle.reading.proofs.LabelLaws.{label_known, label_unknown, named, aux_number}
use Rattle.reading.specs.Maps.{missing}
use Rattle.reading.specs.Head.{Turn, more, done, meant, place, none?, Complete, complete?, made, once, on_description, on_system, on_end, at_head, head_step}
use Rattle.head_said.specs.Records.{system_in, entry}
use Rattle.std.specs.Prelude.{Some, None, Result, Ok, Err, is_some, Option as Held}
use Rattle.head_said.specs.Records.{told_heard, says}
use Rattle.head_said.specs.declared.Value.{Value}
use Rattle.head_state.specs.Got.{said, slot, slots_of, texts_of, Went, went, ended, gone, so_far, with, told, told_kept, kept, turned}
use Rattle.head_said.proofs.RecordLaws.{blank_says, bind_amap, bind_same}
use Rattle.head_state.proofs.GotLaws.{stands, is_missing, texts_got}
use Rattle.head_state.specs.declared.State.{State}
use Rattle.labels.specs.Letters.{found}
use Rattle.head_step.specs.Step.{ended_in, fresh, exponent_in, system_at, by_letter, described_in, action, acted, Holds, after, Describes, Steps}
use Rattle.head_step.specs.declared.Action.{Action}
use Rattle.head_step.specs.declared.Action.TheVariants as A

amap_need : {A B P : Type 0} (f : A → B) (d : Dec P) (w : Fault) (x : Answer Fault A) → amap f (need d w x) ≡ need d w (amap f x)
unfolding amap need
amap_need f (yes p) w x = refl
amap_need f (no n) w x = refl

amap_bind : {A B C : Type 0} (f : B → C) (x : Answer Fault A) (g : A → Answer Fault B) → amap f (bind x g) ≡ bind x (λ a. amap f (g a))
unfolding amap bind
amap_bind f (ok a) g = refl
amap_bind f (refused w) g = refl

-- ---- the state's own fields

-- another exponent, an aux block opened or closed, or one more DESCRIPTION line leaves what was got
pub same_slots : (s : State) (a : Bool) (e : ℤ) (n : ℕ)
    → slots_of (record { aux = a; exponent = e; values = s.values; program = s.program; agency = s.agency; date = s.date; mapping = s.mapping; observables = s.observables; descriptions = n }) ≡ slots_of s
unfolding slots_of slot
same_slots s a e n = refl

-- ---- END OF HEADER: 9, 8, 7

pub end_is : (c : Version) (got : Slots) (n : ℕ) (line : List ℕ) → length line ≤ 80 → amap (gone c got n) (on_end c got n (pad line)) ≡ unless (blank_to line 0 60) (ended_in c got n)
unfolding on_end ended_in
end_is c got n line fits =
    amap_bind (gone c got n) (fields header_end (pad line)) _
    ∙ blank_says line _ fits
    ∙ ap (unless (blank_to line 0 60))
    (amap_need (gone c got n) (complete? starred got) missing _
    ∙ ap (need (complete? starred got) missing)
    (amap_need (gone c got n) (dimension? (made c got n).model.dimension (made c got n).grid.heights) (fault 8 0) _
    ∙ ap (need (dimension? (made c got n).model.dimension (made c got n).grid.heights) (fault 8 0))
    (amap_need (gone c got n) (limits? (made c got n).times.maps (made c got n).grid) (fault 7 0) (ok done)
    ∙ ap (need (limits? (made c got n).times.maps (made c got n).grid) (fault 7 0)) (unfold amap in refl))))

-- h is the header record of what was got
module _ (s : State) (c : Version) where
  pub lacking : ¬ Complete starred (slots_of s) → ended_in c (slots_of s) s.descriptions ≡ refused missing
  unfolding ended_in
  lacking n = need_no (complete? starred (slots_of s)) missing _ n

  module _ (h : Header) (e : h ≡ made c (slots_of s) s.descriptions) (w : Complete starred (slots_of s)) where
    complete_is : ended_in c (slots_of s) s.descriptions
        ≡ need (dimension? h.model.dimension h.grid.heights) (fault 8 0) (need (limits? h.times.maps h.grid) (fault 7 0) (ok (ended h (texts_of s))))
    unfolding ended_in
    complete_is =
        need_yes (complete? starred (slots_of s)) missing _ w
        ∙ (λ i. need (dimension? (sym e i).model.dimension (sym e i).grid.heights) (fault 8 0) (need (limits? (sym e i).times.maps (sym e i).grid) (fault 7 0) (ok (ended (sym e i) (sym (texts_got s w) i)))))

    pub disagreeing : ¬ Dimension h.model.dimension h.grid.heights → ended_in c (slots_of s) s.descriptions ≡ refused (fault 8 0)
    disagreeing n = complete_is ∙ need_no (dimension? h.model.dimension h.grid.heights) (fault 8 0) _ n

    module _ (d : Dimension h.model.dimension h.grid.heights) where
      pub too_large : ¬ Limits h.times.maps h.grid → ended_in c (slots_of s) s.descriptions ≡ refused (fault 7 0)
      too_large n = complete_is ∙ need_yes (dimension? h.model.dimension h.grid.heights) (fault 8 0) _ d ∙ need_no (limits? h.times.maps h.grid) (fault 7 0) _ n

      pub all_well : Limits h.times.maps h.grid → ended_in c (slots_of s) s.descriptions ≡ ok (ended h (texts_of s))
      all_well l = complete_is ∙ need_yes (dimension? h.model.dimension h.grid.heights) (fault 8 0) _ d ∙ need_yes (limits? h.times.maps h.grid) (fault 7 0) _ l

-- ---- each record at most once

module _ (s : State) (i : ℕ) (x : Answer Fault Said) (inside : i < 22) where
  pub is_fresh : is_some (get_or s.values i None) ≡ false → fresh s i x ≡ kept s i x
  unfolding fresh
  is_fresh e = need_yes (none? (get_or (slots_of s) i none)) (fault 5 61) (kept s i x) (is_missing s i inside (by (get_or s.values i None) e))
    where
      by : (o : Held Value) → is_some o ≡ false → o ≡ None
      by None q = refl
      by (Some v) q = cc

  pub is_repeated : is_some (get_or s.values i None) ≡ true → fresh s i x ≡ refused (fault 5 61)
  unfolding fresh
  is_repeated e =
      need_no (none? (get_or (slots_of s) i none)) (fault 5 61) (kept s i x)
      (λ q. let h = by (get_or s.values i None) e in let p : some (said s (content i) h.0) ≡ none = sym (stands s i inside h.0 h.1) ∙ q in let z : ◌≡◌ {A = ℕ} 0 1 = cc in omega arith)
    where
      by : (o : Held Value) → is_some o ≡ true → (v : Value) × (o ≡ Some v)
      by None q = let z : ◌≡◌ {A = ℕ} 0 1 = cc in absurd (omega arith)
      by (Some v) q = (v, refl)

gone_refused : (c : Version) (got : Slots) (n : ℕ) (w : Fault) → amap (gone c got n) (refused w) ≡ refused w
unfolding amap
gone_refused c got n w = refl

module _ (s : State) (c : Version) (ds : Lines) (count : length ds ≡ s.descriptions) (shut : s.aux ≡ false) where
  gone_more : (e : ℤ) (g : Slots) → amap {W = Fault} (gone c (slots_of s) s.descriptions) (ok (more plain e g ds)) ≡ ok (went (mode s.aux) e g s.descriptions)
  unfolding amap
  gone_more e g = ap₂ (λ (b : Bool) (n : ℕ). ok (went (mode b) e g n)) (sym shut) count

  once_is : (i : ℕ) (x : Answer Fault Said) → amap (gone c (slots_of s) s.descriptions) (once s.exponent (slots_of s) ds i x) ≡ fresh s i x
  unfolding once fresh kept
  once_is i x =
      amap_need (gone c (slots_of s) s.descriptions) (none? (get_or (slots_of s) i none)) (fault 5 61) _
      ∙ ap (need (none? (get_or (slots_of s) i none)) (fault 5 61)) (amap_bind (gone c (slots_of s) s.descriptions) x _
      ∙ bind_same x _ _ (λ y. gone_more s.exponent (set (slots_of s) i (some y))))

-- where its content is known
pub fresh_at : (s : State) (i j : ℕ) (k : Content) (r : List ℕ) → i ≡ j → content i ≡ k → i < 22 → is_some (get_or s.values i None) ≡ false
    → kept s j (entry k r) ≡ fresh s i (entry (content i) r)
fresh_at s i j k r e f h n = ap₂ (λ (m : ℕ) (x : Content). kept s m (entry x r)) (sym e) (sym f) ∙ sym (is_fresh s i (entry (content i) r) h n)

-- what a record of numbers says is kept, or refuses it
module _ (s : State) (i : ℕ) (k : Content) (r : List ℕ) (e : content i ≡ k) (h : i < 22) (n : is_some (get_or s.values i None) ≡ false) (x : Result Value Fault)
    (q : told_heard k x ≡ entry k r) where
  pub heard_ok : (v : Value) → x ≡ Ok v → ok (with s i (says (content i) v)) ≡ fresh s i (entry k r)
  unfolding kept bind
  heard_ok v o =
      let p : ok (says (content i) v) ≡ entry k r = ap (λ (k : Content). ok (says k v)) e ∙ ap (told_heard k) (sym o) ∙ q in
      ap (kept s i) p ∙ sym (is_fresh s i (entry k r) h n)

  pub heard_no : (f : Fault) → x ≡ Err f → refused f ≡ fresh s i (entry k r)
  unfolding kept bind
  heard_no f o =
      let p : refused f ≡ entry k r = ap (told_heard k) (sym o) ∙ q in
      ap (kept s i) p ∙ sym (is_fresh s i (entry k r) h n)

-- ---- SYS / #STA / #SAT

padded_at : (l : List ℕ) (n i : ℕ) → get_or (l ++ replicate n 32) i 32 ≡ get_or l i 32
padded_at [] zero i = refl
padded_at [] (suc n) zero = refl
padded_at [] (suc n) (suc i) = padded_at [] n i
padded_at (x ∷ l) n zero = refl
padded_at (x ∷ l) n (suc i) = padded_at l n i

pub letter_is : (s : State) (line : List ℕ) (o : Held ℕ) (b : ℕ) → b ≡ get_or line 5 32 → found o ≡ place ℕ_discrete b letters → system_at s (pad line) (found o) ≡ by_letter s (pad line)
unfolding by_letter pad
letter_is s line o b e f = ap (system_at s (pad line)) (f ∙ ap (λ (x : ℕ). place ℕ_discrete x letters) (e ∙ sym (padded_at line (80 - length line) 5)))

-- ---- what is done at a label, by its number in the table of actions

module _ (s : State) (c : Version) (ds : Lines) (count : length ds ≡ s.descriptions) (r : List ℕ) (shut : s.aux ≡ false) where
  abbrev goes : Turn → Went
  goes = gone c (slots_of s) s.descriptions

  abbrev at : Label → Answer Fault Turn
  at l = at_head c s.exponent (slots_of s) ds l r

  comment_is : amap goes (at comment) ≡ ok (so_far s)
  unfolding at_head fields scan bind amap
  comment_is = ap₂ (λ (b : Bool) (n : ℕ). ok (went (mode b) s.exponent (slots_of s) n)) (sym shut) count

  opened_is : amap goes (at aux_start) ≡ ok (went aux s.exponent (slots_of s) s.descriptions)
  unfolding at_head fields scan bind amap
  opened_is = ap (λ n. ok (went aux s.exponent (slots_of s) n)) count

  exponent_is : amap goes (at exponent) ≡ exponent_in s r
  unfolding at_head exponent_in
  exponent_is =
      amap_bind goes (fields exponent r) _
      ∙ bind_same (fields exponent r) _ _ (λ v. amap_need goes (exponent? v.0) (fault 7 1) _
      ∙ ap (need (exponent? v.0) (fault 7 1)) (gone_more s c ds count shut v.0 (slots_of s)))

  system_is : (o : Option ℕ) → amap goes (on_system s.exponent (slots_of s) ds r o) ≡ system_at s r o
  unfolding on_system system_at system_in entry fields
  system_is none = amap_bind goes (fields system r) _ ∙ bind_same (fields system r) _ _ (λ v. gone_refused c (slots_of s) s.descriptions (fault 7 6)) ∙ sym (bind_amap _ _ (fields system r))
  system_is (some j) = once_is s c ds count shut (15 + j) (entry a_system r)

  by_action : (l : Label) → ¬ (l ≡ description) → amap goes (at l) ≡ acted (action l) s c r
  unfolding acted
  by_action description n = absurd (n refl)
  by_action comment n = comment_is
  by_action exponent n = exponent_is
  by_action (head i) n = unfold at_head entry fields in once_is s c ds count shut i (entry (content i) r)
  by_action system n = unfold at_head by_letter in system_is (place ℕ_discrete (get_or r 5 32) letters)
  by_action aux_start n = opened_is
  by_action header_end n = unfold at_head in ap (λ k. amap goes (on_end c (slots_of s) k r)) count
  by_action version n = unfold at_head amap in refl
  by_action aux_end n = unfold at_head amap in refl
  by_action (start k) n = unfold at_head amap in refl
  by_action (end k) n = unfold at_head amap in refl
  by_action epoch n = unfold at_head amap in refl
  by_action block n = unfold at_head amap in refl
  by_action file_end n = unfold at_head amap in refl

  -- ---- DESCRIPTION
  description_is : amap goes (on_description s.exponent (slots_of s) ds r) ≡ described_in s
  unfolding on_description described_in fields scan bind amap
  description_is =
      let d : List ℕ = take 60 (take 60 r) in
      let one : ◌≡◌ {A = Answer Fault Went} (ok (went plain s.exponent (slots_of s) (length (ds ++ (d ∷ []))))) (ok (went plain s.exponent (slots_of s) (length ds + 1))) =
      ap (λ n. ok (went plain s.exponent (slots_of s) n)) (length-append ds (d ∷ [])) in
      amap_need goes (dec_lt (length ds) most_lines) (fault 5 61) _
      ∙ ap (need (dec_lt (length ds) most_lines) (fault 5 61)) one
      ∙ ap₂ (λ (n : ℕ) (b : Bool). need (dec_lt n most_lines) (fault 5 61) (ok (went (mode b) s.exponent (slots_of s) (n + 1)))) count (sym shut)

-- ---- the bytes of the DESCRIPTION lines

-- no line more
abbrev SameLines : Lines → Turn → Type 0
SameLines ds (more a e got ds') = ds' ≡ ds
SameLines ds done = Unit {0}

after_same : (ds : Lines) (bs : List ℕ) → described ds ≡ bs → (x : Answer Fault Turn) → Yields (SameLines ds) x → after x bs ≡ bs
after_same ds bs e (ok (more a x got ds')) (y_ok q) = ap described q ∙ e
after_same ds bs e (ok done) (y_ok q) = refl
after_same ds bs e (refused w) y = refl

module _ (c : Version) (e : ℤ) (got : Slots) (ds : Lines) (r : List ℕ) where
  once_same : (i : ℕ) (x : Answer Fault Said) → Yields (SameLines ds) (once e got ds i x)
  unfolding once
  once_same i x = need_yields _ _ (λ _. bind_yields x (λ y _. y_ok refl))

  system_same : (o : Option ℕ) → Yields (SameLines ds) (on_system e got ds r o)
  unfolding on_system
  system_same none = bind_yields (fields system r) (λ v _. y_no)
  system_same (some j) = once_same (15 + j) (bind (fields system r) (meant a_system))

  end_same : (n : ℕ) → Yields (SameLines ds) (on_end c got n r)
  unfolding on_end
  end_same n = bind_yields (fields header_end r) (λ v _. need_yields _ _ (λ _. need_yields _ _ (λ _. need_yields _ _ (λ _. y_ok tt))))

  head_same : (l : Label) → ¬ (l ≡ description) → Yields (SameLines ds) (at_head c e got ds l r)
  unfolding at_head
  head_same description n = absurd (n refl)
  head_same comment n = bind_yields (fields comment r) (λ v _. y_ok refl)
  head_same exponent n = bind_yields (fields exponent r) (λ v _. need_yields _ _ (λ _. y_ok refl))
  head_same (head i) n = once_same i (bind (fields (head i) r) (meant (content i)))
  head_same system n = system_same (place ℕ_discrete (get_or r 5 32) letters)
  head_same aux_start n = bind_yields (fields aux_start r) (λ v _. y_ok refl)
  head_same header_end n = end_same (length ds)
  head_same version n = y_no
  head_same aux_end n = y_no
  head_same (start k) n = y_no
  head_same (end k) n = y_no
  head_same epoch n = y_no
  head_same block n = y_no
  head_same file_end n = y_no

-- what is done where no DESCRIPTION stands
abbrev pub NoDescription : Action → Type 0
NoDescription A.Description = ⊥
NoDescription A.Misplaced = Unit {0}
NoDescription A.Skipped = Unit {0}
NoDescription A.Exponent = Unit {0}
NoDescription (A.Record i) = Unit {0}
NoDescription A.System = Unit {0}
NoDescription A.AuxStart = Unit {0}
NoDescription A.HeaderEnd = Unit {0}

-- a record of the header is no system
abbrev below_15 : Action → Bool
below_15 (A.Record i) = ltb i 15
below_15 A.Description = true
below_15 A.Misplaced = true
below_15 A.Skipped = true
below_15 A.Exponent = true
below_15 A.System = true
below_15 A.AuxStart = true
below_15 A.HeaderEnd = true

pub place_below : (k i : ℕ) → k < 32 → get_or (map action labels) k A.Misplaced ≡ A.Record i → i < 15
place_below k i h e =
    let t : T (below_15 (get_or (map action labels) k A.Misplaced)) = tested_at (λ j. below_15 (get_or (map action labels) j A.Misplaced)) 32 tt k h in
    ltb→lt i 15 (rw e at t)

-- which label an action is of
described_by : (l : Label) → action l ≡ A.Description → l ≡ description
described_by description e = refl
described_by comment e = cc
described_by exponent e = cc
described_by (head i) e = cc
described_by system e = cc
described_by aux_start e = cc
described_by header_end e = cc
described_by version e = cc
described_by aux_end e = cc
described_by (start k) e = cc
described_by (end k) e = cc
described_by epoch e = cc
described_by block e = cc
described_by file_end e = cc

-- ---- a row

module _ (s : State) (c : Version) (bs line : List ℕ) (fits : length line ≤ 80) (w : Holds s.descriptions bs) where
  abbrev before : Lines
  before = lines_in s.descriptions bs

  counted : length before ≡ s.descriptions
  counted = lines_length s.descriptions bs

  pub unknown_is : s.aux ≡ false → 32 ≤ number_of line → Steps s c bs (pad line) (Err (fault 4 61)) s bs
  unfolding turned head_step get amap
  unknown_is shut h =
      record {
        goes = rw (ap mode shut, label_unknown line fits h) refl;
        lines = rw (ap mode shut, label_unknown line fits h) refl;
      }

  module _ (shut : s.aux ≡ false) (k : ℕ) (e : k ≡ number_of line) (h : k < 32) where
    known : turned s c before (pad line) ≡ at_head c s.exponent (slots_of s) before (get_or labels k version) (pad line)
    unfolding turned head_step get
    known = rw (ap mode shut, label_known line fits (rw e at h), ← e) refl

    module _ (a : Action) (q : get_or (map action labels) k A.Misplaced ≡ a) where
      its : action (get_or labels k version) ≡ a
      its = sym (get_or-map action labels k version) ∙ q

      pub known_is : NoDescription a → (x : Result (Held Header) Fault) (s' : State) → told x s' ≡ acted a s c (pad line) → Steps s c bs (pad line) x s' bs
      known_is n x s' p =
          let l = get_or labels k version in
          let d : ¬ (l ≡ description) = λ o. subst NoDescription (sym its ∙ ap action o) n in
          record {
            goes = p ∙ ap (λ (b : Action). acted b s c (pad line)) (sym its) ∙ sym (ap (amap (gone c (slots_of s) s.descriptions)) known ∙ by_action s c before counted (pad line) shut l d);
            lines = sym (rw known (after_same before bs w.tidy _ (head_same c s.exponent (slots_of s) before (pad line) l d)));
          }

      pub description_step : a ≡ A.Description → (x : Result (Held Header) Fault) (y : Result (Unit {0}) Fault) (s' : State) (bs' : List ℕ) → told x s' ≡ told_kept y s'
          → Describes s bs (pad line) y s' bs' → Steps s c bs (pad line) x s' bs'
      unfolding at_head
      description_step o x y s' bs' t z =
          let p : turned s c before (pad line) ≡ on_description s.exponent (slots_of s) before (pad line) = known ∙ (rw (described_by (get_or labels k version) (its ∙ o)) refl) in
          record {
            goes = t ∙ z.goes ∙ sym (rw p (description_is s c before counted (pad line) shut));
            lines = z.lines ∙ ap (λ u. after u bs) (sym p);
          }

  aux_ended : s.aux ≡ true → number_of line ≡ 21 → turned s c before (pad line) ≡ ok (more plain s.exponent (slots_of s) before)
  unfolding turned head_step fields scan bind
  aux_ended o e =
      let n : drop 60 (pad line) ≡ name aux_end = named line fits (omega arith) ∙ (unfold names in rw e refl) in
      rw (ap mode o, pick_yes (same (drop 60 (pad line)) (name aux_end)) _ _ n) refl

  aux_skipped : s.aux ≡ true → ¬ (number_of line ≡ 21) → turned s c before (pad line) ≡ ok (more aux s.exponent (slots_of s) before)
  unfolding turned head_step
  aux_skipped o n = rw (ap mode o, pick_no (same (drop 60 (pad line)) (name aux_end)) _ _ (λ e. n (aux_number line fits e))) refl

  abbrev in_aux : Bool → State
  in_aux b =
      record { aux = b; exponent = s.exponent; values = s.values; program = s.program; agency = s.agency; date = s.date; mapping = s.mapping; observables = s.observables; descriptions = s.descriptions }

  pub aux_is : s.aux ≡ true → (k : ℕ) → k ≡ number_of line → Steps s c bs (pad line) (Ok None) (in_aux (not (eqb k 21))) bs
  unfolding amap slots_of slot
  aux_is o k e = by (eqb k 21) refl
    where
      by : (t : Bool) → eqb k 21 ≡ t → Steps s c bs (pad line) (Ok None) (in_aux (not t)) bs
      by true q =
          let p = aux_ended o (sym e ∙ eqb-true k 21 q) in
          record { goes = sym (rw (p, counted) refl); lines = sym (rw p w.tidy) }
      by false q =
          let p = aux_skipped o (λ n. eqb-false k 21 q (e ∙ n)) in
          record { goes = sym (rw (p, counted) refl); lines = sym (rw p w.tidy) }
