-- A COMMENT, and a row of an aux block that stays open, leave the header as it is.
use mathlib.Core.Path.{◌≡◌, refl, sym, ap, subst, ◌∙◌}
use mathlib.Core.Bool.{Bool, true, false, not}
use mathlib.Core.List.{List, []}
use Prim.Native.Nat.{ℕ, suc, ◌+◌, ◌-◌, ◌≤◌}
use native.Mathlib.Omega.{arith}
use native.Mathlib.Numerals.{add-one}
use lib.ListN.{length, get_or, take, drop}
use Rattle.kit.specs.Answer.{bind, get, same}
use Rattle.kit.proofs.AnswerLaws.{pick_no}
use Rattle.mapset.specs.declared.Version.{Version}
use Rattle.mapset.specs.Lines.{lines_in}
use Rattle.layout.specs.Text.{pad}
use Rattle.layout.specs.Labels.{aux_end, name}
use Rattle.layout.specs.Layout.{mode}
use Rattle.layout.specs.Names.{holds, names, number_of}
use Rattle.labels.proofs.Laws.{says_comment}
use Rattle.reading.specs.Feed.{why, over, bad, split, feed}
use Rattle.reading.specs.Fields.{scan, fields}
use Rattle.reading.proofs.LabelLaws.{held, label_columns, label_known}
use Rattle.reading.specs.Head.{at_head, head_step, heading}
use Rattle.read_lines.specs.Leads.{LeadsRow, after_all}
use Rattle.head_state.specs.Got.{slots_of}
use Rattle.head_state.specs.declared.State.{State}
use Rattle.head_step.specs.Step.{Steps}
use Rattle.head.specs.Opened.{Keeps, Stops, Leads}
use Rattle.head.specs.Past.{Leaves, Past}
use Rattle.head.proofs.OpenedLaws.{heading_more, stops_over, stops_bad, leads_on, leads_no}
use Rattle.std.specs.Prelude.{Result, Ok, Err, Some, None, Option as Held}
use Rattle.reading.specs.declared.Fault.{Fault}
use Rattle.reading.specs.declared.Why.{Why}
use Rattle.mapset.specs.declared.Header.{Header}
use Rattle.head.specs.declared.HeaderRead.{HeaderRead}

module _ (line : List ℕ) (fits : length line ≤ 80) (a : Bool) where
  pub leaves_aux : a ≡ true → (b : Bool) → b ≡ holds line 60 (name aux_end) → Leaves (not b) a (pad line)
  unfolding head_step name
  leaves_aux o true e = tt
  leaves_aux o false e = λ c x got ds. rw (ap mode o, pick_no (same (drop 60 (pad line)) (name aux_end)) _ _ other) refl
    where
      other : ¬ (drop 60 (pad line) ≡ name aux_end)
      other q = let t = held line 60 (name aux_end) (label_columns line fits ∙ q) in let z : ◌≡◌ {A = ℕ} 0 1 = cc in omega arith

  pub leaves_comment : a ≡ false → (b : Bool) → b ≡ holds line 60 (get_or names 3 []) → Leaves b a (pad line)
  unfolding head_step get at_head fields scan bind
  leaves_comment o false e = tt
  leaves_comment o true e =
      λ c x got ds.
      let k : 3 ≡ number_of line = says_comment line (sym e) in
      rw (ap mode o, label_known line fits (omega arith), ← k) refl

pub past_none : (t : List ℕ) (a : Bool) (from passed : ℕ) → from ≤ length t → passed ≤ from → Past t a from passed from passed
past_none t a from passed w p = record { after = omega arith; within = w; few = p; same = λ c e got ds. refl }

module _ (t : List ℕ) (a : Bool) (from passed at n : ℕ) (p : Past t a from passed at n) where
  pub past_more : (start end next m : ℕ) → LeadsRow t at n start end next m → (b : Bool) → b ≡ true → Leaves b a (pad (take (end - start) (drop start t))) → Past t a from passed next (m + 1)
  past_more start end next m l true o k =
      let x = p.after in
      let y = l.after in
      let z = l.ahead in
      let w = l.passed in
      record {
        after = omega arith;
        within = l.within;
        few = omega arith;
        same = λ c e got ds.
            p.same c e got ds
            ∙ ap (heading c (mode a) e got ds) l.on
            ∙ heading_more c (mode a) e got ds (suc m) _ (feed (suc (suc m)) (split (drop next t))) _ _ _ _ (k c e got ds)
            ∙ ap (λ (i : ℕ). heading c (mode a) e got ds (feed (suc i) (split (drop next t)))) (sym (add-one m));
      }
  past_more start end next m l false o k = let z : ◌≡◌ {A = ℕ} 0 1 = cc in absurd (omega arith)

-- what comes of a record that stands behind remarks
module _ (t : List ℕ) (c : Version) (s : State) (bs : List ℕ) (from passed at n : ℕ) (p : Past t s.aux from passed at n) where
  stopped : (bs' : List ℕ) (a : Result HeaderRead Why) → Stops t c s bs at n bs' a → Stops t c s bs from passed bs' a
  stopped bs' a g = record { same = p.same c s.exponent (slots_of s) (lines_in s.descriptions bs) ∙ g.same; sound = g.sound }

  carried : (x y : ℕ) (o : Held Header) (s' : State) (bs' : List ℕ) → Leads t c s bs at n x y o s' bs' → Leads t c s bs from passed x y o s' bs'
  carried x y None s' bs' g =
      let b = p.after in
      let d = g.ahead in
      record {
        same = p.same c s.exponent (slots_of s) (lines_in s.descriptions bs) ∙ g.same;
        ahead = omega arith;
        within = g.within;
        passed = g.passed;
        keeps = g.keeps;
      }
  carried x y (Some h) s' bs' g = stopped bs' _ g

  pub past_over : (m : ℕ) → feed (suc n) (split (drop at t)) ≡ over (suc m) → Stops t c s bs from passed bs (Err (why 10 (after_all m) 0))
  past_over m e = stopped bs _ (stops_over t c s bs at n m e)

  pub past_bad : (w : Why) → feed (suc n) (split (drop at t)) ≡ bad w → Stops t c s bs from passed bs (Err w)
  past_bad w e = stopped bs _ (stops_bad t c s bs at n w e)

  module _ (start end next m : ℕ) (z : LeadsRow t at n start end next m) (g : Keeps s bs) (s' : State) (bs' : List ℕ) where
    module _ (x : Result (Held Header) Fault) (q : Steps s c bs (pad (take (end - start) (drop start t))) x s' bs') where
      its : (y : Result (Held Header) Fault) → x ≡ y → Steps s c bs (pad (take (end - start) (drop start t))) y s' bs'
      its y e = subst (λ (x : Result (Held Header) Fault). Steps s c bs (pad (take (end - start) (drop start t))) x s' bs') e q

      pub past_on : (o : Held Header) → x ≡ Ok o → Leads t c s bs from passed next (m + 1) o s' bs'
      past_on o e = carried next (m + 1) o s' bs' (leads_on t c s bs at n start end next m z g o s' bs' (its (Ok o) e))

      pub past_no : (f : Fault) → x ≡ Err f → Stops t c s bs from passed bs' (Err (why f.number (m + 1) f.column))
      past_no f e = stopped bs' _ (leads_no t c s bs at n start end next m z g f s' bs' (its (Err f) e))
