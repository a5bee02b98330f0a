-- A COMMENT is refused as the first row, where a value line is due, and behind END OF FILE; nowhere else.
use mathlib.Core.Path.{◌≡◌, sym, ap, subst, ◌∙◌}
use mathlib.Core.Option.{some}
use mathlib.Core.List.{List}
use Prim.Native.Nat.{ℕ, zero, suc}
use native.Mathlib.Omega.{arith}
use lib.ListN.{length, take}
use Rattle.layout.specs.Text.{pad}
use Rattle.layout.specs.Labels.{Label, comment, layout}
use Rattle.layout.specs.Layout.{plain, aux}
use Rattle.reading.specs.declared.Fault.{Fault}
use Rattle.reading.specs.declared.Why.{Why}
use Rattle.reading.proofs.LineLaws.{padded}
use Rattle.reading.proofs.RecordLaws.{rec_name}
use Rattle.refusals.specs.Faulty.{Broken, formed, between, ended, inside, Standing, opening, heading, mapping, Rule, Labelled, WrongRecord, unknown, misplaced, ill_formed, wrong, Wrong, FaultyFrom, by_bytes, by_row, past_blank, past_row, at_end_of_text}
use Rattle.refusals.specs.Comments.{row_at_fault, NoComment, first_row, value_due, behind_file}
use Rattle.refusals.proofs.Obeyed.{label_is}

-- a COMMENT's columns 1 to 60 are free, so where one may stand and nothing is asked of it, it is not wrong
module _ (r : List ℕ) (z : length r ≡ 80) (its : Labelled comment r) where
  same_label : (l : Label) → Labelled l r → l ≡ comment
  same_label l e = let q : some l ≡ some comment = sym (label_is r z l e) ∙ label_is r z comment its in cc

  free : (f : Fault) → ¬ Broken (formed 1 (layout comment) (take 60 r)) f
  free f b = b

  not_wrong : (rule : (l : Label) → Rule l) (f : Fault) → (rule comment).may → ((v : _) (g : Fault) → ¬ Broken ((rule comment).asks v) g) → ¬ WrongRecord rule r f
  not_wrong rule f m a (unknown n) = n comment its
  not_wrong rule f m a (misplaced l e n) = n (subst (λ x. (rule x).may) (sym (same_label l e)) m)
  not_wrong rule f m a (ill_formed l e k b) = free f (subst (λ x. Broken (formed 1 (layout x) (take 60 r)) f) (same_label l e) b)
  not_wrong rule f m a (wrong l v k c b) = asked l (same_label l (rec_name c)) v b
    where
      asked : (x : Label) → x ≡ comment → (v : _) → ¬ Broken ((rule x).asks v) f
      asked x e = subst (λ y. (v : _) → ¬ Broken ((rule y).asks v) f) (sym e) (λ v. a v f)

  pub comment_wrong : (st : Standing) (f : Fault) → Wrong st r f → NoComment st
  comment_wrong opening f w = first_row
  comment_wrong (heading c plain e got n) f w = absurd (not_wrong _ f tt (λ v g b. b) w)
  comment_wrong (heading c aux e got n) f w = absurd w
  comment_wrong (mapping h between p zero) f w = absurd (not_wrong _ f tt (λ v g b. b) w)
  comment_wrong (mapping h ended p zero) f w = behind_file
  comment_wrong (mapping h (inside k i fresh b) p zero) f w = absurd (not_wrong _ f tt (λ v g b. b) w)
  comment_wrong (mapping h q p (suc c)) f w = value_due

pub comment_refused : {st : Standing} {n : ℕ} {ls : List (List ℕ)} {w : Why} (x : FaultyFrom st n ls w) (l : List ℕ) (s : Standing)
    → row_at_fault x ≡ some (l, s) → Labelled comment (pad l) → NoComment s
comment_refused (by_bytes b) l s e c = let z : ◌≡◌ {A = ℕ} 0 1 = cc in absurd (omega arith)
comment_refused (by_row {st} {n} {l} {ls} {f} d b w) m s e c =
    let both : ◌≡◌ {A = List ℕ × Standing} (l, st) (m, s) = cc in
    let p : l ≡ m = ap (λ (x : List ℕ × Standing). x.0) both in
    let q : st ≡ s = ap (λ (x : List ℕ × Standing). x.1) both in
    subst NoComment q (comment_wrong (pad l) (padded l d.0) (subst (λ k. Labelled comment (pad k)) (sym p) c) st f w)
comment_refused (past_blank d b x) l s e c = comment_refused x l s e c
comment_refused (past_row st' d b r x) l s e c = comment_refused x l s e c
comment_refused (at_end_of_text n) l s e c = let z : ◌≡◌ {A = ℕ} 0 1 = cc in absurd (omega arith)
