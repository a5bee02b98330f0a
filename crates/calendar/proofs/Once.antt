use Rattle.std.specs.Prelude.{Option, Some, None, Result, Ok, Err}
-- No second answer fits a promise.
use mathlib.Core.Path.{◌≡◌, refl, sym, ap, ◌∙◌}
use mathlib.Core.List.{List, [], ◌∷◌}
use Prim.Native.Nat.{ℕ, ◌/◌}
use lib.ListN.{get_or}
use lib.IntN.{ℤ, pos, ◌+ℤ◌}
use Rattle.kit.specs.Answer.{Answer, ok, refused}
use Rattle.kit.specs.Integer.{up}
use Rattle.calendar.specs.Calendar.{column_of, DateAt, Later, Refusal, checked, recorded, dated, told_checked, told_taken, told_when, told_found, The}
use Rattle.calendar.proofs.DateLaws.{date_once}
use Rattle.calendar.proofs.FieldLaws.{dated_told}
use Rattle.calendar.specs.declared.Epoch.{Epoch}
use Rattle.calendar.specs.declared.Field.{Field}
use Rattle.calendar.specs.declared.Field.TheVariants as F

-- ---- what is told determines the answer
-- the fields by their columns
abbrev fields : List Field
fields = F.Year ∷ F.Month ∷ F.Day ∷ F.Hour ∷ F.Minute ∷ F.Second ∷ []

by_column : (f : Field) → get_or fields (column_of f / 6) F.Year ≡ f
by_column F.Year = refl
by_column F.Month = refl
by_column F.Day = refl
by_column F.Hour = refl
by_column F.Minute = refl
by_column F.Second = refl

column_once : (f g : Field) → column_of f ≡ column_of g → f ≡ g
column_once f g e = sym (by_column f) ∙ ap (λ (c : ℕ). get_or fields (c / 6) F.Year) e ∙ by_column g

checked_told : (a b : Option Field) → told_checked a ≡ told_checked b → a ≡ b
checked_told None None e = refl
checked_told None (Some g) e = cc
checked_told (Some f) None e = cc
checked_told (Some f) (Some g) e = ap Some (column_once f g (cc))

taken_told : (a b : Result ℕ ℕ) → told_taken a ≡ told_taken b → a ≡ b
taken_told (Ok t) (Ok u) e = cc
taken_told (Ok t) (Err c) e = cc
taken_told (Err c) (Ok u) e = cc
taken_told (Err c) (Err k) e = cc

when_told : (a b : Option ℕ) → told_when a ≡ told_when b → a ≡ b
when_told (Some t) (Some u) e = cc
when_told (Some t) None e = cc
when_told None (Some u) e = cc
when_told None None e = refl

found_told : (a b : Option Epoch) → told_found a ≡ told_found b → a ≡ b
found_told (Some d) (Some f) e = cc
found_told (Some d) None e = cc
found_told None (Some f) e = cc
found_told None None e = refl

-- ---- the promises
the_once : {A : Type 0} (P : A → Type 0) → ((a b : A) → P a → P b → a ≡ b) → (x y : Answer Refusal A) → The P x → The P y → x ≡ y
the_once P one (ok a) (ok b) p q = ap ok (one a b p q)
the_once P one (ok a) (refused w) p q = absurd (q.1 a p)
the_once P one (refused v) (ok b) p q = absurd (p.1 b q)
the_once P one (refused v) (refused w) p q = ap refused (p.0 ∙ sym q.0)

later_once : (e : Epoch) (by : ℤ) (f g : Epoch) → Later e by f → Later e by g → f ≡ g
later_once e by f g p q =
    let s : p.from ≡ q.from = sym p.starts.at ∙ q.starts.at in
    let t : p.to ≡ q.to = ap up (p.later ∙ ap (λ (s : ℕ). pos s +ℤ by) s ∙ sym q.later) in
    date_once q.to f g (rw t at p.ends) q.ends

pub first_wrong_once : (e : Epoch) (a b : Option Field) → told_checked a ≡ checked e → told_checked b ≡ checked e → a ≡ b
first_wrong_once e a b p q = checked_told a b (p ∙ sym q)

pub take_once : (y m d h i s : ℤ) (a b : Result ℕ ℕ) → told_taken a ≡ recorded y m d h i s → told_taken b ≡ recorded y m d h i s → a ≡ b
take_once y m d h i s a b p q = taken_told a b (p ∙ sym q)

-- it is `dated`
pub take_dated : (y m d h i s : ℤ) (a : Result ℕ ℕ) → told_taken a ≡ recorded y m d h i s → a ≡ dated y m d h i s
take_dated y m d h i s a p = take_once y m d h i s a (dated y m d h i s) p (dated_told y m d h i s)

pub seconds_once : (e : Epoch) (a b : Option ℕ) → The (DateAt e) (told_when a) → The (DateAt e) (told_when b) → a ≡ b
seconds_once e a b p q = when_told a b (the_once (DateAt e) (λ t u r s. sym r.at ∙ s.at) _ _ p q)

pub at_second_once : (t : ℕ) (a b : Option Epoch) → The (λ e. DateAt e t) (told_found a) → The (λ e. DateAt e t) (told_found b) → a ≡ b
at_second_once t a b p q = found_told a b (the_once (λ e. DateAt e t) (date_once t) _ _ p q)

pub moved_once : (e : Epoch) (by : ℤ) (a b : Option Epoch) → The (Later e by) (told_found a) → The (Later e by) (told_found b) → a ≡ b
moved_once e by a b p q = found_told a b (the_once (Later e by) (later_once e by) _ _ p q)
