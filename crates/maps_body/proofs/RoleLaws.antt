-- A record's role by its label's number, and the step by its role.
use Rattle.std.specs.Prelude.{Result, Ok, Err}
use mathlib.Core.Path.{◌≡◌, refl, sym, ap, ◌∙◌}
use mathlib.Core.Bool.{Bool, false, ◌&&◌, ◌||◌}
use mathlib.Core.Option.{Option, none, some}
use mathlib.Core.List.{List}
use Prim.Native.Nat.{ℕ, suc, ◌≤◌, ◌<◌}
use native.Mathlib.Omega.{arith}
use lib.ListN.{length, get_or}
use lib.Dec.{T, eqb, eqb→eq, leb}
use borrow.Author.Tests.{ne_eqb, lt-leb}
use Rattle.kit.proofs.TruthLaws.{tested_at, and_left, and_right}
use Rattle.kit.specs.Answer.{refused, bind, get}
use Rattle.mapset.specs.declared.Header.{Header}
use Rattle.layout.specs.Text.{pad}
use Rattle.layout.specs.Labels.{Label, version, description, comment, system, exponent, aux_start, aux_end, header_end, epoch, block, file_end, head, start, end, labels}
use Rattle.layout.specs.Layout.{Force}
use Rattle.layout.specs.Names.{number_of}
use Rattle.reading.specs.declared.Fault.{Fault}
use Rattle.reading.specs.Feed.{fault}
use Rattle.reading.specs.Fields.{label, scan, fields}
use Rattle.reading.proofs.LabelLaws.{label_known, label_unknown}
use Rattle.reading.specs.Maps.{Step, stays, loose, on_comment, on_exponent, on_start, on_end, on_epoch, on_block, on_file, taken, step}
use Rattle.reading.specs.declared.Place.{Place}
use Rattle.maps_body.specs.ByLabel.{role, role_of}
use Rattle.maps_body.specs.declared.Role.{Role}
use Rattle.maps_body.specs.declared.Role.TheVariants as R

-- ---- the role

is_misplaced : Result Role Fault → Bool
is_misplaced (Ok r) = false
is_misplaced (Err f) = eqb f.number 5 && eqb f.column 61

misplaced_is : (r : Result Role Fault) → T (is_misplaced r) → Err (fault 5 61) ≡ r
unfolding is_misplaced
misplaced_is (Ok r) t = absurd t
misplaced_is (Err f) t =
    let p : 5 ≡ f.number = sym (eqb→eq f.number 5 (and_left (eqb f.number 5) (eqb f.column 61) t)) in
    let q : 61 ≡ f.column = sym (eqb→eq f.column 61 (and_right (eqb f.number 5) (eqb f.column 61) t)) in
    λ i. Err (record { number = p i; column = q i })

-- the numbers of the maps' labels
abbrev listed : ℕ → Bool
listed k = eqb k 3 || (eqb k 19 || leb 23 k)

misplaced_at : (k : ℕ) → k < 32 → T (listed k || is_misplaced (role_of (get_or labels k version)))
unfolding is_misplaced
misplaced_at k h = tested_at (λ k. listed k || is_misplaced (role_of (get_or labels k version))) 32 tt k h

other_role : (k : ℕ) → k < 23 → ¬ (k ≡ 3) → ¬ (k ≡ 19) → Err (fault 5 61) ≡ role_of (get_or labels k version)
other_role k h a b = misplaced_is _ (rw (ne_eqb k 3 a, ne_eqb k 19 b, lt-leb 23 k h) at (misplaced_at k (omega arith)))

module _ (line : List ℕ) (fits : length line ≤ 80) (k : ℕ) (is : k ≡ number_of line) where
  pub role_unknown : 32 ≤ k → Err (fault 4 61) ≡ role (label (pad line))
  role_unknown h = sym (ap role (label_unknown line fits (omega arith)))

  role_known : k < 32 → role_of (get_or labels k version) ≡ role (label (pad line))
  role_known h = let l : number_of line < 32 = omega arith in sym (ap role (label_known line fits l) ∙ rw (← is))

  pub role_at : (j : ℕ) → k ≡ j → j < 32 → role_of (get_or labels j version) ≡ role (label (pad line))
  role_at j e h = ap (λ (i : ℕ). role_of (get_or labels i version)) (sym e) ∙ role_known (omega arith)

  pub role_other : k < 23 → ¬ (k ≡ 3) → ¬ (k ≡ 19) → Err (fault 5 61) ≡ role (label (pad line))
  role_other h a b = other_role k h a b ∙ role_known (omega arith)

-- ---- the step

module _ (h : Header) (q : Place) (p : Force) (r : List ℕ) where
  abbrev by_role : Role → Step q
  by_role R.Comment = loose q (stays q p)
  by_role R.Exponent = on_exponent q p r
  by_role (R.Start k) = on_start h q p k r
  by_role (R.End k) = on_end h q p k r
  by_role R.Epoch = on_epoch h q p r
  by_role R.Block = on_block h q p r
  by_role R.File = on_file h q p r

  abbrev by_answer : Result Role Fault → Step q
  by_answer (Ok x) = by_role x
  by_answer (Err f) = refused f

  step_by : (o : Option Label) → get o (fault 4 61) (λ l. taken h q p l r) ≡ by_answer (role o)
  unfolding get taken on_comment fields scan bind
  step_by none = refl
  step_by (some comment) = refl
  step_by (some exponent) = refl
  step_by (some (start k)) = refl
  step_by (some (end k)) = refl
  step_by (some epoch) = refl
  step_by (some block) = refl
  step_by (some file_end) = refl
  step_by (some version) = refl
  step_by (some description) = refl
  step_by (some system) = refl
  step_by (some aux_start) = refl
  step_by (some aux_end) = refl
  step_by (some header_end) = refl
  step_by (some (head i)) = refl

  pub step_is : (x : Result Role Fault) → role (label r) ≡ x → step h q p r ≡ by_answer x
  unfolding step
  step_is x e = step_by (label r) ∙ ap by_answer e
