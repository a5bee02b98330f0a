-- No second answer tells the same, and a text has no second needs.
use mathlib.Core.Path.{◌≡◌, refl, sym, ap, ◌∙◌}
use mathlib.Core.List.{List}
use Prim.Native.Nat.{ℕ}
use Rattle.std.specs.Prelude.{Result, Ok, Err}
use native.Mathlib.Decide.{ℕ_discrete}
use Rattle.kit.specs.Answer.{pick}
use Rattle.kit.proofs.TruthLaws.{clash}
use Rattle.mapset.specs.declared.Header.{Header}
use Rattle.areas.specs.Flat.{areas}
use Rattle.read_needs.specs.Needs.{lengths}
use Rattle.read_needs.specs.declared.Elements.{Elements}
use Rattle.read_outcome.specs.Outcome.{ToldReading, accepted, at_place, eleven, told_reason, told, texts_in}
use Rattle.read_outcome.specs.Measures.{Measures}
use Rattle.read_outcome.specs.declared.Reason.{Reason}
use Rattle.read_outcome.specs.declared.Reason.TheVariants.{LongLine, BadByte, NotIonex, UnknownLabel, Misplaced, IllFormed, OutOfRange, Disagrees, Missing, EndsEarly, AreaTooShort}
use Rattle.read_outcome.specs.declared.ReadOut.{ReadOut}

unfoldable reason : ℕ → ℕ → ℕ → Reason
reason k l c =
    pick (ℕ_discrete k 1) (LongLine l c)
    (pick (ℕ_discrete k 2) (BadByte l c)
    (pick (ℕ_discrete k 3) (NotIonex l c)
    (pick (ℕ_discrete k 4) (UnknownLabel l c)
    (pick (ℕ_discrete k 5) (Misplaced l c)
    (pick (ℕ_discrete k 6) (IllFormed l c)
    (pick (ℕ_discrete k 7) (OutOfRange l c)
    (pick (ℕ_discrete k 8) (Disagrees l c) (pick (ℕ_discrete k 9) (Missing l c) (EndsEarly l c)))))))))

abbrev back : ToldReading → Result Header Reason
back (accepted h) = Ok h
back (at_place k l c) = Err (reason k l c)
back (eleven a n) = Err (AreaTooShort a n)

back_reason : (w : Reason) → back (told_reason w) ≡ Err w
unfolding reason pick ℕ_discrete
back_reason (LongLine l c) = refl
back_reason (BadByte l c) = refl
back_reason (NotIonex l c) = refl
back_reason (UnknownLabel l c) = refl
back_reason (Misplaced l c) = refl
back_reason (IllFormed l c) = refl
back_reason (OutOfRange l c) = refl
back_reason (Disagrees l c) = refl
back_reason (Missing l c) = refl
back_reason (EndsEarly l c) = refl
back_reason (AreaTooShort a n) = refl

back_told : (a : Result Header Reason) → back (told a) ≡ a
back_told (Ok h) = refl
back_told (Err w) = back_reason w

pub told_once : (a b : Result Header Reason) → told a ≡ told b → a ≡ b
told_once a b e = sym (back_told a) ∙ ap back e ∙ back_told b

pub needs_once : (t : List ℕ) (a b : Result Elements Reason) → Measures t a → Measures t b → a ≡ b
needs_once t (Ok n) (Ok k) (m, (p, q)) (m', (p', q')) = let z : m ≡ m' = cc in ap Ok (q ∙ ap (λ x. lengths (areas x)) z ∙ sym q')
needs_once t (Ok n) (Err w) (m, (p, q)) (y, (p', q')) = clash (cc)
needs_once t (Err w) (Ok n) (y, (p, q)) (m, (p', q')) = clash (cc)
needs_once t (Err v) (Err w) (y, (p, q)) (y', (p', q')) =
    let z : y ≡ y' = cc in
    let e = told_once (Err v) (Err w) (q ∙ ap (λ y. at_place y.number y.line y.column) z ∙ sym q') in
    let f : v ≡ w = cc in
    ap Err f

pub texts_once : (r s : ReadOut) → texts_in r ≡ texts_in s → (r.texts ≡ s.texts) × (r.descriptions ≡ s.descriptions)
texts_once r s e = (λ i. record { program = (e i).program; agency = (e i).agency; date = (e i).date; mapping = (e i).mapping; observables = (e i).observables }, λ i. record { bytes = (e i).descriptions })
