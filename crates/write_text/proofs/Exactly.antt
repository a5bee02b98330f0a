-- The contract of writing determines result and output; what is written is read back; and 31 is 'no accepted text has this map set as its meaning'.
use mathlib.Core.Path.{◌≡◌, refl, sym, ap, ◌∙◌}
use mathlib.Core.Logic.{◌↔◌}
use mathlib.Core.List.{List, [], ◌∷◌, ◌++◌}
use Rattle.std.specs.Prelude.{Result, Ok, Err}
use Prim.Native.Nat.{ℕ, ◌≤◌}
use native.Mathlib.Omega.{arith}
use native.Mathlib.Decide.{dec_le}
use lib.ListN.{length, take, drop}
use lib.Seq.{take_at, drop_at}
use Rattle.mapset.specs.declared.Header.{Header}
use Rattle.mapset.specs.Described.{FullTexts}
use Rattle.mapset.specs.Areas.{Areas}
use Rattle.areas.specs.Valid.{Valid}
use Rattle.valid.specs.Validity.{validity}
use Rattle.canonical.specs.Meaning.{Means, Back}
use Rattle.canonical.proofs.Exact.{valid_exactly, round_trip}
use Rattle.canonical.specs.CanonOf.{canon_of}
use Rattle.write_text.specs.Write.{ToldWriting, done, refused, told, written}
use Rattle.write_text.proofs.WriteLaws.{written_unsound, written_short, written_done}
use Rattle.write_text.specs.declared.Unwritten.{Unwritten}
use Rattle.write_text.specs.declared.Unwritten.TheVariants.{Short, Unsound}

-- r and the output o' are what the contract asks for
abbrev pub Writes : Header → FullTexts → Areas → (o : List ℕ) (r : Result ℕ Unwritten) (o' : List ℕ) → Type 0
Writes h t a o r o' = ◌≡◌ {A = ToldWriting × List ℕ} (told r, o') (written h t a o)

told_once : (r r' : Result ℕ Unwritten) → told r ≡ told r' → r ≡ r'
told_once (Ok m) (Ok n) e = cc
told_once (Ok m) (Err (Short n)) e = cc
told_once (Ok m) (Err Unsound) e = cc
told_once (Err (Short m)) (Ok n) e = cc
told_once (Err (Short m)) (Err (Short n)) e = cc
told_once (Err (Short m)) (Err Unsound) e = let z : ◌≡◌ {A = ℕ} 30 31 = cc in absurd (omega arith)
told_once (Err Unsound) (Ok n) e = cc
told_once (Err Unsound) (Err (Short n)) e = let z : ◌≡◌ {A = ℕ} 30 31 = cc in absurd (omega arith)
told_once (Err Unsound) (Err Unsound) e = refl

module _ (h : Header) (t : FullTexts) (a : Areas) (o : List ℕ) where
  -- no second result and no second output fit
  pub write_once : (r r' : Result ℕ Unwritten) (o' o'' : List ℕ) → Writes h t a o r o' → Writes h t a o r' o'' → (r ≡ r') × (o' ≡ o'')
  write_once r r' o' o'' p q = let e = p ∙ sym q in (told_once r r' (ap (λ (x : ToldWriting × List ℕ). x.0) e), ap (λ (x : ToldWriting × List ℕ). x.1) e)

  module _ (r : Result ℕ Unwritten) (o' : List ℕ) (w : Writes h t a o r o') where
    -- 31 exactly when no text means this map set
    pub refused_exactly : (told r ≡ refused 31 []) ↔ (¬ ((x : List ℕ) × Means h t a x))
    refused_exactly = (λ e m. valid_told ((valid_exactly h t a).1 m) e, λ n. ap (λ (x : ToldWriting × List ℕ). x.0) (w ∙ written_unsound h t a o (λ v. n ((valid_exactly h t a).0 v))))
      where
        fits_told : Valid h t a → Dec (length (canon_of h t a) ≤ length o) → ¬ (told r ≡ refused 31 [])
        fits_told v (yes l) e = let z : done _ ≡ refused 31 [] = sym (ap (λ (x : ToldWriting × List ℕ). x.0) (w ∙ written_done h t a o v l)) ∙ e in let y : ◌≡◌ {A = ℕ} 0 1 = cc in omega arith
        fits_told v (no n) e = let z : refused 30 _ ≡ refused 31 [] = sym (ap (λ (x : ToldWriting × List ℕ). x.0) (w ∙ written_short h t a o v (omega arith))) ∙ e in let y : ◌≡◌ {A = ℕ} 30 31 = cc in omega arith

        valid_told : Valid h t a → ¬ (told r ≡ refused 31 [])
        valid_told v = fits_told v (dec_le (length (canon_of h t a)) (length o))

    -- what was written is the canonical text, behind which the output is as it was; and reading it gives header, texts and areas again
    pub written_read : (n : ℕ) → told r ≡ done n → (take n o' ≡ canon_of h t a) × (drop n o' ≡ drop n o) × Back h t a
    written_read n e = by_valid (validity h t a)
      where
        by_fit : Valid h t a → Dec (length (canon_of h t a) ≤ length o) → (take n o' ≡ canon_of h t a) × (drop n o' ≡ drop n o) × Back h t a
        by_fit v (yes l) =
            let q = w ∙ written_done h t a o v l in
            let z : done n ≡ done (length (canon_of h t a)) = sym e ∙ ap (λ (x : ToldWriting × List ℕ). x.0) q in
            let m : length (canon_of h t a) ≡ n = cc in
            let p : o' ≡ canon_of h t a ++ drop n o = ap (λ (x : ToldWriting × List ℕ). x.1) q ∙ ap (λ k. canon_of h t a ++ drop k o) m in
            (ap (take n) p ∙ take_at (canon_of h t a) (drop n o) n m, ap (drop n) p ∙ drop_at (canon_of h t a) (drop n o) n m, round_trip h t a v)
        by_fit v (no k) =
            let z : done n ≡ refused 30 (length (canon_of h t a) ∷ []) = sym e ∙ ap (λ (x : ToldWriting × List ℕ). x.0) (w ∙ written_short h t a o v (omega arith)) in
            let y : ◌≡◌ {A = ℕ} 0 1 = cc in absurd (omega arith)

        by_valid : Dec (Valid h t a) → (take n o' ≡ canon_of h t a) × (drop n o' ≡ drop n o) × Back h t a
        by_valid (yes v) = by_fit v (dec_le (length (canon_of h t a)) (length o))
        by_valid (no k) =
            let z : done n ≡ refused 31 [] = sym e ∙ ap (λ (x : ToldWriting × List ℕ). x.0) (w ∙ written_unsound h t a o k) in
            let y : ◌≡◌ {A = ℕ} 0 1 = cc in absurd (omega arith)
