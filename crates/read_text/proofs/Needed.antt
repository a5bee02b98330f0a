-- What `needs` tells of a text is what `read` asks for: areas of at least these lengths are long enough, and the first that is shorter is told by 11.
use mathlib.Core.Path.{◌≡◌, sym, ap, ◌∙◌}
use mathlib.Core.List.{List}
use Prim.Native.Nat.{ℕ, ◌≤◌}
use native.Mathlib.Omega.{arith}
use Rattle.std.specs.Prelude.{Ok, Err}
use Rattle.kit.specs.Answer.{All}
use Rattle.mapset.specs.declared.Header.{Header}
use Rattle.mapset.specs.Areas.{Areas}
use Rattle.reading.proofs.Exact.{made_read}
use Rattle.read_needs.specs.Needs.{lengths, pairs}
use Rattle.read_needs.specs.declared.Elements.{Elements}
use Rattle.read_outcome.specs.Outcome.{outcome_of}
use Rattle.read_outcome.specs.Measures.{Measures}
use Rattle.read_outcome.proofs.Once.{told_once}
use Rattle.read_outcome.specs.declared.Reason.{Reason}
use Rattle.read_outcome.specs.declared.Reason.TheVariants.{AreaTooShort}
use Rattle.read_outcome.specs.declared.ReadOut.{ReadOut}
use Rattle.read_text.proofs.Once.{Reads, FirstShort, given, short_exactly}

-- each area has at least so many elements
abbrev AtLeast : Elements → Areas → Type 0
AtLeast n l = All (λ x. x.0 ≤ x.1) (pairs n (lengths l))

module _ (t : List ℕ) (l : Areas) (r : ReadOut) (l' : Areas) (c : Reads t l r l') where
  pub needs_suffice : (n : Elements) → Measures t (Ok n) → AtLeast n l → (h : Header) × (r.answer ≡ Ok h)
  needs_suffice n (m, (e, q)) f = (m.header, (given t l r l' c m (made_read t e) (rw q at f)).answer)

  -- 11 is never told then
  pub never_eleven : (n : Elements) → Measures t (Ok n) → AtLeast n l → (a k : ℕ) → ¬ (r.answer ≡ Err (AreaTooShort a k))
  never_eleven n s f a k e =
      let z = (needs_suffice n s f).1 in
      let y : ◌≡◌ {A = ℕ} 0 1 = cc in omega arith

  -- and else it is, with the first area too short
  pub else_eleven : (n : Elements) → Measures t (Ok n) → (a k : ℕ) → FirstShort 1 a k (pairs n (lengths l)) → r.answer ≡ Err (AreaTooShort a k)
  else_eleven n (m, (e, q)) a k f = (short_exactly t l r l' c a k).1 (m, (made_read t e, rw q at f))

  -- a refusal is the same, whatever is lent
  pub refused_alike : (w : Reason) → Measures t (Err w) → r.answer ≡ Err w
  unfolding outcome_of
  refused_alike w (y, (e, q)) = told_once r.answer (Err w) (ap (λ o. o.told) (c ∙ ap (λ a. outcome_of a l) e) ∙ sym q)
