-- The groups hold exactly when `Valid` holds, where `Sound` does; and what they say of the areas as they are lent.
use mathlib.Core.Path.{◌≡◌, refl, sym, ap, ◌∙◌}
use mathlib.Core.Bool.{Bool, false}
use mathlib.Core.List.{List, [], ◌∷◌}
use Prim.Native.Nat.{ℕ, zero, suc, ◌+◌, ◌*◌, ◌≤◌}
use native.Mathlib.Omega.{arith}
use native.Mathlib.Nat.{mul-le-mul, zero-mul}
use lib.ListN.{length, take, drop}
use lib.Seq.{length-take-le}
use Rattle.kit.specs.Answer.{pick, all_dec}
use Rattle.kit.proofs.AnswerLaws.{pick_no, pick_elim}
use Rattle.kit.specs.Truth.{truth}
use Rattle.kit.proofs.TruthLaws.{truth_same, fails}
use Rattle.mapset.specs.declared.Kind.{Kind}
use Rattle.mapset.specs.declared.Kind.TheVariants.{Tec, Rms, Height}
use Rattle.mapset.specs.declared.Header.{Header}
use Rattle.mapset.specs.Described.{FullTexts}
use Rattle.mapset.specs.Grid.{columns}
use Rattle.mapset.specs.Areas.{Areas, nowhere?, blocks, value_need, Sound, first_of}
use Rattle.mapset.proofs.Groups.{sound_groups}
use Rattle.mapset.proofs.FirstLaws.{first_within}
use Rattle.layout.specs.Layout.{per_map, exponent?}
use Rattle.areas.specs.Nest.{third}
use Rattle.areas.specs.Valid.{needed, values_in, Valid}
use Rattle.valid.specs.Groups.{kind?, kind_need, kind_values, kind_exponents, Holds, OfKind, of_kind?, RestSays, rest?, Long}
use Rattle.valid.specs.Validity.{validity}

module _ (h : Header) (t : FullTexts) (a : Areas) where
  rest_valid : Sound h t a → RestSays h a → Valid h t a
  rest_valid s r =
      record {
        sound = s;
        values = λ k. (of k).0;
        exponents = r.0;
        no_values = λ k. (of k).1.0;
        no_exponents = λ k. (of k).1.1;
      }
    where
      of : (k : Kind) → OfKind h a k
      of Tec = r.1.0
      of Rms = r.1.1.0
      of Height = r.1.1.1

  valid_rest : Valid h t a → RestSays h a
  valid_rest v = (v.exponents, (of Tec, (of Rms, of Height)))
    where
      of : (k : Kind) → OfKind h a k
      of k = (v.values k, (v.no_values k, v.no_exponents k))

  pub validity_rest : Sound h t a → truth (rest? h a) ≡ truth (validity h t a)
  validity_rest s = truth_same (rest? h a) (validity h t a) (rest_valid s) valid_rest

  pub validity_unsound : ¬ Sound h t a → false ≡ truth (validity h t a)
  validity_unsound n = fails (validity h t a) (λ v. n v.sound)

  pub sound_long : Sound h t a → Long h a
  sound_long s =
      let g = sound_groups h t a s in
      record { maps = g.0.1.1.0.1.1.1.1; limits = g.0.1.1.1.1.1.1.1.1.1; marks = g.1.1.0; lengths = g.1.1.1.1.1 }

-- ---- every TEC map is there
tec_need : (B C : ℕ) (ms : List ℕ) → kind_need Tec B C ms ≡ length ms * B * C
tec_need B C [] = pick_elim (λ n. n ≡ zero * B * C) (nowhere? Tec []) (λ _. sym (ap (λ j. j * C) (zero-mul B) ∙ zero-mul C)) (λ _. refl)
tec_need B C (m ∷ ms) = pick_no (nowhere? Tec (m ∷ ms)) 0 (length (m ∷ ms) * B * C) (λ a. a.0 tt)

-- ---- a third of the exponents, whatever stands behind them
module _ {A : Type 0} where
  pub take_drop_take : (s f n : ℕ) (l : List A) → f + s ≤ n → take s (drop f (take n l)) ≡ take s (drop f l)
  take_drop_take s zero n l h = take_take s n l (omega arith)
    where
      take_take : (s n : ℕ) (l : List A) → s ≤ n → take s (take n l) ≡ take s l
      take_take zero n l h = refl
      take_take (suc s) zero l h = absurd (omega arith)
      take_take (suc s) (suc n) [] h = refl
      take_take (suc s) (suc n) (x ∷ l) h = ap (λ r. x ∷ r) (take_take s n l (omega arith))
  take_drop_take s (suc f) zero l h = absurd (omega arith)
  take_drop_take s (suc f) (suc n) [] h = refl
  take_drop_take s (suc f) (suc n) (x ∷ l) h = take_drop_take s f n l (omega arith)

-- ---- what a kind is asked for, of areas that are long enough
module _ (h : Header) (a : Areas) (l : Long h a) where
  abbrev ms : List ℕ
  ms = take h.times.maps a.marks

  pub count : length ms ≡ h.times.maps
  count = length-take-le h.times.maps a.marks l.marks

  abbrev B : ℕ
  B = per_map h

  abbrev C : ℕ
  C = columns h.grid

  pub few_blocks : B ≤ 64 * 361
  few_blocks = mul-le-mul l.limits.2 l.limits.0

  need_is : (k : Kind) → kind_need k B C ms ≡ value_need k h ms
  need_is k = ap (λ n. pick (nowhere? k ms) 0 (n * B * C)) count

  pub values_are : (k : Kind) → take (kind_need k B C ms) (values_in k a) ≡ values_in k (needed h a)
  unfolding needed
  values_are Tec = ap (λ n. take n a.tec) (tec_need B C ms ∙ ap (λ n. n * B * C) count)
  values_are Rms = ap (λ n. take n a.rms) (need_is Rms)
  values_are Height = ap (λ n. take n a.height) (need_is Height)

  pub exponents_are : (k : Kind) → third k (blocks h) a.exponents ≡ third k (blocks h) (needed h a).exponents
  unfolding needed
  exponents_are k = sym (take_drop_take (blocks h) (first_of k (blocks h)) (3 * blocks h) a.exponents (first_within k (blocks h)))

  pub kind_told : (k : Kind) (B' C' : ℕ) {b : Bool} → B' ≡ B → C' ≡ C
      → b ≡ truth (kind? k B' C' ms (kind_values k B' C' ms (values_in k a)) (kind_exponents k B' ms a.exponents))
      → b ≡ truth (of_kind? h a k)
  unfolding needed
  kind_told k B' C' p q e =
      (rw (p, q) at e) ∙ (λ i. truth (kind? k B C ms (values_are k i) (third k (count i * B) a.exponents))) ∙ ap (λ es. truth (kind? k B C ms (values_in k (needed h a)) es)) (exponents_are k)

  enough : (k : Kind) → kind_need k B C ms ≤ length (values_in k a)
  enough Tec = omega (arith, tec_need B C ms ∙ ap (λ n. n * B * C) count, l.lengths.0)
  enough Rms = omega (arith, need_is Rms, l.lengths.1.0)
  enough Height = omega (arith, need_is Height, l.lengths.1.1.0)

  pub kind_holds : (k : Kind) (B' C' : ℕ) → B' ≡ B → C' ≡ C → Holds k B' C' ms (values_in k a) a.exponents
  kind_holds k B' C' p q =
      rw (p, q) (record {
        maps = omega (arith, count, l.maps);
        blocks = few_blocks;
        columns = l.limits.1;
        values = enough k;
        exponents = omega (arith, ap (λ n. n * B) count, l.lengths.1.1.1);
      })

  pub exponents_told : {b : Bool} → b ≡ truth (all_dec exponent? (take (3 * blocks h) a.exponents)) → b ≡ truth (all_dec exponent? (needed h a).exponents)
  unfolding needed
  exponents_told e = e
