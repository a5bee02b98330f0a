-- `Valid` is decided, where `Sound` is.
use Rattle.std.specs.Prelude.{List, [], ◌∷◌, ℕ, ◌*◌, take, drop, ℤ, pos, negsuc}
use Rattle.kit.specs.Answer.{All, ×_dec, ⊎_dec, all_dec}
use Rattle.kit.specs.Integer.{int?, Between, between?}
use Rattle.mapset.specs.declared.Kind.{Kind}
use Rattle.mapset.specs.declared.Kind.TheVariants.{Tec, Rms, Height}
use Rattle.mapset.specs.declared.Header.{Header}
use Rattle.mapset.specs.Described.{FullTexts}
use Rattle.mapset.specs.Grid.{columns}
use Rattle.mapset.specs.Areas.{Areas, present?, blocks, Sound}
use Rattle.layout.specs.Layout.{Exponent, per_map, exponent?}
use Rattle.areas.specs.Value.{Value}
use Rattle.areas.specs.Nest.{third}
use Rattle.areas.specs.Valid.{needed, values_in, Blank, Valid}

-- `Value` of z, written out
unfoldable pub value? : (z : ℤ) → Dec (Between (negsuc 9998) (pos 99999) z)
value? z = between? (negsuc 9998) (pos 99999) z

unfoldable pub blank? : (k : Kind) (w : ℕ) (v : ℤ) (ms : List ℕ) (l : List ℤ) → Dec (Blank k w v ms l)
blank? k w v [] l = yes tt
blank? k w v (m ∷ ms) l = ×_dec (⊎_dec (present? k m) (all_dec (λ x. int? x v) (take w l))) (blank? k w v ms (drop w l))

-- of each kind
unfoldable pub kinds? : {P : Kind → Type 0} → ((k : Kind) → Dec (P k)) → Dec ((k : Kind) → P k)
kinds? {P} d = go (d Tec) (d Rms) (d Height)
  where
    all : P Tec → P Rms → P Height → (k : Kind) → P k
    all p q r Tec = p
    all p q r Rms = q
    all p q r Height = r

    go : Dec (P Tec) → Dec (P Rms) → Dec (P Height) → Dec ((k : Kind) → P k)
    go (yes p) (yes q) (yes r) = yes (all p q r)
    go (yes p) (yes q) (no n) = no (λ f. n (f Height))
    go (yes p) (no n) r = no (λ f. n (f Rms))
    go (no n) q r = no (λ f. n (f Tec))

module _ (h : Header) (t : FullTexts) (a : Areas) where
  abbrev Rest : Type 0
  Rest =
      ((k : Kind) → All Value (values_in k (needed h a)))
      × (All Exponent (needed h a).exponents
      × (((k : Kind) → Blank k (per_map h * columns h.grid) (pos 9999) (needed h a).marks (values_in k (needed h a)))
      × ((k : Kind) → Blank k (per_map h) (negsuc 0) (needed h a).marks (third k (blocks h) (needed h a).exponents))))

  unfoldable pub valid? : Dec (Sound h t a) → Dec (Valid h t a)
  valid? s =
      go s
      (×_dec (kinds? (λ k. all_dec value? (values_in k (needed h a))))
      (×_dec (all_dec exponent? (needed h a).exponents)
      (×_dec (kinds? (λ k. blank? k (per_map h * columns h.grid) (pos 9999) (needed h a).marks (values_in k (needed h a))))
      (kinds? (λ k. blank? k (per_map h) (negsuc 0) (needed h a).marks (third k (blocks h) (needed h a).exponents))))))
    where
      go : Dec (Sound h t a) → Dec Rest → Dec (Valid h t a)
      go (yes s) (yes r) = yes (record { sound = s; values = r.0; exponents = r.1.0; no_values = r.1.1.0; no_exponents = r.1.1.1 })
      go (yes s) (no n) = no (λ v. n (v.values, (v.exponents, (v.no_values, v.no_exponents))))
      go (no n) r = no (λ v. n v.sound)
