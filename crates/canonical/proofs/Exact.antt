-- What may be written is exactly what some text has; and canonical text is read back.
use mathlib.Core.Path.{◌≡◌, refl}
use mathlib.Core.Logic.{◌↔◌}
use mathlib.Core.List.{List}
use Prim.Native.Nat.{ℕ}
use Rattle.kit.specs.Answer.{ok}
use Rattle.mapset.specs.declared.Header.{Header}
use Rattle.mapset.specs.Described.{FullTexts}
use Rattle.mapset.specs.Areas.{Areas}
use Rattle.mapset.specs.MapSet.{MapSet}
use Rattle.reading.specs.Read.{read}
use Rattle.reading.proofs.Exact.{made_read}
use Rattle.areas.specs.Valid.{Valid}
use Rattle.areas.proofs.Made.{made_formed}
use Rattle.areas.proofs.ValidFormed.{valid_formed, nested_formed, nested_areas}
use Rattle.areas.specs.Nesting.{nested}
use Rattle.canonical.specs.Canon.{canon}
use Rattle.canonical.proofs.Made.{canon_made, canon_read}
use Rattle.canonical.specs.CanonOf.{canon_of}
use Rattle.canonical.specs.Meaning.{Means, Back}

-- valid exactly when some text means it: so 31 is 'no accepted text has this map set as its meaning'
pub valid_exactly : (h : Header) (t : FullTexts) (a : Areas) → (Valid h t a) ↔ ((x : List ℕ) × Means h t a x)
valid_exactly h t a = (
  λ v. let (m, f, p, q, r) = (valid_formed h t a).0 v in (canon m, record { set = m; makes = canon_made m f; header = p; texts = q; lists = r }),
  λ x. (valid_formed h t a).1 (x.1.set, made_formed x.1.makes, x.1.header, x.1.texts, x.1.lists),
)

pub round_trip : (h : Header) (t : FullTexts) (a : Areas) → Valid h t a → Back h t a
unfolding canon_of
round_trip h t a v = record { set = nested h t a; reads = canon_read (nested h t a) (nested_formed h t a v); header = refl; texts = refl; lists = nested_areas h t a v }

-- reading, then writing, then reading is reading
pub read_again : (x : List ℕ) (m : MapSet) → read x ≡ ok m → read (canon m) ≡ ok m
read_again x m e = canon_read m (made_formed (made_read x e))
