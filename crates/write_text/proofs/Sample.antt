-- A map set that is written, so that nothing that refuses every map set, or needs more than its text, meets the contract: the map set of the
-- small text of `reading`, in front of whatever the areas hold behind it.
use mathlib.Core.Path.{◌≡◌, ap, ◌∙◌}
use mathlib.Core.List.{List}
use Rattle.std.specs.Prelude.{Result}
use Prim.Native.Nat.{ℕ, ◌≤◌}
use lib.ListN.{length}
use Rattle.mapset.specs.Areas.{Areas}
use Rattle.reading.proofs.Vectors.{small_set, small_made}
use Rattle.areas.specs.Flat.{areas}
use Rattle.areas.specs.Fronts.{fronts}
use Rattle.areas.specs.Valid.{Valid}
use Rattle.areas.proofs.Made.{made_formed}
use Rattle.areas.proofs.ValidFormed.{fronts_valid}
use Rattle.canonical.specs.CanonOf.{canon_of}
use Rattle.write_text.specs.Write.{ToldWriting, done, told}
use Rattle.write_text.proofs.WriteLaws.{written_done}
use Rattle.write_text.proofs.Exactly.{Writes}
use Rattle.write_text.specs.declared.Unwritten.{Unwritten}

abbrev pub held : Areas → Areas
held l = fronts (areas small_set) l

small_valid : (l : Areas) → Valid small_set.header small_set.texts (held l)
small_valid l = fronts_valid small_set (made_formed small_made) l

abbrev small_canon : Areas → List ℕ
small_canon l = canon_of small_set.header small_set.texts (held l)

pub not_refused : (l : Areas) (o : List ℕ) (r : Result ℕ Unwritten) (o' : List ℕ) → length (small_canon l) ≤ length o
    → Writes small_set.header small_set.texts (held l) o r o' → told r ≡ done (length (small_canon l))
not_refused l o r o' h w = ap (λ (x : ToldWriting × List ℕ). x.0) (w ∙ written_done small_set.header small_set.texts (held l) o (small_valid l) h)
