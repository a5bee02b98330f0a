-- A text that means what is lent; and what canonical text gives back.
use Rattle.std.specs.Prelude.{◌≡◌, List, ℕ}
use Rattle.kit.specs.Answer.{ok}
use Rattle.mapset.specs.declared.Header.{Header}
use Rattle.mapset.specs.Described.{FullTexts}
use Rattle.mapset.specs.Areas.{Areas}
use Rattle.mapset.specs.MapSet.{MapSet}
use Rattle.layout.specs.Layout.{Makes}
use Rattle.reading.specs.Read.{read}
use Rattle.areas.specs.Flat.{areas}
use Rattle.areas.specs.Valid.{needed}
use Rattle.canonical.specs.CanonOf.{canon_of}

-- a text x has this header, these texts and these areas (up to each need) as its meaning
pub record Means (h : Header) (t : FullTexts) (a : Areas) (x : List ℕ) : Type 0 where
  pub set : MapSet
  pub makes : Makes set x
  pub header : set.header ≡ h
  pub texts : set.texts ≡ t
  pub lists : areas set ≡ needed h a

-- reading it gives the header, the texts and the areas again
pub record Back (h : Header) (t : FullTexts) (a : Areas) : Type 0 where
  pub set : MapSet
  pub reads : read (canon_of h t a) ≡ ok set
  pub header : set.header ≡ h
  pub texts : set.texts ≡ t
  pub lists : areas set ≡ needed h a
