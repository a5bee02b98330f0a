-- The canonical text of what is lent.
use Rattle.std.specs.Prelude.{List, ℕ}
use Rattle.mapset.specs.declared.Header.{Header}
use Rattle.mapset.specs.Described.{FullTexts}
use Rattle.mapset.specs.Areas.{Areas}
use Rattle.areas.specs.Nesting.{nested}
use Rattle.canonical.specs.Canon.{canon}

-- the canonical text of what is lent
unfoldable pub canon_of : Header → FullTexts → Areas → List ℕ
canon_of h t a = canon (nested h t a)
