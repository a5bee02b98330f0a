-- `Valid` is decided.
use Rattle.mapset.specs.declared.Header.{Header}
use Rattle.mapset.specs.Described.{FullTexts}
use Rattle.mapset.specs.Areas.{Areas}
use Rattle.mapset.specs.SoundDecided.{sound?}
use Rattle.areas.specs.Valid.{Valid}
use Rattle.areas.specs.ValidDecided.{valid?}

unfoldable pub validity : (h : Header) (t : FullTexts) (a : Areas) → Dec (Valid h t a)
validity h t a = valid? h t a (sound? h t a)
