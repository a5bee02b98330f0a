-- The needs of refusal 11.
use Rattle.std.specs.Prelude.{◌≡◌, ◌*◌, length}
use Rattle.mapset.specs.declared.Kind.TheVariants.{Rms, Height}
use Rattle.mapset.specs.declared.Header.{Header}
use Rattle.mapset.specs.Areas.{Areas, blocks, values, value_need}

-- each list is as long as its area needs to be
pub record Exact (h : Header) (a : Areas) : Type 0 where
  pub tec : length a.tec ≡ values h
  pub rms : length a.rms ≡ value_need Rms h a.marks
  pub height : length a.height ≡ value_need Height h a.marks
  pub exponents : length a.exponents ≡ 3 * blocks h
  pub epochs : length a.epochs ≡ h.times.maps
  pub marks : length a.marks ≡ h.times.maps
