-- What a mean and a sum come to.
use Rattle.std.proofs.Math.Option.{Option, none, some}
use Rattle.std.specs.Prelude.{ℤ, Option as Maybe, Some, None}
use Rattle.mapset.specs.declared.Kind.{Kind}
use Rattle.ask_round.specs.Rounded.{rounded}
use Rattle.ask_sums.specs.declared.Sum.{Sum}
use Rattle.ask_sums.specs.declared.Sum.TheVariants as S
use Rattle.ask.specs.Ask.{Told, tecu, km, refused, in_unit}

-- a mean in its unit, or 22 where there is none
abbrev pub in_told : Kind → Option ℤ → Told
in_told k none = refused 22
in_told k (some v) = in_unit k v

-- what a sum comes to
abbrev pub told_sum : Maybe Sum → Told
told_sum None = refused 22
told_sum (Some (S.Tecu t)) = tecu (rounded t.sum t.weights)
told_sum (Some (S.Km t)) = km (rounded t.sum t.weights)
