-- The reading of a text: the map set, or 01's refusal with its line and column.
use Rattle.std.specs.Prelude.{ℕ, List, [], ◌∷◌, drop, replicate, ℤ, negsuc, nat_abs}
use Rattle.std.proofs.Math.Option.{none}
use Rattle.kit.specs.Answer.{Answer, ok, refused, need, bind, get, same}
use Rattle.kit.specs.Range.{natural?}
use Rattle.mapset.specs.declared.Version.{Version}
use Rattle.mapset.specs.Decisions.{takes_code?}
use Rattle.mapset.specs.MapSet.{MapSet}
use Rattle.layout.specs.Labels.{version, name, codes}
use Rattle.layout.specs.Layout.{Slots, plain}
use Rattle.reading.specs.declared.Fault.{Fault}
use Rattle.reading.specs.declared.Why.{Why}
use Rattle.reading.specs.Feed.{fault, on_line, Feed, over, bad, row, split, feed}
use Rattle.reading.specs.Fields.{fields}
use Rattle.reading.specs.Maps.{short}
use Rattle.reading.specs.Head.{place, heading}

-- nothing of the header was got yet
abbrev pub nothing_yet : Slots
nothing_yet = replicate 22 none

-- version, type and code, in this order
unfoldable pub versioned : ℤ → (type code : List ℕ) → Answer Fault Version
versioned z type code =
    need (natural? 10 11 z) (fault 3 1)
    (need (same type (73 ∷ [])) (fault 3 21)
    (get (place same code codes) (fault 3 41)
    (λ c. need (takes_code? (nat_abs z) c) (fault 3 41)
    (ok (record { tenths = nat_abs z; kind = 73; code = c })))))

-- the version record: the label (3), columns 1 to 20 (6), then what it says (3)
unfoldable pub version_of : List ℕ → Answer Fault Version
version_of r =
    need (same (drop 60 r) (name version)) (fault 3 61)
    (bind (fields version r) (λ v. versioned v.0 v.1.0 v.1.1.0))

-- it stands first; the exponent starts at -1
unfoldable pub begin : Feed → Answer Why MapSet
begin (over n) = short n
begin (bad w) = refused w
begin (row n r f) = bind (on_line n (version_of r)) (λ c. heading c plain (negsuc 0) nothing_yet [] f)

unfoldable pub read : List ℕ → Answer Why MapSet
read t = begin (feed 1 (split t))
