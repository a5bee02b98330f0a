-- The maps of six lists: the way back from `areas`.
use Rattle.std.proofs.Math.Option.{Option, none, some}
use Rattle.std.specs.Prelude.{List, [], ◌∷◌, ℕ, zero, suc, ◌*◌, take, drop, ℤ}
use Rattle.kit.specs.Answer.{pick}
use Rattle.mapset.specs.declared.Kind.{Kind}
use Rattle.mapset.specs.declared.Kind.TheVariants.{Tec, Rms, Height}
use Rattle.mapset.specs.MapSet.{Block, TecMap, OtherMap, Maps}
use Rattle.mapset.specs.Areas.{Areas, present?, first_of}
use Rattle.areas.specs.Lists.{chop, zipw}
use Rattle.areas.specs.Flat.{Slots}

abbrev pub a_block : ℤ → List ℤ → Block
a_block e zs = record { exponent = e; values = zs }

abbrev pub a_tec : ℕ → List Block → TecMap
a_tec e bs = record { epoch = e; blocks = bs }

-- n maps of B blocks of C values, from their exponents and values
abbrev pub cut : (n B C : ℕ) → List ℤ → List ℤ → List (List Block)
cut zero B C es vs = []
cut (suc n) B C es vs = zipw a_block (take B es) (chop B C (take (B * C) vs)) ∷ cut n B C (drop B es) (drop (B * C) vs)

-- s exponents of a kind
abbrev pub third : Kind → ℕ → List ℤ → List ℤ
third k s es = take s (drop (first_of k s) es)

-- a map is there if its mark says so
abbrev pub if_there : Kind → ℕ → List Block → Option (List Block)
if_there k m bs = pick (present? k m) (some bs) none

-- the maps that are there, numbered from i
abbrev pub kept : ℕ → Slots → List OtherMap
kept i [] = []
kept i (none ∷ ss) = kept (suc i) ss
kept i (some bs ∷ ss) = record { of = i; blocks = bs } ∷ kept (suc i) ss

unfoldable pub nest : (n B C : ℕ) → Areas → Maps
nest n B C a =
    record {
      tec = zipw a_tec a.epochs (cut n B C (third Tec (n * B) a.exponents) a.tec);
      rms = kept 1 (zipw (if_there Rms) a.marks (cut n B C (third Rms (n * B) a.exponents) a.rms));
      height = kept 1 (zipw (if_there Height) a.marks (cut n B C (third Height (n * B) a.exponents) a.height));
    }
