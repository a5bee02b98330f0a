-- What the search of a place answers: the place where there is one, and none only where there is none.
use Rattle.std.specs.Prelude.{◌≡◌, Bool, true, false, ℕ, ◌+◌, ℤ, pos, ◌+ℤ◌, Option, Some, None}
use Rattle.std.proofs.Math.Decide.{ℕ_discrete}
use Rattle.kit.specs.Answer.{pick, ⊎_dec}
use Rattle.kit.specs.Integer.{int?}
use Rattle.mapset.specs.declared.Axis.{Axis}
use Rattle.mapset.specs.declared.Grid.{Grid}
use Rattle.ask_cells.specs.Place.{Sits, along, InRow, Strip, Closed, GoesRound, InColumn, InCell}
use Rattle.ask_cells.specs.declared.Cell.{Cell}
use Rattle.ask_cells.specs.declared.Spot.{Spot}

-- x lies so far in the direction of d, or behind
abbrev pub IsWay : ℤ → ℤ → Option ℕ → Type 0
IsWay x d (Some k) = x ≡ along d k
IsWay x d None = (k : ℕ) → ¬ (x ≡ along d k)

-- whether the column after the last is the first
unfoldable pub strip? : (a : Axis) → Dec (Strip a)
strip? a = int? (a.last +ℤ a.step) (a.first +ℤ pos 3600)

-- whether the last column stands on the first one's meridian
unfoldable pub closed? : (a : Axis) → Dec (Closed a)
closed? a = int? a.last (a.first +ℤ pos 3600)

unfoldable pub goes_round? : (a : Axis) → Dec (GoesRound a)
goes_round? a = ⊎_dec (strip? a) (closed? a)

-- the node after node i of n, where the first comes after the last or nothing does
unfoldable pub after : Bool → ℕ → ℕ → ℕ
after false n i = i + 1
after true n i = pick (ℕ_discrete (i + 1) n) 0 (i + 1)

abbrev pub Located : Bool → ℕ → ℕ → ℕ → Option Spot → Type 0
Located around x step n (Some s) = Sits step n x s.node s.next s.past × (s.next ≡ after around n s.node)
Located around x step n None = (i part : ℕ) → ¬ Sits step n x i (after around n i) part

abbrev pub RowFound : Axis → ℤ → Option Spot → Type 0
RowFound a lat (Some s) = InRow a lat s.node s.past
RowFound a lat None = (i part : ℕ) → ¬ InRow a lat i part

abbrev pub ColumnFound : ℕ → Axis → ℤ → Option Spot → Type 0
ColumnFound unit a lon (Some s) = InColumn unit a lon s.node s.next s.past
ColumnFound unit a lon None = (i r part : ℕ) → ¬ InColumn unit a lon i r part

abbrev pub CellFound : ℕ → Grid → ℤ → ℤ → Option Cell → Type 0
CellFound unit g lat lon (Some c) = InCell unit g lat lon c
CellFound unit g lat lon None = (c : Cell) → ¬ InCell unit g lat lon c
