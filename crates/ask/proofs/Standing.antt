-- The needed nodes stand in the grid.
use mathlib.Core.Path.{◌≡◌}
use mathlib.Core.Logic.{◌⊎◌, inl, inr, ⊎_elim}
use mathlib.Core.List.{List}
use Prim.Native.Nat.{ℕ, ◌+◌, ◌<◌}
use native.Mathlib.Omega.{arith}
use lib.IntN.{ℤ}
use Rattle.kit.specs.Answer.{All}
use Rattle.kit.proofs.ListLaws.{all_append}
use Rattle.mapset.specs.Grid.{rows, columns}
use Rattle.mapset.specs.declared.Grid.{Grid}
use Rattle.ask_cells.specs.Place.{InCell}
use Rattle.ask_cells.specs.declared.Cell.{Cell}
use Rattle.ask_spans.specs.Time.{epoch}
use Rattle.ask_spans.specs.declared.Shares.{Shares}
use Rattle.ask_nodes.specs.declared.Weighed.{Weighed}
use Rattle.ask_sums.specs.Mean.{corners, spread}
use Rattle.ask_sums.proofs.SumLaws.{all_corners}
use Rattle.ask.specs.Sun.{unit_of, lon_at, CellAt, Cells}

module _ (g : Grid) (N : ℕ) where
  -- of N maps, in the grid
  pub record Stands (w : Weighed) : Type 0 where
    pub map : w.map < N
    pub row : w.row < rows g
    pub column : w.column < columns g

  abbrev pub Light : Weighed → Type 0
  Light w = (w.weight ≡ 0) ⊎ Stands w

  -- without a share no corner has weight
  corners_light : (c : Cell) (t m : ℕ) → t ≡ 0 → All Light (corners t m c)
  corners_light c t m z = all_corners t m c Light (inl (rw z (omega arith))) (inl (rw z (omega arith))) (inl (rw z (omega arith))) (inl (rw z (omega arith)))

  corners_stand : (unit : ℕ) (lat lon : ℤ) (c : Cell) → InCell unit g lat lon c → (t m : ℕ) → m < N → All Light (corners t m c)
  corners_stand unit lat lon c i t m h =
      let r = i.row.sits in
      let k = i.column.sits in
      all_corners t m c Light
      (inr (record { map = h; row = r.node; column = k.node }))
      (⊎_elim (λ z. inl (rw z (omega arith))) (λ e. inr (record { map = h; row = r.node; column = e })) k.next)
      (⊎_elim (λ z. inl (rw z (omega arith))) (λ d. inr (record { map = h; row = d; column = k.node })) r.next)
      (⊎_elim (λ z. inl (rw z (omega arith))) (λ e. ⊎_elim (λ z. inl (rw z (omega arith))) (λ d. inr (record { map = h; row = d; column = e })) r.next) k.next)

  -- each map has its own cell
  pub spread_stand : (method : ℕ) (lat lon : ℤ) (t : ℕ) (es : List ℕ) (s : Shares) (c e : Cell) → Cells method g lat lon t es s c e
      → s.map < N → (s.late ≡ 0) ⊎ (s.map + 1 < N) → All Light (spread s c e)
  unfolding spread
  spread_stand method lat lon t es s c e x h o =
      all_append Light (corners s.early s.map c) (corners s.late (s.map + 1) e)
      (corners_stand (unit_of method) lat (lon_at method lon t (epoch es s.map)) c x.first_in s.early s.map h)
      (behind x.second_in o)
    where
      behind : ((s.late ≡ 0) × (e ≡ c)) ⊎ ((0 < s.late) × CellAt method g lat lon t (epoch es (s.map + 1)) e) → (s.late ≡ 0) ⊎ (s.map + 1 < N)
          → All Light (corners s.late (s.map + 1) e)
      behind (inl z) o = corners_light e s.late (s.map + 1) z.0
      behind (inr z) (inl w) = corners_light e s.late (s.map + 1) w
      behind (inr z) (inr w) = corners_stand (unit_of method) lat (lon_at method lon t (epoch es (s.map + 1))) e z.1 s.late (s.map + 1) w
