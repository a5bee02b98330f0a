-- The answer of `store` by the numbers that it computes on its way.
use mathlib.Core.Path.{◌≡◌, sym, ap, ◌∙◌}
use mathlib.Core.Option.{none, some}
use Prim.Native.Nat.{ℕ, ◌-◌, ◌*◌, ◌≤◌}
use lib.ListN.{take}
use Rattle.mapset.specs.declared.Header.{Header}
use Rattle.mapset.specs.declared.Times.{Times}
use Rattle.mapset.specs.Grid.{Limits, columns}
use Rattle.mapset.specs.Areas.{Areas}
use Rattle.mapset.proofs.SoundLaws.{few_values, few_blocks}
use Rattle.layout.specs.Layout.{per_map}
use Rattle.read_needs.specs.Needs.{lengths, first_short, needs_of, pairs}
use Rattle.read_needs.specs.declared.Elements.{Elements}
use Rattle.read_needs.specs.declared.Others.{Others}
use Rattle.join.specs.Join.{header_from}
use Rattle.join_areas.specs.Joined.{kinds_left, Fillable, all_beside, count_of, short_of, Ready, puts, by_room, stored}
use Rattle.join_areas.specs.declared.Refusal.TheVariants.{AreaTooShort}
use Rattle.std.specs.Prelude.{Ok, Err}

-- the header of both, n, L-as-R and C
module _ (e : Times) (h : Header) {H : Header} (p : H ≡ header_from e h) {N B C : ℕ} (q : N ≡ H.times.maps) (r : B ≡ per_map H) (s : C ≡ columns H.grid) where
  maps_is : N ≡ count_of e h
  maps_is = q ∙ ap (λ h. h.times.maps) p

  blocks_is : B ≡ per_map h
  blocks_is = r ∙ ap per_map p

  columns_is : C ≡ columns h.grid
  columns_is = s ∙ ap (λ h. columns h.grid) p

  pub few : Limits (count_of e h) h.grid → (N * B * C ≤ 2000000) × (N * B ≤ 2000000)
  few l = rw (maps_is, blocks_is, columns_is) (few_values (count_of e h) h.grid l, few_blocks (count_of e h) h.grid l)

  -- the kinds that are left, and the needs
  module _ (a b l : Areas) {o : Others} (t : o ≡ kinds_left (take (e.maps - 1) a.marks) (take h.times.maps b.marks)) {E : Elements} (u : E ≡ needs_of N B C o) where
    room_is : first_short 1 (pairs E (lengths l)) ≡ short_of e h a b l
    room_is = ap (λ z. first_short 1 (pairs z (lengths l))) (u ∙ (λ i. needs_of (maps_is i) (blocks_is i) (columns_is i) (t i)))

    pub short_put : (i k : ℕ) → first_short 1 (pairs E (lengths l)) ≡ some (i, k) → puts (Err (AreaTooShort i k)) l ≡ stored e h a b l
    unfolding stored by_room
    short_put i k x = sym (ap (by_room e h a b l) (sym room_is ∙ x))

    module _ (x : first_short 1 (pairs E (lengths l)) ≡ none) where
      pub fillable_by : Ready e h a b → Fillable e.maps h.times.maps B C a b l
      fillable_by y = rw (blocks_is, columns_is) (y.fits l (sym room_is ∙ x))

      pub done_put : (l' : Areas) → l' ≡ all_beside e.maps h.times.maps B C a b l → puts (Ok H) l' ≡ stored e h a b l
      unfolding stored by_room
      done_put l' z =
          let w : l' ≡ all_beside e.maps h.times.maps (per_map h) (columns h.grid) a b l = z ∙ (λ i. all_beside e.maps h.times.maps (blocks_is i) (columns_is i) a b l) in
          (λ i. puts (Ok (p i)) (w i)) ∙ sym (ap (by_room e h a b l) (sym room_is ∙ x))
