-- Every store stands inside the need of its area: what code owes for its indices.
use mathlib.Core.List.{List, [], ◌∷◌}
use Prim.Native.Nat.{ℕ, suc, ◌+◌, ◌-◌, ◌*◌, ◌≤◌, ◌<◌}
use native.Mathlib.Omega.{arith}
use native.Mathlib.Nat.{suc-mul, mul-le-mul_right}
use lib.ListN.{length, length-append}
use Rattle.kit.specs.Answer.{All}
use Rattle.mapset.specs.declared.Kind.{Kind}
use Rattle.mapset.specs.declared.Kind.TheVariants.{Tec, Rms, Height}
use Rattle.mapset.specs.declared.Header.{Header}
use Rattle.mapset.specs.Grid.{columns}
use Rattle.mapset.specs.MapSet.{OtherMap}
use Rattle.mapset.specs.Areas.{values}
use Rattle.layout.specs.Layout.{Force, Left, nothing, maps, early, blocks, Loose, per_map, Writes, w_end, w_comment, w_exponent, w_tec, w_epoch, w_other, w_again, w_block, w_close, w_file}
use Rattle.areas.specs.Events.{epoch, told}
use Rattle.areas.specs.Stores.{Inside}
use Rattle.areas.specs.Places.{before}

block_inside : (n B C i j N : ℕ) → 1 ≤ i → i ≤ n → suc j ≤ B → n * B * C ≤ N → (before B i (B - suc j) < n * B) × (before B i (B - suc j) * C + C ≤ N)
block_inside n B C i j N l u f e =
    let at : ℕ = before B i (B - suc j) in
    let s : suc (i - 1) ≤ n = omega arith in
    let x : at < n * B = omega (arith, mul-le-mul_right B s, suc-mul (i - 1) B) in
    (x, omega (arith, mul-le-mul_right C x, suc-mul at C))

-- as many epochs as there are maps, at most
at_most : {h : Header} {p : Force} {w : Left} {rs : List (List ℕ)} → Writes h p w rs → Loose w → length p.epochs ≤ h.times.maps
at_most (w_comment f c hw) l = at_most hw l
at_most (w_exponent f c u hw) l = at_most hw l
at_most (w_tec c u hw) l = at_most hw tt
at_most {p = p} (w_epoch {m = m} d c t u z hw) l = omega (arith, at_most hw tt, length-append p.epochs (m.epoch ∷ []))
at_most (w_other Rms o c u v z hw) l = at_most hw tt
at_most (w_other Height o c u v z hw) l = at_most hw tt
at_most (w_again d c t hw) l = at_most hw tt
at_most (w_block v c o z y hw) l = at_most hw tt
at_most (w_close c hw) l = at_most hw tt
at_most (w_file c u hw) l = omega arith
at_most {h = h} (w_end {p = p}) l = elim l [ ]
at_most {h = h} (w_other {p = p} Tec {ms = ms} {r = r} {rs = rs} o c u v z hw) l = elim o [ ]

module _ (h : Header) (N : Kind → ℕ) where
  -- a kind that has a map has room for its values
  abbrev pub Enough : (xs ys : List OtherMap) → Type 0
  Enough xs ys = (1 ≤ length xs → values h ≤ N Rms) × (1 ≤ length ys → values h ≤ N Height)

  abbrev pub Ready : Left → Type 0
  Ready nothing = Unit {0}
  Ready (maps ms) = Enough ms.rms ms.height
  Ready (early m ms) = Enough ms.rms ms.height
  Ready (blocks e k i bs ms) = ((1 ≤ i) × (i ≤ h.times.maps)) × ((length bs ≤ per_map h) × (values h ≤ N k)) × Enough ms.rms ms.height

  pub inside : {p : Force} {w : Left} {rs : List (List ℕ)} (hw : Writes h p w rs) → values h ≤ N Tec → Ready w
      → All (Inside h.times.maps (per_map h) (columns h.grid) N) (told hw)
  unfolding told
  inside w_end t r = tt
  inside (w_comment f c hw) t r = inside hw t r
  inside (w_exponent f c u hw) t r = inside hw t r
  inside (w_tec c u hw) t r = inside hw t r
  inside {p} (w_epoch {m = m} d c x u z hw) t r =
      let a = at_most hw tt in
      let l : suc (length p.epochs) ≤ h.times.maps = omega (arith, length-append p.epochs (m.epoch ∷ [])) in
      (omega arith, inside hw t ((omega arith, l), (rw z (omega arith), t), r))
  inside (w_other Rms o c u v z hw) t r =
      let a = at_most hw tt in
      let e = r.0 (omega arith) in
      (omega arith, inside hw t ((omega arith, omega arith), (rw z (omega arith), e), (λ _. e, r.1)))
  inside (w_other Height o c u v z hw) t r =
      let a = at_most hw tt in
      let e = r.1 (omega arith) in
      (omega arith, inside hw t ((omega arith, omega arith), (rw z (omega arith), e), (r.0, λ _. e)))
  inside (w_again d c x hw) t r = inside hw t r
  inside (w_block {k = k} {i} {zs} {bs} v c o z y hw) t r =
      let b = block_inside h.times.maps (per_map h) (columns h.grid) i (length bs) (N k) r.0.0 r.0.1 r.1.0 r.1.1 in
      ((b.0, z, b.1), inside hw t (r.0, (omega (arith, r.1.0), r.1.1), r.2))
  inside (w_close c hw) t r = inside hw t r.2
  inside (w_file c u hw) t r = inside hw t tt
  inside (w_other {p = p} Tec {ms = ms} {rs = rs} o c u v z hw) t r = elim o [ ]
