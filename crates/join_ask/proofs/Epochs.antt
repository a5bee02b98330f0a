-- Which maps a second falls between, in a joined set and in one of the two.
use mathlib.Core.Path.{◌≡◌, refl, sym, ap, subst, ◌∙◌}
use mathlib.Core.Logic.{◌⊎◌, inl, inr}
use mathlib.Core.List.{List, [], ◌∷◌, ◌++◌}
use Prim.Native.Nat.{ℕ, zero, suc, ◌+◌, ◌-◌, ◌≤◌, ◌<◌}
use native.Mathlib.Omega.{arith}
use native.Mathlib.Decide.{dec_lt, dec_le}
use lib.ListN.{length, take, get_or, length-append}
use lib.Seq.{length-take-le, get_or-append-add, get_or-take}
use Rattle.ask_spans.specs.Time.{epoch, gap, NearestMap, shared, Uses, nearest, between, last, Close}
use Rattle.ask_spans.specs.Spans.{Regular}
use Rattle.ask_spans.specs.declared.Shares.{Shares}
use Rattle.ask_spans.proofs.TimeLaws.{rises_past}

-- ---- get_or of two lists
module _ {X : Type 0} (z : X) where
  pub at_front : (a b : List X) (i : ℕ) → i < length a → get_or (a ++ b) i z ≡ get_or a i z
  at_front [] b i h = absurd (omega arith)
  at_front (x ∷ a) b zero h = refl
  at_front (x ∷ a) b (suc i) h = at_front a b i (omega arith)

  pub at_behind : (a b : List X) (k i : ℕ) → length a ≡ k → get_or (a ++ b) (k + i) z ≡ get_or b i z
  at_behind a b k i e = ap (λ n. get_or (a ++ b) (n + i) z) (sym e) ∙ get_or-append-add a b i z

-- d maps later
abbrev pub moved : ℕ → Shares → Shares
moved d s = record { map = d + s.map; early = s.early; late = s.late }

-- k epochs of the earlier set, then the later set's; the shared epoch is the earlier set's last and the later set's first
module _ (k : ℕ) (cs bs : List ℕ) (la : length cs ≡ k + 1) (lb : 1 ≤ length bs) (meet : epoch cs k ≡ epoch bs 0) where
  abbrev pub both : List ℕ
  both = take k cs ++ bs

  kept : length (take k cs) ≡ k
  kept = length-take-le k cs (omega arith)

  all : length both ≡ k + length bs
  all = length-append (take k cs) bs ∙ ap (λ n. n + length bs) kept

  pub at_late : (i : ℕ) → epoch both (k + i) ≡ epoch bs i
  at_late i = at_behind 0 (take k cs) bs k i kept

  pub at_early : (i : ℕ) → i ≤ k → epoch both i ≡ epoch cs i
  at_early i h = by (dec_lt i k)
    where
      by : Dec (i < k) → epoch both i ≡ epoch cs i
      by (yes p) = at_front 0 (take k cs) bs i (omega (arith, kept)) ∙ get_or-take k cs i 0 p
      by (no p) =
          let e : i ≡ k + 0 = omega arith in
          let f : k ≡ i = omega arith in
          ap (epoch both) e ∙ at_late 0 ∙ sym meet ∙ ap (epoch cs) f

  -- neighbours are those of the one or of the other
  pub close_both : (limit : ℕ) → Close limit cs → Close limit bs → Close limit both
  close_both limit p q i h = by (dec_lt i k)
    where
      by : Dec (i < k) → epoch both (i + 1) ≤ epoch both i + limit
      by (yes l) = rw (at_early (i + 1) (omega arith), at_early i (omega arith)) (p i (omega arith))
      by (no l) =
          let e : k + (i - k) ≡ i = omega arith in
          let f : k + (i - k + 1) ≡ i + 1 = omega arith in
          let u : epoch both i ≡ epoch bs (i - k) = ap (epoch both) (sym e) ∙ at_late (i - k) in
          let w : epoch both (i + 1) ≡ epoch bs (i - k + 1) = ap (epoch both) (sym f) ∙ at_late (i - k + 1) in
          rw (w, u) (q (i - k) (omega (arith, all)))

  pub close_early : (limit : ℕ) → Close limit both → Close limit cs
  close_early limit p i h = rw (at_early (i + 1) (omega arith), at_early i (omega arith)) at (p i (omega (arith, all)))

  pub close_late : (limit : ℕ) → Close limit both → Close limit bs
  close_late limit p i h =
      let e : k + i + 1 ≡ k + (i + 1) = omega arith in
      let w : epoch both (k + i + 1) ≡ epoch bs (i + 1) = ap (epoch both) e ∙ at_late (i + 1) in
      rw (w, at_late i) at (p (k + i) (omega (arith, all)))

  module _ (r : Regular both) (t method : ℕ) where
    -- from the later set's first epoch on
    module _ (from : epoch bs 0 ≤ t) where
      first_is : epoch both k ≡ epoch bs 0
      first_is = ap (epoch both) (omega arith) ∙ at_late 0

      nearest_late : (i : ℕ) → NearestMap bs t i → NearestMap both t (k + i)
      nearest_late i n =
          record {
            map = omega (arith, all, n.map);
            near = λ j h. near j h (dec_lt j k);
            earlier = λ j h. earlier j h (dec_lt j k);
          }
        where
          near : (j : ℕ) → j < length both → Dec (j < k) → gap t (epoch both (k + i)) ≤ gap t (epoch both j)
          near j h (yes p) = rw (at_late i) (omega (arith, n.near 0 (omega arith), rises_past both r j k p (omega (arith, all)), first_is))
          near j h (no p) =
              let e : k + (j - k) ≡ j = omega arith in
              let f : epoch both j ≡ epoch bs (j - k) = ap (epoch both) (sym e) ∙ at_late (j - k) in
              rw (at_late i, f) (n.near (j - k) (omega (arith, all)))

          earlier : (j : ℕ) → j < k + i → Dec (j < k) → gap t (epoch both (k + i)) < gap t (epoch both j)
          earlier j h (yes p) = rw (at_late i) (omega (arith, n.near 0 (omega arith), rises_past both r j k p (omega (arith, all)), first_is))
          earlier j h (no p) =
              let e : k + (j - k) ≡ j = omega arith in
              let f : epoch both j ≡ epoch bs (j - k) = ap (epoch both) (sym e) ∙ at_late (j - k) in
              rw (at_late i, f) (n.earlier (j - k) (omega arith))

      pub uses_late : {s : Shares} → Uses bs t method s → Uses both t method (moved k s)
      uses_late (nearest i m n) = nearest (k + i) m (nearest_late i n)
      uses_late (between i m h p q) =
          let e : k + i + 1 ≡ k + (i + 1) = omega arith in
          let f : epoch both (k + i + 1) ≡ epoch bs (i + 1) = ap (epoch both) e ∙ at_late (i + 1) in
          subst (λ x. Uses both t method (shared (k + i) (x - t) (t - epoch bs i))) f
          (subst (λ x. Uses both t method (shared (k + i) (epoch both (k + i + 1) - t) (t - x))) (at_late i)
          (between (k + i) m (omega (arith, all)) (rw (at_late i) p) (rw f q)))
      uses_late (last i m h e) = last (k + i) m (omega (arith, all)) (e ∙ sym (at_late i))

    -- up to the earlier set's last epoch but one
    module _ (some : 1 ≤ k) (to : t ≤ epoch cs (k - 1)) where
      pub penult : epoch cs (k - 1) < epoch cs k
      penult = omega (arith, rises_past both r (k - 1) k (omega arith) (omega (arith, all)), at_early (k - 1) (omega arith), at_early k (omega arith))

      before : t < epoch cs k
      before = omega (arith, penult)

      nearest_early : (i : ℕ) → NearestMap cs t i → NearestMap both t i
      nearest_early i n =
          record {
            map = omega (arith, all, n.map);
            near = λ j h. near j h (dec_le j k);
            earlier = λ j h. rw (at_early i (omega (arith, n.map)), at_early j (omega (arith, n.map))) (n.earlier j h);
          }
        where
          near : (j : ℕ) → j < length both → Dec (j ≤ k) → gap t (epoch both i) ≤ gap t (epoch both j)
          near j h (yes p) = rw (at_early i (omega (arith, n.map)), at_early j p) (n.near j (omega arith))
          near j h (no p) =
              rw (at_early i (omega (arith, n.map)))
              (omega (arith, n.near k (omega arith), before, rises_past both r k j (omega arith) h, at_early k (omega arith)))

      pub uses_early : {s : Shares} → Uses cs t method s → Uses both t method s
      uses_early (nearest i m n) = nearest i m (nearest_early i n)
      uses_early (between i m h p q) =
          let e : epoch both i ≡ epoch cs i = at_early i (omega arith) in
          let f : epoch both (i + 1) ≡ epoch cs (i + 1) = at_early (i + 1) (omega arith) in
          subst (λ x. Uses both t method (shared i (x - t) (t - epoch cs i))) f
          (subst (λ x. Uses both t method (shared i (epoch both (i + 1) - t) (t - x))) e
          (between i m (omega (arith, all)) (rw e p) (rw f q)))
      uses_early (last i m h e) =
          let f : i ≡ k = omega arith in
          let g : epoch cs i ≡ epoch cs k = ap (epoch cs) f in
          absurd (omega (arith, before))

      -- the maps that are used stay
      pub early_maps : {s : Shares} → Uses cs t method s → (s.map < k) × ((s.late ≡ 0) ⊎ (s.map + 1 < k))
      early_maps (nearest i m n) = (by (dec_lt i k), inl refl)
        where
          by : Dec (i < k) → i < k
          by (yes p) = p
          by (no p) =
              let e : i ≡ k = omega (arith, n.map) in
              let g : epoch cs i ≡ epoch cs k = ap (epoch cs) e in
              absurd (omega (arith, n.earlier (k - 1) (omega arith), penult))
      early_maps (between i m h p q) = (omega arith, by (dec_lt (i + 1) k))
        where
          by : Dec (i + 1 < k) → (t - epoch cs i ≡ 0) ⊎ (i + 1 < k)
          by (yes l) = inr l
          by (no l) =
              let e : k - 1 ≡ i = omega arith in
              let g : epoch cs (k - 1) ≡ epoch cs i = ap (epoch cs) e in
              inl (omega arith)
      early_maps (last i m h e) =
          let f : i ≡ k = omega arith in
          let g : epoch cs i ≡ epoch cs k = ap (epoch cs) f in
          absurd (omega (arith, before))
