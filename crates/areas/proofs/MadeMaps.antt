-- The maps that are written obey their rules.
use mathlib.Core.Path.{◌≡◌, refl, ap, ◌∙◌}
use mathlib.Core.List.{List, [], ◌∷◌, ◌++◌, map}
use Prim.Native.Nat.{ℕ, suc, ◌+◌, ◌≤◌}
use native.Mathlib.Omega.{arith}
use lib.ListN.{length, get_or, length-append}
use Rattle.kit.specs.Answer.{All}
use Rattle.mapset.specs.declared.Kind.TheVariants.{Tec, Rms, Height}
use Rattle.mapset.specs.declared.Header.{Header}
use Rattle.mapset.specs.Grid.{columns}
use Rattle.mapset.specs.MapSet.{Maps}
use Rattle.mapset.specs.Areas.{Run, EpochRules}
use Rattle.layout.specs.Layout.{Force, one_tec, Left, nothing, maps, early, blocks, Exponent, InTime, per_map, Writes, w_end, w_comment, w_exponent, w_tec, w_epoch, w_other, w_again, w_block, w_close, w_file}
use Rattle.areas.specs.Formed.{BlockRules, MapRules, Rising}
use Rattle.areas.proofs.MadeValues.{rows_values}

-- ---- epochs

pub get_or_last : (es : List ℕ) (e : ℕ) → get_or (es ++ (e ∷ [])) (length es) 0 ≡ e
get_or_last [] e = refl
get_or_last (x ∷ es) e = get_or_last es e

module _ (h : Header) where
  -- the epochs fs may follow the epochs es
  abbrev pub Onward : List ℕ → List ℕ → Type 0
  Onward [] fs = EpochRules h fs
  Onward (x ∷ xs) fs = Run h.times.interval h.times.last (get_or (x ∷ xs) (length xs) 0) fs

  -- n epochs have come to the header's last
  abbrev pub Due : List ℕ → Type 0
  Due [] = Unit {0}
  Due (x ∷ xs) = suc (length xs) ≡ h.times.maps → get_or (x ∷ xs) (length xs) 0 ≡ h.times.last

  due_next : (es : List ℕ) (e : ℕ) → InTime h es e → Due (es ++ (e ∷ []))
  due_next [] e t = t.1
  due_next (x ∷ xs) e t =
      let n = length-append xs (e ∷ []) in
      let q : length (xs ++ (e ∷ [])) ≡ length (x ∷ xs) = omega arith in
      λ c. ap (λ k. get_or (x ∷ (xs ++ (e ∷ []))) k 0) q ∙ get_or_last (x ∷ xs) e ∙ t.1 (omega arith)

  onward_back : (es : List ℕ) (e : ℕ) (fs : List ℕ) → InTime h es e → Onward (es ++ (e ∷ [])) fs → Onward es (e ∷ fs)
  onward_back [] e fs t o = (t.0, o)
  onward_back (x ∷ xs) e fs t o =
      let n = length-append xs (e ∷ []) in
      let q : length (xs ++ (e ∷ [])) ≡ length (x ∷ xs) = omega arith in
      (t.0, rw (q, get_or_last (x ∷ xs) e) at o)

  onward_end : (es : List ℕ) → 1 ≤ h.times.maps → length es ≡ h.times.maps → Due es → Onward es []
  onward_end [] l e d = absurd (omega arith)
  onward_end (x ∷ xs) l e d = d e

  -- ---- what is left

  -- with the epochs es and the last numbers r and t of RMS and height maps in force
  pub record Rest (es : List ℕ) (r t : ℕ) (ms : Maps) : Type 0 where
    pub count : length es + length ms.tec ≡ h.times.maps
    pub tec : All (λ m. MapRules (per_map h) (columns h.grid) m.blocks) ms.tec
    pub epochs : Onward es (map (λ m. m.epoch) ms.tec)
    pub rms : Rising h.times.maps (per_map h) (columns h.grid) r ms.rms
    pub height : Rising h.times.maps (per_map h) (columns h.grid) t ms.height

  abbrev pub Good : List ℕ → (r t : ℕ) → Left → Type 0
  Good es r t nothing = Unit {0}
  Good es r t (maps ms) = Rest es r t ms
  Good es r t (early m ms) = Rest es r t (one_tec m ms)
  Good es r t (blocks e k i bs ms) = All (BlockRules (columns h.grid)) bs × Rest es r t ms

  pub good : {p : Force} {w : Left} {rs : List (List ℕ)} → Writes h p w rs → 1 ≤ h.times.maps → Exponent p.exponent → Due p.epochs
      → Good p.epochs p.rms p.height w
  good w_end l x d = tt
  good (w_comment f c hw) l x d = good hw l x d
  good (w_exponent f c u hw) l x d = good hw l u d
  good (w_tec c u hw) l x d = good hw l x d
  good {p} (w_epoch {m = m} {ms} v c u t z hw) l x d =
      let g = good hw l x (due_next p.epochs m.epoch t) in
      let r = g.1 in
      record {
        count = omega (arith, r.count, length-append p.epochs (m.epoch ∷ []));
        tec = (record { count = z; blocks = g.0 }, r.tec);
        epochs = onward_back p.epochs m.epoch (map (λ m. m.epoch) ms.tec) t r.epochs;
        rms = r.rms;
        height = r.height;
      }
  good (w_other Tec o c u v z hw) l x d = absurd o
  good (w_other Rms o c u v z hw) l x d =
      let g = good hw l x d in
      let r = g.1 in
      record { count = r.count; tec = r.tec; epochs = r.epochs; rms = (u, omega (arith, r.count), record { count = z; blocks = g.0 }, r.rms); height = r.height }
  good (w_other Height o c u v z hw) l x d =
      let g = good hw l x d in
      let r = g.1 in
      record { count = r.count; tec = r.tec; epochs = r.epochs; rms = r.rms; height = (u, omega (arith, r.count), record { count = z; blocks = g.0 }, r.height) }
  good (w_again v c u hw) l x d = good hw l x d
  good (w_block v c o z y hw) l x d =
      let g = good hw l x d in ((record { width = z; exponent = x; values = rows_values y }, g.0), g.1)
  good (w_close c hw) l x d = (tt, good hw l x d)
  good {p} (w_file c e hw) l x d =
      record { count = omega arith; tec = tt; epochs = onward_end p.epochs l e d; rms = tt; height = tt }
