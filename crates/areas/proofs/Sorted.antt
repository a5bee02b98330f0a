-- A store that looks at one kind only: of the events that are told it sees those of its kind, in the order of their maps.
use mathlib.Core.Path.{◌≡◌, refl, ap, ◌∙◌}
use mathlib.Core.Bool.{Bool, true, false, cond}
use mathlib.Core.List.{List, [], ◌∷◌, ◌++◌}
use Prim.Native.Nat.{ℕ, suc, ◌-◌}
use native.Mathlib.Omega.{arith}
use lib.ListN.{length, length-append}
use Rattle.mapset.specs.declared.Kind.{Kind}
use Rattle.mapset.specs.declared.Kind.TheVariants.{Tec, Rms, Height}
use Rattle.mapset.specs.declared.Header.{Header}
use Rattle.mapset.specs.MapSet.{Block, TecMap, OtherMap, Maps}
use Rattle.layout.specs.Layout.{Force, with_last, one_more, one_tec, Other, Left, nothing, maps, early, blocks, per_map, Writes, w_end, w_comment, w_exponent, w_tec, w_epoch, w_other, w_again, w_block, w_close, w_file}
use Rattle.areas.specs.Events.{Event, epoch, marked, block, told}
use Rattle.areas.specs.Stores.{is, scan}

pub is_self : (k : Kind) → is k k ≡ true
is_self Tec = refl
is_self Rms = refl
is_self Height = refl

pub scan_append : {A : Type 0} (f : Event → List A → List A) (a b : List Event) (l : List A) → scan f (a ++ b) l ≡ scan f b (scan f a l)
scan_append f [] b l = refl
scan_append f (e ∷ a) b l = scan_append f a b (f e l)

-- ---- the events of a kind

abbrev pub mine : Kind → Event → Bool
mine k (block k' i b x) = is k k'
mine k (epoch i e) = is k Tec
mine k (marked k' i) = is k k'

-- of a map's last blocks, of B in all
abbrev pub blocks_left : Kind → (B i : ℕ) → List Block → List Event
blocks_left k B i [] = []
blocks_left k B i (x ∷ bs) = block k i (B - suc (length bs)) x ∷ blocks_left k B i bs

-- of TEC maps, with i before them
abbrev pub tecs : (B i : ℕ) → List TecMap → List Event
tecs B i [] = []
tecs B i (t ∷ ts) = epoch (suc i) t.epoch ∷ (blocks_left Tec B (suc i) t.blocks ++ tecs B (suc i) ts)

abbrev pub extras : Kind → ℕ → List OtherMap → List Event
extras k B [] = []
extras k B (x ∷ xs) = marked k x.of ∷ (blocks_left k B x.of x.blocks ++ extras k B xs)

abbrev pub of_maps : Kind → (B i : ℕ) → Maps → List Event
of_maps Tec B i ms = tecs B i ms.tec
of_maps Rms B i ms = extras Rms B ms.rms
of_maps Height B i ms = extras Height B ms.height

abbrev of_left : Kind → (B i : ℕ) → Left → List Event
of_left k B i nothing = []
of_left k B i (maps ms) = of_maps k B i ms
of_left k B i (early m ms) = of_maps k B i (one_tec m ms)
of_left k B i (blocks e k' j bs ms) = cond (is k k') (blocks_left k' B j bs) [] ++ of_maps k B i ms

module _ {A : Type 0} (f : Event → List A → List A) where
  abbrev pub Quiet : Kind → Type 0
  Quiet k = (e : Event) (l : List A) → mine k e ≡ false → f e l ≡ l

  abbrev Same : List Event → List Event → Type 0
  Same a b = (l : List A) → scan f a l ≡ scan f b l

  -- an event of another kind
  skip : (k : Kind) → Quiet k → (e : Event) → mine k e ≡ false → (a b : List Event) → Same a b → Same (e ∷ a) b
  skip k q e h a b s l = ap (scan f a) (q e l h) ∙ s l

  module _ (B i : ℕ) where
    on_epoch : (k : Kind) → Quiet k → (m : TecMap) (ms : Maps) (es : List Event) → Same es (of_left k B (suc i) (blocks false Tec (suc i) m.blocks ms))
        → Same (epoch (suc i) m.epoch ∷ es) (of_left k B i (early m ms))
    on_epoch Tec q m ms es s l = s (f (epoch (suc i) m.epoch) l)
    on_epoch Rms q m ms es s l = skip Rms q _ refl es (of_maps Rms B i ms) s l
    on_epoch Height q m ms es s l = skip Height q _ refl es (of_maps Height B i ms) s l

    on_other : (k k' : Kind) → Quiet k → Other k' → (x : OtherMap) (ms : Maps) (es : List Event) → Same es (of_left k B i (blocks true k' x.of x.blocks ms))
        → Same (marked k' x.of ∷ es) (of_left k B i (maps (one_more k' x ms)))
    on_other Tec Rms q o x ms es s l = skip Tec q _ refl es (of_maps Tec B i ms) s l
    on_other Tec Height q o x ms es s l = skip Tec q _ refl es (of_maps Tec B i ms) s l
    on_other Rms Rms q o x ms es s l = s (f (marked Rms x.of) l)
    on_other Rms Height q o x ms es s l = skip Rms q _ refl es (of_maps Rms B i ms) s l
    on_other Height Rms q o x ms es s l = skip Height q _ refl es (of_maps Height B i ms) s l
    on_other Height Height q o x ms es s l = s (f (marked Height x.of) l)
    on_other Tec Tec q o x ms es s l = elim o [ ]
    on_other Rms Tec q o x ms es s l = elim o [ ]
    on_other Height Tec q o x ms es s l = elim o [ ]

    on_block : (k k' : Kind) → Quiet k → (e : Bool) (j : ℕ) (x : Block) (bs : List Block) (ms : Maps) (es : List Event)
        → Same es (of_left k B i (blocks false k' j bs ms)) → Same (block k' j (B - suc (length bs)) x ∷ es) (of_left k B i (blocks e k' j (x ∷ bs) ms))
    on_block k k' q e j x bs ms es s l = go (is k k') refl s
      where
        go : (t : Bool) → is k k' ≡ t → Same es (cond t (blocks_left k' B j bs) [] ++ of_maps k B i ms)
            → scan f (block k' j (B - suc (length bs)) x ∷ es) l ≡ scan f (cond t (blocks_left k' B j (x ∷ bs)) [] ++ of_maps k B i ms) l
        go true h s = s (f (block k' j (B - suc (length bs)) x) l)
        go false h s = skip k q (block k' j (B - suc (length bs)) x) h es (of_maps k B i ms) s l

    on_close : (k k' : Kind) (e : Bool) (j : ℕ) (ms : Maps) (es : List Event) → Same es (of_maps k B i ms) → Same es (of_left k B i (blocks e k' j [] ms))
    on_close k k' e j ms es s l = go (is k k')
      where
        go : (t : Bool) → scan f es l ≡ scan f (cond t [] [] ++ of_maps k B i ms) l
        go true = s l
        go false = s l

  nothing_told : {h : Header} {p : Force} {rs : List (List ℕ)} (hw : Writes h p nothing rs) → told hw ≡ []
  unfolding told
  nothing_told w_end = refl
  nothing_told {h = h} {p = p} (w_comment {r = r} {rs = rs} x9 _ _) = elim x9 [ ]
  nothing_told {h = h} {p = p} (w_exponent {e = e} {r = r} {rs = rs} x13 _ _ _) = elim x13 [ ]

  no_maps : (k : Kind) (B i : ℕ) (l : List A) → l ≡ scan f (of_maps k B i (record { tec = []; rms = []; height = [] })) l
  no_maps Tec B i l = refl
  no_maps Rms B i l = refl
  no_maps Height B i l = refl

  pub only : (k : Kind) → Quiet k → {h : Header} {p : Force} {w : Left} {rs : List (List ℕ)} (hw : Writes h p w rs)
      → (l : List A) → scan f (told hw) l ≡ scan f (of_left k (per_map h) (length p.epochs) w) l
  unfolding told
  only k q w_end l = refl
  only k q (w_comment u c hw) l = only k q hw l
  only k q (w_exponent u c v hw) l = only k q hw l
  only k q (w_tec c u hw) l = only k q hw l
  only k q {h} {p} (w_epoch {m = m} {ms} d c t u z hw) l =
      let n : length (p.epochs ++ (m.epoch ∷ [])) ≡ suc (length p.epochs) = length-append p.epochs (m.epoch ∷ []) ∙ omega arith in
      on_epoch (per_map h) (length p.epochs) k q m ms (told hw)
      (λ l. only k q hw l ∙ ap (λ j. scan f (of_left k (per_map h) j (blocks false Tec (suc (length p.epochs)) m.blocks ms)) l) n) l
  only k q {h} {p} (w_other k' {x} {ms} o c u v z hw) l =
      on_other (per_map h) (length p.epochs) k k' q o x ms (told hw) (λ l. only k q hw l ∙ kept_epochs k' l) l
    where
      kept_epochs : (k' : Kind) (l : List A) → scan f (of_left k (per_map h) (length (with_last k' x.of p).epochs) (blocks true k' x.of x.blocks ms)) l
          ≡ scan f (of_left k (per_map h) (length p.epochs) (blocks true k' x.of x.blocks ms)) l
      kept_epochs Tec l = refl
      kept_epochs Rms l = refl
      kept_epochs Height l = refl
  only k q (w_again d c t hw) l = only k q hw l
  only k q {h} {p} (w_block {e = e} {k = k'} {i} {zs} {bs} {ms} v c o z y hw) l =
      on_block (per_map h) (length p.epochs) k k' q e i (record { exponent = p.exponent; values = zs }) bs ms (told hw) (λ l. only k q hw l) l
  only k q {h} {p} (w_close {e = e} {k = k'} {i} {ms} c hw) l = on_close (per_map h) (length p.epochs) k k' e i ms (told hw) (λ l. only k q hw l) l
  only k q {h} {p} (w_file c u hw) l = ap (λ es. scan f es l) (nothing_told hw) ∙ no_maps k (per_map h) (length p.epochs) l
