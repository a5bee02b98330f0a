-- Stores one after the other, block by block and map by map.
use mathlib.Core.Path.{◌≡◌, refl, sym, ap, ◌∙◌}
use mathlib.Core.Bool.{false, cond}
use mathlib.Core.Option.{none, some}
use mathlib.Core.List.{List, [], ◌∷◌, ◌++◌, map, append_assoc}
use Prim.Native.Nat.{ℕ, zero, suc, ◌+◌, ◌-◌, ◌*◌, ◌≤◌}
use native.Mathlib.Omega.{arith}
use native.Mathlib.Nat.{suc-mul, zero-mul, add-mul}
use lib.ListN.{length, replicate, take, drop, length-append, length-drop, length-replicate, take-append-drop, replicate-append-replicate}
use lib.Seq.{sets, set_at, append_snoc, length-take-le}
use Rattle.kit.specs.Answer.{All}
use Rattle.mapset.specs.declared.Kind.{Kind}
use Rattle.mapset.specs.declared.Kind.TheVariants.{Tec}
use Rattle.mapset.specs.MapSet.{Block, TecMap}
use Rattle.areas.specs.Lists.{flat}
use Rattle.areas.specs.Flat.{absent_block, Slots, reads}
use Rattle.areas.specs.Formed.{MapRules}
use Rattle.areas.specs.Nest.{kept}
use Rattle.areas.specs.Events.{Event, epoch, marked, block}
use Rattle.areas.specs.Stores.{put, scan}
use Rattle.areas.specs.Places.{before, place}
use Rattle.areas.proofs.KindLaws.{widths, Fits}
use Rattle.areas.proofs.ListLaws.{flat_append, map_append}
use Rattle.areas.proofs.Sorted.{is_self, scan_append, mine, blocks_left, tecs, extras}

-- ---- a store at a seam

sets_seam : {A : Type 0} (pre vs old rest : List A) (at : ℕ) → length old ≡ length vs → length pre ≡ at → sets (pre ++ (old ++ rest)) at vs ≡ pre ++ (vs ++ rest)
sets_seam pre [] [] rest at e p = refl
sets_seam pre [] (o ∷ old) rest at e p = absurd (omega arith)
sets_seam pre (v ∷ vs) [] rest at e p = absurd (omega arith)
sets_seam pre (v ∷ vs) (o ∷ old) rest at e p =
    ap (λ l. sets l (suc at) vs) (set_at pre o (old ++ rest) v at p ∙ sym (append_snoc pre v (old ++ rest)))
    ∙ sets_seam (pre ++ (v ∷ [])) vs old rest (suc at) (omega arith) (length-append pre (v ∷ []) ∙ omega arith) ∙ append_snoc pre v (vs ++ rest)

-- ---- what g gives of each block of maps, one map after the other

abbrev pub cells : {A : Type 0} → (Block → List A) → List (List Block) → List A
cells g ms = flat (map g (flat ms))

pub cells_cons : {A : Type 0} (g : Block → List A) (bs : List Block) (ms : List (List Block)) → cells g (bs ∷ ms) ≡ flat (map g bs) ++ cells g ms
cells_cons g bs ms = ap flat (map_append g bs (flat ms)) ∙ flat_append (map g bs) (map g (flat ms))

pub cells_same : {A : Type 0} (g : Block → List A) (w : ℕ) (v : A) (b : Block) → g b ≡ replicate w v → (k : ℕ) → flat (map g (replicate k b)) ≡ replicate (k * w) v
cells_same g w v b e zero = rw (zero-mul w)
cells_same g w v b e (suc k) =
    let n : w + k * w ≡ suc k * w = omega (arith, suc-mul k w) in
    ap (λ r. r ++ flat (map g (replicate k b))) e ∙ ap (λ r. replicate w v ++ r) (cells_same g w v b e k)
    ∙ replicate-append-replicate w (k * w) v ∙ ap (λ j. replicate j v) n

pub put_quiet : {A : Type 0} (B w : ℕ) (g : Block → List A) (k : Kind) (e : Event) (l : List A) → mine k e ≡ false → put B w g k e l ≡ l
put_quiet B w g k (block k' i b x) l h = rw h
put_quiet B w g k (epoch i e) l h = refl
put_quiet B w g k (marked k' i) l h = refl

-- g gives w elements of each block of C values
module _ {A : Type 0} (n B C w : ℕ) (g : Block → List A) (k : Kind) (gl : (x : Block) → length x.values ≡ C → length (g x) ≡ w) where
  abbrev Wide : List Block → Type 0
  Wide bs = All (λ b. length b.values ≡ C) bs

  run_blocks : (i : ℕ) (bs : List Block) (pre old rest : List A) → Wide bs → length bs ≤ B → length old ≡ length bs * w → length pre ≡ place B w i (B - length bs)
      → scan (put B w g k) (blocks_left k B i bs) (pre ++ (old ++ rest)) ≡ pre ++ (flat (map g bs) ++ rest)
  run_blocks i [] pre [] rest a f e p = refl
  run_blocks i [] pre (o ∷ old) rest a f e p = absurd (omega (arith, zero-mul w))
  run_blocks i (x ∷ bs) pre old rest a f e p =
      let at : ℕ = place B w i (B - suc (length bs)) in
      let s : w ≤ length old = omega (arith, suc-mul (length bs) w) in
      let q : before B i (B - length bs) ≡ suc (before B i (B - suc (length bs))) = omega arith in
      ap (λ l. scan (put B w g k) (blocks_left k B i bs) l)
      (ap (λ t. cond t (sets (pre ++ (old ++ rest)) at (g x)) (pre ++ (old ++ rest))) (is_self k)
      ∙ ap (λ o. sets (pre ++ (o ++ rest)) at (g x)) (sym (take-append-drop w old))
      ∙ ap (λ o. sets (pre ++ o) at (g x)) (append_assoc (take w old) (drop w old) rest)
      ∙ sets_seam pre (g x) (take w old) (drop w old ++ rest) at (length-take-le w old s ∙ sym (gl x a.0)) p
      ∙ sym (append_assoc pre (g x) (drop w old ++ rest)))
      ∙ run_blocks i bs (pre ++ g x) (drop w old) rest a.1 (omega arith) (length-drop w old ∙ omega (arith, suc-mul (length bs) w))
      (length-append pre (g x) ∙ omega (arith, ap (λ j. j * w) q, suc-mul (before B i (B - suc (length bs))) w, gl x a.0))
      ∙ append_assoc pre (g x) (flat (map g bs) ++ rest) ∙ ap (λ r. pre ++ r) (sym (append_assoc (g x) (flat (map g bs)) rest))

  -- a map: what stood in its place is gone, and what is before it grows by it
  run_map : (i : ℕ) (bs : List Block) (pre old l rest : List A) → MapRules B C bs → length old ≡ B * w → length pre ≡ i * B * w
      → scan (put B w g k) (blocks_left k B (suc i) bs) (pre ++ ((old ++ l) ++ rest)) ≡ (pre ++ flat (map g bs)) ++ (l ++ rest)
  run_map i bs pre old l rest s e p =
      let c : length bs ≡ B = s.count in
      let q : suc i - 1 ≡ i = omega arith in
      let y : i * B ≡ before B (suc i) (B - length bs) = rw q (omega arith) in
      let z : i * B * w ≡ place B w (suc i) (B - length bs) = omega (arith, ap (λ j. j * w) y) in
      ap (λ r. scan (put B w g k) (blocks_left k B (suc i) bs) (pre ++ r)) (append_assoc old l rest)
      ∙ run_blocks (suc i) bs pre old (l ++ rest) (widths B C bs s.blocks) (omega arith) (e ∙ ap (λ j. j * w) (sym c)) (p ∙ z) ∙ sym (append_assoc pre (flat (map g bs)) (l ++ rest))

  pub cells_length : (bs : List Block) → Wide bs → length (flat (map g bs)) ≡ length bs * w
  cells_length [] a = sym (zero-mul w)
  cells_length (x ∷ bs) a = length-append (g x) (flat (map g bs)) ∙ omega (arith, gl x a.0, cells_length bs a.1, suc-mul (length bs) w)

  next_pre : (i : ℕ) (bs : List Block) (pre : List A) → MapRules B C bs → length pre ≡ i * B * w → length (pre ++ flat (map g bs)) ≡ suc i * B * w
  next_pre i bs pre s p =
      let c : length (flat (map g bs)) ≡ B * w = cells_length bs (widths B C bs s.blocks) ∙ ap (λ j. j * w) s.count in
      length-append pre (flat (map g bs)) ∙ rw (suc-mul i B, add-mul (i * B) B w) (omega arith)

  regroup : (pre : List A) (bs : List Block) (ms : List (List Block)) (rest : List A) → (pre ++ flat (map g bs)) ++ (cells g ms ++ rest) ≡ pre ++ (cells g (bs ∷ ms) ++ rest)
  regroup pre bs ms rest =
      append_assoc pre (flat (map g bs)) (cells g ms ++ rest) ∙ ap (λ r. pre ++ r) (sym (append_assoc (flat (map g bs)) (cells g ms) rest))
      ∙ ap (λ r. pre ++ (r ++ rest)) (sym (cells_cons g bs ms))

  one_more_map : (j : ℕ) → suc j * B * w ≡ B * w + j * B * w
  one_more_map j = rw (suc-mul j B, add-mul (j * B) B w) (omega arith)

  -- the TEC maps, over anything
  pub run_tecs : (i : ℕ) (ts : List TecMap) (pre old rest : List A) → k ≡ Tec → All (λ t. MapRules B C t.blocks) ts → length old ≡ length ts * B * w → length pre ≡ i * B * w
      → scan (put B w g k) (tecs B i ts) (pre ++ (old ++ rest)) ≡ pre ++ (cells g (map (λ t. t.blocks) ts) ++ rest)
  run_tecs i [] pre [] rest q a e p = refl
  run_tecs i [] pre (o ∷ old) rest q a e p = absurd (omega (arith, zero-mul B, ap (λ j. j * w) (zero-mul B), zero-mul w))
  run_tecs i (t ∷ ts) pre old rest q a e p =
      let m = one_more_map (length ts) in
      let s : B * w ≤ length old = omega arith in
      scan_append (put B w g k) (blocks_left Tec B (suc i) t.blocks) (tecs B (suc i) ts) (pre ++ (old ++ rest))
      ∙ ap (scan (put B w g k) (tecs B (suc i) ts))
      (ap (λ o. scan (put B w g k) (blocks_left Tec B (suc i) t.blocks) (pre ++ (o ++ rest))) (sym (take-append-drop (B * w) old))
      ∙ ap (λ j. scan (put B w g k) (blocks_left j B (suc i) t.blocks) (pre ++ ((take (B * w) old ++ drop (B * w) old) ++ rest))) (sym q)
      ∙ run_map i t.blocks pre (take (B * w) old) (drop (B * w) old) rest a.0 (length-take-le (B * w) old s) p)
      ∙ run_tecs (suc i) ts (pre ++ flat (map g t.blocks)) (drop (B * w) old) rest q a.1 (length-drop (B * w) old ∙ omega arith) (next_pre i t.blocks pre a.0 p)
      ∙ regroup pre t.blocks (map (λ t. t.blocks) ts) rest

  -- the RMS or height maps, over absent ones
  pub run_slots : (i : ℕ) (ss : Slots) (pre rest : List A) (v : A) → g (absent_block C) ≡ replicate w v → All (Fits n B C) ss → length pre ≡ i * B * w
      → scan (put B w g k) (extras k B (kept (suc i) ss)) (pre ++ (replicate (length ss * B * w) v ++ rest)) ≡ pre ++ (cells g (reads B C ss) ++ rest)
  run_slots i [] pre rest v h a p = ap (λ j. pre ++ (replicate j v ++ rest)) (ap (λ j. j * w) (zero-mul B) ∙ zero-mul w)
  run_slots i (none ∷ ss) pre rest v h a p =
      let gone : List A = flat (map g (replicate B (absent_block C))) in
      let c : gone ≡ replicate (B * w) v = cells_same g w v (absent_block C) h B in
      let l : length (pre ++ gone) ≡ suc i * B * w =
      length-append pre gone ∙ rw (c, suc-mul i B, add-mul (i * B) B w) (omega (arith, length-replicate (B * w) v)) in
      ap (λ r. scan (put B w g k) (extras k B (kept (suc (suc i)) ss)) (pre ++ (r ++ rest)))
      (ap (λ j. replicate j v) (one_more_map (length ss)) ∙ sym (replicate-append-replicate (B * w) (length ss * B * w) v) ∙ ap (λ r. r ++ replicate (length ss * B * w) v) (sym c))
      ∙ ap (scan (put B w g k) (extras k B (kept (suc (suc i)) ss)))
      (ap (λ r. pre ++ r) (append_assoc gone (replicate (length ss * B * w) v) rest) ∙ sym (append_assoc pre gone (replicate (length ss * B * w) v ++ rest)))
      ∙ run_slots (suc i) ss (pre ++ gone) rest v h a.1 l
      ∙ regroup pre (replicate B (absent_block C)) (reads B C ss) rest
  run_slots i (some bs ∷ ss) pre rest v h a p =
      scan_append (put B w g k) (blocks_left k B (suc i) bs) (extras k B (kept (suc (suc i)) ss)) (pre ++ (replicate (suc (length ss) * B * w) v ++ rest))
      ∙ ap (scan (put B w g k) (extras k B (kept (suc (suc i)) ss)))
      (ap (λ r. scan (put B w g k) (blocks_left k B (suc i) bs) (pre ++ (r ++ rest))) (ap (λ j. replicate j v) (one_more_map (length ss)) ∙ sym (replicate-append-replicate (B * w) (length ss * B * w) v))
      ∙ run_map i bs pre (replicate (B * w) v) (replicate (length ss * B * w) v) rest a.0 (length-replicate (B * w) v) p)
      ∙ run_slots (suc i) ss (pre ++ flat (map g bs)) rest v h a.1 (next_pre i bs pre a.0 p)
      ∙ regroup pre bs (reads B C ss) rest
