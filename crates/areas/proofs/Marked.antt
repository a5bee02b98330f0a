-- The epochs and the marks. A mark is a bit for each of the two kinds.
use mathlib.Core.Path.{◌≡◌, refl, sym, ap, ◌∙◌}
use mathlib.Core.Bool.{Bool, true, false, cond}
use mathlib.Core.Option.{Option, none, some}
use mathlib.Core.List.{List, [], ◌∷◌, ◌++◌, map}
use Prim.Native.Nat.{ℕ, zero, suc, ◌-◌, ◌<◌}
use native.Mathlib.Omega.{arith}
use lib.ListN.{length, replicate, set, get_or, length-append, length-set}
use lib.Seq.{set_at, append_snoc, set-get_or}
use Rattle.kit.specs.Answer.{All}
use Rattle.kit.proofs.AnswerLaws.{pick_yes, pick_no}
use Rattle.mapset.specs.declared.Kind.{Kind}
use Rattle.mapset.specs.declared.Kind.TheVariants.{Tec, Rms, Height}
use Rattle.mapset.specs.MapSet.{Block, TecMap}
use Rattle.mapset.specs.Areas.{present?}
use Rattle.areas.specs.Lists.{tab, zipw}
use Rattle.areas.specs.Flat.{Slots, mark, there}
use Rattle.areas.specs.Nest.{kept}
use Rattle.areas.specs.Events.{Event, epoch, marked, block}
use Rattle.areas.specs.Stores.{is, put_epoch, put_mark, has, with_mark, scan, Inside}
use Rattle.areas.proofs.Needs.{of_kind, present_bit, bit_present}
use Rattle.areas.proofs.Sorted.{is_self, scan_append, mine, blocks_left, tecs, extras}

-- ---- epochs

pub epochs_quiet : (e : Event) (l : List ℕ) → mine Tec e ≡ false → put_epoch e l ≡ l
epochs_quiet (block k i b x) l h = refl
epochs_quiet (epoch i e) l h = let z : ◌≡◌ {A = ℕ} 0 1 = cc in absurd (omega arith)
epochs_quiet (marked k i) l h = refl

no_epochs : (k : Kind) (B i : ℕ) (bs : List Block) (l : List ℕ) → scan put_epoch (blocks_left k B i bs) l ≡ l
no_epochs k B i [] l = refl
no_epochs k B i (x ∷ bs) l = no_epochs k B i bs l

pub run_epochs : (B i : ℕ) (ts : List TecMap) (pre old rest : List ℕ) → length old ≡ length ts → length pre ≡ i
    → scan put_epoch (tecs B i ts) (pre ++ (old ++ rest)) ≡ pre ++ (map (λ t. t.epoch) ts ++ rest)
run_epochs B i [] pre [] rest e p = refl
run_epochs B i [] pre (o ∷ old) rest e p = absurd (omega arith)
run_epochs B i (t ∷ ts) pre [] rest e p = absurd (omega arith)
run_epochs B i (t ∷ ts) pre (o ∷ old) rest e p =
    let l : List ℕ = set (pre ++ (o ∷ (old ++ rest))) (suc i - 1) t.epoch in
    scan_append put_epoch (blocks_left Tec B (suc i) t.blocks) (tecs B (suc i) ts) l
    ∙ ap (scan put_epoch (tecs B (suc i) ts))
    (no_epochs Tec B (suc i) t.blocks l ∙ set_at pre o (old ++ rest) t.epoch (suc i - 1) (omega arith) ∙ sym (append_snoc pre t.epoch (old ++ rest)))
    ∙ run_epochs B (suc i) ts (pre ++ (t.epoch ∷ [])) old rest (omega arith) (length-append pre (t.epoch ∷ []) ∙ omega arith)
    ∙ append_snoc pre t.epoch (map (λ t. t.epoch) ts ++ rest)

-- ---- marks

pub has_mark : (k : Kind) (a b : Bool) → has k (mark a b) ≡ of_kind k a b
has_mark k a b = go (of_kind k a b) refl
  where
    go : (t : Bool) → of_kind k a b ≡ t → has k (mark a b) ≡ t
    go true e = pick_yes (present? k (mark a b)) true false (bit_present k a b e)
    go false e = pick_no (present? k (mark a b)) true false (λ p. let h = present_bit k a b p in let z : ◌≡◌ {A = ℕ} 0 1 = cc in omega arith)

one_rms : (a b : Bool) → with_mark Rms (mark a b) ≡ mark true b
one_rms a b = ap (mark true) (has_mark Height a b)

one_height : (a b : Bool) → with_mark Height (mark a b) ≡ mark a true
one_height a b = ap (λ t. mark t true) (has_mark Rms a b)

abbrev pub put_bit : Kind → Event → List Bool → List Bool
put_bit k (block k' i b x) l = l
put_bit k (epoch i e) l = l
put_bit k (marked k' i) l = cond (is k k') (set l (i - 1) true) l

pub bits_quiet : (k : Kind) (e : Event) (l : List Bool) → mine k e ≡ false → put_bit k e l ≡ l
bits_quiet k (block k' i b x) l h = refl
bits_quiet k (epoch i e) l h = refl
bits_quiet k (marked k' i) l h = rw h

set_rms : (a b : List Bool) (rest : List ℕ) (i : ℕ) → i < length a → length a ≡ length b
    → set (zipw mark a b ++ rest) i (with_mark Rms (get_or (zipw mark a b ++ rest) i 0)) ≡ zipw mark (set a i true) b ++ rest
set_rms [] b rest i h e = absurd (omega arith)
set_rms (x ∷ a) [] rest i h e = absurd (omega arith)
set_rms (x ∷ a) (y ∷ b) rest zero h e = ap (λ m. m ∷ (zipw mark a b ++ rest)) (one_rms x y)
set_rms (x ∷ a) (y ∷ b) rest (suc i) h e = ap (λ r. mark x y ∷ r) (set_rms a b rest i (omega arith) (omega arith))

set_height : (a b : List Bool) (rest : List ℕ) (i : ℕ) → i < length a → length a ≡ length b
    → set (zipw mark a b ++ rest) i (with_mark Height (get_or (zipw mark a b ++ rest) i 0)) ≡ zipw mark a (set b i true) ++ rest
set_height [] b rest i h e = absurd (omega arith)
set_height (x ∷ a) [] rest i h e = absurd (omega arith)
set_height (x ∷ a) (y ∷ b) rest zero h e = ap (λ m. m ∷ (zipw mark a b ++ rest)) (one_height x y)
set_height (x ∷ a) (y ∷ b) rest (suc i) h e = ap (λ r. mark x y ∷ r) (set_height a b rest i (omega arith) (omega arith))

module _ (n B C : ℕ) (N : Kind → ℕ) where
  pub two_bits : (es : List Event) (a b : List Bool) (rest : List ℕ) → All (Inside n B C N) es → length a ≡ n → length b ≡ n
      → scan put_mark es (zipw mark a b ++ rest) ≡ zipw mark (scan (put_bit Rms) es a) (scan (put_bit Height) es b) ++ rest
  two_bits [] a b rest p x y = refl
  two_bits (block k i j o ∷ es) a b rest p x y = two_bits es a b rest p.1 x y
  two_bits (epoch i e ∷ es) a b rest p x y = two_bits es a b rest p.1 x y
  two_bits (marked Tec i ∷ es) a b rest p x y = ap (scan put_mark es) (set-get_or (zipw mark a b ++ rest) (i - 1) 0) ∙ two_bits es a b rest p.1 x y
  two_bits (marked Rms i ∷ es) a b rest p x y =
      ap (scan put_mark es) (set_rms a b rest (i - 1) (omega (arith, p.0)) (omega arith)) ∙ two_bits es (set a (i - 1) true) b rest p.1 (length-set a (i - 1) true ∙ x) y
  two_bits (marked Height i ∷ es) a b rest p x y =
      ap (scan put_mark es) (set_height a b rest (i - 1) (omega (arith, p.0)) (omega arith)) ∙ two_bits es a (set b (i - 1) true) rest p.1 x (length-set b (i - 1) true ∙ y)

no_bits : (k k' : Kind) (B i : ℕ) (bs : List Block) (l : List Bool) → scan (put_bit k) (blocks_left k' B i bs) l ≡ l
no_bits k k' B i [] l = refl
no_bits k k' B i (x ∷ bs) l = no_bits k k' B i bs l

pub run_bits : (k : Kind) (B i : ℕ) (ss : Slots) (pre : List Bool) → length pre ≡ i
    → scan (put_bit k) (extras k B (kept (suc i) ss)) (pre ++ replicate (length ss) false) ≡ pre ++ map there ss
run_bits k B i [] pre p = refl
run_bits k B i (none ∷ ss) pre p =
    ap (scan (put_bit k) (extras k B (kept (suc (suc i)) ss))) (sym (append_snoc pre false (replicate (length ss) false)))
    ∙ run_bits k B (suc i) ss (pre ++ (false ∷ [])) (length-append pre (false ∷ []) ∙ omega arith) ∙ append_snoc pre false (map there ss)
run_bits k B i (some bs ∷ ss) pre p =
    let l : List Bool = pre ++ (false ∷ replicate (length ss) false) in
    let l' : List Bool = pre ++ (true ∷ []) ++ replicate (length ss) false in
    ap (λ t. scan (put_bit k) (blocks_left k B (suc i) bs ++ extras k B (kept (suc (suc i)) ss)) (cond t (set l (suc i - 1) true) l)) (is_self k)
    ∙ ap (scan (put_bit k) (blocks_left k B (suc i) bs ++ extras k B (kept (suc (suc i)) ss))) (set_at pre false (replicate (length ss) false) true (suc i - 1) (omega arith) ∙ sym (append_snoc pre true (replicate (length ss) false)))
    ∙ scan_append (put_bit k) (blocks_left k B (suc i) bs) (extras k B (kept (suc (suc i)) ss)) l'
    ∙ ap (scan (put_bit k) (extras k B (kept (suc (suc i)) ss))) (no_bits k k B (suc i) bs l')
    ∙ run_bits k B (suc i) ss (pre ++ (true ∷ [])) (length-append pre (true ∷ []) ∙ omega arith) ∙ append_snoc pre true (map there ss)

pub no_marks : (n : ℕ) → replicate n 0 ≡ zipw mark (replicate n false) (replicate n false)
no_marks zero = refl
no_marks (suc n) = ap (λ r. 0 ∷ r) (no_marks n)

pub marks_zip : {X Y : Type 0} (i k : ℕ) (f : ℕ → Option X) (g : ℕ → Option Y) → zipw mark (map there (tab i k f)) (map there (tab i k g)) ≡ tab i k (λ j. mark (there (f j)) (there (g j)))
marks_zip i zero f g = refl
marks_zip i (suc k) f g = ap (λ r. mark (there (f i)) (there (g i)) ∷ r) (marks_zip (suc i) k f g)
