-- Lines that differ only in remarks bring the same for an index, from every state of a reading that accepts them.
use mathlib.Core.Path.{◌≡◌, refl, sym, ap, subst, ◌∙◌}
use mathlib.Core.Logic.{◌⊎◌, inl, inr, ⊎_elim}
use mathlib.Core.List.{List, [], ◌∷◌}
use Prim.Native.Nat.{ℕ, suc, ◌+◌, ◌*◌}
use native.Mathlib.Omega.{arith}
use native.Mathlib.Decide.{ℕ_discrete}
use lib.IntN.{ℤ, negsuc}
use lib.ListN.{length, drop, replicate}
use Rattle.kit.specs.Answer.{Answer, ok, refused, amap, All, ×_dec, all_dec}
use Rattle.kit.proofs.AnswerLaws.{yields}
use Rattle.forms.specs.Columns.{Blank}
use Rattle.mapset.specs.Grid.{columns}
use Rattle.mapset.specs.declared.Header.{Header}
use Rattle.layout.specs.Text.{Clean, pad}
use Rattle.layout.specs.Labels.{comment, aux_start, aux_end}
use Rattle.layout.specs.Layout.{plain, per_map}
use Rattle.read_lines.specs.Cuts.{Cut, with_byte, with_cr, cuts}
use Rattle.reading.specs.declared.Fault.{Fault}
use Rattle.reading.specs.declared.Why.{Why}
use Rattle.reading.specs.Feed.{opens?, row, feed}
use Rattle.reading.proofs.LineLaws.{feed_row}
use Rattle.reading.proofs.Machine.{State, first, Out, from, Move, on_row_of}
use Rattle.reading.proofs.RefusalLaws.{Sort, long, dirty, blank, shown, sort}
use Rattle.areas.specs.Scan.{at_first, brought, events}
use Rattle.index.specs.Made.{Placed, placed, opened, maps_of, put_starts, positions_of}
use Rattle.index.proofs.Begin.{body_is}
use Rattle.index.proofs.Lines as line
use Rattle.index.proofs.FoundLaws.{firsts}
use Rattle.remarks.specs.Remarks.{Bears, Close}
use Rattle.remarks.proofs.Likes.{Like, like_back, like_length, like_printable, pad_tail, same_end, like_opens, pick_both, close_back}
use Rattle.remarks.proofs.Rows.{comment_word, start_word, not_blank, InAux, start_row, comment_row}
use Rattle.remarks.proofs.Same.{Stops, Goes, stop_bad, stop_row, go_blank, go_row, in_aux, quiet, RemarkAt, commented, inside, open_yet, RewordedAt, later}
use Rattle.remarks.proofs.Gains.{Gain, Past, gained, Wide, Adds, row_adds, comment_adds, inside_adds}

-- ---- two texts whose bytes are close have close lines, with the same ends

abbrev LikeCuts : List Cut → List Cut → Type 0
LikeCuts [] [] = Unit {0}
LikeCuts [] (c ∷ cs') = ⊥
LikeCuts (c ∷ cs) [] = ⊥
LikeCuts (c ∷ cs) (c' ∷ cs') = (Like c.0 c'.0 × (c.1 ≡ c'.1)) × LikeCuts cs cs'

like_byte : (b b' : ℕ) (cs cs' : List Cut) → Close b b' → LikeCuts cs cs' → LikeCuts (with_byte b cs) (with_byte b' cs')
like_byte b b' [] [] w h = (((w, tt), refl), tt)
like_byte b b' [] (c ∷ cs') w h = absurd h
like_byte b b' (c ∷ cs) [] w h = absurd h
like_byte b b' (c ∷ cs) (c' ∷ cs') w h = (((w, h.0.0), h.0.1), h.1)

like_cr : (cs cs' : List Cut) → LikeCuts cs cs' → LikeCuts (with_cr cs) (with_cr cs')
like_cr [] [] h = tt
like_cr [] (c ∷ cs') h = absurd h
like_cr (c ∷ cs) [] h = absurd h
like_cr (c ∷ cs) (c' ∷ cs') h = ((h.0.0, ap (λ e. 13 ∷ e) h.0.1), h.1)

pub like_cuts : (t t' : List ℕ) → Like t t' → LikeCuts (cuts t) (cuts t')
unfolding cuts
like_cuts [] [] h = tt
like_cuts [] (b ∷ t') h = absurd h
like_cuts (b ∷ t) [] h = absurd h
like_cuts (b ∷ t) (b' ∷ t') h =
    let ih = like_cuts t t' h.1 in
    let c = close_back b b' h.0 in
    pick_both LikeCuts (ℕ_discrete b 10) (ℕ_discrete b' 10) (same_end 10 (omega arith) h.0) (same_end 10 (omega arith) c) ((tt, refl), ih)
    (pick_both LikeCuts (×_dec (ℕ_discrete b 13) (opens? 10 t)) (×_dec (ℕ_discrete b' 13) (opens? 10 t'))
    (λ o. (same_end 13 (omega arith) h.0 o.0, like_opens t t' h.1 o.1))
    (λ o. (same_end 13 (omega arith) c o.0, like_opens t' t (like_back t t' h.1) o.1)) (like_cr (cuts t) (cuts t') ih) (like_byte b b' (cuts t) (cuts t') h.0 ih))

module _ (C : ℕ) where
  -- what the line l, which starts at a, adds to what the lines behind it bring
  abbrev Line : (s s' : State) → (Out s' → Out s) → Past s → Past s' → (Gain → Gain) → ℕ → List ℕ → Type 0
  Line s s' b e e' f a l =
      (x : Out s') → Wide C s (b x) → (u : List ℕ) (cs : List Cut) → gained C s e (placed a ((l, u) ∷ cs)) ≡ f (gained C s' e' (placed (a + length l + length u) cs))

  -- the first of two lines is refused, or both add the same and lead to one state; beside `Same` `Both`
  data Both (s : State) (e : Past s) (n a : ℕ) (l l' : List ℕ) : Type 0 where
    stop : (w : Why) → Stops s n l w → Both s e n a l l'
    go : (s' : State) (b : Out s' → Out s) (e' : Past s') (f : Gain → Gain) → Goes s s' b n l → (Bears aux_start l → InAux s') → (InAux s → ¬ Bears aux_end l → InAux s')
        → ((x : Out s') → Wide C s (b x) → Wide C s' x) → Line s s' b e e' f a l → Line s s' b e e' f a l' → Both s e n a l l'

  -- a line is passed over
  skips : (s : State) (e : Past s) (a : ℕ) (l : List ℕ) → Clean l → All Blank l → Line s s (λ x. x) e e (λ g. g) a l
  skips s e a l c b x w u cs = ap (gained C s e) (line.skipped a l u cs c b)

  -- a line's row adds what it adds
  shows : (s : State) (e : Past s) (m : Move s) (a : ℕ) (l : List ℕ) → Clean l → ¬ All Blank l → (d : Adds C s e m a (pad l)) → Line s m.to m.back e d.past d.gain a l
  shows s e m a l c b d x w u cs = ap (gained C s e) (line.kept a l u cs c b) ∙ d.brings x w (placed (a + length l + length u) cs)

  -- a line with itself
  each : (s : State) (e : Past s) (n a : ℕ) (l : List ℕ) → Both s e n a l l
  each s e n a l = by (sort n l) (on_row_of s (pad l)) refl
    where
      by : Sort n l → (x : Answer Fault (Move s)) → on_row_of s (pad l) ≡ x → Both s e n a l l
      by (long k f) x q = stop _ (stop_bad s n l _ f)
      by (dirty k b f) x q = stop _ (stop_bad s n l _ f)
      by (blank k b f) x q = go s (λ a. a) e (λ g. g) (go_blank s n l f) (λ o. absurd (not_blank l start_word o b)) (λ i o. i) (λ x w. w) (skips s e a l k b) (skips s e a l k b)
      by (shown k b f) (refused t) q = stop _ (stop_row s n l t q f)
      by (shown k b f) (ok m) q =
          let d = yields _ (row_adds C s e a (pad l)) q in
          go m.to m.back d.past d.gain (go_row s n l m q f) (λ o. yields _ (start_row s (pad l) o) q) (in_aux s l m q) d.wide (shows s e m a l k b d) (shows s e m a l k b d)

  module _ (s : State) (e : Past s) (n a : ℕ) (l l' : List ℕ) (h : Like l l') (d : drop 60 (pad l) ≡ drop 60 (pad l')) where
    -- a line that is clean, with a close one
    cleanly : (Clean l → Clean l' → Both s e n a l l') → Both s e n a l l'
    cleanly k = by (sort n l)
      where
        clean : Clean l → Clean l'
        clean c = let q = like_length l l' h in let z = c.0 in (omega arith, like_printable l l' h c.1)

        by : Sort n l → Both s e n a l l'
        by (long c f) = stop _ (stop_bad s n l _ f)
        by (dirty c b f) = stop _ (stop_bad s n l _ f)
        by (blank c b f) = k c (clean c)
        by (shown c b f) = k c (clean c)

    aux_both : InAux s → ¬ Bears aux_end l → Both s e n a l l'
    aux_both i t = cleanly (λ c c'. go s (λ a. a) e (λ g. g) (quiet s n l i t c) (λ o. i) (λ i o. i) (λ x w. w) (passes l c t) (passes l' c' (λ q. t (d ∙ q))))
      where
        passes : (l : List ℕ) → Clean l → ¬ Bears aux_end l → Line s s (λ x. x) e e (λ g. g) a l
        passes l c t x w u cs = by (all_dec (λ b. ℕ_discrete b 32) l)
          where
            by : Dec (All Blank l) → gained C s e (placed a ((l, u) ∷ cs)) ≡ gained C s e (placed (a + length l + length u) cs)
            by (yes b) = ap (gained C s e) (line.skipped a l u cs c b)
            by (no b) = ap (gained C s e) (line.kept a l u cs c b) ∙ inside_adds C s e a (pad l) i t (placed (a + length l + length u) cs)

    comment_both : Bears comment l → Both s e n a l l'
    comment_both q = cleanly (λ c c'. by c c' (comment_row s (pad l) (pad l') q (sym d ∙ q)) (on_row_of s (pad l)) refl)
      where
        g : Clean l → (ls : List (List ℕ)) → feed n (l ∷ ls) ≡ row n (pad l) (feed (suc n) ls)
        g c ls = feed_row n l ls c (not_blank l comment_word q)

        by : Clean l → Clean l' → (on_row_of s (pad l) ≡ on_row_of s (pad l')) ⊎ ((f : Fault) × (on_row_of s (pad l) ≡ refused f) × ¬ (f.number ≡ 10))
            → (x : Answer Fault (Move s)) → on_row_of s (pad l) ≡ x → Both s e n a l l'
        by c c' (inr t) x z = stop _ (stop_row s n l t.0 t.1 (g c))
        by c c' (inl y) (refused t) z = stop _ (stop_row s n l t z (g c))
        by c c' (inl y) (ok m) z =
            let k = yields _ (row_adds C s e a (pad l)) z in
            let o = yields _ (comment_adds C s e a (pad l) q) z in
            let o' = yields _ (comment_adds C s e a (pad l') (sym d ∙ q)) (sym y ∙ z) in
            go m.to m.back k.past k.gain (go_row s n l m z (g c)) (λ b. yields _ (start_row s (pad l) b) z) (in_aux s l m z) k.wide
            (shows s e m a l c (not_blank l comment_word q) k)
            (λ x w u cs.
            let ps = placed (a + length l' + length u) cs in
            ap (gained C s e) (line.kept a l' u cs c' (not_blank l' comment_word (sym d ∙ q))) ∙ o' ps ∙ sym (o ps) ∙ k.brings x w ps)

  both : (s : State) (e : Past s) (n a : ℕ) (l l' : List ℕ) (ls ls' : List (List ℕ)) → Like l l' → RewordedAt s n (l ∷ ls) (l' ∷ ls') 0 → Both s e n a l l'
  both s e n a l l' ls ls' h (inl q) = rw (← q) (each s e n a l)
  both s e n a l l' ls ls' h (inr x) = by x.0 (pad_tail l l' h x.1)
    where
      by : RemarkAt s n (l ∷ ls) 0 → drop 60 (pad l) ≡ drop 60 (pad l') → Both s e n a l l'
      by (commented q f) d = comment_both s e n a l l' h d q
      by (inside k i q f) d = absurd (omega arith)
      by (open_yet i f) d = aux_both s e n a l l' h d i (f 0 (omega arith))

  ok_of : {A B : Type 0} (b : A → B) (y : B) (x : Answer Why A) → amap b x ≡ ok y → (z : A) × ((x ≡ ok z) × (b z ≡ y))
  unfolding amap
  ok_of b y (ok z) q = (z, (refl, cc))
  ok_of b y (refused w) q = let z : ◌≡◌ {A = ℕ} 0 1 = cc in absurd (omega arith)

  pub same_gains : (cs cs' : List Cut) (s : State) (e : Past s) (n a : ℕ) → LikeCuts cs cs' → ((k : ℕ) → RewordedAt s n (firsts cs) (firsts cs') k)
      → (x : Out s) → Wide C s x → from s (feed n (firsts cs)) ≡ ok x → gained C s e (placed a cs) ≡ gained C s e (placed a cs')
  same_gains [] [] s e n a h r x w q = refl
  same_gains [] (c ∷ cs') s e n a h r x w q = absurd h
  same_gains (c ∷ cs) [] s e n a h r x w q = absurd h
  same_gains (c ∷ cs) (c' ∷ cs') s e n a h r x w q =
      by (both s e n a c.0 c'.0 (firsts cs) (firsts cs') h.0.0 (r 0)) (λ s' e' r' y w' q'. same_gains cs cs' s' e' (suc n) (a + length c.0 + length c.1) h.1 r' y w' q')
    where
      next : a + length c.0 + length c.1 ≡ a + length c'.0 + length c'.1
      next = λ i. a + like_length c.0 c'.0 h.0.0 i + length (h.0.1 i)

      by : Both s e n a c.0 c'.0
          → ((s' : State) (e' : Past s') → ((k : ℕ) → RewordedAt s' (suc n) (firsts cs) (firsts cs') k) → (y : Out s') → Wide C s' y → from s' (feed (suc n) (firsts cs)) ≡ ok y
          → gained C s' e' (placed (a + length c.0 + length c.1) cs) ≡ gained C s' e' (placed (a + length c.0 + length c.1) cs'))
          → gained C s e (placed a (c ∷ cs)) ≡ gained C s e (placed a (c' ∷ cs'))
      by (stop v f) ih = let z : ◌≡◌ {A = Answer Why (Out s)} (ok x) (refused v) = sym q ∙ f (firsts cs) in let y : ◌≡◌ {A = ℕ} 0 1 = cc in absurd (omega arith)
      by (go s' b e' f g o t k p p') ih =
          let y = ok_of b x (from s' (feed (suc n) (firsts cs))) (sym (g (firsts cs)) ∙ q) in
          let v : Wide C s (b y.0) = subst (Wide C s) (sym y.1.1) w in
          p y.0 v c.1 cs
          ∙ ap f (ih s' e' (λ k. ⊎_elim inl (λ z. inr (later s s' b n c.0 g o t (firsts cs) k z.0, z.1)) (r (suc k))) y.0 (k y.0 v) y.1.0 ∙ ap (λ j. gained C s' e' (placed j cs')) next)
          ∙ sym (p' y.0 v c'.1 cs')

-- ---- an index's positions come from what the second scan brings from the version record on

abbrev pub positions_by : Header → Gain → List ℕ
positions_by h g = put_starts h.times.maps (per_map h) g.events g.starts (replicate (3 * (h.times.maps * per_map h)) 0)

pub positions_gained : (h : Header) (ps : Placed) → positions_of h ps ≡ positions_by h (gained (columns h.grid) first (negsuc 0) ps)
unfolding positions_of events
positions_gained h ps =
    ap (λ (x : ℤ × List (List ℕ)). put_starts h.times.maps (per_map h) (brought (columns h.grid) (at_first x.0) 0 x.1)
    (opened (columns h.grid) 0 (maps_of plain (negsuc 0) ps).1) (replicate (3 * (h.times.maps * per_map h)) 0)) (body_is ps plain (negsuc 0))
