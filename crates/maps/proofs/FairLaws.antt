use Rattle.std.specs.Prelude.{Result, Ok, Err}
-- What every step keeps: the epochs grow by at most the one that is remembered, there is room for it, and the maps handed back are those that
-- were seen.
use mathlib.Core.Path.{◌≡◌, refl, sym, ◌∙◌}
use mathlib.Core.Bool.{true, ◌||◌, or-true}
use mathlib.Core.List.{List, [], ◌∷◌, ◌++◌}
use Prim.Native.Nat.{ℕ, suc, ◌<◌}
use native.Mathlib.Omega.{arith}
use lib.Dec.{ltb}
use lib.IntN.{ℤ, pos, negsuc, nat_abs}
use lib.ListN.{length, drop, length-append}
use lib.Seq.{drop-length, drop-append_seam}
use borrow.Author.Tests.{lt-ltb}
use Rattle.kit.specs.Answer.{Answer, ok}
use Rattle.kit.proofs.AnswerLaws.{Yields, y_ok, y_no, yields, need_yields, get_yields, bind_yields}
use Rattle.kit.specs.Range.{Natural}
use Rattle.mapset.specs.declared.Kind.{Kind}
use Rattle.mapset.specs.declared.Kind.TheVariants.{Tec, Rms, Height}
use Rattle.mapset.specs.declared.Header.{Header}
use Rattle.mapset.specs.MapSet.{OtherMap}
use Rattle.layout.specs.Labels.{Label, version, description, comment, system, exponent, aux_start, aux_end, header_end, epoch, block, file_end, head, start, end}
use Rattle.layout.specs.Layout.{Force}
use Rattle.reading.specs.declared.Fault.{Fault}
use Rattle.reading.specs.Fields.{label, fields}
use Rattle.reading.specs.Maps.{Todo, Next, stays, loose, date, on_date, on_comment, on_exponent, start_tec, start_other, start_map, on_start, end_map, on_end, epoch_tec, epoch_other, on_epoch, open_block, on_block, on_file, taken, step}
use Rattle.reading.specs.declared.Place.{Place}
use Rattle.reading.specs.declared.Place.TheVariants.{Ended, Between, Early, Inside}
use Rattle.maps_bounds.specs.Steps.{first_of}
use Rattle.maps.specs.Turns.{maps_of, seen, grow, MapRoom}

pub record Fair (h : Header) (q : Place) (p : Force) (x : Next q) : Type 0 where
  pub epochs : x.force.epochs ≡ grow (first_of (drop (length p.epochs) x.force.epochs)) p.epochs
  pub room : MapRoom h q (length p.epochs) → MapRoom h x.to (length x.force.epochs)
  pub rms : (zs : List ℤ) (w : Todo x.to) → seen p.rms (maps_of q (x.back zs w)).rms ≡ seen x.force.rms (maps_of x.to w).rms
  pub height : (zs : List ℤ) (w : Todo x.to) → seen p.height (maps_of q (x.back zs w)).height ≡ seen x.force.height (maps_of x.to w).height

none_new : (es : List ℕ) → es ≡ grow (first_of (drop (length es) es)) es
none_new es = rw (drop-length es)

one_new : (es : List ℕ) (t : ℕ) → es ++ (t ∷ []) ≡ grow (first_of (drop (length es) (es ++ (t ∷ [])))) es
one_new es t = rw (drop-append_seam es (t ∷ []))

-- the map that starts is seen
starts : (i k : ℕ) (ns : List OtherMap) → 0 < i → (ltb 0 k || true) ≡ seen i ns
starts i k ns h = or-true (ltb 0 k) ∙ sym (rw (lt-ltb 0 i h))

module _ {A : Type 0} {Q : A → Type 0} where
  loose_yields : (q : Place) {x : Answer Fault A} → Yields Q x → Yields Q (loose q x)
  loose_yields Ended s = unfold loose in y_no
  loose_yields Between s = unfold loose in s
  loose_yields Early s = unfold loose in s
  loose_yields (Inside o) s = unfold loose in s

  date_yields : (k : Result ℕ ℕ) {f : ℕ → Answer Fault A} → ((t : ℕ) → Yields Q (f t)) → Yields Q (on_date k f)
  unfolding on_date
  date_yields (Ok t) h = h t
  date_yields (Err c) h = y_no

module _ (h : Header) where
  stays_fair : (q : Place) (p f : Force) → f.epochs ≡ p.epochs → f.rms ≡ p.rms → f.height ≡ p.height → Yields (Fair h q p) (stays q f)
  stays_fair q p f e r m =
      let x : Fair h q p (record { to = q; force = f; due = 0; back = λ zs w. w }) =
      record { epochs = rw e (none_new p.epochs); room = λ k. rw e k; rms = λ zs w. rw r; height = λ zs w. rw m } in
      y_ok x

  tec_fair : (p : Force) (r : List ℕ) → Yields (Fair h Between p) (start_tec h p r)
  unfolding start_tec
  tec_fair p r =
      bind_yields (fields (start Tec) r) (λ v _. need_yields _ _ (λ t. y_ok (record { epochs = none_new p.epochs; room = λ _. t.1; rms = λ zs w. refl; height = λ zs w. refl })))

  above : (a b : ℕ) (z : ℤ) → Natural (suc a) b z → 0 < nat_abs z
  above a b (pos n) t = omega (arith, t.0)
  above a b (negsuc n) t = absurd t

  rms_fair : (p : Force) (r : List ℕ) → Yields (Fair h Between p) (start_other Rms h p r)
  unfolding start_other
  rms_fair p r =
      bind_yields (fields (start Rms) r) (λ v _. need_yields _ _ (λ t. y_ok (record {
        epochs = none_new p.epochs;
        room = λ k. k;
        rms = λ zs w. starts (nat_abs v.0) p.rms w.1.rms (above _ _ v.0 t);
        height = λ zs w. refl;
      })))

  height_fair : (p : Force) (r : List ℕ) → Yields (Fair h Between p) (start_other Height h p r)
  unfolding start_other
  height_fair p r =
      bind_yields (fields (start Height) r) (λ v _. need_yields _ _ (λ t. y_ok (record {
        epochs = none_new p.epochs;
        room = λ k. k;
        rms = λ zs w. refl;
        height = λ zs w. starts (nat_abs v.0) p.height w.1.height (above _ _ v.0 t);
      })))

  start_fair : (q : Place) (p : Force) (k : Kind) (r : List ℕ) → Yields (Fair h q p) (on_start h q p k r)
  unfolding on_start start_map
  start_fair Ended p k r = y_no
  start_fair Between p Tec r = tec_fair p r
  start_fair Between p Rms r = rms_fair p r
  start_fair Between p Height r = height_fair p r
  start_fair Early p k r = y_no
  start_fair (Inside o) p k r = y_no

  end_fair : (q : Place) (p : Force) (k : Kind) (r : List ℕ) → Yields (Fair h q p) (on_end h q p k r)
  unfolding on_end end_map
  end_fair Ended p k r = y_no
  end_fair Between p k r = y_no
  end_fair Early p k r = need_yields _ _ (λ _. bind_yields (fields (end k) r) (λ v _. y_no))
  end_fair (Inside o) p k r =
      need_yields _ _ (λ _. bind_yields (fields (end k) r) (λ v _. need_yields _ _ (λ _. need_yields _ _ (λ _. y_ok (record { epochs = none_new p.epochs; room = λ k. k; rms = λ zs w. refl; height = λ zs w. refl })))))

  epoch_fair : (q : Place) (p : Force) (r : List ℕ) → Yields (Fair h q p) (on_epoch h q p r)
  unfolding on_epoch epoch_tec epoch_other
  epoch_fair Ended p r = y_no
  epoch_fair Between p r = y_no
  epoch_fair Early p r =
      bind_yields (fields epoch r) (λ d _. date_yields (date d) (λ t. need_yields _ _ (λ _. y_ok (record {
        epochs = one_new p.epochs t;
        room = λ k. simp length-append (omega arith);
        rms = λ zs w. refl;
        height = λ zs w. refl;
      }))))
  epoch_fair (Inside o) p r =
      need_yields _ _ (λ _. bind_yields (fields epoch r) (λ d _. date_yields (date d) (λ t. need_yields _ _ (λ _. y_ok (record { epochs = none_new p.epochs; room = λ k. k; rms = λ zs w. refl; height = λ zs w. refl })))))

  block_fair : (q : Place) (p : Force) (r : List ℕ) → Yields (Fair h q p) (on_block h q p r)
  unfolding on_block open_block
  block_fair Ended p r = y_no
  block_fair Between p r = y_no
  block_fair Early p r = y_no
  block_fair (Inside o) p r =
      need_yields _ _ (λ _. bind_yields (fields block r) (λ v _. need_yields _ _ (λ _. need_yields _ _ (λ _. need_yields _ _ (λ _. need_yields _ _ (λ _. need_yields _ _ (λ _. y_ok (record { epochs = none_new p.epochs; room = λ k. k; rms = λ zs w. refl; height = λ zs w. refl }))))))))

  file_fair : (q : Place) (p : Force) (r : List ℕ) → Yields (Fair h q p) (on_file h q p r)
  unfolding on_file
  file_fair Ended p r = y_no
  file_fair Between p r =
      bind_yields (fields file_end r) (λ v _. need_yields _ _ (λ _. y_ok (record { epochs = none_new p.epochs; room = λ k. k; rms = λ zs w. refl; height = λ zs w. refl })))
  file_fair Early p r = y_no
  file_fair (Inside o) p r = y_no

  taken_fair : (q : Place) (p : Force) (l : Label) (r : List ℕ) → Yields (Fair h q p) (taken h q p l r)
  unfolding taken on_comment on_exponent
  taken_fair q p comment r = loose_yields q (bind_yields (fields comment r) (λ v _. stays_fair q p p refl refl refl))
  taken_fair q p exponent r = loose_yields q (bind_yields (fields exponent r) (λ v _. need_yields _ _ (λ _. stays_fair q p _ refl refl refl)))
  taken_fair q p (start k) r = start_fair q p k r
  taken_fair q p (end k) r = end_fair q p k r
  taken_fair q p epoch r = epoch_fair q p r
  taken_fair q p block r = block_fair q p r
  taken_fair q p file_end r = file_fair q p r
  taken_fair q p version r = y_no
  taken_fair q p description r = y_no
  taken_fair q p system r = y_no
  taken_fair q p aux_start r = y_no
  taken_fair q p aux_end r = y_no
  taken_fair q p header_end r = y_no
  taken_fair q p (head i) r = y_no

  pub step_fair : (q : Place) (p : Force) (r : List ℕ) (x : Next q) → step h q p r ≡ ok x → Fair h q p x
  unfolding step
  step_fair q p r x e = yields (step h q p r) (get_yields (label r) _ (λ l _. taken_fair q p l r)) e
