-- Two map sets that may be joined give one: the result is formed.
use mathlib.Core.Path.{◌≡◌, refl, sym, ap, subst, ◌∙◌}
use mathlib.Core.Logic.{◌⊎◌, inl, inr, ⊎_elim}
use mathlib.Core.List.{List, [], ◌∷◌, ◌++◌, map}
use Prim.Native.Nat.{ℕ, zero, suc, ◌+◌, ◌-◌, ◌≤◌}
use native.Mathlib.Omega.{arith}
use native.Mathlib.Decide.{ℕ_discrete, dec_le}
use Rattle.kit.specs.Answer.{pick, ⊎_dec}
use lib.ListN.{length, take, length-append, length-map}
use lib.Seq.{length-take-le}
use Rattle.kit.proofs.AnswerLaws.{pick_elim}
use Rattle.kit.proofs.ListLaws.{all_append, all_take}
use Rattle.mapset.specs.declared.Header.{Header}
use Rattle.mapset.specs.Grid.{columns}
use Rattle.mapset.specs.Header.{HeaderRules}
use Rattle.mapset.specs.MapSet.{TecMap, OtherMap, Maps, MapSet}
use Rattle.mapset.specs.Areas.{Follows, Run, EpochRules}
use Rattle.mapset.proofs.Groups.{header_groups, groups_header}
use Rattle.layout.specs.Layout.{per_map}
use Rattle.areas.specs.Formed.{MapRules, Rising, MapsRules, Formed}
use Rattle.areas.proofs.ListLaws.{map_append}
use Rattle.join.specs.Join.{stay, count, interval, header, upto, move, others, maps, joined, Meet, MayJoin}

-- ---- examples

-- INTERVAL is kept when both are equal, and otherwise 0, also where one of them is
intervals : (interval 900 900 ≡ 900) × (interval 3600 900 ≡ 0) × (interval 0 900 ≡ 0)
unfolding pick ⊎_dec ℕ_discrete
intervals = (refl, refl, refl)

abbrev tec_at : ℕ → TecMap
tec_at e = record { epoch = e; blocks = [] }

abbrev other_of : ℕ → OtherMap
other_of i = record { of = i; blocks = [] }

-- of the maps 1 and 2 of a set and the same of a later one, whose map 1 has an epoch of its own, the shared map is the later set's, with its RMS map, which is none here
abbrev shared : Maps
shared = maps 1 (record { tec = tec_at 0 ∷ tec_at 1 ∷ []; rms = other_of 1 ∷ other_of 2 ∷ []; height = [] }) (record { tec = tec_at 10 ∷ tec_at 11 ∷ []; rms = other_of 2 ∷ []; height = [] })

shared_later : shared.tec ≡ tec_at 0 ∷ tec_at 10 ∷ tec_at 11 ∷ []
shared_later = refl

shared_rms : shared.rms ≡ other_of 1 ∷ other_of 3 ∷ []
unfolding pick dec_le
shared_rms = refl

-- ---- the header

pub some_maps : (m : MapSet) → Formed m → 1 ≤ m.header.times.maps
some_maps m f = (header_groups m.header m.texts f.header).1.1.0.1.1.1.0

pick_within : (i j : ℕ) → j ≤ 21600 → interval i j ≤ 21600
pick_within i j h = pick_elim (λ x. x ≤ 21600) _ (λ e. h) (λ e. omega arith)

module _ (a b : MapSet) (m : MayJoin a b) where
  header_rules : HeaderRules (joined a b).header b.texts
  header_rules =
      let p = header_groups a.header a.texts m.earlier.header in
      let (v, (x, ((first, (last, (every, n))), (o, (g, (sta, (sat, (s, (d, l))))))))) = header_groups b.header b.texts m.later.header in
      groups_header (joined a b).header b.texts (
        v,
        (
          x,
          (
            (p.1.1.0.0, (last, ((omega arith, pick_within a.header.times.interval b.header.times.interval every.1), (omega (arith, n.0), m.limits.0)))),
            (o, (g, (sta, (sat, (s, (d, (l.0, l.1, l.2, m.limits.1))))))),
          ),
        ),
      )

-- ---- epochs

-- an INTERVAL that is the old one, or 0
abbrev Looser : ℕ → ℕ → Type 0
Looser i j = (j ≡ i) ⊎ (j ≡ 0)

module _ {i j : ℕ} (o : Looser i j) where
  looser : (e f : ℕ) → Follows i e f → Follows j e f
  looser e f (r, s) = (r, ⊎_elim (λ q. ⊎_elim (λ z. inl (q ∙ z)) (λ z. inr (z ∙ ap (λ x. e + x) (sym q))) s) (λ q. inl q) o)

  looser_run : (l e : ℕ) (es : List ℕ) → Run i l e es → Run j l e es
  looser_run l e [] r = r
  looser_run l e (f ∷ es) r = (looser e f r.0, looser_run l f es r.1)

-- up to m, and on from it
module _ (i m l : ℕ) (fs : List ℕ) (after : Run i l m fs) where
  run_on : (g e : ℕ) (es : List ℕ) → Follows i g e → Run i m e es → Run i l g (take (length es) (e ∷ es) ++ (m ∷ fs))
  run_on g e [] h r = (rw r at h, after)
  run_on g e (f ∷ es) h r = (h, run_on e f es r.0 r.1)

  run_both : (h : Header) → h.times.interval ≡ i → h.times.last ≡ l → (e : ℕ) (es : List ℕ) → e ≡ h.times.first → Run i m e es
      → EpochRules h (take (length es) (e ∷ es) ++ (m ∷ fs))
  run_both h p q e [] s r = (sym r ∙ s, rw (p, q) after)
  run_both h p q e (f ∷ es) s r = (s, rw (p, q) (run_on e f es r.0 r.1))

epochs_both : (a b : Header) → Meet a b → (es fs : List ℕ) → length es ≡ a.times.maps → EpochRules a es → EpochRules b fs
    → EpochRules (header a b) (take (stay a) es ++ fs)
epochs_both a b t [] fs n r s = absurd r
epochs_both a b t (e ∷ es) [] n r s = absurd s
epochs_both a b t (e ∷ es) (f ∷ fs) n (p, r) (q, s) =
    let i : ℕ = interval a.times.interval b.times.interval in
    let o : Looser a.times.interval i × Looser b.times.interval i =
    pick_elim (λ x. Looser a.times.interval x × Looser b.times.interval x) _
    (λ z. (inl (sym z), inl refl)) (λ z. (inr refl, inr refl)) in
    let u : Run i a.times.last e es = looser_run o.0 a.times.last e es r in
    let v : Run i f e es = rw (t ∙ sym q) at u in
    let k : stay a ≡ length es = omega arith in
    subst (λ j. EpochRules (header a b) (take j (e ∷ es) ++ (f ∷ fs))) (sym k)
    (run_both i f b.times.last fs (looser_run o.1 b.times.last f fs s) (header a b) refl refl e es p v)

pub map_take : {A B : Type 0} (f : A → B) (k : ℕ) (l : List A) → map f (take k l) ≡ take k (map f l)
map_take f zero l = refl
map_take f (suc k) [] = refl
map_take f (suc k) (x ∷ l) = ap (λ r. f x ∷ r) (map_take f k l)

-- ---- RMS and height maps

module _ (B C : ℕ) where
  rising_from : (n l k : ℕ) (xs : List OtherMap) → l ≤ k → Rising n B C k xs → Rising n B C l xs
  rising_from n l k [] h r = tt
  rising_from n l k (x ∷ xs) h r = (omega (arith, r.0), r.1, r.2, r.3)

  pub rising_moved : (k n l : ℕ) (xs : List OtherMap) → Rising n B C l xs → Rising (k + n) B C (k + l) (map (move k) xs)
  rising_moved k n l [] r = tt
  rising_moved k n l (x ∷ xs) r = (omega (arith, r.0), omega (arith, r.1), r.2, rising_moved k n x.of xs r.3)

  rising_both : (k m n l : ℕ) (xs ys : List OtherMap) → l ≤ k → k ≤ n → Rising m B C l xs → Rising n B C k ys → Rising n B C l (upto k xs ++ ys)
  rising_both k m n l [] ys h g r s = rising_from n l k ys h s
  rising_both k m n l (x ∷ xs) ys h g r s =
      pick_elim (λ zs. Rising n B C l (zs ++ ys)) (dec_le x.of k)
      (λ p. (r.0, omega (arith, p), r.2, rising_both k m n x.of xs ys p g r.3 s))
      (λ p. rising_both k m n l xs ys h g (rising_from m l x.of xs (omega (arith, r.0)) r.3) s)

  rising_others : (m n : ℕ) (xs ys : List OtherMap) → Rising m B C 0 xs → Rising n B C 0 ys → Rising (m - 1 + n) B C 0 (others (m - 1) xs ys)
  rising_others m n xs ys r s =
      rising_both (m - 1) m (m - 1 + n) 0 xs (map (move (m - 1)) ys) (omega arith) (omega arith) r
      (rising_from (m - 1 + n) (m - 1) (m - 1 + 0) (map (move (m - 1)) ys) (omega arith) (rising_moved (m - 1) n 0 ys s))

-- ---- all maps

maps_rules : (m n B C : ℕ) (a b : Maps) → MapsRules m B C a → MapsRules n B C b → MapsRules (m - 1 + n) B C (maps (m - 1) a b)
maps_rules m n B C a b f g =
    record {
      count = length-append (take (m - 1) a.tec) b.tec ∙ omega (arith, length-take-le (m - 1) a.tec (omega (arith, f.count)), g.count);
      tec = all_append (λ t. MapRules B C t.blocks) (take (m - 1) a.tec) b.tec (all_take (λ t. MapRules B C t.blocks) (m - 1) a.tec f.tec) g.tec;
      rms = rising_others B C m n a.rms b.rms f.rms g.rms;
      height = rising_others B C m n a.height b.height f.height g.height;
    }

module _ (a b : MapSet) (m : MayJoin a b) where
  joined_epochs : EpochRules (joined a b).header (map (λ t. t.epoch) (joined a b).maps.tec)
  joined_epochs =
      rw (map_append (λ t. t.epoch) (take (stay a.header) a.maps.tec) b.maps.tec, map_take (λ t. t.epoch) (stay a.header) a.maps.tec)
      (epochs_both a.header b.header m.meet (map (λ t. t.epoch) a.maps.tec) (map (λ t. t.epoch) b.maps.tec)
      (length-map a.maps.tec (λ t. t.epoch) ∙ m.earlier.maps.count) m.earlier.epochs m.later.epochs)

  pub joined_formed : Formed (joined a b)
  joined_formed =
      let f : MapsRules a.header.times.maps (per_map b.header) (columns b.header.grid) a.maps = rw m.alike.grid at m.earlier.maps in
      record {
        header = header_rules a b m;
        epochs = joined_epochs;
        maps = maps_rules a.header.times.maps b.header.times.maps (per_map b.header) (columns b.header.grid) a.maps b.maps f m.later.maps;
      }
