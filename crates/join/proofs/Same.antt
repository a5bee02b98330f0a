-- Three map sets joined in either grouping give the same map set.
use mathlib.Core.Path.{◌≡◌, refl, sym, ap, ◌∙◌}
use mathlib.Core.List.{List, [], ◌∷◌, ◌++◌, map, append_assoc}
use Prim.Native.Nat.{ℕ, ◌+◌, ◌≤◌}
use native.Mathlib.Omega.{arith}
use native.Mathlib.Decide.{ℕ_discrete, dec_le}
use lib.ListN.{length, take}
use lib.Seq.{length-take-le, take-append-add}
use Rattle.kit.proofs.AnswerLaws.{pick_yes, pick_no, pick_elim}
use Rattle.mapset.specs.MapSet.{TecMap, OtherMap, MapSet}
use Rattle.areas.specs.Formed.{Formed}
use Rattle.areas.proofs.ListLaws.{map_append}
use Rattle.join.specs.Join.{stay, count, interval, upto, move, others, maps, joined}
use Rattle.join.proofs.JoinedFormed.{some_maps}

-- INTERVAL is kept when all three are equal
module _ (i j : ℕ) where
  equal : i ≡ j → interval i j ≡ j
  equal e = pick_yes (ℕ_discrete i j) j 0 e

  unequal : ¬ (i ≡ j) → interval i j ≡ 0
  unequal e = pick_no (ℕ_discrete i j) j 0 e

to_zero : (i : ℕ) → interval i 0 ≡ 0
to_zero i = pick_elim (λ x. x ≡ 0) (ℕ_discrete i 0) (λ e. refl) (λ e. refl)

from_zero : (j : ℕ) → interval 0 j ≡ 0
from_zero j = pick_elim (λ x. x ≡ 0) (ℕ_discrete 0 j) (λ e. sym e) (λ e. refl)

interval_either : (i j k : ℕ) → interval (interval i j) k ≡ interval i (interval j k)
interval_either i j k = by (ℕ_discrete i j) (ℕ_discrete j k)
  where
    by : Dec (i ≡ j) → Dec (j ≡ k) → interval (interval i j) k ≡ interval i (interval j k)
    by (yes p) (yes q) = rw (equal i j p, equal j k q, equal i k (p ∙ q)) refl
    by (yes p) (no q) = rw (equal i j p, unequal j k q, to_zero i) refl
    by (no p) (yes q) = rw (unequal i j p, equal j k q, from_zero k, unequal i k (λ e. p (e ∙ sym q))) refl
    by (no p) (no q) = rw (unequal i j p, unequal j k q, from_zero k, to_zero i) refl

-- RMS and height maps
module _ (k : ℕ) (x : OtherMap) (xs : List OtherMap) where
  pub upto_in : x.of ≤ k → upto k (x ∷ xs) ≡ x ∷ upto k xs
  upto_in h = pick_yes (dec_le x.of k) (x ∷ upto k xs) (upto k xs) h

  pub upto_out : ¬ (x.of ≤ k) → upto k (x ∷ xs) ≡ upto k xs
  upto_out h = pick_no (dec_le x.of k) (x ∷ upto k xs) (upto k xs) h

upto_append : (k : ℕ) (xs ys : List OtherMap) → upto k (xs ++ ys) ≡ upto k xs ++ upto k ys
upto_append k [] ys = refl
upto_append k (x ∷ xs) ys = by (dec_le x.of k) (upto_append k xs ys)
  where
    by : Dec (x.of ≤ k) → upto k (xs ++ ys) ≡ upto k xs ++ upto k ys → upto k (x ∷ (xs ++ ys)) ≡ upto k (x ∷ xs) ++ upto k ys
    by (yes h) ih = upto_in k x (xs ++ ys) h ∙ ap (λ r. x ∷ r) ih ∙ ap (λ r. r ++ upto k ys) (sym (upto_in k x xs h))
    by (no h) ih = upto_out k x (xs ++ ys) h ∙ ih ∙ ap (λ r. r ++ upto k ys) (sym (upto_out k x xs h))

upto_upto : (j k : ℕ) (xs : List OtherMap) → j ≤ k → upto k (upto j xs) ≡ upto j xs
upto_upto j k [] h = refl
upto_upto j k (x ∷ xs) h = by (dec_le x.of j) (upto_upto j k xs h)
  where
    by : Dec (x.of ≤ j) → upto k (upto j xs) ≡ upto j xs → upto k (upto j (x ∷ xs)) ≡ upto j (x ∷ xs)
    by (yes p) ih = ap (upto k) (upto_in j x xs p) ∙ upto_in k x (upto j xs) (omega arith) ∙ ap (λ r. x ∷ r) ih ∙ sym (upto_in j x xs p)
    by (no p) ih = ap (upto k) (upto_out j x xs p) ∙ ih ∙ sym (upto_out j x xs p)

upto_moved : (j k : ℕ) (xs : List OtherMap) → upto (j + k) (map (move j) xs) ≡ map (move j) (upto k xs)
upto_moved j k [] = refl
upto_moved j k (x ∷ xs) = by (dec_le x.of k) (upto_moved j k xs)
  where
    by : Dec (x.of ≤ k) → upto (j + k) (map (move j) xs) ≡ map (move j) (upto k xs) → upto (j + k) (map (move j) (x ∷ xs)) ≡ map (move j) (upto k (x ∷ xs))
    by (yes p) ih = upto_in (j + k) (move j x) (map (move j) xs) (omega arith) ∙ ap (λ r. move j x ∷ r) ih ∙ ap (map (move j)) (sym (upto_in k x xs p))
    by (no p) ih = upto_out (j + k) (move j x) (map (move j) xs) (λ q. p (omega arith)) ∙ ih ∙ ap (map (move j)) (sym (upto_out k x xs p))

moved_moved : (j k : ℕ) (xs : List OtherMap) → map (move j) (map (move k) xs) ≡ map (move (j + k)) xs
moved_moved j k [] = refl
moved_moved j k (x ∷ xs) =
    let e : j + (k + x.of) ≡ j + k + x.of = omega arith in
    λ i. record { of = e i; blocks = x.blocks } ∷ moved_moved j k xs i

others_either : (j k : ℕ) (xs ys zs : List OtherMap) → others (j + k) (others j xs ys) zs ≡ others j xs (others k ys zs)
others_either j k xs ys zs =
    ap (λ r. r ++ map (move (j + k)) zs) (upto_append (j + k) (upto j xs) (map (move j) ys) ∙ (λ i. upto_upto j (j + k) xs (omega arith) i ++ upto_moved j k ys i))
    ∙ append_assoc (upto j xs) (map (move j) (upto k ys)) (map (move (j + k)) zs)
    ∙ ap (λ r. upto j xs ++ r) (ap (λ r. map (move j) (upto k ys) ++ r) (sym (moved_moved j k zs)) ∙ sym (map_append (move j) (upto k ys) (map (move k) zs)))

tec_either : (j k : ℕ) (xs ys zs : List TecMap) → j ≤ length xs → take (j + k) (take j xs ++ ys) ++ zs ≡ take j xs ++ (take k ys ++ zs)
tec_either j k xs ys zs h =
    let e : length (take j xs) ≡ j = length-take-le j xs h in
    ap (λ r. r ++ zs) (ap (λ n. take (n + k) (take j xs ++ ys)) (sym e) ∙ take-append-add (take j xs) ys k) ∙ append_assoc (take j xs) (take k ys) zs

module _ (a b c : MapSet) (p : Formed a) (q : Formed b) where
  stays : stay (joined a b).header ≡ stay a.header + stay b.header
  stays = omega (arith, some_maps a p, some_maps b q)

  pub counts : count (joined a b).header c.header ≡ count a.header (joined b c).header
  counts = omega (arith, some_maps a p, some_maps b q)

  pub joined_either : joined (joined a b) c ≡ joined a (joined b c)
  joined_either =
      let j : ℕ = stay a.header in
      let k : ℕ = stay b.header in
      λ i. record {
        header = record {
          version = c.header.version;
          times = record {
            first = a.header.times.first;
            last = c.header.times.last;
            interval = interval_either a.header.times.interval b.header.times.interval c.header.times.interval i;
            maps = counts i;
          };
          model = c.header.model;
          grid = c.header.grid;
          stations = c.header.stations;
          satellites = c.header.satellites;
          systems = c.header.systems;
          descriptions = c.header.descriptions;
        };
        texts = c.texts;
        maps = (ap (λ n. maps n (maps j a.maps b.maps) c.maps) stays ∙ maps_either) i;
      }
    where
      maps_either : maps (stay a.header + stay b.header) (maps (stay a.header) a.maps b.maps) c.maps
          ≡ maps (stay a.header) a.maps (maps (stay b.header) b.maps c.maps)
      maps_either =
          let j : ℕ = stay a.header in
          let k : ℕ = stay b.header in
          λ i. record {
            tec = tec_either j k a.maps.tec b.maps.tec c.maps.tec (omega (arith, p.maps.count)) i;
            rms = others_either j k a.maps.rms b.maps.rms c.maps.rms i;
            height = others_either j k a.maps.height b.maps.height c.maps.height i;
          }
