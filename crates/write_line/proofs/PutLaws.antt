-- Lines put one after the other.
use mathlib.Core.Path.{◌≡◌, refl, sym, ap, ◌∙◌}
use mathlib.Core.List.{List, [], ◌∷◌, ◌++◌, append_assoc}
use Prim.Native.Nat.{ℕ, ◌+◌, ◌≤◌}
use native.Mathlib.Omega.{arith}
use lib.ListN.{length, take, drop, length-append, take-append-drop}
use lib.Seq.{take_at, drop-append-add, drop-drop, length-take-le}
use Rattle.canonical.specs.Canon.{trimmed, lines_of}
use Rattle.write_line.specs.Put.{LineRoom, Put, PutsOn}

lines_append : (xs ys : List (List ℕ)) → lines_of (xs ++ ys) ≡ lines_of xs ++ lines_of ys
unfolding lines_of
lines_append [] ys = refl
lines_append (r ∷ xs) ys = ap (λ l. trimmed r ++ 10 ∷ l) (lines_append xs ys) ∙ sym (append_assoc (trimmed r) (10 ∷ lines_of xs) (lines_of ys))

lines_length : (xs ys : List (List ℕ)) → length (lines_of (xs ++ ys)) ≡ length (lines_of xs) + length (lines_of ys)
lines_length xs ys = ap length (lines_append xs ys) ∙ length-append (lines_of xs) (lines_of ys)

-- ---- room

pub room_front : {at : ℕ} (xs ys : List (List ℕ)) → LineRoom at (xs ++ ys) → LineRoom at xs
room_front xs ys m = record { fits = omega (arith, m.fits, lines_length xs ys) }

pub room_behind : {o o₁ : List ℕ} {at r : ℕ} (xs ys : List (List ℕ)) → LineRoom at (xs ++ ys) → Put o at xs o₁ r → LineRoom r ys
room_behind xs ys m p = record { fits = omega (arith, m.fits, p.moved, lines_length xs ys) }

pub room_first : {at : ℕ} {x : List ℕ} {ys : List (List ℕ)} → LineRoom at (x ∷ ys) → LineRoom at (x ∷ [])
room_first {x = x} {ys = ys} m = room_front (x ∷ []) ys m

pub room_next : {o o₁ : List ℕ} {at r : ℕ} {x : List ℕ} {ys : List (List ℕ)} → LineRoom at (x ∷ ys) → Put o at (x ∷ []) o₁ r → LineRoom r ys
room_next {x = x} {ys = ys} m p = room_behind (x ∷ []) ys m p

-- ---- texts

pub put_none : {o : List ℕ} {at : ℕ} → Put o at [] o at
unfolding lines_of
put_none {o} {at} = record { moved = omega arith; size = refl; text = λ _. sym (take-append-drop at o) }

-- x at a, then y behind it
seam : (o x y : List ℕ) (a n m : ℕ) → n ≡ a + length x → m ≡ n + length y → m ≤ length o
    → take n (take a o ++ (x ++ drop n o)) ++ (y ++ drop m (take a o ++ (x ++ drop n o))) ≡ take a o ++ ((x ++ y) ++ drop m o)
seam o x y a n m e k h =
    let front : List ℕ = take a o ++ x in
    let p : length front ≡ n = length-append (take a o) x ∙ omega (arith, length-take-le a o (omega arith)) in
    let q : m ≡ length front + length y = omega arith in
    let d : drop m (front ++ drop n o) ≡ drop m o =
    ap (λ j. drop j (front ++ drop n o)) q ∙ drop-append-add front (drop n o) (length y) ∙ drop-drop (length y) n o ∙ ap (λ j. drop j o) (sym k) in
    rw (← append_assoc (take a o) x (drop n o), take_at front (drop n o) n p, d, append_assoc (take a o) x (y ++ drop m o), append_assoc x y (drop m o))

pub put_then : {o o₁ o₂ : List ℕ} {at r₁ r₂ : ℕ} (xs ys : List (List ℕ)) → Put o at xs o₁ r₁ → Put o₁ r₁ ys o₂ r₂ → Put o at (xs ++ ys) o₂ r₂
put_then {o} {o₁} {o₂} {at} {r₁} {r₂} xs ys p q =
    record {
      moved = omega (arith, p.moved, q.moved, lines_length xs ys);
      size = q.size ∙ p.size;
      text = λ h.
          let k : r₁ ≤ length o = omega (arith, q.moved) in
          let l : r₂ ≤ length o₁ = omega (arith, p.size) in
          q.text l ∙ rw (p.text k, lines_append) (seam o (lines_of xs) (lines_of ys) at r₁ r₂ p.moved q.moved h);
    }

pub put_next : {o o₁ o₂ : List ℕ} {at r₁ r₂ : ℕ} {x : List ℕ} {ys : List (List ℕ)} → Put o at (x ∷ []) o₁ r₁ → Put o₁ r₁ ys o₂ r₂ → Put o at (x ∷ ys) o₂ r₂
put_next {x = x} {ys = ys} p q = put_then (x ∷ []) ys p q

-- ---- loops

pub leads_self : {o : List ℕ} {at : ℕ} {xs : List (List ℕ)} → PutsOn o at xs o at xs
leads_self = record { room = λ m. m; size = refl; rest = λ o r p. p }

pub leads_on : {o₀ o o₁ : List ℕ} {at₀ at r : ℕ} {zs : List (List ℕ)} (xs ys : List (List ℕ)) → PutsOn o₀ at₀ zs o at (xs ++ ys) → Put o at xs o₁ r → PutsOn o₀ at₀ zs o₁ r ys
leads_on xs ys l p =
    record {
      room = λ m. room_behind xs ys (l.room m) p;
      size = p.size ∙ l.size;
      rest = λ o r q. l.rest o r (put_then xs ys p q);
    }

pub leads_next : {o₀ o o₁ : List ℕ} {at₀ at r : ℕ} {zs : List (List ℕ)} {x : List ℕ} {ys : List (List ℕ)} → PutsOn o₀ at₀ zs o at (x ∷ ys) → Put o at (x ∷ []) o₁ r → PutsOn o₀ at₀ zs o₁ r ys
leads_next {x = x} {ys = ys} l p = leads_on (x ∷ []) ys l p
