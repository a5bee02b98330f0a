-- A label by the number that the code finds for it.
use mathlib.Core.Path.{◌≡◌, refl, sym, ap, ◌∙◌}
use mathlib.Core.Bool.{Bool, true, false, ◌&&◌}
use mathlib.Core.Option.{none, some}
use mathlib.Core.List.{List, [], ◌∷◌, map}
use Prim.Native.Nat.{ℕ, suc, ◌≤◌, ◌<◌}
use native.Mathlib.Decide.{ℕ_discrete}
use native.Mathlib.Omega.{arith}
use lib.Dec.{T, eqb, eqb→eq}
use lib.ListN.{length, get_or, drop, length-append, length-drop, length-replicate}
use lib.Seq.{take_all}
use borrow.Author.Tests.{eq-eqb, eqb-true}
use Rattle.kit.proofs.TruthLaws.{and_left, and_right, and_true}
use Rattle.kit.specs.Answer.{pick, same, sames}
use Rattle.kit.proofs.AnswerLaws.{pick_yes, pick_no}
use Rattle.forms.specs.Columns.{columns}
use Rattle.forms.proofs.ColumnLaws.{columns_padded, columns_first}
use Rattle.layout.specs.Text.{pad}
use Rattle.layout.specs.Labels.{Label, version, aux_end, name, labels}
use Rattle.layout.specs.Names.{holds, place_of, names, number_of}
use Rattle.reading.specs.Fields.{lookup, label}

-- the place of a name in a list, else the list's length
unfoldable pub placed : List ℕ → List (List ℕ) → ℕ
placed s [] = 0
placed s (n ∷ ns) = pick (same s n) 0 (suc (placed s ns))

-- ---- columns hold a name exactly where they are that name

pub held : (s : List ℕ) (a : ℕ) (n : List ℕ) → columns s a (length n) ≡ n → holds s a n ≡ true
held s a [] e = refl
held s a (x ∷ n) e =
    let f : get_or s a 32 ∷ columns s (suc a) (length n) ≡ x ∷ n = sym (columns_first s a (length n)) ∙ e in
    rw (eq-eqb (get_or s a 32) x (cc)) (held s (suc a) n (cc))

nothing : (s : List ℕ) (a : ℕ) → columns s a 0 ≡ []
unfolding columns
nothing s a = refl

pub holding : (s : List ℕ) (a : ℕ) (n : List ℕ) → holds s a n ≡ true → columns s a (length n) ≡ n
holding s a [] e = nothing s a
holding s a (x ∷ n) e =
    let b = and_true (eqb (get_or s a 32) x) (holds s (suc a) n) e in
    columns_first s a (length n) ∙ (λ i. eqb-true (get_or s a 32) x b.0 i ∷ holding s (suc a) n b.1 i)

-- each name has w bytes
abbrev pub wide : ℕ → List (List ℕ) → Bool
wide w [] = true
wide w (n ∷ ns) = eqb (length n) w && wide w ns

module _ (s : List ℕ) (a w : ℕ) where
  place_next : (n : List ℕ) (ns : List (List ℕ)) → length n ≡ w → place_of s a ns ≡ placed (columns s a w) ns → Dec (columns s a w ≡ n) → (t : Bool) → holds s a n ≡ t
      → place_of s a (n ∷ ns) ≡ placed (columns s a w) (n ∷ ns)
  unfolding placed
  place_next n ns l ih (yes e) true h =
      let here : place_of s a (n ∷ ns) ≡ 0 = rw (h, place_of) refl in
      here ∙ sym (pick_yes (same (columns s a w) n) 0 (suc (placed (columns s a w) ns)) e)
  place_next n ns l ih (yes e) false h =
      let t = held s a n (rw l e) in
      let z : ◌≡◌ {A = ℕ} 0 1 = cc in absurd (omega arith)
  place_next n ns l ih (no e) true h = absurd (e (rw l at (holding s a n h)))
  place_next n ns l ih (no e) false h =
      let here : place_of s a (n ∷ ns) ≡ suc (place_of s a ns) = rw (h, place_of) refl in
      here ∙ ap suc ih ∙ sym (pick_no (same (columns s a w) n) 0 (suc (placed (columns s a w) ns)) e)

  pub place_is : (ns : List (List ℕ)) → T (wide w ns) → place_of s a ns ≡ placed (columns s a w) ns
  place_is [] t = unfold placed in refl
  place_is (n ∷ ns) t =
      place_next n ns (eqb→eq (length n) w (and_left (eqb (length n) w) (wide w ns) t)) (place_is ns (and_right (eqb (length n) w) (wide w ns) t)) (same (columns s a w) n) (holds s a n) refl

-- ---- what is found at a place

module _ (s : List ℕ) where
  pub placed_yes : (n : List ℕ) (ns : List (List ℕ)) → s ≡ n → placed s (n ∷ ns) ≡ 0
  unfolding placed
  placed_yes n ns e = pick_yes (same s n) 0 (suc (placed s ns)) e

  pub placed_no : (n : List ℕ) (ns : List (List ℕ)) → ¬ (s ≡ n) → placed s (n ∷ ns) ≡ suc (placed s ns)
  unfolding placed
  placed_no n ns e = pick_no (same s n) 0 (suc (placed s ns)) e

  placed_name : (ns : List (List ℕ)) → placed s ns < length ns → s ≡ get_or ns (placed s ns) []
  placed_name [] h = absurd (omega arith)
  placed_name (n ∷ ns) h = by (same s n) (placed_name ns)
    where
      by : Dec (s ≡ n) → (placed s ns < length ns → s ≡ get_or ns (placed s ns) []) → s ≡ get_or (n ∷ ns) (placed s (n ∷ ns)) []
      by (yes e) ih = rw (placed_yes n ns e) e
      by (no e) ih = let k = placed_no n ns e in rw (placed_no n ns e) (ih (omega arith))

  lookup_at : (ls : List Label) → placed s (map name ls) < length ls → lookup s ls ≡ some (get_or ls (placed s (map name ls)) version)
  unfolding lookup
  lookup_at [] h = absurd (omega arith)
  lookup_at (l ∷ ls) h = by (same s (name l)) (lookup_at ls)
    where
      by : Dec (s ≡ name l) → (placed s (map name ls) < length ls → lookup s ls ≡ some (get_or ls (placed s (map name ls)) version))
          → pick (same s (name l)) (some l) (lookup s ls) ≡ some (get_or (l ∷ ls) (placed s (name l ∷ map name ls)) version)
      by (yes e) ih = rw (placed_yes (name l) (map name ls) e) (pick_yes (same s (name l)) (some l) (lookup s ls) e)
      by (no e) ih =
          let k = placed_no (name l) (map name ls) e in
          rw (placed_no (name l) (map name ls) e) (pick_no (same s (name l)) (some l) (lookup s ls) e ∙ ih (omega arith))

  lookup_none : (ls : List Label) → length ls ≤ placed s (map name ls) → lookup s ls ≡ none
  unfolding lookup
  lookup_none [] h = refl
  lookup_none (l ∷ ls) h = by (same s (name l)) (lookup_none ls)
    where
      by : Dec (s ≡ name l) → (length ls ≤ placed s (map name ls) → lookup s ls ≡ none) → pick (same s (name l)) (some l) (lookup s ls) ≡ none
      by (yes e) ih = let k = placed_yes (name l) (map name ls) e in absurd (omega arith)
      by (no e) ih = let k = placed_no (name l) (map name ls) e in pick_no (same s (name l)) (some l) (lookup s ls) e ∙ ih (omega arith)

-- ---- a line's label

module _ (line : List ℕ) (fits : length line ≤ 80) where
  pub label_columns : columns line 60 20 ≡ drop 60 (pad line)
  unfolding pad
  label_columns =
      columns_padded line 60 20 (omega arith) fits ∙ take_all 20 (drop 60 (pad line)) (simp (length-drop, length-append, length-replicate) (omega arith))

  number_is : number_of line ≡ placed (drop 60 (pad line)) names
  unfolding number_of names name
  number_is = place_is line 60 20 names tt ∙ ap (λ (s : List ℕ). placed s names) label_columns

  pub label_known : number_of line < 32 → label (pad line) ≡ some (get_or labels (number_of line) version)
  unfolding label names
  label_known h = rw number_is (lookup_at (drop 60 (pad line)) labels (rw number_is at h))

  pub label_unknown : 32 ≤ number_of line → label (pad line) ≡ none
  unfolding label names
  label_unknown h = lookup_none (drop 60 (pad line)) labels (rw number_is at h)

  -- the k-th label stands there
  pub named : number_of line < 32 → drop 60 (pad line) ≡ get_or names (number_of line) []
  named h = rw number_is (placed_name (drop 60 (pad line)) names (unfold names in rw number_is at h))

  pub aux_number : drop 60 (pad line) ≡ name aux_end → number_of line ≡ 21
  unfolding placed pick same sames ℕ_discrete names name
  aux_number e = number_is ∙ ap (λ (s : List ℕ). placed s names) e

  pub version_number : drop 60 (pad line) ≡ name version → number_of line ≡ 0
  unfolding placed pick same sames ℕ_discrete names name
  version_number e = number_is ∙ ap (λ (s : List ℕ). placed s names) e
