-- An index and its answers as they cross, case by case.
use mathlib.Core.Path.{◌≡◌, refl, sym, ap, ◌∙◌}
use mathlib.Core.List.{List, [], ◌∷◌}
use mathlib.Core.Option.{Option, none, some}
use Prim.Native.Nat.{ℕ, ◌≤◌}
use native.Mathlib.Omega.{arith}
use lib.IntN.{ℤ}
use lib.ListN.{length}
use Rattle.std.specs.Prelude.{Result, Ok, Err}
use Rattle.kit.specs.Answer.{Answer, ok, refused}
use Rattle.kit.specs.Lists.{front}
use Rattle.mapset.specs.declared.Header.{Header}
use Rattle.mapset.specs.MapSet.{MapSet}
use Rattle.reading.specs.declared.Why.{Why}
use Rattle.reading.specs.Read.{read}
use Rattle.reading.proofs.Exact.{made_read}
use Rattle.areas.proofs.Made.{made_formed}
use Rattle.read_outcome.specs.Outcome.{accepted, told, told_number, told_place, texts_in}
use Rattle.read_outcome.specs.declared.Reason.{Reason}
use Rattle.read_outcome.specs.declared.ReadOut.{ReadOut}
use Rattle.c_answers.specs.Own.{too_short}
use Rattle.c_answers.proofs.OwnLaws.{unless_none, unless_short}
use Rattle.c_answers.specs.ReadExported.{told_header, told_texts, Small}
use Rattle.c_answers.proofs.ReadLaws.{in_years}
use Rattle.index.specs.Index.{Entries}
use Rattle.index_node.specs.Told as pointed
use Rattle.index_node.specs.Told.{Inside, Starts}
use Rattle.index_node.proofs.Once.{between_length}
use Rattle.index_node.specs.declared.Found.{Found}
use Rattle.index_node.specs.declared.Why.{Why as NoNode}
use Rattle.index_text.specs.Making.{with_room, made_of, made, comes}
use Rattle.c_index.specs.Crossed as crossed
use Rattle.c_index.specs.Crossed.{told_value, told_bounds, number_in, value_in, bounds_in, Ordered}
use Rattle.c_index.specs.IndexExported.{crossed as all_crossed, crosses, index_crossed}

-- ---- a reply

pub same_number : (t : List ℕ) (r : Result Found NoNode) → number_in r ≡ crossed.told_number (pointed.told t r)
same_number t (Ok f) = refl
same_number t (Err w) = refl

pub same_value : (t : List ℕ) (r : Result Found NoNode) → value_in r ≡ told_value (pointed.told t r)
same_value t (Ok f) = refl
same_value t (Err w) = refl

pub same_bounds : (t : List ℕ) (at : ℕ) (r : Result Found NoNode) → Inside t r → Starts at r → bounds_in r ≡ told_bounds at (pointed.told t r)
same_bounds t at (Ok f) i s = λ j. s j ∷ sym (between_length t f.start f.end i.0 i.1) j ∷ []
same_bounds t at (Err w) i s = refl

pub ordered : (t : List ℕ) (r : Result Found NoNode) → Inside t r → Ordered r
ordered t (Ok f) i = i.0
ordered t (Err w) i = tt

-- ---- the epochs of an accepted header are small

roomy : (m : MapSet) (t : List ℕ) (l : Entries) (s : Option (ℕ × ℕ)) {h : Header} → (with_room m t l s).told ≡ accepted h → m.header ≡ h
unfolding with_room
roomy m t l none e = cc
roomy m t l (some x) e = let z : ◌≡◌ {A = ℕ} 0 1 = cc in absurd (omega arith)

small_header : (t : List ℕ) (l : Entries) (a : Answer Why MapSet) → read t ≡ a → (h : Header) → (made_of a t l).told ≡ accepted h → Small (Ok h)
unfolding made_of
small_header t l (ok m) r h e = rw (roomy m t l _ e) at (in_years m (made_formed (made_read t r)))
small_header t l (refused w) r h e = let z : ◌≡◌ {A = ℕ} 0 1 = cc in absurd (omega arith)

pub small_epochs : (t : List ℕ) (l : Entries) (r : ReadOut) (l' : Entries) → comes r l' ≡ made t l → Small r.answer
small_epochs t l r l' e = by r.answer refl
  where
    by : (a : Result Header Reason) → r.answer ≡ a → Small a
    by (Ok h) q = small_header t l (read t) refl h (sym (ap (λ o. o.told) e) ∙ ap told q)
    by (Err w) q = tt

-- ---- the areas of the call's own, and the answer

module _ (t : List ℕ) (l : Entries) (h : List ℤ) (x p : List ℕ) where
  pub cross_short : {k : ℕ} → k ≡ too_short (length h) (length x) (length p) 2 → 1 ≤ k → all_crossed k l h x p ≡ index_crossed t l h x p
  unfolding index_crossed
  cross_short e a = ap (λ k. all_crossed k l h x p) e ∙ sym (unless_short _ (λ k. all_crossed k l h x p) (omega (arith, e, a)))

  module _ (n : too_short (length h) (length x) (length p) 2 ≡ 0) (r : ReadOut) (l' : Entries) (e : comes r l' ≡ made t l) where
    is_crossed : crosses (comes r l') h x p ≡ index_crossed t l h x p
    unfolding index_crossed
    is_crossed = ap (λ o. crosses o h x p) e ∙ sym (unless_none _ (λ k. all_crossed k l h x p) n)

    pub cross_answer : {k : ℕ} {h' : List ℤ} {x' p' : List ℕ} → k ≡ told_number (told r.answer) → h' ≡ front (told_header (told r.answer)) h
        → x' ≡ front (told_texts (told r.answer) (texts_in r)) x → p' ≡ front (told_place (told r.answer)) p → all_crossed k l' h' x' p' ≡ index_crossed t l h x p
    unfolding crosses
    cross_answer n a b c = (λ i. all_crossed (n i) l' (a i) (b i) (c i)) ∙ is_crossed
