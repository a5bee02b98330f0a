-- Whatever texts are read one after the other into the same areas, `ask` answers of what is kept as the map set of the last that was accepted.
use mathlib.Core.Path.{◌≡◌, refl, sym, ap, subst, ◌∙◌}
use mathlib.Core.Logic.{◌↔◌}
use mathlib.Core.List.{List}
use mathlib.Core.Option.{Option, none, some}
use Prim.Native.Nat.{ℕ}
use native.Mathlib.Omega.{arith}
use native.Mathlib.Decide.{ℕ_discrete}
use lib.IntN.{ℤ}
use Rattle.kit.specs.Answer.{Answer, ok, refused, pick}
use Rattle.kit.proofs.AnswerLaws.{pick_no}
use Rattle.kit.proofs.TruthLaws.{clash}
use Rattle.mapset.specs.MapSet.{MapSet}
use Rattle.mapset.specs.Described.{FullTexts}
use Rattle.reading.specs.declared.Why.{Why}
use Rattle.reading.specs.Read.{read}
use Rattle.reading.proofs.Exact.{made_read}
use Rattle.areas.specs.Flat.{areas}
use Rattle.areas.specs.Fronts.{fronts}
use Rattle.areas.specs.Formed.{Formed}
use Rattle.areas.specs.Valid.{needed, Valid}
use Rattle.areas.proofs.Made.{made_formed}
use Rattle.areas.proofs.ValidFormed.{valid_formed, needed_fronts}
use Rattle.read_needs.specs.Needs.{needed_and_lent, first_short}
use Rattle.read_judge.proofs.JudgeLaws.{one_to_ten}
use Rattle.read_outcome.specs.Outcome.{accepted, at_place, eleven, told_number, Outcome, with_room, outcome_of, outcome}
use Rattle.ask.specs.Ask.{Told, question, Answers}
use Rattle.join_ask.proofs.AskJoined.{all_needed, formed_valid}
use Rattle.join_ask.proofs.Fronts.{answers_same}
use Rattle.in_force.specs.InForce.{newer, latest, in_force}
use Rattle.in_force.specs.Functions.{Keeper, kept_of, Turns, stop, turn, of_keeper, Same}

-- ---- one text: it is refused and the areas stay, or it is accepted and stands in front
data Answered (s : Keeper) (t : List ℕ) : Outcome → Type 0 where
  at : (k i c : ℕ) (x : FullTexts) → ¬ (k ≡ 0) → Answered s t (record { told = at_place k i c; texts = x; areas = s.areas })
  short : (i n : ℕ) (x : FullTexts) → Answered s t (record { told = eleven i n; texts = x; areas = s.areas })
  takes : (m : MapSet) → read t ≡ ok m → Answered s t (record { told = accepted m.header; texts = m.texts; areas = fronts (areas m) s.areas })

module _ (s : Keeper) (t : List ℕ) where
  by_room : (m : MapSet) → read t ≡ ok m → (o : Option (ℕ × ℕ)) → Answered s t (with_room m s.areas o)
  unfolding with_room
  by_room m e none = takes m e
  by_room m e (some x) = short x.0 x.1 _

  by_read : (a : Answer Why MapSet) → read t ≡ a → Answered s t (outcome_of a s.areas)
  unfolding outcome_of
  by_read (ok m) e = by_room m e (first_short 1 (needed_and_lent (areas m) s.areas))
  by_read (refused w) e = at w.number w.line w.column _ (λ z. omega (arith, one_to_ten t w e, z))

-- ---- what is kept
record Keeps (s : Keeper) (m : MapSet) : Type 0 where
  formed : Formed m
  header : s.header ≡ m.header
  texts : s.texts ≡ m.texts
  lists : needed m.header s.areas ≡ areas m

-- the map set of the text o, if there is one; where there is none, what was there at first
data By (first s : Keeper) : Option (List ℕ) → Type 0 where
  at_first : Same first s → By first s none
  by_text : (t : List ℕ) (m : MapSet) → read t ≡ ok m → Keeps s m → By first s (some t)

stays : (first s : Keeper) (o : Option (List ℕ)) → By first s o → By first (record { header = s.header; texts = s.texts; areas = s.areas }) o
stays first s o (at_first k) = at_first (record { header = k.header; texts = k.texts; areas = k.areas })
stays first s o (by_text t m e k) = by_text t m e (record { formed = k.formed; header = k.header; texts = k.texts; lists = k.lists })

next : (first s : Keeper) (t : List ℕ) (o : Option (List ℕ)) (u : Outcome) → Answered s t u → By first s o → By first (kept_of s u) (newer o (t, told_number u.told))
unfolding pick ℕ_discrete
next first s t o u (at k i c x n) b = subst (By first _) (sym (pick_no (ℕ_discrete k 0) (some t) o n)) (stays first s o b)
next first s t o u (short i n x) b = stays first s o b
next first s t o u (takes m e) b =
    let f : Formed m = made_formed (made_read t e) in
    by_text t m e (record { formed = f; header = refl; texts = refl; lists = needed_fronts m f s.areas })

turns : (first s s' : Keeper) (xs : List (List ℕ × ℕ)) (o : Option (List ℕ)) → Turns s xs s' → By first s o → By first s' (latest o xs)
unfolding latest
turns first s s' xs o stop b = b
turns first s s' xs o (turn t r l {xs = ys} e c) b =
    turns first _ s' ys _ c (subst (λ (u : Outcome). By first (kept_of s u) (newer o (t, told_number u.told))) (sym e) (next first s t o (outcome t s.areas) (by_read s t (read t) refl) b))

of_some : (first s : Keeper) (o : Option (List ℕ)) (t : List ℕ) → By first s o → o ≡ some t → (m : MapSet) × ((read t ≡ ok m) × Keeps s m)
of_some first s none t b e = clash (cc)
of_some first s (some u) t (by_text v m f h) e = let p : t ≡ u = cc in (m, (ap read p ∙ f, h))

of_none : (first s : Keeper) (o : Option (List ℕ)) → By first s o → o ≡ none → Same first s
of_none first s none (at_first k) e = k
of_none first s (some u) b e = clash (cc)

-- what is kept answers as its map set
module _ (s : Keeper) (m : MapSet) (k : Keeps s m) (kind method layer : ℕ) (lat lon : ℤ) (second : ℕ) (r : Told) where
  own_valid : Valid m.header m.texts s.areas
  own_valid = (valid_formed m.header m.texts s.areas).1 (m, k.formed, refl, refl, sym k.lists)

  agree : needed m.header s.areas ≡ needed m.header (areas m)
  agree = k.lists ∙ all_needed m k.formed

  keeper_answers : Answers (of_keeper s kind method layer lat lon second) r ↔ Answers (question m.header m.texts (areas m) kind method layer lat lon second) r
  keeper_answers = (
    λ a. answers_same m.header m.texts s.areas (areas m) own_valid (formed_valid m k.formed) agree kind method layer lat lon second r
        (subst (λ q. Answers q r) (λ i. question (k.header i) (k.texts i) s.areas kind method layer lat lon second) a),
    λ a. subst (λ q. Answers q r) (sym (λ i. question (k.header i) (k.texts i) s.areas kind method layer lat lon second))
        (answers_same m.header m.texts (areas m) s.areas (formed_valid m k.formed) own_valid (sym agree) kind method layer lat lon second r a),
  )

module _ (s s' : Keeper) (xs : List (List ℕ × ℕ)) (c : Turns s xs s') where
  by_turns : By s s' (in_force xs)
  by_turns = turns s s s' xs none c (at_first (record { header = refl; texts = refl; areas = refl }))

  -- after any such calls `ask` answers what the map set of the last accepted text answers, and nothing else
  pub last_accepted_functions : (t : List ℕ) → in_force xs ≡ some t → (m : MapSet) × ((read t ≡ ok m) × ((kind method layer : ℕ) (lat lon : ℤ) (second : ℕ) (r : Told)
      → Answers (of_keeper s' kind method layer lat lon second) r ↔ Answers (question m.header m.texts (areas m) kind method layer lat lon second) r))
  last_accepted_functions t z = let (m, (e, k)) = of_some s s' (in_force xs) t by_turns z in (m, (e, keeper_answers s' m k))

  -- and where none was accepted, nothing that is kept is another
  pub none_accepted_functions : in_force xs ≡ none → Same s s'
  none_accepted_functions z = of_none s s' (in_force xs) by_turns z
