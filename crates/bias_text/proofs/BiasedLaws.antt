-- The answer, from what the scans say.
use mathlib.Core.Path.{◌≡◌, refl, sym, ap, ◌∙◌}
use mathlib.Core.List.{List, [], ◌∷◌}
use mathlib.Core.Option.{Option, none}
use Prim.Native.Nat.{ℕ, ◌*◌}
use native.Mathlib.Omega.{arith}
use lib.ListN.{length}
use Rattle.kit.specs.Answer.{ok, refused, bind}
use Rattle.kit.specs.Range.{Within}
use Rattle.reading.specs.declared.Why.{Why}
use Rattle.reading.specs.Read.{read}
use Rattle.read_needs.specs.Needs.{first_short}
use Rattle.read_needs.proofs.ShortLaws.{all_long}
use Rattle.read_outcome.specs.Outcome.{at_place}
use Rattle.biases.specs.Biases.{Biases, nothing}
use Rattle.biases.specs.Read.{gather, biases}
use Rattle.biases.proofs.Exact.{read_biases}
use Rattle.biases.proofs.Fine.{made_fine}
use Rattle.biases.specs.declared.Place.TheVariants.{Outside}
use Rattle.bias_scan.specs.Walk.{first}
use Rattle.bias_scan.specs.Judged.{Gives}
use Rattle.bias_fill.specs.Flat.{Lent, flat, in_front, of_satellites, of_stations, names_of}
use Rattle.bias_fill.specs.Filled.{told, stored, filled, Fits, Enough}
use Rattle.bias_fill.proofs.FilledLaws.{gathered_told, in_front_is}
use Rattle.bias_text.specs.Biased.{given, because, needed_and_lent, with_room, outcome_of, outcome, Maps}
use Rattle.bias_text.proofs.Numbers.{bias_number, fours_length, threes_length, names_length}

-- ---- the answer

module _ (t : List ℕ) (l : Lent) where
  pub maps_refused : (w : Why) → read t ≡ refused w → record { told = because (at_place w.number w.line w.column); areas = l } ≡ outcome t l
  unfolding outcome_of biases bind
  maps_refused w e = rw e refl

  pub maps_number : (w : Why) → read t ≡ refused w → Within 1 10 w.number
  unfolding biases bind
  maps_number w e = bias_number t w (rw e refl)

  module _ (m : Maps t) where
    is_gather : biases t ≡ gather nothing Outside (first t)
    unfolding biases bind
    is_gather = rw m.reads refl

    pub biases_refuse : (w : Why) → gather nothing Outside (first t) ≡ refused w → record { told = because (at_place w.number w.line w.column); areas = l } ≡ outcome t l
    unfolding outcome_of
    biases_refuse w e = sym (ap (λ x. outcome_of x l) (is_gather ∙ e))

    pub biases_number : (w : Why) → gather nothing Outside (first t) ≡ refused w → Within 1 10 w.number
    biases_number w e = bias_number t w (is_gather ∙ e)

    module _ (ns nt : ℕ) (g : Gives t ns nt) where
      abbrev b : Biases
      b = g.biases

      is_b : biases t ≡ ok b
      is_b = is_gather ∙ g.gathers

      fours : length (of_satellites b.satellites) ≡ 4 * ns
      fours = fours_length b.satellites ∙ ap (λ (k : ℕ). 4 * k) (sym g.satellites)

      threes : length (of_stations b.stations) ≡ 3 * nt
      threes = threes_length b.stations ∙ ap (λ (k : ℕ). 3 * k) (sym g.stations)

      twenties : length (names_of b.stations) ≡ 20 * nt
      twenties = names_length b.stations (made_fine (read_biases t is_b).1).1 ∙ ap (λ (k : ℕ). 20 * k) (sym g.stations)

      needs_are : first_short 1 ((4 * ns, length l.satellites) ∷ (3 * nt, length l.stations) ∷ (20 * nt, length l.names) ∷ []) ≡ first_short 1 (needed_and_lent (flat b) l)
      needs_are = λ i. first_short 1 ((sym fours i, length l.satellites) ∷ (sym threes i, length l.stations) ∷ (sym twenties i, length l.names) ∷ [])

      pub too_short : (o : Option (ℕ × ℕ)) → o ≡ first_short 1 ((4 * ns, length l.satellites) ∷ (3 * nt, length l.stations) ∷ (20 * nt, length l.names) ∷ []) → outcome t l ≡ with_room b l o
      unfolding outcome_of
      too_short o e = ap (λ x. outcome_of x l) is_b ∙ ap (with_room b l) (sym (e ∙ needs_are))

      -- where none is too short, each is long enough
      pub enough : none ≡ first_short 1 ((4 * ns, length l.satellites) ∷ (3 * nt, length l.stations) ∷ (20 * nt, length l.names) ∷ []) → Enough t l
      enough e =
          let z = all_long 1 _ (sym e) in
          let q = gathered_told (first t) nothing Outside b g.gathers in
          rw (← q)
          (record {
            satellites = omega (arith, fours, z.0);
            stations = omega (arith, threes, z.1.0);
            names = omega (arith, twenties, z.1.1.0);
          })

      pub stored_is : (l' : Lent) → none ≡ first_short 1 ((4 * ns, length l.satellites) ∷ (3 * nt, length l.stations) ∷ (20 * nt, length l.names) ∷ [])
          → l' ≡ filled t l → record { told = given ns nt; areas = l' } ≡ outcome t l
      unfolding with_room
      stored_is l' e f =
          let q = gathered_told (first t) nothing Outside b g.gathers in
          let h : Fits b 0 0 l = rw (← q) at (enough e) in
          let k : l' ≡ in_front (flat b) l = f ∙ ap (λ (c : Biases). stored c 0 0 l) (sym q) ∙ in_front_is b l h in
          (λ i. record { told = given (g.satellites i) (g.stations i); areas = k i }) ∙ sym (too_short none e)
