-- A whole number of turns of the longitude asked for changes nothing, in any method.
use mathlib.Core.Path.{◌≡◌}
use mathlib.Core.Logic.{inl, inr, ⊎_elim}
use Prim.Native.Nat.{ℕ, zero, suc}
use native.Mathlib.Omega.{arith}
use lib.IntN.{ℤ, pos, neg_ℤ, ◌+ℤ◌, ◌-ℤ◌, ◌*ℤ◌}
use Rattle.kit.proofs.Parts.{add_parts, scale_up, scale_dn, eq_parts, neg_up, neg_dn}
use Rattle.mapset.specs.declared.Grid.{Grid}
use Rattle.ask_cells.proofs.EarthLaws.{whole_turns}
use Rattle.ask.specs.Sun.{moved, CellAt}
use Rattle.ask.specs.Ask.{Question, Told, stop, go, Inside, Blended, Answers}
use Rattle.ask.proofs.Once.{answers_once}
use Rattle.ask_cells.specs.declared.Cell.{Cell}

-- the same question k turns to the east
abbrev east_by : ℤ → Question → Question
east_by k q =
    record { header = q.header; texts = q.texts; areas = q.areas; kind = q.kind; method = q.method; layer = q.layer; lat = q.lat; lon = q.lon +ℤ pos 36000 *ℤ k; second = q.second }

-- the moved longitude turns with it
moved_turns : (lon k : ℤ) (t e : ℕ) → moved (lon +ℤ pos 36000 *ℤ k) t e ≡ moved lon t e +ℤ pos 432000 *ℤ k
moved_turns lon k t e =
    let d : ℤ = pos 5 *ℤ (pos t -ℤ pos e) in
    let l : ℤ = lon +ℤ pos 36000 *ℤ k in
    eq_parts (moved l t e) (moved lon t e +ℤ pos 432000 *ℤ k)
    (omega (
      arith,
      add_parts (pos 12 *ℤ l) d,
      scale_up 12 l,
      scale_dn 12 l,
      add_parts lon (pos 36000 *ℤ k),
      scale_up 36000 k,
      scale_dn 36000 k,
      add_parts (moved lon t e) (pos 432000 *ℤ k),
      add_parts (pos 12 *ℤ lon) d,
      scale_up 12 lon,
      scale_dn 12 lon,
      scale_up 432000 k,
      scale_dn 432000 k,
    ))

cell_turns : (m : ℕ) (g : Grid) (lat lon k : ℤ) (t e : ℕ) (c : Cell) → CellAt m g lat lon t e c → CellAt m g lat (lon +ℤ pos 36000 *ℤ k) t e c
cell_turns zero g lat lon k t e c i = whole_turns 10 g lat lon k c i
cell_turns (suc zero) g lat lon k t e c i = whole_turns 10 g lat lon k c i
cell_turns (suc (suc m)) g lat lon k t e c i = rw (moved_turns lon k t e) (whole_turns 120 g lat (moved lon t e) k c i)

-- there and back
turns_back : (lon k : ℤ) → (lon +ℤ pos 36000 *ℤ k) +ℤ pos 36000 *ℤ neg_ℤ k ≡ lon
turns_back lon k =
    let l : ℤ = lon +ℤ pos 36000 *ℤ k in
    eq_parts (l +ℤ pos 36000 *ℤ neg_ℤ k) lon (omega (arith, add_parts l (pos 36000 *ℤ neg_ℤ k), scale_up 36000 (neg_ℤ k), scale_dn 36000 (neg_ℤ k), neg_up k, neg_dn k, add_parts lon (pos 36000 *ℤ k), scale_up 36000 k, scale_dn 36000 k))

module _ (q : Question) (k : ℤ) where
  inside_turns : Inside q → Inside (east_by k q)
  inside_turns i = record { layer = i.layer; cell = i.cell; place = whole_turns 10 q.header.grid q.lat q.lon k i.cell i.place }

  inside_back : Inside (east_by k q) → Inside q
  inside_back i = record { layer = i.layer; cell = i.cell; place = rw (turns_back q.lon k) at (whole_turns 10 q.header.grid q.lat (q.lon +ℤ pos 36000 *ℤ k) (neg_ℤ k) i.cell i.place) }

  blended_turns : (a : Told) → Blended q a → Blended (east_by k q) a
  blended_turns a (ns, (w, g)) = (
    ns,
    (
      record {
        shares = w.shares;
        uses = w.uses;
        first = w.first;
        second = w.second;
        cells = record {
          first_in = cell_turns q.method q.header.grid q.lat q.lon k q.second _ w.first w.cells.first_in;
          second_in = ⊎_elim inl (λ z. inr (z.0, cell_turns q.method q.header.grid q.lat q.lon k q.second _ w.second z.1)) w.cells.second_in;
        };
        nodes = w.nodes;
      },
      g,
    ),
  )

  answers_turn : (a : Told) → Answers q a → Answers (east_by k q) a
  answers_turn a (stop n) = stop n
  answers_turn a (go known (stop n)) = go known (stop n)
  answers_turn a (go known (go sound (stop n))) = go known (go sound (stop n))
  answers_turn a (go known (go sound (go served (stop n)))) = go known (go sound (go served (stop n)))
  answers_turn a (go known (go sound (go served (go time (stop n))))) = go known (go sound (go served (go time (stop (λ i. n (inside_back i))))))
  answers_turn a (go known (go sound (go served (go time (go inside b))))) = go known (go sound (go served (go time (go (inside_turns inside) (blended_turns a b)))))

  pub whole_turn : (a b : Told) → Answers q a → Answers (east_by k q) b → a ≡ b
  whole_turn a b x y = answers_once (east_by k q) a b (answers_turn a x) y
