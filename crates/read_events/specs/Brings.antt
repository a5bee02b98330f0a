-- What a row brings and where it leads, as the code has it: by the events and turns of `areas`.
use Rattle.std.specs.Prelude.{◌≡◌, List, [], ◌∷◌, ℕ, ℤ}
use Rattle.mapset.specs.declared.Kind.TheVariants.{Tec}
use Rattle.reading.specs.Fields.{label}
use Rattle.areas.specs.Events as event
use Rattle.areas.specs.Scan.{Now, now, Turn, values_ahead, on_block, turn}
use Rattle.read_events.specs.declared.State.{State}
use Rattle.read_events.specs.declared.Brought.{Brought}
use Rattle.read_events.specs.declared.Event.{Event}
use Rattle.read_events.specs.declared.Event.TheVariants.{Nothing, Epoch, Marked, Block}

abbrev pub told : State → Now
told s = now s.kind s.number s.done s.exponent s.tecs

-- what an event stores, where zs are the values behind its row
abbrev pub tells : Event → List ℤ → List event.Event
tells Nothing zs = []
tells (Epoch i e) zs = event.epoch i e ∷ []
tells (Marked k i) zs = event.marked k i ∷ []
tells (Block k i b e) zs = event.block k i b (record { exponent = e; values = zs }) ∷ []

-- how many values come behind its row
abbrev pub due : ℕ → Event → ℕ
due C Nothing = 0
due C (Epoch i e) = 0
due C (Marked k i) = 0
due C (Block k i b e) = C

-- what is brought, with rs behind the row, as a turn of the scan
abbrev pub turned : ℕ → List (List ℕ) → Event → State → Turn
turned C rs ev s = record { events = tells ev (values_ahead C rs); next = told s; due = due C ev }

-- `Takes s x ev s'`: the row x, met in the state s, brings ev and leads to s'
abbrev pub Takes : State → List ℕ → Event → State → Type 0
Takes s x ev s' = (C : ℕ) (rs : List (List ℕ)) → turn C (told s) (label x) x rs ≡ turned C rs ev s'

-- a turn that no values follow
abbrev pub Goes : Turn → Brought → Type 0
Goes u r = (C : ℕ) (rs : List (List ℕ)) → u ≡ turned C rs r.event r.state

abbrev pub Opened : State → Brought → Type 0
Opened s r = (C : ℕ) (rs : List (List ℕ)) → on_block C (told s) rs ≡ turned C rs r.event r.state

-- after END OF HEADER
abbrev pub first_state : ℤ → State
first_state e = record { kind = Tec; number = 0; done = 0; exponent = e; tecs = 0 }
