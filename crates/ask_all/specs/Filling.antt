-- What the code asks for, and what it does with one answer.
use Rattle.std.specs.Prelude.{ℕ, ℤ, pos, get_or, set}
use Rattle.mapset.specs.Areas.{Areas}
use Rattle.mapset.specs.declared.Header.{Header}
use Rattle.ask_nodes.specs.declared.Shape.{Shape}
use Rattle.ask.specs.Ask.{Told, told_number}
use Rattle.ask.specs.Looked.{Askable}
use Rattle.ask_all.specs.AskAll.{Slots, slots, value_or}

-- an answer stored
abbrev pub stored : Told → ℕ → Slots → Slots
stored a k l = slots (set l.answers k (told_number a)) (set l.values k (value_or (get_or l.values k (pos 0)) a))

-- every place and second can be asked for
abbrev pub AllAskable : Header → Shape → Areas → ℕ → Type 0
AllAskable h s a method = (lat lon : ℤ) (second : ℕ) → Askable h s a method lat lon second
