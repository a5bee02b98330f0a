-- What a record of the header says, as a part of the header record; and the texts of none.
use Rattle.std.specs.Prelude.{replicate, true, false, List, [], ℕ, ℤ, pos}
use Rattle.mapset.specs.declared.Texts.{Texts}
use Rattle.std.proofs.Math.Option.{Option, none, some}
use Rattle.mapset.specs.declared.Axis.{Axis}
use Rattle.mapset.specs.declared.Counted.{Counted}
use Rattle.mapset.specs.declared.System.{System}
use Rattle.mapset.specs.Header.{Said, number, along, words, counts}

abbrev pub blank_texts : Texts
blank_texts = record { program = replicate 20 32; agency = replicate 20 32; date = replicate 20 32; mapping = replicate 4 32; observables = replicate 60 32 }

abbrev pub axis_of : ℤ → ℤ → ℤ → Axis
axis_of a b d = record { first = a; last = b; step = d }

abbrev pub number_in : Option Said → ℕ
number_in none = 0
number_in (some (number n)) = n
number_in (some (along a)) = 0
number_in (some (words ws)) = 0
number_in (some (counts a b)) = 0

abbrev pub axis_in : Option Said → Axis
axis_in none = axis_of (pos 0) (pos 0) (pos 0)
axis_in (some (number n)) = axis_of (pos 0) (pos 0) (pos 0)
axis_in (some (along a)) = a
axis_in (some (words ws)) = axis_of (pos 0) (pos 0) (pos 0)
axis_in (some (counts a b)) = axis_of (pos 0) (pos 0) (pos 0)

abbrev pub words_in : Option Said → List (List ℕ)
words_in none = []
words_in (some (number n)) = []
words_in (some (along a)) = []
words_in (some (words ws)) = ws
words_in (some (counts a b)) = []

abbrev pub counted_in : Option Said → Counted
counted_in none = record { stands = false; count = 0 }
counted_in (some (number n)) = record { stands = true; count = n }
counted_in (some (along a)) = record { stands = false; count = 0 }
counted_in (some (words ws)) = record { stands = false; count = 0 }
counted_in (some (counts a b)) = record { stands = false; count = 0 }

abbrev pub system_in : Option Said → System
system_in none = record { stands = false; stations = 0; satellites = 0 }
system_in (some (number n)) = record { stands = false; stations = 0; satellites = 0 }
system_in (some (along a)) = record { stands = false; stations = 0; satellites = 0 }
system_in (some (words ws)) = record { stands = false; stations = 0; satellites = 0 }
system_in (some (counts a b)) = record { stands = true; stations = a; satellites = b }
