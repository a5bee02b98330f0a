-- What was got of a header so far, and what a line of it does, in the words of `reading`.
use Rattle.std.specs.Prelude.{List, [], ◌∷◌, ℕ, zero, suc, length, get_or, set, ℤ, pos, Some, None, Result, Ok, Err, Option as Held}
use Rattle.std.proofs.Math.Option.{Option, some, none}
use Rattle.kit.specs.Answer.{Answer, ok, refused, bind, amap}
use Rattle.mapset.specs.declared.Version.{Version}
use Rattle.mapset.specs.declared.Header.{Header}
use Rattle.mapset.specs.declared.Texts.{Texts}
use Rattle.mapset.specs.Described.{FullTexts}
use Rattle.mapset.specs.Header.{Content, count, tenths, epoch, axis, program, mapping, observables, system, Said, words}
use Rattle.layout.specs.Labels.{content}
use Rattle.layout.specs.Layout.{Slots, Lines, Mode, mode}
use Rattle.reading.specs.declared.Fault.{Fault}
use Rattle.reading.specs.Head.{Turn, more, done, made, made_texts, head_step}
use Rattle.mapset.specs.Said.{axis_of}
use Rattle.head_said.specs.Records.{says}
use Rattle.head_said.specs.declared.Value.{Value}
use Rattle.head_state.specs.declared.State.{State}

-- ---- what was got

abbrev pub nil : Value
nil = record { number = 0; satellites = 0; second = 0; axis = axis_of (pos 0) (pos 0) (pos 0) }

-- any version record: times, model, grid and systems of a header do not ask which
abbrev pub any_version : Version
any_version = record { tenths = 0; kind = 0; code = 0 }

-- what the state holds for a record with the content k and these numbers
abbrev pub said : State → Content → Value → Said
said s program v = words (s.program ∷ s.agency ∷ s.date ∷ [])
said s mapping v = words (s.mapping ∷ [])
said s observables v = words (s.observables ∷ [])
said s (count low high) v = says (count low high) v
said s (tenths low high) v = says (tenths low high) v
said s epoch v = says epoch v
said s (axis l) v = says (axis l) v
said s system v = says system v

-- what f says of what is held
abbrev pub if_held : (Value → Said) → Held Value → Option Said
if_held f (Some v) = some (f v)
if_held f None = none

-- the numbers that are held: zeros where there are none
abbrev pub or_nil : Held Value → Value
or_nil (Some v) = v
or_nil None = nil

abbrev pub value_in : State → ℕ → Value
value_in s i = or_nil (get_or s.values i None)

unfoldable pub slot : State → ℕ → Option Said
slot s i = if_held (said s (content i)) (get_or s.values i None)

-- what f says of n places from the i-th on
abbrev pub places : {A : Type 0} → (ℕ → A) → ℕ → ℕ → List A
places f i zero = []
places f i (suc n) = f i ∷ places f (suc i) n

unfoldable pub slots_of : State → Slots
slots_of s = places (slot s) 0 22

abbrev pub texts_of : State → Texts
texts_of s = record { program = s.program; agency = s.agency; date = s.date; mapping = s.mapping; observables = s.observables }

-- a header's texts without its DESCRIPTION lines
abbrev pub five : FullTexts → Texts
five t = record { program = t.program; agency = t.agency; date = t.date; mapping = t.mapping; observables = t.observables }

-- ---- what a line does

-- on with the header and so many DESCRIPTION lines; or END OF HEADER, with the header record and its texts
pub data Went : Type 0 where
  went : Mode → ℤ → Slots → ℕ → Went
  ended : Header → Texts → Went

-- on with what was got so far
abbrev pub so_far : State → Went
so_far s = went (mode s.aux) s.exponent (slots_of s) s.descriptions

-- what a line tells that leaves the state s: the header record where it is END OF HEADER
abbrev pub told : Result (Held Header) Fault → State → Answer Fault Went
told (Ok None) s = ok (so_far s)
told (Ok (Some h)) s = ok (ended h (texts_of s))
told (Err f) s = refused f

abbrev pub told_kept : Result (Unit {0}) Fault → State → Answer Fault Went
told_kept (Ok u) s = ok (so_far s)
told_kept (Err f) s = refused f

-- the same of `reading`, under the version record c, with `got` and n DESCRIPTION lines got so far
abbrev pub gone : Version → Slots → ℕ → Turn → Went
gone c got n (more a e got' ds') = went a e got' (length ds')
gone c got n done = ended (made c got n) (five (made_texts got []))

-- a record that stands for the first time, at place i
abbrev pub with : State → ℕ → Said → Went
with s i y = went (mode s.aux) s.exponent (set (slots_of s) i (some y)) s.descriptions

unfoldable pub kept : State → ℕ → Answer Fault Said → Answer Fault Went
kept s i x = bind x (λ y. ok (with s i y))

-- what `reading` does with a row, with the DESCRIPTION lines ds got so far
unfoldable pub turned : State → Version → Lines → List ℕ → Answer Fault Turn
turned s c ds r = head_step c (mode s.aux) s.exponent (slots_of s) ds r

abbrev pub stepped : State → Version → Lines → List ℕ → Answer Fault Went
stepped s c ds r = amap (gone c (slots_of s) s.descriptions) (turned s c ds r)
