-- A row of the header by what the code looks at.
use Rattle.std.specs.Prelude.{◌≡◌, List, [], ℕ, ◌+◌, ◌≤◌, length, get_or, Result, Ok, Err, Option as Held}
use Rattle.std.proofs.Math.Option.{Option, none, some}
use Rattle.std.proofs.Math.Decide.{ℕ_discrete, dec_lt}
use Rattle.kit.specs.Answer.{Answer, ok, refused, need, bind, amap}
use Rattle.mapset.specs.declared.Version.{Version}
use Rattle.mapset.specs.declared.Header.{Header}
use Rattle.mapset.specs.Described.{most_lines, lines_width}
use Rattle.mapset.specs.Lines.{lines_in, described}
use Rattle.mapset.specs.Header.{system as a_system, starred, Said}
use Rattle.mapset.specs.Decisions.{dimension?, limits?}
use Rattle.layout.specs.Labels.{exponent, content, letters, Label, version, description, comment, system, aux_start, aux_end, header_end, epoch, block, file_end, head, start, end}
use Rattle.layout.specs.Layout.{Slots, aux, mode, exponent?}
use Rattle.reading.specs.declared.Fault.{Fault}
use Rattle.reading.specs.Feed.{fault}
use Rattle.reading.specs.Fields.{fields}
use Rattle.reading.specs.Maps.{missing}
use Rattle.reading.specs.Head.{Turn, more, done, place, none?, complete?, made, made_texts, on_end, on_description}
use Rattle.head_said.specs.Records.{system_in, entry}
use Rattle.head_state.specs.Got.{slots_of, texts_of, five, Went, went, ended, gone, so_far, told, told_kept, kept, turned, stepped}
use Rattle.head_state.specs.declared.State.{State}
use Rattle.head_step.specs.declared.Action.{Action}
use Rattle.head_step.specs.declared.Action.TheVariants as A

-- END OF HEADER with its columns blank, and n DESCRIPTION lines: 9, 8, 7
unfoldable pub ended_in : Version → Slots → ℕ → Answer Fault Went
ended_in c got n =
    need (complete? starred got) missing
    (need (dimension? (made c got n).model.dimension (made c got n).grid.heights) (fault 8 0)
    (need (limits? (made c got n).times.maps (made c got n).grid) (fault 7 0)
    (ok (ended (made c got n) (five (made_texts got []))))))

abbrev pub told_end : Result Header Fault → State → Answer Fault Went
told_end (Ok h) s = ok (ended h (texts_of s))
told_end (Err f) s = refused f

-- a record at place i, which stands at most once
unfoldable pub fresh : State → ℕ → Answer Fault Said → Answer Fault Went
fresh s i x = need (none? (get_or (slots_of s) i none)) (fault 5 61) (kept s i x)

-- EXPONENT
unfoldable pub exponent_in : State → List ℕ → Answer Fault Went
exponent_in s r = bind (fields exponent r) (λ v. need (exponent? v.0) (fault 7 1) (ok (went (mode s.aux) v.0 (slots_of s) s.descriptions)))

-- SYS / #STA / #SAT, by the place of its letter
unfoldable pub system_at : State → List ℕ → Option ℕ → Answer Fault Went
system_at s r none = bind (system_in r) (λ v. refused (fault 7 6))
system_at s r (some j) = fresh s (15 + j) (entry a_system r)

unfoldable pub by_letter : State → List ℕ → Answer Fault Went
by_letter s r = system_at s r (place ℕ_discrete (get_or r 5 32) letters)

-- DESCRIPTION: a twenty-first is 5
unfoldable pub described_in : State → Answer Fault Went
described_in s = need (dec_lt s.descriptions most_lines) (fault 5 61) (ok (went (mode s.aux) s.exponent (slots_of s) (s.descriptions + 1)))

-- what is done at a label
abbrev pub action : Label → Action
action description = A.Description
action comment = A.Skipped
action exponent = A.Exponent
action (head i) = A.Record i
action system = A.System
action aux_start = A.AuxStart
action header_end = A.HeaderEnd
action version = A.Misplaced
action aux_end = A.Misplaced
action (start k) = A.Misplaced
action (end k) = A.Misplaced
action epoch = A.Misplaced
action block = A.Misplaced
action file_end = A.Misplaced

unfoldable pub acted : Action → State → Version → List ℕ → Answer Fault Went
acted A.Misplaced s c r = refused (fault 5 61)
acted A.Skipped s c r = ok (so_far s)
acted A.Exponent s c r = exponent_in s r
acted (A.Record i) s c r = fresh s i (entry (content i) r)
acted A.System s c r = by_letter s r
acted A.AuxStart s c r = ok (went aux s.exponent (slots_of s) s.descriptions)
acted A.HeaderEnd s c r = amap (gone c (slots_of s) s.descriptions) (on_end c (slots_of s) s.descriptions r)
acted A.Description s c r = described_in s

-- ---- the bytes of the DESCRIPTION lines

-- n lines stand in the bytes, and blanks behind them
pub record Holds (n : ℕ) (bs : List ℕ) : Type 0 where
  pub few : n ≤ most_lines
  pub whole : length bs ≡ lines_width
  pub tidy : described (lines_in n bs) ≡ bs

-- the bytes after a row
abbrev pub after : Answer Fault Turn → List ℕ → List ℕ
after (ok (more a e got ds)) bs = described ds
after (ok done) bs = bs
after (refused w) bs = bs

-- a DESCRIPTION with the columns r leaves the state s' and the bytes bs'
pub record Describes (s : State) (bs r : List ℕ) (x : Result (Unit {0}) Fault) (s' : State) (bs' : List ℕ) : Type 0 where
  pub goes : told_kept x s' ≡ described_in s
  pub lines : bs' ≡ after (on_description s.exponent (slots_of s) (lines_in s.descriptions bs) r) bs

-- the row r, with what it tells, the state and the bytes that it leaves
pub record Steps (s : State) (c : Version) (bs r : List ℕ) (x : Result (Held Header) Fault) (s' : State) (bs' : List ℕ) : Type 0 where
  pub goes : told x s' ≡ stepped s c (lines_in s.descriptions bs) r
  pub lines : bs' ≡ after (turned s c (lines_in s.descriptions bs) r) bs
