-- 02, 'Why this number?': where an answer came from.
use Rattle.std.specs.Prelude.{◌≡◌, List, [], ◌∷◌, ◌++◌, map, ℕ, ◌+◌, ◌-◌, ◌*◌, ◌≤◌, ◌<◌, ℤ, pos, negsuc, nat_abs, length, get_or, replicate, Result, Ok, Err, None}
use Rattle.std.proofs.Math.Option.{Option}
use Rattle.std.proofs.Math.Decide.{ℕ_discrete}
use Rattle.kit.specs.Answer.{All, pick}
use Rattle.kit.specs.Integer.{Between}
use Rattle.mapset.specs.Areas.{Present}
use Rattle.mapset.specs.declared.Kind.{Kind}
use Rattle.ask_spans.specs.Time.{epoch}
use Rattle.ask_nodes.specs.Value.{kind_of, number_at, exponent_at, value}
use Rattle.ask_nodes.specs.Units.{in_node}
use Rattle.ask_nodes.specs.declared.Weighed.{Weighed}
use Rattle.ask_nodes.specs.declared.Value.{Value}
use Rattle.ask_sums.specs.Mean.{IsSome}
use Rattle.ask.specs.Sun.{in_time, unit_of}
use Rattle.ask.specs.Ask as ask
use Rattle.ask.specs.Ask.{Question, Told, refused, epochs, Weighs, area, shape, Answers, number}
use Rattle.ask_why.specs.declared.Needed.{Needed}
use Rattle.ask_why.specs.declared.Cause.{Cause}
use Rattle.ask_why.specs.declared.Cause.TheVariants as C
use Rattle.ask_why.specs.declared.Lacking.{Lacking}
use Rattle.ask_why.specs.declared.Unanswered.{Unanswered}
use Rattle.ask_why.specs.declared.Unanswered.TheVariants as U
use Rattle.ask_why.specs.declared.Explanation.{Explanation}

-- ---- each needed node, with its map, layer, row, column, value and weight

-- of the nodes that a question weighs, those whose weight is not zero
unfoldable pub needed : List Weighed → List Weighed
needed [] = []
needed (n ∷ ns) = pick (ℕ_discrete n.weight 0) (needed ns) (n ∷ needed ns)

-- a node's value
abbrev pub value_of : Question → Weighed → Option ℤ
value_of q n = value (shape q) (area (kind_of q.kind) q.areas) q.areas.exponents q.areas.marks n

-- a node as it is listed: maps count from 1, layers, rows and columns from 0; the value in the kind's unit
abbrev pub listed : Question → Weighed → Needed
listed q n = record { map = n.map + 1; layer = q.layer; row = n.row; column = n.column; value = in_node (kind_of q.kind) (value_of q n); weight = n.weight }

-- what stands in a place that no node takes
abbrev pub filler : Needed
filler = record { map = 0; layer = 0; row = 0; column = 0; value = None; weight = 0 }

-- eight places
abbrev pub places : List Needed → List Needed
places ns = ns ++ replicate (8 - length ns) filler

-- ---- the common denominator

-- |DLAT| times DLON in hundredths of a degree; DLON in 1/1200 of a degree for methods 2 and 3
abbrev pub cell_size : Question → ℕ
cell_size q = (10 * nat_abs q.header.grid.latitudes.step) * (unit_of q.method * nat_abs q.header.grid.longitudes.step)

-- for methods 1 and 2, before the last epoch, the gap in seconds
pub data Gap (q : Question) : ℕ → Type 0 where
  nearest : in_time q.method ≡ 0 → Gap q 1
  last : in_time q.method ≡ 1 → q.second ≡ q.header.times.last → Gap q 1
  between : (i : ℕ) → in_time q.method ≡ 1 → i + 1 < length (epochs q) → epoch (epochs q) i ≤ q.second → q.second < epoch (epochs q) (i + 1)
      → Gap q (epoch (epochs q) (i + 1) - epoch (epochs q) i)

abbrev pub Denominator : Question → ℕ → Type 0
Denominator q d = (g : ℕ) × (Gap q g × (d ≡ g * cell_size q))

-- ---- refusal 22

-- the cause that makes a node have no value; of two causes the absent map first, then the exponent, then the number
pub data Causes (kind : Kind) (mark : ℕ) (v k : ℤ) : Cause → Type 0 where
  absent : ¬ Present kind mark → Causes kind mark v k C.MapAbsent
  by_exponent : Present kind mark → ¬ Between (negsuc 2) (pos 0) k → Causes kind mark v k C.Exponent
  by_number : Present kind mark → Between (negsuc 2) (pos 0) k → ¬ Between (negsuc 9998) (pos 99999) v → Causes kind mark v k C.Number
  is_9999 : Present kind mark → Between (negsuc 2) (pos 0) k → v ≡ pos 9999 → Causes kind mark v k C.Is9999

abbrev pub CauseAt : Question → Weighed → Cause → Type 0
CauseAt q n =
    Causes (kind_of q.kind) (get_or q.areas.marks n.map 0) (get_or (area (kind_of q.kind) q.areas) (number_at (shape q) n) (pos 0))
    (get_or q.areas.exponents (exponent_at (shape q) n) (pos 0))

-- the first needed node without a value, with the cause
pub record FirstLacking (q : Question) (l : Lacking) : Type 0 where
  pub nodes : List Weighed
  pub weighs : Weighs q nodes
  pub before : List Weighed
  pub node : Weighed
  pub behind : List Weighed
  pub order : needed nodes ≡ before ++ (node ∷ behind)
  pub valued : All (λ n. IsSome (value_of q n)) before
  pub cause : CauseAt q node l.cause
  pub map : l.map ≡ node.map + 1
  pub layer : l.layer ≡ q.layer
  pub row : l.row ≡ node.row
  pub column : l.column ≡ node.column

-- ---- the answer is the question's own, and beside it stands where it came from

-- thousandths of a TECU or of a kilometre, or 01's number of a refusal
abbrev pub Explained : Type 0
Explained = Result Value Unanswered

abbrev pub told : Explained → Told
told (Ok v) = ask.told (Ok v)
told (Err (U.Lacks l)) = refused 22
told (Err (U.Refused w)) = refused (number w)

pub record Lists (q : Question) (e : Explanation) : Type 0 where
  pub nodes : List Weighed
  pub weighs : Weighs q nodes
  pub count : e.count ≡ length (needed nodes)
  pub denominator : Denominator q e.denominator
  pub listed : e.nodes ≡ places (map (listed q) (needed nodes))

pub record ListsNothing (e : Explanation) : Type 0 where
  pub count : e.count ≡ 0
  pub denominator : e.denominator ≡ 0
  pub listed : e.nodes ≡ places []

-- nodes where there is a value; 22 with its node, every other refusal alone
abbrev pub Beside : Question → Explanation → Explained → Type 0
Beside q e (Ok v) = Lists q e
Beside q e (Err (U.Lacks l)) = FirstLacking q l × ListsNothing e
Beside q e (Err (U.Refused w)) = (¬ (number w ≡ 22)) × ListsNothing e

pub record Explains (q : Question) (e : Explanation) : Type 0 where
  pub answers : Answers q (told e.answer)
  pub beside : Beside q e e.answer
