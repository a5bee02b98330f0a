-- Explaining as it crosses to other languages: a number, and two areas of the call's own, for the nodes and for the one that has no value.
use Rattle.std.specs.Prelude.{◌≡◌, List, [], ◌∷◌, ◌++◌, ℕ, ◌≤◌, ◌<◌, ℤ, pos, length, Ok, Err}
use Rattle.kit.specs.Answer.{All}
use Rattle.kit.specs.Lists.{front}
use Rattle.ask_nodes.specs.Units.{bare}
use Rattle.ask_nodes.specs.Value.{or_zero}
use Rattle.ask.specs.Ask.{Question, told_number}
use Rattle.ask_why.specs.Explain.{told, Explained, Explains}
use Rattle.ask_why.specs.declared.Needed.{Needed}
use Rattle.ask_why.specs.declared.Cause.{Cause}
use Rattle.ask_why.specs.declared.Cause.TheVariants as C
use Rattle.ask_why.specs.declared.Lacking.{Lacking}
use Rattle.ask_nodes.specs.declared.Value.TheVariants as V
use Rattle.ask_why.specs.declared.Unanswered.TheVariants as U
use Rattle.ask_why.specs.declared.Explanation.{Explanation}
use Rattle.c_answers.specs.Own.{too_short_two}

-- a node: map, layer, row, column, value in thousandths of its unit, weight; a filler is six zeros
abbrev pub node_numbers : Needed → List ℤ
node_numbers n = pos n.map ∷ pos n.layer ∷ pos n.row ∷ pos n.column ∷ or_zero (bare n.value) ∷ pos n.weight ∷ []

abbrev pub all_numbers : List Needed → List ℤ
all_numbers [] = []
all_numbers (n ∷ ns) = node_numbers n ++ all_numbers ns

-- the number of nodes, the common denominator, the value answered, eight nodes
abbrev pub numbers : Explanation → ℤ → List ℤ
numbers e v = pos e.count ∷ pos e.denominator ∷ v ∷ all_numbers e.nodes

abbrev pub told_nodes : Explanation → Explained → List ℤ
told_nodes e (Ok (V.Tecu v)) = numbers e v.0
told_nodes e (Ok (V.Km v)) = numbers e v.0
told_nodes e (Err n) = []

-- 1 map absent, 2 exponent out of range, 3 number out of range, 4 it is 9999
abbrev pub cause_number : Cause → ℕ
cause_number C.MapAbsent = 1
cause_number C.Exponent = 2
cause_number C.Number = 3
cause_number C.Is9999 = 4

-- the node without a value: map, layer, row, column, cause
abbrev pub lacking_numbers : Lacking → List ℕ
lacking_numbers l = l.map ∷ l.layer ∷ l.row ∷ l.column ∷ cause_number l.cause ∷ []

abbrev pub told_lacking : Explained → List ℕ
told_lacking (Ok v) = []
told_lacking (Err (U.Lacks l)) = lacking_numbers l
told_lacking (Err (U.Refused w)) = []

-- of the lengths of header, texts, nodes and lacking: 101, 102, or 103 for the nodes or the one that lacks
unfoldable pub explain_short : ℕ → ℕ → ℕ → ℕ → ℕ
explain_short h x n l = too_short_two h x n 51 l 5

-- the number answered, and what is then in the two areas
pub data ExplainCrosses (h : List ℤ) (x : List ℕ) (q : Question) (v : List ℤ) (l : List ℕ) : ℕ → List ℤ → List ℕ → Type 0 where
  short : (k : ℕ) → k ≡ explain_short (length h) (length x) (length v) (length l) → 1 ≤ k → ExplainCrosses h x q v l k v l
  answered : explain_short (length h) (length x) (length v) (length l) ≡ 0 → (e : Explanation) → Explains q e
      → ExplainCrosses h x q v l (told_number (told e.answer)) (front (told_nodes e e.answer) v) (front (told_lacking e.answer) l)

-- ---- eight nodes, and numbers that an i64 holds
abbrev pub SmallNode : Needed → Type 0
SmallNode n = (n.map < 9223372036854775808) × ((n.layer < 9223372036854775808) × ((n.row < 9223372036854775808) × ((n.column < 9223372036854775808) × (n.weight < 9223372036854775808))))

abbrev pub SmallNodes : List Needed → Type 0
SmallNodes ns = (length ns ≡ 8) × All SmallNode ns

abbrev pub Small : Explanation → Type 0
Small e = (e.count < 9223372036854775808) × ((e.denominator < 9223372036854775808) × SmallNodes e.nodes)
