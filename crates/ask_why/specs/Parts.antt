-- What the parts of an explanation answer: the nodes one by one.
use Rattle.std.specs.Prelude.{Bool, true, false, List, [], ◌∷◌, ℕ, ◌+◌, ◌*◌, ◌≤◌, ℤ, pos, negsuc, get_or, set, replicate, Option as Maybe, Some, None, Ok, Err}
use Rattle.std.proofs.Math.Option.{Option, none, some}
use Rattle.std.proofs.Math.Decide.{ℕ_discrete}
use Rattle.kit.specs.Answer.{pick}
use Rattle.kit.specs.Integer.{between?}
use Rattle.mapset.specs.Areas.{present?}
use Rattle.mapset.specs.declared.Kind.{Kind}
use Rattle.ask_cells.specs.declared.Cell.{Cell}
use Rattle.ask_spans.specs.declared.Shares.{Shares}
use Rattle.ask_nodes.specs.Value.{kind_of, number_at, exponent_at, value}
use Rattle.ask_nodes.specs.Units.{in_node}
use Rattle.ask_nodes.specs.declared.Weighed.{Weighed}
use Rattle.ask_nodes.specs.declared.Shape.{Shape}
use Rattle.ask_nodes.specs.declared.Value.{Value}
use Rattle.ask_sums.specs.Mean.{spread}
use Rattle.ask_sums.specs.Sums.{Summable}
use Rattle.ask.specs.declared.Why.{Why}
use Rattle.ask.specs.declared.Why.TheVariants as W
use Rattle.ask.specs.Ask.{Asked}
use Rattle.ask_why.specs.Explain.{filler, Explained}
use Rattle.ask_why.specs.declared.Needed.{Needed}
use Rattle.ask_why.specs.declared.nodes.Listing.{Listing}
use Rattle.ask_why.specs.declared.Cause.{Cause}
use Rattle.ask_why.specs.declared.Cause.TheVariants as C
use Rattle.ask_why.specs.declared.Lacking.{Lacking}
use Rattle.ask_why.specs.declared.Unanswered.TheVariants as U
use Rattle.ask_why.specs.declared.Explanation.{Explanation}

-- two maps whose nodes can be listed
pub record Listable (values exponents : List ℤ) (marks : List ℕ) (s : Shape) (h : Shares) (first second : Cell) : Type 0 where
  pub summable : Summable values exponents marks s h first second
  pub span : h.early + h.late ≤ 21600

-- ---- a node of a listing
abbrev pub node_with : Weighed → ℕ → Maybe Value → Needed
node_with n layer v = record { map = n.map + 1; layer = layer; row = n.row; column = n.column; value = v; weight = n.weight }

abbrev pub put : Listing → Needed → Listing
put l n = record { count = l.count + 1; nodes = set l.nodes l.count n }

abbrev pub none_listed : Listing
none_listed = record { count = 0; nodes = replicate 8 filler }

-- ---- a node without a value
-- of a number under an exponent that is no value
unfoldable pub plain_cause : ℤ → ℤ → Cause
plain_cause v k = pick (between? (negsuc 2) (pos 0) k) (pick (between? (negsuc 9998) (pos 99999) v) C.Is9999 C.Number) C.Exponent

-- in a map with a mark
unfoldable pub cause_of : Kind → ℕ → ℤ → ℤ → Cause
cause_of kind mark v k = pick (present? kind mark) (plain_cause v k) C.MapAbsent

abbrev pub lack_with : Weighed → ℕ → Cause → Lacking
lack_with n layer c = record { map = n.map + 1; layer = layer; row = n.row; column = n.column; cause = c }

-- a node that has no value is the first found
abbrev pub found : Option ℤ → Lacking → Maybe Lacking
found none l = Some l
found (some v) l = None

abbrev pub or_else : Maybe Lacking → Maybe Lacking → Maybe Lacking
or_else (Some l) f = Some l
or_else None f = f

module _ (s : Shape) (vs ks : List ℤ) (ms : List ℕ) where
  unfoldable pub add : Listing → Weighed → Listing
  add l n = pick (ℕ_discrete n.weight 0) l (put l (node_with n s.layer (in_node (kind_of s.kind) (value s vs ks ms n))))

  unfoldable pub collect : Listing → List Weighed → Listing
  collect l [] = l
  collect l (n ∷ ns) = collect (add l n) ns

  unfoldable pub cause : Weighed → Cause
  cause n = cause_of (kind_of s.kind) (get_or ms n.map 0) (get_or vs (number_at s n) (pos 0)) (get_or ks (exponent_at s n) (pos 0))

  -- where it is needed
  unfoldable pub lacks : Weighed → Maybe Lacking
  lacks n = pick (ℕ_discrete n.weight 0) None (found (value s vs ks ms n) (lack_with n s.layer (cause n)))

  unfoldable pub first : List Weighed → Maybe Lacking
  first [] = None
  first (n ∷ ns) = or_else (lacks n) (first ns)

-- ---- the explanation of an answer

abbrev pub blank : Explained → Explanation
blank a = record { answer = a; count = 0; denominator = 0; nodes = replicate 8 filler }

abbrev pub with_nodes : Explained → ℕ → Listing → Explanation
with_nodes a d l = record { answer = a; count = l.count; denominator = d; nodes = l.nodes }

abbrev pub without : Why → Maybe Lacking → Explanation
without w (Some l) = blank (Err (U.Lacks l))
without w None = blank (Err (U.Refused w))

abbrev pub of_answer : Asked → Explained
of_answer (Ok v) = Ok v
of_answer (Err w) = Err (U.Refused w)

abbrev pub explained : Asked → ℕ → Listing → Maybe Lacking → Explanation
explained (Ok v) d l f = with_nodes (Ok v) d l
explained (Err w) d l f = without w f

abbrev pub denominator : Shares → Cell → ℕ
denominator h c = (h.early + h.late) * (c.tall * c.wide)

-- the nodes that an answer came from
abbrev pub explained_by : Asked → Shares → Cell → Cell → Shape → List ℤ → List ℤ → List ℕ → Explanation
explained_by a h c d s vs ks ms = explained a (denominator h c) (collect s vs ks ms none_listed (spread h c d)) (first s vs ks ms (spread h c d))

-- an answer that looked at nodes: a value, or 22
abbrev pub is_22 : Why → Bool
is_22 W.Unknown = false
is_22 W.Unsound = false
is_22 W.Unserved = false
is_22 W.OutOfTime = false
is_22 W.OutOfPlace = false
is_22 W.NoValue = true

abbrev pub has_nodes : Asked → Bool
has_nodes (Ok v) = true
has_nodes (Err w) = is_22 w
