-- What the code looks at: the blocks of a map, from where they stand in two areas.
use Rattle.std.specs.Prelude.{List, [], ◌∷◌, ◌++◌, map, ℕ, ◌+◌, ◌*◌, ◌≤◌, ◌<◌, ℤ, length, get_or, take, drop, replicate}
use Rattle.std.proofs.Math.Option.{Option, none}
use Rattle.kit.specs.Answer.{pick}
use Rattle.mapset.specs.Areas.{Present, present?}
use Rattle.areas.specs.Lists.{flat, tab}
use Rattle.ask_nodes.specs.Value.{kind_of}
use Rattle.ask_nodes.specs.Nodes.{plain}
use Rattle.week_tally.specs.Figures.{figures}
use Rattle.week_tally.specs.Rows.{row}

-- a block of C numbers for each exponent
unfoldable pub blocks_nodes : (C : ℕ) → (values exponents : List ℤ) → List (Option ℤ)
blocks_nodes C vs [] = []
blocks_nodes C vs (e ∷ es) = map (λ v. plain v e) (take C vs) ++ blocks_nodes C (drop C vs) es

-- map i of a kind with a mark: B blocks of C numbers; the kind's values and its exponents
unfoldable pub part_nodes : (k i B C mark : ℕ) → (values exponents : List ℤ) → List (Option ℤ)
part_nodes k i B C m vs es =
    pick (present? (kind_of k) m) (blocks_nodes C (drop (i * (B * C)) vs) (take B (drop (i * B) es))) (replicate (B * C) none)

-- all maps of a kind
abbrev pub parts_nodes : (k B C : ℕ) → (marks : List ℕ) → (values exponents : List ℤ) → List (Option ℤ)
parts_nodes k B C ms vs es = flat (tab 0 (length ms) (λ i. part_nodes k i B C (get_or ms i 0) vs es))

-- a row for each map, and one for the kind
abbrev pub part_row : (k B C : ℕ) → (marks : List ℕ) → (values exponents : List ℤ) → (map : ℕ) → List ℤ
part_row k B C ms vs es i = row (figures (part_nodes k i B C (get_or ms i 0) vs es))

unfoldable pub parts_rows : (k B C : ℕ) → (marks : List ℕ) → (values exponents : List ℤ) → List ℤ
parts_rows k B C ms vs es = flat (tab 0 (length ms) (part_row k B C ms vs es)) ++ row (figures (parts_nodes k B C ms vs es))

-- ---- what the areas have to hold for that to be looked at
pub record BlocksHold (C : ℕ) (vs es : List ℤ) : Type 0 where
  pub values : length es * C ≤ length vs
  pub nodes : length es * C ≤ 2_000_000

pub record MapHolds (k i B C mark : ℕ) (vs es : List ℤ) : Type 0 where
  pub map : i < 300
  pub blocks : B ≤ 64 * 361
  pub columns : C ≤ 721
  pub nodes : B * C ≤ 2_000_000
  pub values : Present (kind_of k) mark → i * (B * C) + B * C ≤ length vs
  pub exponents : i * B + B ≤ length es

pub record KindHolds (k B C : ℕ) (ms : List ℕ) (vs es : List ℤ) : Type 0 where
  pub maps : length ms ≤ 300
  pub blocks : B ≤ 64 * 361
  pub columns : C ≤ 721
  pub nodes : length ms * (B * C) ≤ 2_000_000
  pub values : (i : ℕ) → i < length ms → Present (kind_of k) (get_or ms i 0) → length ms * (B * C) ≤ length vs
  pub exponents : length ms * B ≤ length es
