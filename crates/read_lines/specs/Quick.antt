-- What the fast tests promise: where they say yes, the slow ones do.
use Rattle.std.specs.Prelude.{◌≡◌, Bool, true, false, ℕ, zero, suc, ◌+◌, ◌≤◌, ◌<◌, List, length, get_or, drop}
use Rattle.read_lines.specs.Lines.{passing, not_lf?, printable?}

-- all 16 bytes are printable, if the test says so
abbrev pub Sixteen : Bool → List ℕ → Type 0
Sixteen true l = passing printable? l ≡ 16
Sixteen false l = Unit {0}

-- the first k bytes are printable
pub record Ahead (l : List ℕ) (k : ℕ) : Type 0 where
  pub within : k ≤ length l
  pub on : passing printable? l ≡ k + passing printable? (drop k l)

-- z bytes end a line of w bytes: one LF, or CR LF
abbrev pub Ending : List ℕ → ℕ → ℕ → Type 0
Ending t w zero = ⊥
Ending t w (suc zero) = get_or t w 0 ≡ 10
Ending t w (suc (suc zero)) = (suc w < length t) × ((get_or t w 0 ≡ 13) × (get_or t (suc w) 0 ≡ 10))
Ending t w (suc (suc (suc z))) = ⊥

-- the first 82 bytes of a text, or all of them
pub record Near (t : List ℕ) (m : ℕ) : Type 0 where
  pub within : m ≤ length t
  pub most : m ≤ 82
  pub all : m < 82 → m ≡ length t

-- e bytes stand before the first LF, if that or the end is near
pub record NearLf (t : List ℕ) (e : ℕ) : Type 0 where
  pub is : e < 82 → e ≡ passing not_lf? t
  pub far : 82 ≤ e → 82 ≤ passing not_lf? t
