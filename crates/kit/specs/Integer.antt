-- Integers from low to high; and decisions on integers that compute.
use Rattle.std.specs.Prelude.{◌≡◌, Bool, true, false, ℕ, T, ℤ, pos, negsuc, ◌≤ℤ◌, ◌<ℤ◌, suc}
use Rattle.std.proofs.Common.{ap, arith}
use Rattle.std.proofs.Math.Decide.{ℕ_discrete}
use Rattle.std.specs.Int.Signed.{lt_z, le_z}

abbrev pub up : ℤ → ℕ
up (pos n) = n
up (negsuc n) = 0

abbrev pub dn : ℤ → ℕ
dn (pos n) = 0
dn (negsuc n) = suc n

unfoldable pub int? : (a b : ℤ) → Dec (a ≡ b)
int? (pos m) (pos n) = go (ℕ_discrete m n)
  where
    go : Dec (m ≡ n) → Dec (pos m ≡ pos n)
    go (yes p) = yes (ap pos p)
    go (no k) = no (λ e. k (cc))
int? (pos m) (negsuc n) = no (λ e. let z : ◌≡◌ {A = ℕ} 0 1 = cc in omega arith)
int? (negsuc m) (pos n) = no (λ e. let z : ◌≡◌ {A = ℕ} 0 1 = cc in omega arith)
int? (negsuc m) (negsuc n) = go (ℕ_discrete m n)
  where
    go : Dec (m ≡ n) → Dec (negsuc m ≡ negsuc n)
    go (yes p) = yes (ap negsuc p)
    go (no k) = no (λ e. k (cc))

unfoldable pub le? : (a b : ℤ) → Dec (a ≤ℤ b)
le? a b = go (le_z a b) (λ h. h.le) (λ t. record { le = t })
  where
    go : (t : Bool) → (a ≤ℤ b → T t) → (T t → a ≤ℤ b) → Dec (a ≤ℤ b)
    go true f g = yes (g tt)
    go false f g = no f

unfoldable pub lt? : (a b : ℤ) → Dec (a <ℤ b)
lt? a b = go (lt_z a b) (λ h. h.lt) (λ t. record { lt = t })
  where
    go : (t : Bool) → (a <ℤ b → T t) → (T t → a <ℤ b) → Dec (a <ℤ b)
    go true f g = yes (g tt)
    go false f g = no f

-- x is from low to high
pub record Between (low high x : ℤ) : Type 0 where
  pub from : low ≤ℤ x
  pub to : x ≤ℤ high

unfoldable pub between? : (low high x : ℤ) → Dec (Between low high x)
between? low high x = go (le? low x) (le? x high)
  where
    go : Dec (low ≤ℤ x) → Dec (x ≤ℤ high) → Dec (Between low high x)
    go (yes p) (yes q) = yes (record { from = p; to = q })
    go (yes p) (no n) = no (λ b. n b.to)
    go (no n) q = no (λ b. n b.from)
