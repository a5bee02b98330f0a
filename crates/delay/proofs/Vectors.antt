-- Closed cases: L1, both limits and their neighbours, and what is no number in the band.
use mathlib.Core.Path.{◌≡◌, refl}
use mathlib.Core.Bool.{false}
use Prim.Native.Nat.{ℕ}
use lib.IntN.{ℤ, pos, negsuc}
use lib.Ieee.{Float, nan, inf, binary64, mul, div, le, of_int, of_bits, to_bits}
use Rattle.ask_nodes.specs.declared.MilliTecu.{MilliTecu}
use Rattle.delay.specs.Delay.{milli, given, refused, whole, tecu, metres, Delays, serves, refuses}

-- one TECU at L1 is about 0.162 m: 0.16237244751199473
pub one_at_l1 : Delays (milli (pos 1_000)) (whole 1_575_420_000) (given (whole 1_575_420_000) (whole 1) (of_bits binary64 0x3fc4_c89e_cfea_f177))
unfolding of_int mul div le of_bits
one_at_l1 = serves (tt, tt)

abbrev bits : ℤ → Float → ℕ
bits x f = to_bits binary64 (metres (milli x) f)

-- where another order of the steps gives other bits: by 1000 last, and by f twice
pub in_order : (bits (pos 1_001) (whole 1_575_420_000) ≡ 0x3fc4_cdf0_e417_fa68) × (bits (pos 5) (whole 1_575_420_000) ≡ 0x3f4a_9a64_e12c_ba31)
unfolding of_int mul div to_bits
in_order = (refl, refl)

-- signed 32 bits' least and largest
pub extremes : (bits (negsuc 2_147_483_647) (whole 1_000_000_000) ≡ 0xc12a_6937_d1fe_64f5) × (bits (pos 2_147_483_647) (whole 2_000_000_000) ≡ 0x410a_6937_d1c9_9286)
unfolding of_int mul div to_bits
extremes = (refl, refl)

pub nan_refused : (x : MilliTecu) → Delays x nan (refused 25)
unfolding of_int le
nan_refused x = refuses (λ b. b.0)

pub infinite_refused : (x : MilliTecu) → Delays x (inf false) (refused 25)
unfolding of_int le
infinite_refused x = refuses (λ b. b.1)

-- the floats next to each limit: served inside, refused outside
pub limits : (x : MilliTecu)
    → Delays x (of_bits binary64 0x41cd_cd64_ffff_ffff) (refused 25)
    × (Delays x (whole 1_000_000_000) (given (whole 1_000_000_000) (tecu x) (metres x (whole 1_000_000_000)))
    × (Delays x (whole 2_000_000_000) (given (whole 2_000_000_000) (tecu x) (metres x (whole 2_000_000_000)))
    × Delays x (of_bits binary64 0x41dd_cd65_0000_0001) (refused 25)))
unfolding of_int le of_bits
limits x = (refuses (λ b. b.0), (serves (tt, tt), (serves (tt, tt), refuses (λ b. b.1))))
