-- Kilometres answer kind 2 alone; so an answer to another kind is turned.
use mathlib.Core.Path.{◌≡◌, refl}
use Prim.Native.Nat.{ℕ, zero, suc, ◌<◌}
use native.Mathlib.Omega.{arith}
use lib.IntN.{ℤ}
use lib.Ieee.{Float}
use Rattle.kit.proofs.TruthLaws.{clash}
use Rattle.ask_nodes.specs.Value.{kind_of}
use Rattle.ask.specs.Ask as ask
use Rattle.ask.specs.Ask.{Question, in_unit, Guard, stop, go, Answers}
use Rattle.delay.specs.Delay.{ToldDelay}
use Rattle.ask_delay.specs.AskDelay.{AskDelays, refuses, serves, Turned}

-- kilometres are no refusal
passed : {P : Type 0} {n : ℕ} {R : ask.Told → Type 0} {v : ℤ} (a : ask.Told) → Guard P n R a → a ≡ ask.km v → P × R a
passed a (stop n) e = clash (cc)
passed a (go p r) e = (p, r)

km_unit : (k : ℕ) (v w : ℤ) → k < 3 → ask.km v ≡ in_unit (kind_of k) w → k ≡ 2
km_unit zero v w h e = clash (cc)
km_unit (suc zero) v w h e = clash (cc)
km_unit (suc (suc k)) v w h e = omega arith

pub km_kind : (q : Question) (v : ℤ) → Answers q (ask.km v) → q.kind ≡ 2
km_kind q v s =
    let known = passed _ s refl in
    let sound = passed _ known.1 refl in
    let served = passed _ sound.1 refl in
    let time = passed _ served.1 refl in
    let inside = passed _ time.1 refl in
    let mean = passed _ inside.1.1.1 refl in
    km_unit q.kind v mean.1.0 known.0.0 mean.1.1.1

pub turns : (q : Question) (f : Float) → ¬ (q.kind ≡ 2) → (b : ask.Told) → Answers q b → (a : ToldDelay) → Turned f b a → AskDelays q f a
turns q f k (ask.tecu x) s a d = serves k x s a d
turns q f k (ask.km x) s a e = absurd (k (km_kind q x s))
turns q f k (ask.refused n) s a e = rw e (refuses k n s)
