use Rattle.std.proofs.Common.{◌≡◌, ℕ, ℤ, List, pos, ◌+◌, ◌-◌, ◌*◌, ◌≤◌, ◌<◌, length, take, drop, map, get_or, rules, arith, sym, ap, ◌∙◌, w32, SFits, to_z, of_z, length-drop}
use lib.Seq.{length-take-le}
use native.Mathlib.Nat.{mul-le-mul, le_refl}
use Rattle.std.proofs.lemmas.Int.{to_z-of_z}
use Rattle.ask_nodes.specs.Nodes.{plain}
use Rattle.week_tally.specs.Figures.{nodes_in, figures, joined}
use Rattle.week_tally.specs.declared.Tally.{Tally}
use Rattle.week_tally.proofs.FigureLaws.{joined_none, bounded_joined, nodes_joined, bounded_numbers, nodes_numbers}
use Rattle.week_set.specs.Parts.{BlocksHold}
use Rattle.week_set.proofs.LoopLaws.{blocks_next, blocks_end}
use Rattle.week_set.proofs.blocks_tally.Goals as goal

-- the block from a position on
abbrev numbers : (C : ℕ) → List ℤ → (at : ℕ) → List ℤ
numbers C vs at = take C (drop at vs)

abbrev here : (C : ℕ) → List ℤ → (at : ℕ) → ℤ → Tally
here C vs at e = figures (map (λ v. plain v e) (numbers C vs at))

here_is : (C : ℕ) (vs : List ℤ) (at : ℕ) (e : ℤ) {t : Tally} → SFits w32 e → t ≡ figures (map (λ v. plain v (to_z w32 (of_z w32 e))) (take (at + C - at) (drop at vs))) → t ≡ here C vs at e
here_is C vs at e f p = let s : at + C - at ≡ C = omega arith in (rw s at p) ∙ ap (here C vs at) (to_z-of_z w32 e f)

-- and that it is within what is held
module _ (C : ℕ) (vs es : List ℤ) (h : BlocksHold C vs es) (at j : ℕ) (p : at ≡ j * C) (l : j < length es) where
  room : j * C + C ≤ length es * C
  room = let k : j + 1 ≤ length es = omega arith in let m = mul-le-mul k (le_refl C) in omega arith

  nodes_here : (e : ℤ) → nodes_in (here C vs at e) ≡ C
  nodes_here e = nodes_numbers e (numbers C vs at) ∙ length-take-le C (drop at vs) (omega (arith, length-drop at vs, room, h.values))

pub loop-exponent-init : goal.loop-exponent-init
loop-exponent-init c = rw c.empty-t.ensures (omega arith, omega arith, omega arith, joined_none _)

pub join-t-requires : goal.join-t-requires
join-t-requires c =
    let a = c.args in
    let l = c.loop-exponent in
    let e = get_or a.exponents.now l.exponent-index (pos 0) in
    let r = room a.columns a.values.now a.exponents.now c.requires l.at l.exponent-index l.invariant.0 (omega arith) in
    let u = here_is a.columns a.values.now l.at e (search rules) c.tally_of.ensures in
    let n = nodes_here a.columns a.values.now a.exponents.now c.requires l.at l.exponent-index l.invariant.0 (omega arith) e in
    ((l.invariant.1, omega (arith, l.invariant.2, r, c.requires.nodes)), rw u (bounded_numbers e _, omega (arith, n, r, c.requires.nodes)))

pub loop-exponent-preserved : goal.loop-exponent-preserved
loop-exponent-preserved c =
    let a = c.args in
    let l = c.loop-exponent in
    let e = get_or a.exponents.now l.exponent-index (pos 0) in
    let h = here a.columns a.values.now l.at e in
    let u = here_is a.columns a.values.now l.at e (search rules) c.tally_of.ensures in
    let n = nodes_here a.columns a.values.now a.exponents.now c.requires l.at l.exponent-index l.invariant.0 (omega arith) e in
    let w : c.join-t.result ≡ joined l.t h = c.join-t.ensures ∙ ap (joined l.t) u in (
      omega (arith, l.invariant.0),
      rw w (bounded_joined l.t h l.invariant.1 (bounded_numbers e _)),
      rw w (omega (arith, nodes_joined l.t h, n, l.invariant.2)),
      rw w (blocks_next a.columns a.values.now a.exponents.now l.t l.at l.exponent-index (omega arith) ∙ l.invariant.3),
    )

pub returns : goal.returns
returns c =
    let a = c.args in
    let l = c.loop-exponent in
    sym (blocks_end a.columns a.values.now a.exponents.now l.t l.at l.exponent-index (omega arith)) ∙ l.invariant.3
