-- The numbers of an explanation are small.
use mathlib.Core.Path.{◌≡◌, refl}
use mathlib.Core.Logic.{⊎_elim}
use mathlib.Core.List.{List, [], ◌∷◌, map}
use Prim.Native.Nat.{ℕ, ◌-◌, ◌≤◌, ◌<◌}
use native.Mathlib.Decide.{ℕ_discrete}
use native.Mathlib.Omega.{arith}
use lib.ListN.{length, replicate, length-append, length-replicate}
use Rattle.kit.specs.Answer.{All, pick}
use Rattle.kit.proofs.ListLaws.{all_append, all_replicate}
use Rattle.mapset.specs.Areas.{Sound}
use Rattle.ask_spans.proofs.TimeLaws.{shares_small}
use Rattle.ask_nodes.specs.declared.Weighed.{Weighed}
use Rattle.ask_sums.specs.Mean.{terms, weight}
use Rattle.ask_sums.proofs.SumLaws.{eight_nodes}
use Rattle.ask.specs.Sun.{in_time}
use Rattle.ask.specs.Ask.{Question, Told, tecu, km, epochs, asked, Answers}
use Rattle.ask.proofs.AskLaws.{steady, few_epochs, can_sum}
use Rattle.ask.proofs.ReachLaws.{maps_range}
use Rattle.ask.proofs.Standing.{Stands, Light, spread_stand}
use Rattle.ask_why.specs.Explain.{needed, listed, filler, places, told, Lists, ListsNothing, Beside, Explained, Explains}
use Rattle.ask_why.specs.declared.Needed.{Needed}
use Rattle.std.specs.Prelude.{Ok, Err}
use Rattle.ask_nodes.specs.declared.Value.TheVariants as V
use Rattle.ask_why.specs.declared.Unanswered.TheVariants as U
use Rattle.ask_why.specs.declared.Explanation.{Explanation}
use Rattle.ask_why.proofs.WhyLaws.{Opened, opened, length_listed}
use Rattle.ask_why.proofs.Shown.{lists_weight}
use Rattle.c_why.specs.ExplainExported.{SmallNode, Small}

-- no weight is larger than all together
each_weight : (q : Question) (k : ℕ) (ns : List Weighed) → weight (asked q ns) ≤ k → All (λ (n : Weighed). n.weight ≤ k) ns
unfolding terms weight
each_weight q k [] h = tt
each_weight q k (n ∷ ns) h = (omega (arith, h), each_weight q k ns (omega (arith, h)))

needed_length : (ns : List Weighed) → length (needed ns) ≤ length ns
unfolding needed pick
needed_length [] = omega arith
needed_length (n ∷ ns) = by (ℕ_discrete n.weight 0) (needed_length ns)
  where
    by : (d : Dec (n.weight ≡ 0)) → length (needed ns) ≤ length ns → length (pick d (needed ns) (n ∷ needed ns)) ≤ length (n ∷ ns)
    by (yes z) h = omega (arith, h)
    by (no z) h = omega (arith, h)

module _ (q : Question) (sound : Sound q.header q.texts q.areas) (layer : q.layer < 64) where
  abbrev Stand : Weighed → Type 0
  Stand n = Light q.header.grid q.header.times.maps n

  small_node : (n : Weighed) → Stands q.header.grid q.header.times.maps n → n.weight ≤ 64_800_000_000 → SmallNode (listed q n)
  small_node n s h =
      let l = sound.header.limits in
      let m = maps_range q sound in
      (omega (arith, s.map, m.1), (omega (arith, layer), (omega (arith, s.row, l.0), (omega (arith, s.column, l.1), omega (arith, h)))))

  small_nodes : (ns : List Weighed) → All Stand ns → All (λ (n : Weighed). n.weight ≤ 64_800_000_000) ns → All SmallNode (map (listed q) (needed ns))
  unfolding needed pick
  small_nodes [] s h = tt
  small_nodes (n ∷ ns) s h = by (ℕ_discrete n.weight 0) s.0 (small_nodes ns s.1 h.1)
    where
      by : (d : Dec (n.weight ≡ 0)) → Stand n → All SmallNode (map (listed q) (needed ns)) → All SmallNode (map (listed q) (pick d (needed ns) (n ∷ needed ns)))
      by (yes z) t a = a
      by (no z) t a = (⊎_elim (λ e. absurd (z e)) (λ k. small_node n k h.0) t, a)

fillers : (k : ℕ) → All SmallNode (replicate k filler)
fillers k = all_replicate SmallNode filler (omega arith, (omega arith, (omega arith, (omega arith, omega arith)))) k

eight : (ns : List Needed) → length ns ≤ 8 → length (places ns) ≡ 8
eight ns h = rw (length-append ns (replicate (8 - length ns) filler), length-replicate (8 - length ns) filler) (omega (arith, h))

small_nothing : (e : Explanation) → ListsNothing e → Small e
small_nothing e n = (omega (arith, n.count), (omega (arith, n.denominator), rw n.listed (refl, fillers 8)))

small_lists : (q : Question) (e : Explanation) (a : Told) → Opened q a → Lists q e → Small e
small_lists q e a o l =
    let w = l.weighs in
    let h = w.shares in
    let s = o.sound in
    let f = few_epochs q s in
    let k = shares_small (epochs q) (steady q s) q.second (in_time q.method) w.uses in
    let c = can_sum q s o.served h w.uses w.first w.second w.cells o.known o.inside.layer in
    let t : weight (asked q l.nodes) ≤ 64_800_000_000 = rw w.nodes c.weights in
    let p : All (Light q.header.grid q.header.times.maps) l.nodes =
    rw w.nodes (spread_stand q.header.grid q.header.times.maps q.method q.lat q.lon q.second (epochs q) h w.first w.second w.cells (rw f at k.2) (rw f at k.3)) in
    let y : q.layer < 64 = omega (arith, o.inside.layer, s.header.limits.2) in
    let n : length l.nodes ≡ 8 = rw w.nodes (eight_nodes h w.first w.second) in (
      omega (arith, l.count, needed_length l.nodes, n),
      (
        omega (arith, t, lists_weight q e s o.served l),
        rw l.listed (eight (map (listed q) (needed l.nodes)) (omega (arith, length_listed q (needed l.nodes), needed_length l.nodes, n)), all_append SmallNode (map (listed q) (needed l.nodes)) _ (small_nodes q s y l.nodes p (each_weight q 64_800_000_000 l.nodes t)) (fillers (8 - length (map (listed q) (needed l.nodes))))),
      ),
    )

small_by : (q : Question) (e : Explanation) (a : Explained) → Answers q (told a) → Beside q e a → Small e
small_by q e (Ok (V.Tecu v)) x b = small_lists q e (tecu v.0) (opened q (tecu v.0) x tt) b
small_by q e (Ok (V.Km v)) x b = small_lists q e (km v.0) (opened q (km v.0) x tt) b
small_by q e (Err (U.Lacks l)) x b = small_nothing e b.1
small_by q e (Err (U.Refused w)) x b = small_nothing e b.1

pub small : (q : Question) (e : Explanation) → Explains q e → Small e
small q e x = small_by q e e.answer x.answers x.beside
