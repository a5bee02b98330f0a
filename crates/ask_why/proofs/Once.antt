-- No second explanation fits.
use mathlib.Core.Path.{◌≡◌, refl, sym, ap, ◌∙◌}
use mathlib.Core.List.{List, [], ◌∷◌, ◌++◌, map}
use mathlib.Core.Option.{Option, none}
use Prim.Native.Nat.{ℕ, ◌+◌, ◌-◌, ◌*◌}
use native.Mathlib.Omega.{arith}
use lib.IntN.{ℤ}
use lib.ListN.{length}
use Rattle.kit.specs.Answer.{All}
use Rattle.mapset.specs.Areas.{Sound}
use Rattle.ask_spans.specs.Time.{epoch}
use Rattle.ask_spans.specs.Time as time
use Rattle.ask_spans.specs.declared.Shares.{Shares}
use Rattle.ask_spans.proofs.TimeLaws.{uses_once}
use Rattle.ask_nodes.specs.Value.{value}
use Rattle.ask_nodes.specs.declared.Weighed.{Weighed}
use Rattle.ask_sums.specs.Mean.{IsSome}
use Rattle.ask.specs.Ask.{Question, tecu, km, refused, epochs, Answers}
use Rattle.ask.specs.Sun.{in_time}
use Rattle.ask.proofs.AskLaws.{steady, epoch_last}
use Rattle.ask.proofs.Once.{weighs_once, answers_once, number_once}
use Rattle.ask_why.specs.Explain.{needed, value_of, listed, places, cell_size, Gap, nearest, last, between, Denominator, CauseAt, FirstLacking, told, Lists, ListsNothing, Beside, Explains, Explained}
use Rattle.ask_why.specs.declared.Cause.{Cause}
use Rattle.ask.specs.declared.Why.{Why}
use Rattle.ask_why.specs.declared.Lacking.{Lacking}
use Rattle.std.specs.Prelude.{Ok, Err}
use Rattle.ask_nodes.specs.declared.Value.TheVariants as V
use Rattle.ask_why.specs.declared.Unanswered.TheVariants as U
use Rattle.ask_why.specs.declared.Explanation.{Explanation}
use Rattle.ask_why.proofs.NodeList.{no_worth, cause_once}
use Rattle.ask_why.proofs.WhyLaws.{opened}

-- the first of a list that P does not hold of is one
first_once : (P : Weighed → Type 0) (b c : List Weighed) (n m : Weighed) (x y : List Weighed) → All P b → ¬ P n → All P c → ¬ P m → b ++ (n ∷ x) ≡ c ++ (m ∷ y) → n ≡ m
first_once P [] [] n m x y p h q k e = cc
first_once P [] (z ∷ c) n m x y p h q k e = let s : n ≡ z = cc in absurd (h (rw s q.0))
first_once P (z ∷ b) [] n m x y p h q k e = let s : m ≡ z = cc in absurd (k (rw s p.0))
first_once P (z ∷ b) (w ∷ c) n m x y p h q k e = first_once P b c n m x y p.1 h q.1 k (cc)

pub no_value : (o : Option ℤ) → o ≡ none → ¬ IsSome o
no_value o e i = rw e at i

-- a node with a cause has no value
pub lacks_value : (q : Question) (n : Weighed) (c : Cause) → CauseAt q n c → value_of q n ≡ none
unfolding value
lacks_value q n c x = no_worth _ _ _ _ c x

module _ (q : Question) (sound : Sound q.header q.texts q.areas) where
  -- two maps that a second falls between are one pair
  gap_between : (i j : ℕ) → (x : time.Uses (epochs q) q.second (in_time q.method) (time.shared i (epoch (epochs q) (i + 1) - q.second) (q.second - epoch (epochs q) i)))
      → (y : time.Uses (epochs q) q.second (in_time q.method) (time.shared j (epoch (epochs q) (j + 1) - q.second) (q.second - epoch (epochs q) j)))
      → (epoch (epochs q) (i + 1) - q.second) + (q.second - epoch (epochs q) i) ≡ (epoch (epochs q) (j + 1) - q.second) + (q.second - epoch (epochs q) j)
  gap_between i j x y = ap (λ (h : Shares). h.early + h.late) (uses_once (epochs q) (steady q sound) q.second (in_time q.method) x y)

  gap_once : {g k : ℕ} → Gap q g → Gap q k → g ≡ k
  gap_once (nearest a) (nearest b) = refl
  gap_once (nearest a) (last b e) = refl
  gap_once (nearest a) (between j b l p r) = absurd (omega (arith, a, b))
  gap_once (last a e) (nearest b) = refl
  gap_once (last a e) (last b f) = refl
  gap_once (last a e) (between j b l p r) = absurd (omega (arith, e, r, epoch_last q sound (j + 1) l))
  gap_once (between i a l p r) (nearest b) = absurd (omega (arith, a, b))
  gap_once (between i a l p r) (last b e) = absurd (omega (arith, e, r, epoch_last q sound (i + 1) l))
  gap_once (between i a l p r) (between j b m s t) = omega (arith, p, r, s, t, gap_between i j (time.between i a l p r) (time.between j b m s t))

  pub denominator_once : (d e : ℕ) → Denominator q d → Denominator q e → d ≡ e
  denominator_once d e (g, (x, p)) (k, (y, r)) = p ∙ ap (λ (z : ℕ). z * cell_size q) (gap_once x y) ∙ sym r

  node_once : (l m : Lacking) (x : FirstLacking q l) (y : FirstLacking q m) → x.node ≡ y.node
  node_once l m x y =
      let e = ap needed (weighs_once q sound x.nodes y.nodes x.weighs y.weighs) in
      first_once (λ n. IsSome (value_of q n)) x.before y.before x.node y.node x.behind y.behind x.valued (no_value _ (lacks_value q x.node l.cause x.cause)) y.valued (no_value _ (lacks_value q y.node m.cause y.cause))
      (sym x.order ∙ e ∙ y.order)

  lacking_once : (l m : Lacking) → FirstLacking q l → FirstLacking q m → l ≡ m
  lacking_once l m x y =
      let n = node_once l m x y in
      let c : CauseAt q y.node l.cause = rw n at x.cause in
      let a : l.map ≡ m.map = x.map ∙ ap (λ (w : Weighed). w.map + 1) n ∙ sym y.map in
      let b : l.layer ≡ m.layer = x.layer ∙ sym y.layer in
      let r : l.row ≡ m.row = x.row ∙ ap (λ (w : Weighed). w.row) n ∙ sym y.row in
      let k : l.column ≡ m.column = x.column ∙ ap (λ (w : Weighed). w.column) n ∙ sym y.column in
      let z : l.cause ≡ m.cause = cause_once _ _ _ _ l.cause m.cause c y.cause in
      λ i. record { map = a i; layer = b i; row = r i; column = k i; cause = z i }

-- beside the answer
abbrev Same : Explanation → Explanation → Type 0
Same e f = (e.count ≡ f.count) × ((e.denominator ≡ f.denominator) × (e.nodes ≡ f.nodes))

lists_once : (q : Question) → Sound q.header q.texts q.areas → (e f : Explanation) → Lists q e → Lists q f → Same e f
lists_once q sound e f x y =
    let n = ap needed (weighs_once q sound x.nodes y.nodes x.weighs y.weighs) in (
      x.count ∙ ap (λ (l : List Weighed). length l) n ∙ sym y.count,
      (
        denominator_once q sound e.denominator f.denominator x.denominator y.denominator,
        x.listed ∙ ap (λ (l : List Weighed). places (map (listed q) l)) n ∙ sym y.listed,
      ),
    )

nothing_once : (e f : Explanation) → ListsNothing e → ListsNothing f → Same e f
nothing_once e f x y = (x.count ∙ sym y.count, (x.denominator ∙ sym y.denominator, x.listed ∙ sym y.listed))

both : (q : Question) (e f : Explanation) (a b : Explained) → Answers q (told a) → told a ≡ told b → Beside q e a → Beside q f b → (a ≡ b) × Same e f
both q e f (Ok (V.Tecu v)) (Ok (V.Tecu w)) x p s t = (let z : v.0 ≡ w.0 = cc in λ i. Ok (V.Tecu (record { 0 = z i })), lists_once q (opened q (tecu v.0) x tt).sound e f s t)
both q e f (Ok (V.Tecu v)) (Ok (V.Km w)) x p s t = absurd (let z : ◌≡◌ {A = ℕ} 0 1 = cc in omega arith)
both q e f (Ok (V.Tecu v)) (Err (U.Lacks m)) x p s t = absurd (let z : ◌≡◌ {A = ℕ} 0 1 = cc in omega arith)
both q e f (Ok (V.Tecu v)) (Err (U.Refused w)) x p s t = absurd (let z : ◌≡◌ {A = ℕ} 0 1 = cc in omega arith)
both q e f (Ok (V.Km v)) (Ok (V.Tecu w)) x p s t = absurd (let z : ◌≡◌ {A = ℕ} 0 1 = cc in omega arith)
both q e f (Ok (V.Km v)) (Ok (V.Km w)) x p s t = (let z : v.0 ≡ w.0 = cc in λ i. Ok (V.Km (record { 0 = z i })), lists_once q (opened q (km v.0) x tt).sound e f s t)
both q e f (Ok (V.Km v)) (Err (U.Lacks m)) x p s t = absurd (let z : ◌≡◌ {A = ℕ} 0 1 = cc in omega arith)
both q e f (Ok (V.Km v)) (Err (U.Refused w)) x p s t = absurd (let z : ◌≡◌ {A = ℕ} 0 1 = cc in omega arith)
both q e f (Err (U.Lacks l)) (Ok (V.Tecu w)) x p s t = absurd (let z : ◌≡◌ {A = ℕ} 0 1 = cc in omega arith)
both q e f (Err (U.Lacks l)) (Ok (V.Km w)) x p s t = absurd (let z : ◌≡◌ {A = ℕ} 0 1 = cc in omega arith)
both q e f (Err (U.Lacks l)) (Err (U.Lacks m)) x p s t = (ap (λ (l : Lacking). Err (U.Lacks l)) (lacking_once q (opened q (refused 22) x refl).sound l m s.0 t.0), nothing_once e f s.1 t.1)
both q e f (Err (U.Lacks l)) (Err (U.Refused w)) x p s t = absurd (t.0 (cc))
both q e f (Err (U.Refused v)) (Ok (V.Tecu w)) x p s t = absurd (let z : ◌≡◌ {A = ℕ} 0 1 = cc in omega arith)
both q e f (Err (U.Refused v)) (Ok (V.Km w)) x p s t = absurd (let z : ◌≡◌ {A = ℕ} 0 1 = cc in omega arith)
both q e f (Err (U.Refused v)) (Err (U.Lacks m)) x p s t = absurd (s.0 (cc))
both q e f (Err (U.Refused v)) (Err (U.Refused w)) x p s t = (ap (λ (w : Why). Err (U.Refused w)) (number_once v w (cc)), nothing_once e f s.1 t.1)

pub explain_once : (q : Question) (e f : Explanation) → Explains q e → Explains q f → e ≡ f
explain_once q e f x y =
    let b = both q e f e.answer f.answer x.answers (answers_once q (told e.answer) (told f.answer) x.answers y.answers) x.beside y.beside in
    λ i. record { answer = b.0 i; count = b.1.0 i; denominator = b.1.1.0 i; nodes = b.1.1.1 i }
