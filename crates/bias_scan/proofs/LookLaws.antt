-- A station looked for among the rows passed.
use Rattle.std.specs.Prelude.{Option, Some, None}
use mathlib.Core.Path.{◌≡◌, refl, sym, ap, subst, ◌∙◌}
use mathlib.Core.Bool.{true, false}
use mathlib.Core.List.{List}
use Prim.Native.Nat.{ℕ, ◌+◌, ◌≤◌, ◌<◌}
use native.Mathlib.Omega.{arith}
use lib.ListN.{length}
use Rattle.kit.specs.Answer.{Answer, ok, refused}
use Rattle.kit.proofs.AnswerLaws.{bind_yields, Yields, y_ok, y_no, yields}
use Rattle.forms.specs.Columns.{columns}
use Rattle.layout.specs.Text.{pad}
use Rattle.layout.specs.Names.{holds}
use Rattle.layout.specs.Records.{Vals}
use Rattle.reading.specs.declared.Fault.{Fault}
use Rattle.reading.proofs.LabelLaws.{held, holding}
use Rattle.reading.specs.Fields.{unless, blank_to}
use Rattle.biases.specs.Biases.{Biases}
use Rattle.biases.specs.Rules.{station_items}
use Rattle.biases.specs.Read.{system_of, station_meant, station_of}
use Rattle.biases.specs.declared.Station.{Station}
use Rattle.biases.specs.declared.Place.{Place}
use Rattle.biases.specs.declared.Place.TheVariants.{Outside}
use Rattle.bias_line.specs.Lines.{pair_after}
use Rattle.bias_line.proofs.LineLaws.{station_is}
use Rattle.bias_scan.specs.Walk.{Going, going, first, after, walked}
use Rattle.bias_scan.proofs.WalkLaws.{walked_on, stuck, fewer_rows}
use Rattle.bias_scan.specs.Turns.{from, Heard, Unheard, Past, Twice, Still}

-- ---- a station's name stands in columns 7 to 26

unless_yields : {Q : Station → Type 0} (h : Option ℕ) (x : Answer Fault Station) → Yields Q x → Yields Q (unless h x)
unless_yields (Some c) x y = y_no
unless_yields None x y = y

meant_name : (v : Vals station_items) → Yields (λ s. s.name ≡ v.1.0) (station_meant v)
unfolding station_meant
meant_name v = bind_yields (system_of v.0) (λ s f. y_ok refl)

module _ (line : List ℕ) (fits : length line ≤ 80) where
  name_yields : Yields (λ s. s.name ≡ columns line 6 20) (station_of (pad line))
  name_yields = rw (station_is line fits) (unless_yields (blank_to line 0 3) _ (unless_yields (blank_to line 4 6) _ (bind_yields (pair_after line 26) (λ p e. meant_name (columns line 3 1, (columns line 6 20, (p.0, (p.1, tt))))))))

  module _ (x : Station) (l : length x.name ≡ 20) where
    pub not_named : holds line 6 x.name ≡ false → ¬ Heard x (station_of (pad line))
    not_named e = by (station_of (pad line)) refl
      where
        by : (a : Answer Fault Station) → station_of (pad line) ≡ a → ¬ Heard x a
        by (ok y) q h =
            let n = yields _ name_yields q in
            let c : columns line 6 (length x.name) ≡ x.name = rw l (sym (h.1 ∙ n)) in
            let t = held line 6 x.name c in
            let z : ◌≡◌ {A = ℕ} 0 1 = cc in omega arith
        by (refused w) q h = h

    pub same_name : holds line 6 x.name ≡ true → (y : Station) → station_of (pad line) ≡ ok y → x.name ≡ y.name
    same_name e y q = sym (rw l at (holding line 6 x.name e)) ∙ sym (yields _ name_yields q)

-- ---- from row to row

-- none of the first i rows gave x; the next row comes at `at`, after n lines
pub record Looking (t : List ℕ) (x : Station) (i at n : ℕ) (p : Place) : Type 0 where
  pub within : at ≤ length t
  pub lines : n ≤ at
  pub place : (walked i (first t)).place ≡ p
  pub rest : (walked i (first t)).rest ≡ from t at n
  pub unheard : Unheard x (walked i (first t)).given

pub looking_first : (t : List ℕ) (x : Station) → Looking t x 0 0 0 Outside
unfolding walked
looking_first t x = record { within = omega arith; lines = omega arith; place = refl; rest = refl; unheard = tt }

module _ (t : List ℕ) (x : Station) (i at n : ℕ) (p : Place) (z : Looking t x i at n p) where
  abbrev g : Biases
  g = (walked i (first t)).given

  one_on : walked (i + 1) (first t) ≡ after p g (from t at n)
  one_on = walked_on i (first t) p (from t at n) z.place z.rest

  pub looking_on : (q : Place) (next m : ℕ) → Past t at n p x q next m → Looking t x (i + 1) next m q
  looking_on q next m o =
      record {
        within = o.within;
        lines = o.passed;
        place = ap (λ (w : Going). w.place) one_on ∙ o.place g;
        rest = ap (λ (w : Going). w.rest) one_on ∙ o.rest g;
        unheard = subst (λ (w : Going). Unheard x w.given) (sym one_on) (o.unheard g z.unheard);
      }

  pub looking_same : (rows : ℕ) → i < rows → Twice t at n p x → ¬ Unheard x (walked rows (first t)).given
  looking_same rows h o u =
      o.heard g (subst (λ (w : Going). Unheard x w.given) one_on (fewer_rows x (i + 1) (first t) rows (omega arith) u))

  pub looking_still : (rows : ℕ) → i ≤ rows → Still t at n p → Unheard x (walked rows (first t)).given
  looking_still rows h o =
      let w = walked i (first t) in
      let e : after w.place w.given w.rest ≡ w = (λ j. after (z.place j) g (z.rest j)) ∙ o.stays g ∙ (λ j. going (sym z.place j) g (sym z.rest j)) in
      subst (λ (v : Going). Unheard x v.given) (sym (stuck i (first t) e rows h)) z.unheard
