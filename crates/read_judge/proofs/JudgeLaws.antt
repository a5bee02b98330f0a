-- The two parts of the first scan, joined.
use mathlib.Core.Path.{◌≡◌, refl, sym, ap, ◌∙◌}
use mathlib.Core.List.{List, []}
use mathlib.Core.Logic.{⊎_elim}
use Prim.Native.Nat.{ℕ, suc}
use native.Mathlib.Omega.{arith}
use lib.IntN.{ℤ}
use lib.ListN.{drop}
use Rattle.std.specs.Prelude.{Ok, Err}
use Rattle.kit.specs.Answer.{Answer, ok, refused, amap}
use Rattle.kit.proofs.TruthLaws.{clash}
use Rattle.kit.proofs.AnswerLaws.{yields}
use Rattle.kit.specs.Range.{Within}
use Rattle.mapset.specs.declared.Header.{Header}
use Rattle.mapset.specs.Described.{full}
use Rattle.mapset.specs.MapSet.{Maps, MapSet}
use Rattle.layout.specs.Layout.{Force, begins}
use Rattle.reading.specs.declared.Why.{Why}
use Rattle.reading.specs.Feed.{split, feed}
use Rattle.reading.specs.Maps.{run, short}
use Rattle.reading.specs.Read.{read}
use Rattle.reading.proofs.LineLaws.{sized}
use Rattle.reading.proofs.MapLaws.{runs, written, wrote_rows}
use Rattle.reading.specs.Refusals.{Cause, too_long, bad_byte, by_row}
use Rattle.reading.proofs.FaultLaws.{refusals, ten_at}
use Rattle.reading.specs.declared.Place.TheVariants.{Between}
use Rattle.head.specs.Opened.{opened, ReadsHeader}
use Rattle.head.specs.declared.HeaderRead.{HeaderRead}
use Rattle.maps.specs.Turns.{stands, told}
use Rattle.read_needs.specs.declared.Others.{Others}
use Rattle.read_judge.specs.Scanned.{set_of, Accepts}

-- ---- what is judged of the maps

wrong_run : {w : Why} (x : Answer Why (List ℤ × Maps)) → Err w ≡ told x → x ≡ refused w
unfolding told
wrong_run (ok v) e = clash (cc)
wrong_run {w} (refused v) e = let p : v ≡ w = cc in ap refused p

record Ran (o : Others) (x : Answer Why (List ℤ × Maps)) : Type 0 where
  with_values : List ℤ × Maps
  is : x ≡ ok with_values
  rms : o.rms ≡ stands with_values.1.rms
  height : o.height ≡ stands with_values.1.height

fine_run : {o : Others} (x : Answer Why (List ℤ × Maps)) → Ok o ≡ told x → Ran o x
unfolding told
fine_run (ok w) e = record { with_values = w; is = refl; rms = cc; height = cc }
fine_run (refused w) e = clash (cc)

-- no values are left over
bare_run : (h : Header) (p : Force) (n : ℕ) (ls : List (List ℕ)) (w : List ℤ × Maps) → run h Between p 0 (feed n ls) ≡ ok w → run h Between p 0 (feed n ls) ≡ ok ([], w.1)
bare_run h p n ls w e =
    let (rs, c, x) = wrote_rows (yields _ (written h (feed n ls) (sized n ls) Between p 0) e) in
    runs x (feed n ls) c

-- ---- a text, by its header

pub refused_head : (t bs : List ℕ) {w : Why} → ReadsHeader (read t) t (Err w) bs → read t ≡ refused w
unfolding opened
refused_head t bs o = o.same

module _ (t bs : List ℕ) (r : HeaderRead) (o : ReadsHeader (read t) t (Ok r) bs) where
  abbrev rest : Answer Why (List ℤ × Maps)
  rest = run r.header Between (begins r.exponent) 0 (feed (suc r.passed) (split (drop r.at t)))

  read_is : read t ≡ amap (λ w. set_of r.header (full r.texts bs) w.1) rest
  unfolding opened
  read_is = o.same

  pub refused_maps : {w : Why} → Err w ≡ told rest → read t ≡ refused w
  unfolding amap
  refused_maps u = read_is ∙ ap (amap (λ w. set_of r.header (full r.texts bs) w.1)) (wrong_run rest u)

  pub accepted_maps : {b : Others} → Ok b ≡ told rest → Accepts t (full r.texts bs) r.header r.exponent r.at b
  unfolding amap
  accepted_maps u =
      let w = fine_run rest u in
      record {
        maps = w.with_values.1;
        reads = read_is ∙ ap (amap (λ w. set_of r.header (full r.texts bs) w.1)) w.is;
        within = o.sound.within;
        line = suc r.passed;
        behind = bare_run r.header (begins r.exponent) (suc r.passed) (split (drop r.at t)) w.with_values w.is;
        rms = w.rms;
        height = w.height;
      }

-- ---- the numbers of a refusal

short_ten : (n : ℕ) {w : Why} → ◌≡◌ {A = Answer Why MapSet} (short n) (refused w) → w.number ≡ 10
unfolding short
short_ten n e = cc

pub one_to_ten : (t : List ℕ) (w : Why) → read t ≡ refused w → Within 1 10 w.number
one_to_ten t w e = ⊎_elim (λ x. by x.cause) (λ x. let z = short_ten _ (sym (ten_at t w x) ∙ e) in (omega arith, omega arith)) (refusals t w e)
  where
    by : {l : List ℕ} → Cause l w → Within 1 10 w.number
    by (too_long a b c) = (omega arith, omega arith)
    by (bad_byte a b c d) = (omega arith, omega arith)
    by (by_row a b c d) = (omega (arith, c), omega (arith, c))
