-- A DESCRIPTION line put behind those got so far.
use mathlib.Core.Path.{◌≡◌, sym, ap, ◌∙◌}
use mathlib.Core.List.{List, [], ◌∷◌, ◌++◌, append_assoc, append-nil}
use Prim.Native.Nat.{ℕ, ◌+◌, ◌*◌, ◌-◌, ◌≤◌, ◌<◌}
use native.Mathlib.Decide.{dec_lt}
use native.Mathlib.Omega.{arith}
use lib.ListN.{length, take, drop, replicate, length-append, length-drop, length-replicate, replicate-append-replicate}
use lib.Seq.{take_at, drop_at, length-take-le}
use Rattle.kit.specs.Answer.{ok, refused, bind, amap}
use Rattle.kit.proofs.AnswerLaws.{need_yes, need_no}
use Rattle.forms.specs.Columns.{columns}
use Rattle.mapset.specs.Described.{most_lines, line_width, lines_width}
use Rattle.mapset.specs.Lines.{lines_in, end_to_end, described}
use Rattle.mapset.proofs.DescribedLaws.{lines_length, ends_lines}
use Rattle.layout.specs.Text.{pad}
use Rattle.layout.specs.Records.{A}
use Rattle.layout.specs.Layout.{Lines, plain, mode}
use Rattle.reading.specs.Feed.{fault}
use Rattle.reading.specs.Fields.{fields}
use Rattle.reading.specs.Head.{more, on_description}
use Rattle.reading.proofs.ScanLaws.{read_is}
use Rattle.std.specs.Prelude.{Result}
use Rattle.reading.specs.declared.Fault.{Fault}
use Rattle.head_state.specs.Got.{slots_of, went, told_kept}
use Rattle.head_state.specs.declared.State.{State}
use Rattle.head_step.specs.Step.{described_in, Holds, after, Describes}

-- ---- bytes
ends_snoc : (ds : Lines) (d : List ℕ) → end_to_end (ds ++ (d ∷ [])) ≡ end_to_end ds ++ d
unfolding end_to_end
ends_snoc [] d = append-nil d
ends_snoc (x ∷ ds) d = ap (λ l. x ++ l) (ends_snoc ds d) ∙ sym (append_assoc x (end_to_end ds) d)

blanks_behind : (n m : ℕ) → drop {A = ℕ} n (replicate (n + m) 32) ≡ replicate m 32
blanks_behind n m =
    let b : ℕ = 32 in
    ap (drop n) (sym (replicate-append-replicate n m b)) ∙ drop_at (replicate n b) (replicate m b) n (length-replicate n b)

module _ (k : ℕ) (bs : List ℕ) (w : Holds k bs) (more_Room : k < most_lines) where
  abbrev ends : List ℕ
  ends = end_to_end (lines_in k bs)

  ends_width : length ends ≡ line_width * k
  ends_width =
      let e = ends_lines k bs in
      omega (arith, w.whole, ap length e, length-append ends (drop (line_width * k) bs), length-drop (line_width * k) bs)

  in_front : take (line_width * k) bs ≡ ends
  in_front = ap (take (line_width * k)) (sym (ends_lines k bs)) ∙ take_at ends (drop (line_width * k) bs) (line_width * k) ends_width

  behind : drop (line_width * k) bs ≡ replicate (line_width + (lines_width - (line_width * k + line_width))) 32
  unfolding described
  behind =
      let m : lines_width - length ends ≡ line_width + (lines_width - (line_width * k + line_width)) = omega (arith, ends_width) in
      ap (drop (line_width * k)) (sym w.tidy) ∙ drop_at ends (replicate (lines_width - length ends) 32) (line_width * k) ends_width ∙ ap (λ n. replicate n 32) m

  line_kept : (d : List ℕ) → length d ≡ line_width
      → take (line_width * k) bs ++ (d ++ drop line_width (drop (line_width * k) bs)) ≡ described (lines_in k bs ++ (d ∷ []))
  unfolding described
  line_kept d z =
      let rest = lines_width - (line_width * k + line_width) in
      let n : lines_width - length (ends ++ d) ≡ rest = ap (λ n. lines_width - n) (length-append ends d ∙ omega (arith, ends_width)) in
      rw (in_front, behind, blanks_behind line_width rest, ends_snoc (lines_in k bs) d, n) (sym (append_assoc ends d (replicate rest 32)))

columns_width : (line : List ℕ) → length (columns line 0 60) ≡ 60
unfolding columns
columns_width line = length-take-le 60 (line ++ replicate 60 32) (simp (length-append, length-replicate) (omega arith))

-- ---- what the code does
module _ (s : State) (bs line : List ℕ) (w : Holds s.descriptions bs) (x : Result (Unit {0}) Fault) (s' : State) where
  abbrev got : Lines
  got = lines_in s.descriptions bs

  pub twenty_first : most_lines ≤ s.descriptions → told_kept x s' ≡ refused (fault 5 61) → Describes s bs (pad line) x s' bs
  unfolding described_in on_description
  twenty_first h e =
      record {
        goes = e ∙ sym (need_no (dec_lt s.descriptions most_lines) (fault 5 61) _ (λ l. omega arith));
        lines = sym (ap (λ z. after z bs) (need_no (dec_lt (length got) most_lines) (fault 5 61) _ (λ l. omega (arith, lines_length s.descriptions bs))));
      }

  line_taken : length line ≤ 80 → s.descriptions < most_lines
      → on_description s.exponent (slots_of s) got (pad line) ≡ ok (more plain s.exponent (slots_of s) (got ++ (columns line 0 60 ∷ [])))
  unfolding on_description fields bind amap
  line_taken fits h =
      need_yes (dec_lt (length got) most_lines) (fault 5 61) _ (omega (arith, lines_length s.descriptions bs))
      ∙ ap (λ y. bind y (λ v. ok (more plain s.exponent (slots_of s) (got ++ (v.0 ∷ []))))) (read_is line fits (A 60 ∷ []) (omega arith))

  pub one_more : length line ≤ 80 → s.descriptions < most_lines → (bs' : List ℕ)
      → bs' ≡ take (line_width * s.descriptions) bs ++ (columns line 0 60 ++ drop line_width (drop (line_width * s.descriptions) bs))
      → told_kept x s' ≡ ok (went (mode s.aux) s.exponent (slots_of s) (s.descriptions + 1)) → Describes s bs (pad line) x s' bs'
  unfolding described_in
  one_more fits h bs' q e =
      record {
        goes = e ∙ sym (need_yes (dec_lt s.descriptions most_lines) (fault 5 61) _ h);
        lines = q ∙ line_kept s.descriptions bs w h (columns line 0 60) (columns_width line) ∙ sym (ap (λ y. after y bs) (line_taken fits h));
      }
