-- The DESCRIPTION lines and their bytes: each tells the other.
use mathlib.Core.Path.{◌≡◌, refl, sym, ap, ◌∙◌}
use mathlib.Core.List.{List, [], ◌∷◌, ◌++◌, append_assoc}
use Prim.Native.Nat.{ℕ, zero, suc, ◌+◌, ◌*◌, ◌-◌, ◌≤◌}
use native.Mathlib.Omega.{arith}
use lib.ListN.{length, take, drop, replicate, length-append, length-drop, length-replicate, take-append-drop}
use lib.Seq.{take_at, drop_at, drop-drop, length-take-le}
use Rattle.kit.specs.Answer.{All}
use Rattle.kit.specs.Range.{Within}
use Rattle.kit.proofs.ListLaws.{all_append, all_take, all_drop, all_replicate}
use Rattle.mapset.specs.Described.{most_lines, line_width, lines_width}
use Rattle.mapset.specs.Lines.{lines_in, end_to_end, described}
use Rattle.mapset.specs.Header.{Written, DescriptionRules}

-- ---- numbers of lines and bytes
pub lines_length : (n : ℕ) (bs : List ℕ) → length (lines_in n bs) ≡ n
unfolding lines_in
lines_length zero bs = refl
lines_length (suc n) bs = ap suc (lines_length n (drop line_width bs))

ends_length : (ds : List (List ℕ)) → All (Written line_width) ds → length (end_to_end ds) ≡ line_width * length ds
unfolding end_to_end
ends_length [] w = refl
ends_length (d ∷ ds) w = simp length-append (omega (arith, w.0.0, ends_length ds w.1))

ends_printable : (ds : List (List ℕ)) → All (Written line_width) ds → All (Within 32 126) (end_to_end ds)
unfolding end_to_end
ends_printable [] w = tt
ends_printable (d ∷ ds) w = all_append (Within 32 126) d (end_to_end ds) w.0.1 (ends_printable ds w.1)

-- ---- lines, then bytes, then lines
lines_front : (ds : List (List ℕ)) (rest : List ℕ) → All (Written line_width) ds → lines_in (length ds) (end_to_end ds ++ rest) ≡ ds
unfolding lines_in end_to_end
lines_front [] rest w = refl
lines_front (d ∷ ds) rest w =
    let e = append_assoc d (end_to_end ds) rest in
    rw (e, take_at d (end_to_end ds ++ rest) line_width w.0.0, drop_at d (end_to_end ds ++ rest) line_width w.0.0, lines_front ds rest w.1) refl

pub lines_described : (ds : List (List ℕ)) → All (Written line_width) ds → lines_in (length ds) (described ds) ≡ ds
unfolding described
lines_described ds w = lines_front ds _ w

pub described_rules : (ds : List (List ℕ)) → length ds ≤ most_lines → All (Written line_width) ds → DescriptionRules (length ds) (described ds)
unfolding described
described_rules ds few w =
    let l = ends_length ds w in
    let k = lines_width - length (end_to_end ds) in
    record {
      few = few;
      written = (
        simp (length-append, length-replicate) (omega arith),
        all_append (Within 32 126) (end_to_end ds) (replicate k 32) (ends_printable ds w) (all_replicate (Within 32 126) 32 (omega arith, omega arith) k),
      );
      blank = rw (drop_at (end_to_end ds) (replicate k 32) (line_width * length ds) l) (all_replicate (λ b. b ≡ 32) 32 refl k);
    }

-- ---- bytes, then lines, then bytes
lines_written : (n : ℕ) (bs : List ℕ) → line_width * n ≤ length bs → All (Within 32 126) bs → All (Written line_width) (lines_in n bs)
unfolding lines_in
lines_written zero bs h p = tt
lines_written (suc n) bs h p =
    ((length-take-le line_width bs (omega arith), all_take (Within 32 126) line_width bs p), lines_written n (drop line_width bs) (simp length-drop (omega arith)) (all_drop (Within 32 126) line_width bs p))

pub ends_lines : (n : ℕ) (bs : List ℕ) → end_to_end (lines_in n bs) ++ drop (line_width * n) bs ≡ bs
unfolding lines_in end_to_end
ends_lines zero bs = refl
ends_lines (suc n) bs =
    let e : line_width * suc n ≡ line_width + line_width * n = omega arith in
    append_assoc (take line_width bs) (end_to_end (lines_in n (drop line_width bs))) (drop (line_width * suc n) bs)
    ∙ ap (λ l. take line_width bs ++ l) (ap (λ l. end_to_end (lines_in n (drop line_width bs)) ++ l) (ap (λ k. drop k bs) e ∙ sym (drop-drop (line_width * n) line_width bs)) ∙ ends_lines n (drop line_width bs))
    ∙ take-append-drop line_width bs

pub ruled_lines : (n : ℕ) (bs : List ℕ) → DescriptionRules n bs → All (Written line_width) (lines_in n bs)
ruled_lines n bs r = let few = r.few in let whole = r.written.0 in lines_written n bs (omega arith) r.written.1

-- a list of blanks
blanks_only : (l : List ℕ) → All (λ b. b ≡ 32) l → replicate (length l) 32 ≡ l
blanks_only [] a = refl
blanks_only (b ∷ l) a = rw (a.0, blanks_only l a.1) refl

pub described_lines : (n : ℕ) (bs : List ℕ) → DescriptionRules n bs → described (lines_in n bs) ≡ bs
unfolding described
described_lines n bs r =
    let whole = r.written.0 in
    let w = ruled_lines n bs r in
    let k : lines_width - length (end_to_end (lines_in n bs)) ≡ length (drop (line_width * n) bs) = simp length-drop (omega (arith, ends_length (lines_in n bs) w, lines_length n bs)) in
    rw (k, blanks_only (drop (line_width * n) bs) r.blank) (ends_lines n bs)
