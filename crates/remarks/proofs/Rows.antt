use Rattle.std.specs.Prelude.{Option, Some, None}
-- What a remark's row does, whatever its columns 1 to 60 hold.
use mathlib.Core.Path.{◌≡◌, refl, sym, ap, ◌∙◌}
use mathlib.Core.Logic.{◌⊎◌, inl, inr}
use mathlib.Core.List.{List, ◌++◌}
use mathlib.Core.Option.{some}
use Prim.Native.Nat.{ℕ, zero, suc, ◌+◌, ◌*◌, ◌-◌}
use native.Mathlib.Omega.{arith}
use native.Mathlib.Decide.{ℕ_discrete, dec_le}
use lib.IntN.{ℤ}
use lib.ListN.{length, take, drop, get_or, replicate}
use lib.Seq.{drop-drop}
use Rattle.kit.specs.Answer.{Answer, ok, refused, bind, amap, get, pick, ×_dec, same, sames, all_dec, All}
use Rattle.kit.proofs.AnswerLaws.{pick_no, need_no, Yields, y_ok, y_no, yields, need_yields, amap_yields, yields_map}
use Rattle.kit.proofs.ListLaws.{all_append, all_drop}
use Rattle.forms.specs.Form as form
use Rattle.forms.specs.Read.{read_field, number_of, formed?}
use Rattle.forms.specs.Columns.{Blank}
use Rattle.mapset.specs.declared.Version.{Version}
use Rattle.mapset.specs.declared.Header.{Header}
use Rattle.layout.specs.Text.{pad}
use Rattle.layout.specs.Labels.{Label, version, comment, aux_start, aux_end, name, labels}
use Rattle.layout.specs.Layout.{Force, Slots, Lines, plain, aux}
use Rattle.reading.specs.declared.Fault.{Fault}
use Rattle.reading.specs.Feed.{fault}
use Rattle.reading.specs.Fields.{lookup, label, number, blank, scan, fields, cells}
use Rattle.reading.specs.Maps.{on_comment, taken, step, on_row}
use Rattle.reading.specs.Head.{more, at_head, head_step}
use Rattle.reading.specs.Read.{version_of}
use Rattle.reading.proofs.Blame.{Blames, blamed, amap_blames, cells_blame}
use Rattle.reading.proofs.Machine.{State, first, header, maps, turn, Move, on_row_of}
use Rattle.reading.specs.declared.Place.{Place}
use Rattle.reading.proofs.RecordLaws.{blank_spaces}
use Rattle.remarks.specs.Remarks.{Bears}

-- ---- a blank line bears no label

-- what is needed of a label: it is not blank, its first five bytes are no number, and it is known and neither of two others
pub record Word (x : Label) : Type 0 where
  pub shown : ¬ All Blank (name x)
  pub no_number : read_field form.I (take 5 (name x)) ≡ None
  pub known : lookup (name x) labels ≡ some x
  pub no_version : ¬ (name x ≡ name version)
  pub no_end : ¬ (name x ≡ name aux_end)

pub comment_word : Word comment
unfolding name read_field number_of formed? pick ×_dec all_dec dec_le ℕ_discrete same sames lookup
comment_word =
    record {
      shown = λ a. let z = a.0 in omega arith;
      no_number = refl;
      known = refl;
      no_version = λ e. let z : ◌≡◌ {A = ℕ} 67 73 = ap (λ l. get_or l 0 0) e in omega arith;
      no_end = λ e. let z : ◌≡◌ {A = ℕ} 67 69 = ap (λ l. get_or l 0 0) e in omega arith;
    }

pub start_word : Word aux_start
unfolding name read_field number_of formed? pick ×_dec all_dec dec_le ℕ_discrete same sames lookup
start_word =
    record {
      shown = λ a. let z = a.0 in omega arith;
      no_number = refl;
      known = refl;
      no_version = λ e. let z : ◌≡◌ {A = ℕ} 83 73 = ap (λ l. get_or l 0 0) e in omega arith;
      no_end = λ e. let z : ◌≡◌ {A = ℕ} 83 69 = ap (λ l. get_or l 0 0) e in omega arith;
    }

pub not_blank : {x : Label} (l : List ℕ) → Word x → Bears x l → ¬ All Blank l
unfolding pad
not_blank l w e a = w.shown (rw e at (all_drop Blank 60 (l ++ replicate (80 - length l) 32) (all_append Blank l (replicate (80 - length l) 32) a (blank_spaces (80 - length l)))))

-- ---- no row of values bears such a label

number_yields : {A : Type 0} {Q : A → Type 0} (x : Option ℤ) (c : ℕ) {f : ℤ → Answer Fault A} → ((z : ℤ) → Yields Q (f z)) → Yields Q (number x c f)
unfolding number
number_yields (Some z) c h = h z
number_yields None c h = y_no

number_bad : {A : Type 0} {Q : A → Type 0} (x : Option ℤ) (c : ℕ) (f : ℤ → Answer Fault A) → x ≡ None → Yields Q (number x c f)
unfolding number
number_bad x c f e = rw e y_no

module _ {x : Label} (k : Word x) where
  no_cells : (j c m : ℕ) (bs : List ℕ) → drop (j * 5) bs ≡ name x → Yields (λ zs. ⊥) (cells c m bs)
  unfolding cells blank
  no_cells j c zero bs e = need_yields (all_dec (λ b. ℕ_discrete b 32) bs) _ (λ a. absurd (k.shown (rw e at (all_drop Blank (j * 5) bs a))))
  no_cells zero c (suc m) bs e = number_bad (read_field form.I (take 5 bs)) c _ (ap (λ x. read_field form.I (take 5 x)) e ∙ k.no_number)
  no_cells (suc j) c (suc m) bs e =
      let n : 5 + j * 5 ≡ suc j * 5 = omega arith in
      number_yields (read_field form.I (take 5 bs)) c (λ z. amap_yields _ (no_cells j (c + 5) m (drop 5 bs) (drop-drop (j * 5) 5 bs ∙ ap (λ n. drop n bs) n ∙ e)))

  module _ (r : List ℕ) (q : drop 60 r ≡ name x) where
    pub no_values : (m : ℕ) → Yields (λ zs. ⊥) (cells 1 m r)
    no_values m = no_cells 12 1 m r q

    pub label_is : label r ≡ some x
    unfolding label
    label_is = ap (λ s. lookup s labels) q ∙ k.known

    at_first : version_of r ≡ refused (fault 3 61)
    unfolding version_of
    at_first = need_no (same (drop 60 r) (name version)) _ _ (λ e. k.no_version (sym q ∙ e))

    at_plain : (c : Version) (e : ℤ) (got : Slots) (ds : Lines) → head_step c plain e got ds r ≡ at_head c e got ds x r
    unfolding head_step get
    at_plain c e got ds = ap (λ o. get o (fault 4 61) (λ l. at_head c e got ds l r)) label_is

    at_maps : (h : Header) (p : Place) (f : Force) → step h p f r ≡ taken h p f x r
    unfolding step get
    at_maps h p f = ap (λ o. get o (fault 4 61) (λ l. taken h p f l r)) label_is

    pub not_end : ¬ (drop 60 r ≡ name aux_end)
    not_end e = k.no_end (sym q ∙ e)

-- ---- the rows

abbrev pub InAux : State → Type 0
InAux first = ⊥
InAux (header c plain e got ds) = ⊥
InAux (header c aux e got ds) = Unit {0}
InAux (maps h p f c) = ⊥

skipped : (c : Version) (e : ℤ) (got : Slots) (ds : Lines) (r : List ℕ) → ¬ (drop 60 r ≡ name aux_end) → head_step c aux e got ds r ≡ ok (more aux e got ds)
unfolding head_step
skipped c e got ds r n = pick_no (same (drop 60 r) (name aux_end)) _ _ n

-- inside an aux block every row but its end changes nothing
pub aux_row : (s : State) (r : List ℕ) → InAux s → ¬ (drop 60 r ≡ name aux_end) → on_row_of s r ≡ ok (record { to = s; back = λ m. m })
unfolding on_row_of amap
aux_row first r i n = absurd i
aux_row (header c plain e got ds) r i n = absurd i
aux_row (header c aux e got ds) r i n = ap (amap (turn c aux e got ds)) (skipped c e got ds r n)
aux_row (maps h p f c) r i n = absurd i

-- START OF AUX DATA, if it is taken, opens one
pub start_row : (s : State) (r : List ℕ) → drop 60 r ≡ name aux_start → Yields (λ (m : Move s). InAux m.to) (on_row_of s r)
unfolding on_row_of amap at_head bind fields scan taken
start_row first r q = rw (at_first start_word r q) y_no
start_row (header c plain e got ds) r q = rw (at_plain start_word r q c e got ds) (y_ok tt)
start_row (header c aux e got ds) r q = rw (skipped c e got ds r (not_end start_word r q)) (y_ok tt)
start_row (maps h p f zero) r q = rw (at_maps start_word r q h p f) y_no
start_row (maps h p f (suc c)) r q = amap_yields _ (yields_map (λ zs z. absurd z) (no_values start_word r q (on_row (suc c))))

refused_as : {A : Type 0} (x : Answer Fault A) → Yields (λ a. ⊥) x → Blames (λ (f : Fault). ¬ (f.number ≡ 10)) x → (f : Fault) × (x ≡ refused f) × ¬ (f.number ≡ 10)
refused_as (ok a) y b = absurd (yields (ok a) y refl)
refused_as (refused f) y b = (f, refl, blamed b)

-- a COMMENT does the same as every other, but among the values of a block, where it is refused
pub comment_row : (s : State) (r r' : List ℕ) → drop 60 r ≡ name comment → drop 60 r' ≡ name comment
    → (on_row_of s r ≡ on_row_of s r') ⊎ ((f : Fault) × (on_row_of s r ≡ refused f) × ¬ (f.number ≡ 10))
unfolding on_row_of at_head bind fields scan taken on_comment
comment_row first r r' q q' = inl (ap (amap _) (at_first comment_word r q ∙ sym (at_first comment_word r' q')))
comment_row (header c plain e got ds) r r' q q' = inl (ap (amap (turn c plain e got ds)) (at_plain comment_word r q c e got ds ∙ sym (at_plain comment_word r' q' c e got ds)))
comment_row (header c aux e got ds) r r' q q' = inl (ap (amap (turn c aux e got ds)) (skipped c e got ds r (not_end comment_word r q) ∙ sym (skipped c e got ds r' (not_end comment_word r' q'))))
comment_row (maps h p f zero) r r' q q' = inl (ap (amap _) (at_maps comment_word r q h p f ∙ sym (at_maps comment_word r' q' h p f)))
comment_row (maps h p f (suc c)) r r' q q' = inr (refused_as _ (amap_yields _ (no_values comment_word r q (on_row (suc c)))) (amap_blames _ (cells_blame 1 (on_row (suc c)) (length r) r (omega arith) (λ x h e. omega arith))))
