-- The lines of a text with their ends are the only ones.
use mathlib.Core.Path.{◌≡◌, refl, sym, ap, subst, ◌∙◌}
use mathlib.Core.List.{List, [], ◌∷◌, ◌++◌, append-nil}
use Prim.Native.Nat.{ℕ}
use native.Mathlib.Omega.{arith}
use native.Mathlib.Decide.{ℕ_discrete}
use Rattle.kit.specs.Answer.{All, ×_dec}
use Rattle.kit.proofs.AnswerLaws.{pick_no, pick_elim}
use Rattle.kit.specs.Range.{Within, Printable}
use Rattle.forms.specs.Columns.{Blank}
use Rattle.layout.specs.Text.{Clean}
use Rattle.reading.specs.Feed.{LineOpens, opens?}
use Rattle.index.specs.Stands as at
use Rattle.index.specs.Stands.{Over, Eol}
use Rattle.read_lines.specs.Cuts.{Cut, with_byte, with_cr, cuts}
use Rattle.read_lines.proofs.Firsts.{cuts_lf, cuts_crlf}

-- ---- a clean line and its end

cuts_front : (b : ℕ) (t : List ℕ) → Within 32 126 b → cuts (b ∷ t) ≡ with_byte b (cuts t)
unfolding cuts
cuts_front b t p =
    pick_no (ℕ_discrete b 10) _ _ (λ e. omega arith) ∙ pick_no (×_dec (ℕ_discrete b 13) (opens? 10 t)) _ _ (λ h. let e = h.0 in omega arith)

cuts_eol : {e : List ℕ} (u : List ℕ) → Eol e → cuts (e ++ u) ≡ ([], e) ∷ cuts u
cuts_eol u at.lf = cuts_lf u
cuts_eol u at.crlf = cuts_crlf u

whole : (l s e : List ℕ) (cs : List Cut) → Printable l → cuts s ≡ ([], e) ∷ cs → cuts (l ++ s) ≡ (l, e) ∷ cs
whole [] s e cs p h = h
whole (b ∷ l) s e cs p h = cuts_front b (l ++ s) p.0 ∙ ap (with_byte b) (whole l s e cs p.1 h)

pub cut_line : (l : List ℕ) {e : List ℕ} (u : List ℕ) → Printable l → Eol e → cuts (l ++ (e ++ u)) ≡ (l, e) ∷ cuts u
cut_line l {e} u p x = whole l (e ++ u) e (cuts u) p (cuts_eol u x)

pub alone : (b : ℕ) (l : List ℕ) → Printable (b ∷ l) → cuts (b ∷ l) ≡ (b ∷ l, []) ∷ []
alone b [] p = let z : cuts [] ≡ [] = unfold cuts in refl in cuts_front b [] p.0 ∙ ap (with_byte b) z
alone b (c ∷ l) p = cuts_front b (c ∷ l) p.0 ∙ ap (with_byte b) (alone c l p.1)

-- a line with a byte, whatever follows
pub record First (u l : List ℕ) : Type 0 where
  pub end : List ℕ
  pub rest : List Cut
  pub is : cuts u ≡ (l, end) ∷ rest

pub cut_last : (l s : List ℕ) → Clean l → ¬ All Blank l → Over s → First (l ++ s) l
cut_last [] s c n o = absurd (n tt)
cut_last (b ∷ l) s c n at.nothing = record { end = []; rest = []; is = ap cuts (append-nil (b ∷ l)) ∙ alone b l c.1 }
cut_last (b ∷ l) s c n (at.lf {u}) = record { end = 10 ∷ []; rest = cuts u; is = cut_line (b ∷ l) u c.1 at.lf }
cut_last (b ∷ l) s c n (at.crlf {u}) = record { end = 13 ∷ 10 ∷ []; rest = cuts u; is = cut_line (b ∷ l) u c.1 at.crlf }

-- ---- lines with their ends make the text
pub data Joined : List Cut → List ℕ → Type 0 where
  j_none : Joined [] []
  j_last : {b : ℕ} {l : List ℕ} → Joined ((b ∷ l, []) ∷ []) (b ∷ l)
  j_line : {l e : List ℕ} {cs : List Cut} {u : List ℕ} → Eol e → Joined cs u → Joined ((l, e) ∷ cs) (l ++ (e ++ u))

push : (b : ℕ) {cs : List Cut} {u : List ℕ} → Joined cs u → Joined (with_byte b cs) (b ∷ u)
push b j_none = j_last
push b j_last = j_last
push b (j_line x j) = j_line x j

-- a first byte that begins no line end
begin : (b : ℕ) (t : List ℕ) → Joined (cuts t) t → ((b ≡ 13) × LineOpens 10 t → Joined (with_cr (cuts t)) (b ∷ t)) → Joined (cuts (b ∷ t)) (b ∷ t)
unfolding cuts
begin b t h cr =
    pick_elim (λ cs. Joined cs (b ∷ t)) (ℕ_discrete b 10) (λ e. subst (λ c. Joined (([], 10 ∷ []) ∷ cuts t) (c ∷ t)) (sym e) (j_line at.lf h))
    (λ _. pick_elim (λ cs. Joined cs (b ∷ t)) (×_dec (ℕ_discrete b 13) (opens? 10 t)) cr (λ _. push b h))

pub joined : (t : List ℕ) → Joined (cuts t) t
joined [] = unfold cuts in j_none
joined (b ∷ []) = begin b [] (joined []) (λ h. absurd h.1)
joined (b ∷ c ∷ t) = begin b (c ∷ t) (joined (c ∷ t)) (λ h. rw (h.0, h.1, cuts_lf t) (j_line at.crlf (joined t)))
