-- The reading accepts a text exactly when the rules make it from some map set, and hands back the only one.
use mathlib.Core.Path.{◌≡◌, refl, sym, ap, ◌∙◌}
use mathlib.Core.Logic.{◌↔◌}
use Prim.Native.Nat.{ℕ, zero, suc, ◌<◌}
use native.Mathlib.Omega.{arith}
use native.Mathlib.Decide.{ℕ_discrete}
use mathlib.Core.Option.{Option, none, some}
use mathlib.Core.List.{List, [], ◌∷◌}
use lib.ListN.{length, get_or, replicate}
use lib.IntN.{ℤ, pos, negsuc, nat_abs}
use Rattle.kit.specs.Answer.{ok, refused, bind, get, pick, same, sames, All}
use Rattle.kit.proofs.AnswerLaws.{need_yes, Yields, y_ok, y_no, yields, need_yields, get_yields, bind_yields, yields_map}
use Rattle.kit.proofs.ListLaws.{below}
use Rattle.kit.specs.Range.{Natural, Within}
use Rattle.mapset.specs.declared.Version.{Version}
use Rattle.mapset.specs.Decisions.{takes_code?}
use Rattle.mapset.specs.Header.{Said, VersionRules, says}
use Rattle.mapset.proofs.Groups.{takes_known}
use Rattle.mapset.specs.MapSet.{MapSet}
use Rattle.layout.specs.Labels.{version, codes, Rec}
use Rattle.layout.specs.Layout.{plain, Rows, rows_of, Makes, makes}
use Rattle.reading.specs.declared.Why.{Why}
use Rattle.reading.specs.Feed.{on_line, Feed, over, bad, row, feed, split}
use Rattle.reading.specs.Fields.{fields}
use Rattle.reading.specs.Maps.{short}
use Rattle.reading.specs.Head.{place}
use Rattle.reading.specs.Read.{nothing_yet, versioned, version_of, begin, read}
use Rattle.reading.proofs.LineLaws.{Carries, c_row, carries, clean, laid, ended, split_of, Sized, sized, c_over}
use Rattle.reading.proofs.RecordLaws.{rec_name, rec_fields, named_rec}
use Rattle.reading.proofs.MapLaws.{on_line_yields}
use Rattle.reading.proofs.SlotLaws.{unjoined, empty, fit_none}
use Rattle.reading.proofs.HeadLaws.{place_ok, heads, Headed, headed}

-- ---- the version record

place_code : (c : ℕ) → c < 11 → place same (get_or codes c []) codes ≡ some c
unfolding place pick same sames ℕ_discrete
place_code c h = below (λ c. place same (get_or codes c []) codes ≡ some c) 11 (refl, (refl, (refl, (refl, (refl, (refl, (refl, (refl, (refl, (refl, (refl, tt))))))))))) c h

abbrev VersionRow : Version → List ℕ → Type 0
VersionRow v r = Rec version (pos v.tenths, (73 ∷ [], (get_or codes v.code [], tt))) r

version_made : (v : Version) {r : List ℕ} → VersionRules v → VersionRow v r → version_of r ≡ ok v
unfolding version_of versioned bind get
version_made v w x =
    need_yes _ _ _ (rec_name x)
    ∙ rw (rec_fields x) (need_yes _ _ _ w.tenths ∙ need_yes _ _ _ refl ∙ rw (place_code v.code (takes_known w.code)) (need_yes (takes_code? v.tenths v.code) _ _ w.code ∙ ap ok (λ i. record { tenths = v.tenths; kind = sym w.kind i; code = v.code })))

-- a version in the range, as a natural
in_range : (z : ℤ) → Natural 10 11 z → Within 10 11 (nat_abs z) × (z ≡ pos (nat_abs z))
in_range (pos n) h = (h, refl)
in_range (negsuc _) h = elim h [ ]

version_yields : (r : List ℕ) → length r ≡ 80 → Yields (λ v. VersionRules v × VersionRow v r) (version_of r)
unfolding version_of versioned
version_yields r z =
    need_yields _ _ (λ p. bind_yields (fields version r) (λ v e. need_yields _ _ (λ a. need_yields _ _ (λ b. get_yields _ _ (λ c f. need_yields _ _ (λ k.
    let n = in_range v.0 a in
    let t = place_ok same v.1.1.0 [] codes c f in
    let w : v ≡ (pos (nat_abs v.0), (73 ∷ [], (get_or codes c [], tt))) = λ i. (n.1 i, (b i, (sym t.1 i, tt))) in
    y_ok (record { tenths = n.0; kind = refl; code = k }, rw w at (named_rec r z p e))))))))

-- ---- what the rules make is read

begun : {m : MapSet} {rs : List (List ℕ)} {f : Feed} → Carries f rs → Rows m rs → begin f ≡ ok m
unfolding begin bind on_line
begun {m} (c_row x) (rows_of v o c h) =
    rw (version_made m.header.version v c) (heads [] o h x (unjoined (says m.header m.texts)) refl)
begun {m = m} (c_over {n = n}) x4 = elim x4 [ ]

pub read_made : {m : MapSet} {t : List ℕ} → Makes m t → read t ≡ ok m
unfolding read
read_made (makes r l e) = rw (split_of e (clean l)) (begun (carries l 1) r)

-- ---- what is read the rules make

abbrev Began : Feed → MapSet → Type 0
Began f m = (rs : List (List ℕ)) × Carries f rs × Rows m rs

pub none_got : (n : ℕ) → All (λ (o : Option Said). o ≡ none) (replicate n none)
none_got zero = tt
none_got (suc n) = (refl, none_got n)

first_row : {c : Version} {r : List ℕ} {f : Feed} (m : MapSet) (h : Headed c plain (negsuc 0) nothing_yet [] f m) → VersionRules c → VersionRow c r → Rows m (r ∷ h.rows)
first_row {c} {r} m h l x =
    rows_of {r = r} (rw h.version l) h.rules (rw h.version x)
    (rw (empty h.joined (none_got 22), h.lines) at h.heads)

began : (f : Feed) → Sized f → Yields (Began f) (begin f)
unfolding begin short
began (over n) s = y_no
began (bad w) s = y_no
began (row n r f) s =
    bind_yields _ (λ c e.
    let x = yields _ (on_line_yields n (version_yields r s.0.0)) e in
    yields_map (λ m h. (r ∷ h.rows, c_row h.carries, first_row m h x.0 x.1))
    (headed c f s.1 plain (negsuc 0) nothing_yet [] (record { sized = refl; fit = fit_none 22; few = omega arith; lines = tt })))

pub made_read : {m : MapSet} (t : List ℕ) → read t ≡ ok m → Makes m t
unfolding read
made_read t e =
    let (rs, c, r) = yields _ (began (feed 1 (split t)) (sized 1 (split t))) e in
    makes r (laid 1 (split t) rs c) (ended t)

-- ---- the theorems

-- accepted exactly when made
pub reads_exactly : (m : MapSet) (t : List ℕ) → (Makes m t) ↔ (read t ≡ ok m)
reads_exactly m t = (read_made, made_read t)

-- from the only map set
pub made_once : {m m' : MapSet} {t : List ℕ} → Makes m t → Makes m' t → m ≡ m'
made_once a b = cc (read_made a, read_made b)

-- a refused text is made from no map set
pub refused_unmade : {w : Why} (t : List ℕ) → read t ≡ refused w → (m : MapSet) → ¬ Makes m t
refused_unmade t e m a = let b = read_made a in let z : ◌≡◌ {A = ℕ} 0 1 = cc in omega arith
