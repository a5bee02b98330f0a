-- What reading hands out is what writing, asking and joining take: the numbers of an accepted header stand for that header, and the bytes of its
-- texts for those texts, whatever stands behind them.
use mathlib.Core.Path.{◌≡◌, refl, sym, ap, ◌∙◌}
use mathlib.Core.Bool.{Bool, true, false}
use mathlib.Core.Logic.{⊎_elim}
use mathlib.Core.List.{List, [], ◌++◌, append_assoc}
use Prim.Native.Nat.{ℕ, ◌+◌, ◌≤◌}
use native.Mathlib.Omega.{arith}
use lib.IntN.{ℤ, pos, negsuc, nat_abs}
use lib.ListN.{length, take, drop, replicate, length-append}
use lib.Seq.{take-append_seam, drop-append_seam}
use lib.Signed.{lt_z}
use borrow.Author.Tests.{le-ltb}
use Rattle.kit.specs.Integer.{Between, up, dn}
use Rattle.kit.proofs.Parts.{parts_le, abs_parts, one_zero, lt_true}
use Rattle.forms.specs.Columns.{columns}
use Rattle.mapset.specs.Grid.{Line, heights, latitudes, longitudes, End, Step, AxisRules}
use Rattle.mapset.specs.Header.{HeaderRules}
use Rattle.mapset.specs.Sound.{Count, SystemSays}
use Rattle.mapset.proofs.Groups.{header_groups, takes_known}
use Rattle.mapset.specs.declared.Axis.{Axis}
use Rattle.mapset.specs.declared.Counted.{Counted}
use Rattle.mapset.specs.declared.System.{System}
use Rattle.mapset.specs.declared.Header.{Header}
use Rattle.mapset.specs.Described.{FullTexts}
use Rattle.c_header.specs.Numbers.{flag, numbers, text_bytes}
use Rattle.c_given.specs.Given.{bounded, axis_number, stands_of, header_of, five_of, texts_of}
use Rattle.c_given.proofs.GivenLaws.{bounded_within, axis_within}

-- ---- a number that its field holds
held_back : (high n : ℕ) → n ≤ high → bounded high (pos n) ≡ n
held_back high n h = sym (bounded_within high (pos n) (le-ltb n 0 (omega arith)) h)

count_back : (n : ℕ) → n ≤ 999999 → bounded 4294967295 (pos n) ≡ n
count_back n h = held_back 4294967295 n (omega arith)

flag_back : (b : Bool) → stands_of (flag b) ≡ b
flag_back true = refl
flag_back false = refl

not_less : (x y : ℤ) → up y + dn x ≤ up x + dn y → lt_z x y ≡ false
not_less x y h = by (lt_z x y) refl
  where
    by : (b : Bool) → lt_z x y ≡ b → b ≡ false
    by true e = absurd (omega (arith, lt_true x y e))
    by false e = refl

axis_back : (z : ℤ) → nat_abs z ≤ 99999 → axis_number z ≡ z
axis_back z h =
    let a = abs_parts z in
    sym (axis_within z (not_less z (negsuc 2147483646) (omega arith)) (not_less (pos 2147483647) z (omega arith)))

-- ---- the numbers of an accepted header are small
small : (low high x : ℤ) → nat_abs low ≤ 99999 → nat_abs high ≤ 99999 → Between low high x → nat_abs x ≤ 99999
small low high x h k b =
    let p = parts_le low x b.from in
    let q = parts_le x high b.to in
    let l = abs_parts low in
    let m = abs_parts high in
    let n = abs_parts x in
    ⊎_elim (λ o. omega arith) (λ o. omega arith) (one_zero x)

small_end : (l : Line) (x : ℤ) → End l x → nat_abs x ≤ 99999
small_end heights x b = small (pos 0) (pos 99999) x (omega arith) (omega arith) b
small_end latitudes x b = small (negsuc 899) (pos 900) x (omega arith) (omega arith) b
small_end longitudes x b = small (negsuc 1799) (pos 3600) x (omega arith) (omega arith) b

small_step : (l : Line) (d : ℤ) → Step l d → nat_abs d ≤ 99999
small_step heights d b = small (pos 0) (pos 99999) d (omega arith) (omega arith) b
small_step latitudes d b = omega (arith, b.1)
small_step longitudes d b = small (pos 1) (pos 150) d (omega arith) (omega arith) b

small_count : (b : Bool) (n : ℕ) → Count b n → n ≤ 999999
small_count true n c = c.1
small_count false n c = omega arith

-- ---- group by group
line_back : (l : Line) (a : Axis) → AxisRules l a → ◌≡◌ {A = Axis} (record { first = axis_number a.first; last = axis_number a.last; step = axis_number a.step }) a
line_back l a r =
    let p = axis_back a.first (small_end l a.first r.first) in
    let q = axis_back a.last (small_end l a.last r.last) in
    let s = axis_back a.step (small_step l a.step r.step) in
    λ i. record { first = p i; last = q i; step = s i }

counted_back : (c : Counted) → Count c.stands c.count → ◌≡◌ {A = Counted} (record { stands = stands_of (flag c.stands); count = bounded 4294967295 (pos c.count) }) c
counted_back c h =
    let p = flag_back c.stands in
    let q = count_back c.count (small_count c.stands c.count h) in
    λ i. record { stands = p i; count = q i }

system_back : (s : System) → SystemSays s
    → ◌≡◌ {A = System} (record { stands = stands_of (flag s.stands); stations = bounded 4294967295 (pos s.stations); satellites = bounded 4294967295 (pos s.satellites) }) s
system_back s h =
    let p = flag_back s.stands in
    let q = count_back s.stations (small_count s.stands s.stations h.0) in
    let r = count_back s.satellites (small_count s.stands s.satellites h.1) in
    λ i. record { stands = p i; stations = q i; satellites = r i }

-- ---- the header
pub header_back : (h : Header) (t : FullTexts) (r : List ℤ) → HeaderRules h t → header_of (numbers h ++ r) ≡ h
unfolding header_of
header_back h t r rules =
    let g = header_groups h t rules in
    let version = g.0 in
    let times = g.1.1.0 in
    let model = g.1.1.1.0 in
    let grid = g.1.1.1.1.0 in
    let y = g.1.1.1.1.1.1.1.0 in
    let tenths = held_back 4294967295 h.version.tenths (omega (arith, version.0)) in
    let kind = held_back 255 h.version.kind (omega (arith, version.1.0)) in
    let code = held_back 4294967295 h.version.code (omega (arith, takes_known version.1.1)) in
    let first = held_back 18446744073709551615 h.times.first (omega (arith, times.0)) in
    let last = held_back 18446744073709551615 h.times.last (omega (arith, times.1.0)) in
    let interval = count_back h.times.interval (omega (arith, times.1.1.0)) in
    let maps = count_back h.times.maps (omega (arith, times.1.1.1)) in
    let cutoff = count_back h.model.cutoff (omega (arith, model.0)) in
    let radius = count_back h.model.radius (omega (arith, model.1.0)) in
    let dimension = count_back h.model.dimension (omega (arith, model.1.1)) in
    let heights = line_back heights h.grid.heights grid.0 in
    let latitudes = line_back latitudes h.grid.latitudes grid.1.0 in
    let longitudes = line_back longitudes h.grid.longitudes grid.1.1 in
    let stations = counted_back h.stations g.1.1.1.1.1.0 in
    let satellites = counted_back h.satellites g.1.1.1.1.1.1.0 in
    let sg = system_back h.systems.g y.0 in
    let sr = system_back h.systems.r y.1.0 in
    let se = system_back h.systems.e y.1.1.0 in
    let sc = system_back h.systems.c y.1.1.1.0 in
    let sj = system_back h.systems.j y.1.1.1.1.0 in
    let si = system_back h.systems.i y.1.1.1.1.1.0 in
    let ss = system_back h.systems.s y.1.1.1.1.1.1 in
    let lines = count_back h.descriptions (omega (arith, g.1.0.1.1.1.1.1.0)) in
    λ i. record {
      version = record { tenths = tenths i; kind = kind i; code = code i };
      times = record { first = first i; last = last i; interval = interval i; maps = maps i };
      model = record { cutoff = cutoff i; radius = radius i; dimension = dimension i };
      grid = record { heights = heights i; latitudes = latitudes i; longitudes = longitudes i };
      stations = stations i;
      satellites = satellites i;
      systems = record { g = sg i; r = sr i; e = se i; c = sc i; j = sj i; i = si i; s = ss i };
      descriptions = lines i;
    }

-- ---- the texts
part_back : (b pre x rest : List ℕ) (a n : ℕ) → b ≡ pre ++ (x ++ rest) → length pre ≡ a → length x ≡ n → columns b a n ≡ x
unfolding columns
part_back b pre x rest a n e h k =
    let f : List ℕ = replicate (a + n) 32 in
    let whole : b ++ f ≡ pre ++ (x ++ (rest ++ f)) = ap (λ l. l ++ f) e ∙ append_assoc pre (x ++ rest) f ∙ ap (λ l. pre ++ l) (append_assoc x rest f) in
    ap (λ l. take n (drop a l)) whole ∙ ap (λ j. take n (drop j (pre ++ (x ++ (rest ++ f))))) (sym h)
    ∙ ap (take n) (drop-append_seam pre (x ++ (rest ++ f))) ∙ ap (λ j. take j (x ++ (rest ++ f))) (sym k) ∙ take-append_seam x (rest ++ f)

pub texts_back : (h : Header) (x : FullTexts) (r : List ℕ) → HeaderRules h x → texts_of (text_bytes x ++ r) ≡ x
unfolding five_of
texts_back h x r rules =
    let g = (header_groups h x rules).1.0 in
    let p = x.program in
    let a = x.agency in
    let d = x.date in
    let m = x.mapping in
    let o = x.observables in
    let q = x.descriptions in
    let b : List ℕ = text_bytes x ++ r in
    let s : List ℕ = q ++ r in
    let e0 : b ≡ p ++ ((a ++ (d ++ (m ++ o))) ++ s) = simp append_assoc in
    let e1 : b ≡ p ++ (a ++ ((d ++ (m ++ o)) ++ s)) = e0 ∙ ap (λ l. p ++ l) (append_assoc a (d ++ (m ++ o)) s) in
    let e2 : b ≡ (p ++ a) ++ (d ++ ((m ++ o) ++ s)) = e1 ∙ ap (λ l. p ++ (a ++ l)) (append_assoc d (m ++ o) s) ∙ sym (append_assoc p a _) in
    let e3 : b ≡ ((p ++ a) ++ d) ++ (m ++ (o ++ s)) = e2 ∙ sym (append_assoc (p ++ a) d _) ∙ ap (λ l. ((p ++ a) ++ d) ++ l) (append_assoc m o s) in
    let e4 : b ≡ (((p ++ a) ++ d) ++ m) ++ (o ++ s) = e3 ∙ sym (append_assoc ((p ++ a) ++ d) m (o ++ s)) in
    let e5 : b ≡ ((((p ++ a) ++ d) ++ m) ++ o) ++ s = e4 ∙ sym (append_assoc (((p ++ a) ++ d) ++ m) o s) in
    let lp : length p ≡ 20 = g.0.0 in
    let la : length a ≡ 20 = g.1.0.0 in
    let ld : length d ≡ 20 = g.1.1.0.0 in
    let lm : length m ≡ 4 = g.1.1.1.0.0 in
    let lo : length o ≡ 60 = g.1.1.1.1.0.0 in
    let lq : length q ≡ 1200 = g.1.1.1.1.1.1.0.0 in
    let l2 : length (p ++ a) ≡ 40 = length-append p a ∙ omega arith in
    let l3 : length ((p ++ a) ++ d) ≡ 60 = length-append (p ++ a) d ∙ omega arith in
    let l4 : length (((p ++ a) ++ d) ++ m) ≡ 64 = length-append ((p ++ a) ++ d) m ∙ omega arith in
    let l5 : length ((((p ++ a) ++ d) ++ m) ++ o) ≡ 124 = length-append (((p ++ a) ++ d) ++ m) o ∙ omega arith in
    let behind : drop 64 b ≡ o ++ s = ap (drop 64) e4 ∙ ap (λ j. drop j ((((p ++ a) ++ d) ++ m) ++ (o ++ s))) (sym l4) ∙ drop-append_seam (((p ++ a) ++ d) ++ m) (o ++ s) in
    let last : drop 124 b ≡ q ++ r = ap (drop 124) e5 ∙ ap (λ j. drop j (((((p ++ a) ++ d) ++ m) ++ o) ++ s)) (sym l5) ∙ drop-append_seam ((((p ++ a) ++ d) ++ m) ++ o) s in
    let kp = part_back b [] p _ 0 20 e0 refl lp in
    let ka = part_back b p a _ 20 20 e1 lp la in
    let kd = part_back b (p ++ a) d _ 40 20 e2 l2 ld in
    let km = part_back b ((p ++ a) ++ d) m _ 60 4 e3 l3 lm in
    let ko = part_back (drop 64 b) [] o s 0 60 behind refl lo in
    let kq : take 1200 (drop 124 b) ≡ q = ap (take 1200) last ∙ ap (λ j. take j (q ++ r)) (sym lq) ∙ take-append_seam q r in
    λ i. record { program = kp i; agency = ka i; date = kd i; mapping = km i; observables = ko i; descriptions = kq i }
