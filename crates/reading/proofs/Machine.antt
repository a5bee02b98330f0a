-- The reading as one machine: where it stands, and what a row does there. What holds of every such machine holds of the reading.
use mathlib.Core.Path.{◌≡◌, refl, sym}
use mathlib.Core.Logic.{◌⊎◌, inl, inr}
use Prim.Native.Nat.{ℕ, zero, suc, ◌-◌}
use mathlib.Core.List.{List, [], ◌++◌}
use lib.ListN.{length}
use lib.IntN.{ℤ, negsuc}
use mathlib.Core.Option.{Option, none, some}
use Rattle.kit.specs.Answer.{Answer, ok, refused, bind, amap, get}
use Rattle.mapset.specs.declared.Version.{Version}
use Rattle.mapset.specs.declared.Header.{Header}
use Rattle.mapset.specs.MapSet.{MapSet}
use Rattle.layout.specs.Labels.{Label, version, description, comment, system, exponent, aux_start, aux_end, header_end, epoch, block, file_end, head, start, end}
use Rattle.layout.specs.Layout.{Force, Slots, Lines, Mode, plain, begins}
use Rattle.reading.specs.declared.Fault.{Fault}
use Rattle.reading.specs.declared.Why.{Why}
use Rattle.reading.specs.Feed.{fault, on_line, Feed, over, bad, row}
use Rattle.reading.specs.Fields.{label, cells}
use Rattle.reading.specs.Maps.{Todo, misplaced, loose, on_comment, on_exponent, on_start, on_end, on_epoch, on_block, on_file, taken, step, short, finish, on_row, run}
use Rattle.reading.specs.Head.{made, made_texts, Turn, more, done, head_step, heading}
use Rattle.reading.specs.Read.{nothing_yet, version_of, begin}
use Rattle.reading.specs.declared.Place.{Place}
use Rattle.reading.specs.declared.Place.TheVariants.{Ended, Between, Early, Inside}

-- before the version record; in the header; in the maps
pub data State : Type 0 where
  first : State
  header : (c : Version) → Mode → ℤ → Slots → Lines → State
  maps : (h : Header) (q : Place) (p : Force) (c : ℕ) → State

abbrev pub Out : State → Type 0
Out first = MapSet
Out (header c a e got ds) = MapSet
Out (maps h q p c) = List ℤ × Todo q

-- what is read from a state on
unfoldable pub from : (s : State) → Feed → Answer Why (Out s)
from first f = begin f
from (header c a e got ds) f = heading c a e got ds f
from (maps h q p c) f = run h q p c f

pub record Move (s : State) : Type 0 where
  pub to : State
  pub back : Out to → Out s

-- where a record of the header leads
abbrev pub turn : (c : Version) (a : Mode) (e : ℤ) (got : Slots) (ds : Lines) → Turn → Move (header c a e got ds)
turn c a e got ds (more a' e' got' ds') = record { to = header c a' e' got' ds'; back = λ m. m }
turn c a e got ds done =
    record {
      to = maps (made c got (length ds)) Between (begins e) 0;
      back = λ w. record { header = made c got (length ds); texts = made_texts got ds; maps = w.1 };
    }

-- what a row does
unfoldable pub on_row_of : (s : State) → List ℕ → Answer Fault (Move s)
on_row_of first r = amap (λ c. record { to = header c plain (negsuc 0) nothing_yet []; back = λ m. m }) (version_of r)
on_row_of (header c a e got ds) r = amap (turn c a e got ds) (head_step c a e got ds r)
on_row_of (maps h q p zero) r = amap (λ x. record { to = maps h x.to x.force x.due; back = λ w. ([], x.back w.0 w.1) }) (step h q p r)
on_row_of (maps h q p (suc c)) r = amap (λ zs. record { to = maps h q p (suc c - 16); back = λ w. (zs ++ w.0, w.1) }) (cells 1 (on_row (suc c)) r)

-- ---- the machine's equations

pub from_bad : (s : State) (w : Why) → from s (bad w) ≡ refused w
unfolding from begin heading run
from_bad first w = refl
from_bad (header c a e got ds) w = refl
from_bad (maps h q p zero) w = refl
from_bad (maps h q p (suc c)) w = refl

-- after END OF FILE no row is taken
after_end : (h : Header) (p : Force) (l : Label) (r : List ℕ) → taken h Ended p l r ≡ misplaced
unfolding taken on_comment on_exponent loose on_start on_end on_epoch on_block on_file
after_end h p comment r = refl
after_end h p exponent r = refl
after_end h p (start k) r = refl
after_end h p (end k) r = refl
after_end h p epoch r = refl
after_end h p block r = refl
after_end h p file_end r = refl
after_end h p version r = refl
after_end h p description r = refl
after_end h p system r = refl
after_end h p aux_start r = refl
after_end h p aux_end r = refl
after_end h p header_end r = refl
after_end h p (head i) r = refl

-- at the text's end: refused with 10; or accepted, after END OF FILE, where no row is taken
pub record Over (s : State) : Type 0 where
  pub out : Out s
  pub accepted : (n : ℕ) → from s (over n) ≡ ok out
  pub stops : (r : List ℕ) → (f : Fault) × (on_row_of s r ≡ refused f)

pub from_over : (s : State) → ((n : ℕ) → from s (over n) ≡ short n) ⊎ Over s
unfolding from begin heading run finish
from_over first = inl (λ n. refl)
from_over (header c a e got ds) = inl (λ n. refl)
from_over (maps h Ended p zero) = inr (record { out = ([], tt); accepted = λ n. refl; stops = λ r. stopped r (label r) refl })
  where
    stopped : (r : List ℕ) (o : Option Label) → label r ≡ o → (f : Fault) × (on_row_of (maps h Ended p zero) r ≡ refused f)
    stopped r none e = (fault 4 61, unfold on_row_of step get amap in rw e)
    stopped r (some l) e = (fault 5 61, unfold on_row_of step get amap in rw (e, after_end h p l r))
from_over (maps h Between p zero) = inl (λ n. refl)
from_over (maps h Early p zero) = inl (λ n. refl)
from_over (maps h (Inside o) p zero) = inl (λ n. refl)
from_over (maps h q p (suc c)) = inl (λ n. refl)

pub amap_id : {W A : Type 0} (x : Answer W A) → amap (λ a. a) x ≡ x
unfolding amap
amap_id (ok a) = refl
amap_id (refused w) = refl

through : {A X Y : Type 0} (n : ℕ) (g : X → Y) (j : X → Answer Why A) (k : Y → Answer Why A) (x : Answer Fault X)
    → ((y : X) → j y ≡ k (g y)) → bind (on_line n x) j ≡ bind (on_line n (amap g x)) k
unfolding bind on_line amap
through n g j k (ok y) e = e y
through n g j k (refused w) e = refl

pub from_row : (s : State) (n : ℕ) (r : List ℕ) (f : Feed) → from s (row n r f) ≡ bind (on_line n (on_row_of s r)) (λ x. amap x.back (from x.to f))
unfolding from begin heading run on_row_of
from_row first n r f = through n _ _ _ (version_of r) (λ c. sym (amap_id (heading c plain (negsuc 0) nothing_yet [] f)))
from_row (header c a e got ds) n r f = through n _ _ _ (head_step c a e got ds r) by
  where
    by : (t : Turn) → elim t as (λ x. Answer Why MapSet) [
      | more a' e' got' ds' ↦ heading c a' e' got' ds' f
      | done ↦ amap (λ w. record { header = made c got (length ds); texts = made_texts got ds; maps = w.1 }) (run (made c got (length ds)) Between (begins e) 0 f)
    ] ≡ amap (turn c a e got ds t).back (from (turn c a e got ds t).to f)
    by (more a' e' got' ds') = sym (amap_id (heading c a' e' got' ds' f))
    by done = refl
from_row (maps h q p zero) n r f = through n _ _ _ (step h q p r) (λ x. refl)
from_row (maps h q p (suc c)) n r f = through n _ _ _ (cells 1 (on_row (suc c)) r) (λ zs. refl)
