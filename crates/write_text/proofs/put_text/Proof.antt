-- `write_text::put_text` meets its contract.
use mathlib.Core.Path.{◌∙◌}
use mathlib.Core.List.{List, ◌++◌}
use Prim.Native.Nat.{ℕ}
use Rattle.mapset.specs.Described.{full}
use Rattle.mapset.specs.Areas.{Areas, six}
use Rattle.mapset.proofs.Groups.{sound_groups}
use Rattle.areas.specs.Nesting.{nested}
use Rattle.valid.proofs.Whole.{sound_long}
use Rattle.canonical.specs.Canon.{canon_rows}
use Rattle.write_head.specs.Header.{whole_header}
use Rattle.write_line.specs.Put.{PutsOn}
use Rattle.write_line.proofs.PutLaws.{room_front, leads_self, leads_on}
use Rattle.write_maps.specs.KindRows.{all_rows}
use Rattle.write_map.proofs.SlotLaws.{leads_same}
use Rattle.write_text.proofs.RowsLaws.{canon_are}
use Rattle.write_text.proofs.Short.{valid_fine}
use Rattle.write_text.proofs.put_text.Statement.{statement}
use Rattle.write_text.proofs.put_text.Tie as tie

module _ (s : tie.Start) where
  abbrev a : Areas
  a = six s.args.tec.now s.args.rms.now s.args.height.now s.args.exponents.now s.args.epochs.now s.args.marks.now

  abbrev head_of : List (List ℕ)
  head_of = whole_header s.args.header (full s.args.texts s.args.descriptions.now)

  begins : PutsOn s.args.out.now s.args.at (canon_rows (nested s.args.header (full s.args.texts s.args.descriptions.now) a)) s.args.out.now s.args.at (head_of ++ all_rows s.args.header a)
  begins = leads_same leads_self (canon_are s.args.header a (sound_long s.args.header (full s.args.texts s.args.descriptions.now) a s.requires.0.sound) s.requires.0.sound.room.epochs (full s.args.texts s.args.descriptions.now))

headed : (c : tie.After-put_header-next) → let s = c.before.before.before.before.before.before in
    PutsOn s.args.out.now s.args.at (canon_rows (nested s.args.header (full s.args.texts s.args.descriptions.now) (a s))) c.put_header-next.new.out c.put_header-next.result (all_rows s.args.header (a s))
headed c = let s = c.before.before.before.before.before.before in leads_on (head_of s) (all_rows s.args.header (a s)) (begins s) c.put_header-next.ensures

put-header-requires : tie.Need-put_header-next-requires
put-header-requires c κs =
    let s = c.before.before.before.before.before in
    ((sound_groups s.args.header (full s.args.texts s.args.descriptions.now) (a s) s.requires.0.sound).0, room_front (head_of s) (all_rows s.args.header (a s)) ((begins s).room s.requires.1))

put-maps-requires : tie.Need-put_maps-requires
put-maps-requires c κs =
    let s = c.before.before.before.before.before.before.before.before.before in
    let v = s.requires.0 in
    record {
      ready = record { fine = valid_fine s.args.header (full s.args.texts s.args.descriptions.now) (a s) v; room = (headed c.before.before.before).room s.requires.1 };
      epochs = v.sound.room.epochs;
      long = sound_long s.args.header (full s.args.texts s.args.descriptions.now) (a s) v.sound;
    }

same_length : tie.Need-shape_of-out
same_length c = c.put_maps.ensures.size ∙ (headed c.before.before.before.before.before.before).size

returns : tie.Need-returns
returns c = (headed c.before.before.before.before.before.before).rest _ _ c.put_maps.ensures

pub put_text_spec : {M : Type 1} → statement M
put_text_spec = tie.close (tie.spec put-header-requires put-maps-requires same_length returns)
