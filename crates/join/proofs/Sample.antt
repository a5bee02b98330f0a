-- Three sets that are refused in both groupings, by different numbers; and two that are joined.
use mathlib.Core.Path.{◌≡◌, refl}
use mathlib.Core.List.{List, [], ◌∷◌}
use Prim.Native.Nat.{ℕ}
use native.Mathlib.Decide.{ℕ_discrete, dec_le, dec_lt}
use lib.IntN.{pos, negsuc}
use lib.ListN.{length, replicate}
use Rattle.kit.specs.Answer.{Answer, ok, refused, need, bind, pick, ×_dec, ⊎_dec, ¬_dec, all_dec}
use Rattle.kit.specs.Integer.{int?, le?, lt?, between?}
use Rattle.kit.specs.Range.{within?}
use Rattle.kit.specs.Truth.{dec_by}
use Rattle.mapset.specs.Described.{full}
use Rattle.mapset.specs.Lines.{end_to_end, described}
use Rattle.mapset.specs.Decisions.{×₃_dec, ×₄_dec, end?, step?, multiple?, together?, limits?, dimension?, follows?}
use Rattle.mapset.specs.SoundDecided.{written?, axis?, records?, fillers?, header_rules?, run?, epoch_rules?}
use Rattle.mapset.specs.MapSet.{Block, TecMap, OtherMap, MapSet}
use Rattle.mapset.specs.Said.{axis_of, blank_texts}
use Rattle.mapset.specs.Samples.{absent_count, shell_header}
use Rattle.layout.specs.Layout.{exponent?}
use Rattle.areas.specs.Nest.{a_block}
use Rattle.areas.specs.ValidDecided.{value?}
use Rattle.join.specs.FormedDecided.{block_rules?, map_rules?, rising?, maps_rules?, formed?}
use Rattle.join.specs.Join.{alike?, meet?, in_limits?, join}
use Rattle.join.specs.Join as J

-- two sets joined. To unfold this is to unfold each test of `join`
unfoldable pub whole_join : (earlier later : MapSet) → Answer ℕ MapSet
unfolding join need pick ×_dec ⊎_dec ¬_dec all_dec ℕ_discrete dec_le dec_lt int? le? lt? between? within? dec_by ×₃_dec ×₄_dec end? step? multiple? together? limits? dimension? follows? written? described end_to_end axis? header_rules? records? fillers? run? exponent? value? block_rules? map_rules? rising? maps_rules? epoch_rules? formed? alike? meet? in_limits? J.axis? J.grid?
whole_join = join

-- DESCRIPTION lines, one node, maps at the seconds given, and RMS maps
abbrev pub a_set : (lines : List (List ℕ)) (radius interval first last n : ℕ) → List TecMap → List OtherMap → MapSet
a_set lines radius interval first last n tec rms =
    record {
      header =
          shell_header radius (record { first = first; last = last; interval = interval; maps = n })
          (axis_of (pos 50) (pos 50) (pos 50)) (axis_of (pos 0) (pos 0) (pos 50)) absent_count (length lines);
      texts = full blank_texts (described lines);
      maps = record { tec = tec; rms = rms; height = [] };
    }

abbrev line_of : ℕ → List ℕ
line_of b = replicate 60 b

abbrev node : ℕ → List Block
node v = a_block (negsuc 0) (pos v ∷ []) ∷ []

abbrev tec_at : ℕ → ℕ → TecMap
tec_at e v = record { epoch = e; blocks = node v }

abbrev rms_of : ℕ → ℕ → OtherMap
rms_of i v = record { of = i; blocks = node v }

-- the shared map is the later set's, with its RMS map; the earlier one's is gone; 3600 and 900 make 0; the one line of M's gives way to the T's and U's
abbrev monday : MapSet
monday = a_set (line_of 77 ∷ []) 63710 3600 0 3600 2 (tec_at 0 1 ∷ tec_at 3600 2 ∷ []) (rms_of 1 11 ∷ rms_of 2 12 ∷ [])

abbrev tuesday : MapSet
tuesday = a_set (line_of 84 ∷ line_of 85 ∷ []) 63710 900 3600 4500 2 (tec_at 3600 3 ∷ tec_at 4500 4 ∷ []) (rms_of 2 14 ∷ [])

pub two_days : join monday tuesday ≡ ok (a_set (line_of 84 ∷ line_of 85 ∷ []) 63710 0 0 4500 3 (tec_at 0 1 ∷ tec_at 3600 3 ∷ tec_at 4500 4 ∷ []) (rms_of 1 11 ∷ rms_of 3 14 ∷ []))
unfolding whole_join
two_days = refl

abbrev other_radius : MapSet
other_radius = a_set [] 63711 3600 0 3600 2 (tec_at 0 1 ∷ tec_at 3600 2 ∷ []) []

abbrev late : MapSet
late = a_set [] 63710 900 9000 9000 1 (tec_at 9000 5 ∷ []) []

pub leftwards_40 : bind (join other_radius tuesday) (λ ab. join ab late) ≡ refused 40
unfolding bind whole_join
leftwards_40 = refl

pub rightwards_41 : bind (join tuesday late) (λ bc. join other_radius bc) ≡ refused 41
unfolding bind whole_join
rightwards_41 = refl
