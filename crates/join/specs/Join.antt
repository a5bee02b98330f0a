-- 02, Ask 11: two map sets that share midnight, joined. n is the number of TEC maps.
use Rattle.std.specs.Prelude.{◌≡◌, List, [], ◌∷◌, ◌++◌, map, ℕ, ◌+◌, ◌-◌, ◌*◌, ◌≤◌, take}
use Rattle.std.proofs.Common.{ap}
use Rattle.std.proofs.Math.Decide.{ℕ_discrete, dec_le}
use Rattle.kit.specs.Answer.{Answer, ok, need, pick, ×_dec, refused}
use Rattle.kit.specs.Integer.{int?}
use Rattle.kit.specs.Truth.{dec_by}
use Rattle.mapset.specs.declared.Axis.{Axis}
use Rattle.mapset.specs.declared.Grid.{Grid}
use Rattle.mapset.specs.declared.Header.{Header}
use Rattle.mapset.specs.declared.Times.{Times}
use Rattle.mapset.specs.Grid.{layers, rows, columns}
use Rattle.mapset.specs.MapSet.{OtherMap, Maps, MapSet}
use Rattle.areas.specs.Formed.{Formed}
use Rattle.join.specs.FormedDecided.{formed?}

-- ---- what is joined

-- all maps of the earlier set stay but its last
abbrev pub stay : Header → ℕ
stay h = h.times.maps - 1

-- n of both: the shared map counts once
abbrev pub count : (earlier later : Header) → ℕ
count a b = stay a + b.times.maps

-- INTERVAL is kept when both are equal, and otherwise 0
abbrev pub interval : ℕ → ℕ → ℕ
interval i j = pick (ℕ_discrete i j) j 0

-- the later header, with the earlier first epoch
abbrev pub header_from : (earlier : Times) (later : Header) → Header
header_from a b =
    record {
      version = b.version;
      times = record { first = a.first; last = b.times.last; interval = interval a.interval b.times.interval; maps = a.maps - 1 + b.times.maps };
      model = b.model;
      grid = b.grid;
      stations = b.stations;
      satellites = b.satellites;
      systems = b.systems;
      descriptions = b.descriptions;
    }

abbrev pub header : (earlier later : Header) → Header
header a b = header_from a.times b

-- RMS or height maps up to the number k
abbrev pub upto : ℕ → List OtherMap → List OtherMap
upto k [] = []
upto k (x ∷ xs) = pick (dec_le x.of k) (x ∷ upto k xs) (upto k xs)

-- and the later set's, whose numbers are k higher
abbrev pub move : ℕ → OtherMap → OtherMap
move k x = record { of = k + x.of; blocks = x.blocks }

abbrev pub others : ℕ → (earlier later : List OtherMap) → List OtherMap
others k xs ys = upto k xs ++ map (move k) ys

-- k maps of the earlier set, then all of the later one
abbrev pub maps : ℕ → (earlier later : Maps) → Maps
maps k a b = record { tec = take k a.tec ++ b.tec; rms = others k a.rms b.rms; height = others k a.height b.height }

abbrev pub joined : (earlier later : MapSet) → MapSet
joined a b = record { header = header a.header b.header; texts = b.texts; maps = maps (stay a.header) a.maps b.maps }

-- ---- when

-- else 40: equal grids, heights among them, dimension and base radius
pub record Alike (a b : Header) : Type 0 where
  pub grid : a.grid ≡ b.grid
  pub dimension : a.model.dimension ≡ b.model.dimension
  pub radius : a.model.radius ≡ b.model.radius

-- else 41: the first's last epoch is the second's first
abbrev pub Meet : (earlier later : Header) → Type 0
Meet a b = a.times.last ≡ b.times.first

-- else 42: n and n·L·R·C are within 01's limits
abbrev pub InLimits : ℕ → Grid → Type 0
InLimits n g = (n ≤ 300) × (n * layers g * rows g * columns g ≤ 2000000)

-- all of it, with 31's two
pub record MayJoin (a b : MapSet) : Type 0 where
  pub earlier : Formed a
  pub later : Formed b
  pub alike : Alike a.header b.header
  pub meet : Meet a.header b.header
  pub limits : InLimits (count a.header b.header) b.header.grid

-- ---- decided
unfoldable pub axis? : (a b : Axis) → Dec (a ≡ b)
axis? a b =
    dec_by (λ h i. record { first = h.0 i; last = h.1.0 i; step = h.1.1 i }) (λ e. (ap (λ x. x.first) e, (ap (λ x. x.last) e, ap (λ x. x.step) e)))
    (×_dec (int? a.first b.first) (×_dec (int? a.last b.last) (int? a.step b.step)))

unfoldable pub grid? : (a b : Grid) → Dec (a ≡ b)
grid? a b =
    dec_by (λ h i. record { heights = h.0 i; latitudes = h.1.0 i; longitudes = h.1.1 i })
    (λ e. (ap (λ x. x.heights) e, (ap (λ x. x.latitudes) e, ap (λ x. x.longitudes) e)))
    (×_dec (axis? a.heights b.heights) (×_dec (axis? a.latitudes b.latitudes) (axis? a.longitudes b.longitudes)))

unfoldable pub alike? : (a b : Header) → Dec (Alike a b)
alike? a b =
    dec_by (λ h. record { grid = h.0; dimension = h.1.0; radius = h.1.1 }) (λ r. (r.grid, (r.dimension, r.radius)))
    (×_dec (grid? a.grid b.grid) (×_dec (ℕ_discrete a.model.dimension b.model.dimension) (ℕ_discrete a.model.radius b.model.radius)))

unfoldable pub meet? : (a b : Header) → Dec (Meet a b)
meet? a b = ℕ_discrete a.times.last b.times.first

unfoldable pub in_limits? : (n : ℕ) (g : Grid) → Dec (InLimits n g)
in_limits? n g = ×_dec (dec_le n 300) (dec_le (n * layers g * rows g * columns g) 2000000)

-- ---- the answer, its refusals in order
unfoldable pub join : (earlier later : MapSet) → Answer ℕ MapSet
join a b =
    need (formed? a) 31
    (need (formed? b) 31
    (need (alike? a.header b.header) 40
    (need (meet? a.header b.header) 41
    (need (in_limits? (count a.header b.header) b.header.grid) 42
    (ok (joined a b))))))

-- both given and equal, or both refused, by whatever numbers
pub data Agree {W A : Type 0} : Answer W A → Answer W A → Type 0 where
  both_given : {x : A} → Agree (ok x) (ok x)
  both_refused : {v w : W} → Agree (refused v) (refused w)
